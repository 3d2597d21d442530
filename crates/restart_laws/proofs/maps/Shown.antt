-- Alike flows are shown alike by pending grants, and hold back alike.
use Rattle.std.proofs.Common.{◌≡◌, refl, sym, ap, ◌∙◌, ℕ, ◌<◌, ◌==◌, nat_lt, Bool, true, false, not, ◌&&◌, ◌||◌, cond}
use Rattle.std.proofs.Common.{List, [], ◌∷◌, map, arith}
use Rattle.std.specs.Prelude.{filter}
use Rattle.std.proofs.lemmas.Bool.Decides.{nat_tests}
use Rattle.std.proofs.lemmas.List.Sums.{length-filter}
use Rattle.minislots.specs.declared.config.Config.{Config}
use Rattle.flow_book.specs.Flows.{LiveFlow, outstanding}
use Rattle.flow_book.specs.Shown.{waits, since, comes_before, count_before, is_shown, is_hidden, least_with, ack_of}
use Rattle.flow_book.proofs.Steps.{both-true}
use Rattle.restart_laws.proofs.Alike.{AlikeFlow, AlikeFlows}
use Rattle.restart_laws.proofs.flows.Fields.{sid-alike, outstanding-alike, waiting-alike}
use Rattle.restart_laws.proofs.maps.Lists.{length-alike, filter-alike}

-- the order in which flows are shown, by since and by SID
abbrev shown_before : ℕ → ℕ → ℕ → ℕ → Bool
shown_before m sid n other = nat_lt m n || (m == n && nat_lt sid other)

same-before : (m m' sid sid' n n' other other' : ℕ) → m ≡ m' → sid ≡ sid' → n ≡ n' → other ≡ other'
    → shown_before m sid n other ≡ shown_before m' sid' n' other'
same-before m m' sid sid' n n' other other' e f g h = rw (e, f, g, h) refl

-- a test behind a first one needs to be the same only where that holds
same-behind : (a a' b b' : Bool) → a ≡ a' → (a ≡ true → b ≡ b') → (a && b) ≡ (a' && b')
same-behind true true b b' first rest = rest refl
same-behind true false b b' first rest = absurd (cc)
same-behind false true b b' first rest = absurd (cc)
same-behind false false b b' first rest = refl

module _ (c : Config) where
  -- they wait alike
  pub waits-alike : (f g : LiveFlow) → AlikeFlow c f g → waits f ≡ waits g
  waits-alike f g same = ap (nat_lt 0) (outstanding-alike c f g same)

  -- one that waits does so since the same minislot
  pub since-alike : (f g : LiveFlow) → AlikeFlow c f g → waits f ≡ true → since f ≡ since g
  since-alike f g same waiting =
      let some : 0 < outstanding f = grind (arith, nat_tests) in waiting-alike c f g some same

  count-alike : (fs gs : List LiveFlow) → AlikeFlows c fs gs → (f g : LiveFlow) → AlikeFlow c f g → waits f ≡ true
      → count_before fs f ≡ count_before gs g
  count-alike fs gs all f g same waiting =
      let p : LiveFlow → Bool = λ x. waits x && comes_before x f in
      let q : LiveFlow → Bool = λ y. waits y && comes_before y g in
      let each : (x y : LiveFlow) → AlikeFlow c x y → p x ≡ q y = λ x y alike.
      same-behind (waits x) (waits y) (comes_before x f) (comes_before y g) (waits-alike x y alike)
      (λ some. same-before (since x) (since y) x.sid y.sid (since f) (since g) f.sid g.sid (since-alike x y alike some)
      (sid-alike c x y alike) (since-alike f g same waiting) (sid-alike c f g same)) in
      sym (length-filter p fs) ∙ length-alike c (filter p fs) (filter q gs) (filter-alike c p q each fs gs all)
      ∙ length-filter q gs

  module _ (most : ℕ) (fs gs : List LiveFlow) (all : AlikeFlows c fs gs) where
    -- they are shown alike
    pub shown-alike : (f g : LiveFlow) → AlikeFlow c f g → is_shown most fs f ≡ is_shown most gs g
    shown-alike f g same =
        same-behind (waits f) (waits g) (nat_lt (count_before fs f) most) (nat_lt (count_before gs g) most)
        (waits-alike f g same) (λ waiting. ap (λ n. nat_lt n most) (count-alike fs gs all f g same waiting))

    -- and hidden alike
    pub hidden-alike : (f g : LiveFlow) → AlikeFlow c f g → is_hidden most fs f ≡ is_hidden most gs g
    hidden-alike f g same =
        same-behind (waits f) (waits g) (not (nat_lt (count_before fs f) most)) (not (nat_lt (count_before gs g) most))
        (waits-alike f g same) (λ waiting. ap (λ n. not (nat_lt n most)) (count-alike fs gs all f g same waiting))

    since-hidden : (xs ys : List LiveFlow) → AlikeFlows c xs ys
        → map since (filter (is_hidden most fs) xs) ≡ map since (filter (is_hidden most gs) ys)
    since-hidden [] [] same = refl
    since-hidden [] (y ∷ ys) same = absurd same
    since-hidden (x ∷ xs) [] same = absurd same
    since-hidden (x ∷ xs) (y ∷ ys) same =
        by-test (is_hidden most fs x) (is_hidden most gs y) (hidden-alike x y same.0)
        (λ hidden. since-alike x y same.0
        (both-true (waits x) (not (nat_lt (count_before fs x) most)) (is_hidden most fs x) refl hidden).0)
        (since-hidden xs ys same.1)
      where
        by-test : (a b : Bool) → a ≡ b → (a ≡ true → since x ≡ since y)
            → map since (filter (is_hidden most fs) xs) ≡ map since (filter (is_hidden most gs) ys)
            → map since (cond a (x ∷ filter (is_hidden most fs) xs) (filter (is_hidden most fs) xs))
            ≡ map since (cond b (y ∷ filter (is_hidden most gs) ys) (filter (is_hidden most gs) ys))
        by-test true true is here rest = rw (here refl, rest) refl
        by-test true false is here rest = absurd (cc)
        by-test false true is here rest = absurd (cc)
        by-test false false is here rest = rest

    -- they hold back the acknowledge time alike
    pub ack-alike : (progress : ℕ) → ack_of most progress fs ≡ ack_of most progress gs
    ack-alike progress = ap (least_with progress) (since-hidden fs gs all)
