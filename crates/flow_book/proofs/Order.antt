-- The flow that is served first among some, as they are gone through.
use Rattle.std.proofs.Common.{◌≡◌, refl, sym, subst, ℕ, ◌<◌, Bool, true, false, ◌&&◌, ◌||◌, nat_lt, ◌==◌, List, []}
use Rattle.std.proofs.Common.{◌∷◌, ◌++◌, Option, None, Some, inl, inr, ◌⊎◌, Contains, arith}
use Rattle.std.specs.List.{AllByRecursion}
use Rattle.std.proofs.lemmas.Bool.Decides.{nat_tests}
use Rattle.std.proofs.lemmas.List.Elements.{All-from_recursion, Contains-append_left, Contains-push}
use Rattle.minislots.specs.declared.config.Config.{Config}
use Rattle.flow_book.specs.Reserved.{rank_at}
use Rattle.flow_book.specs.Flows.{LiveFlow}
use Rattle.flow_book.specs.Choice.{last_start, is_earlier, is_as_early, is_before, IsEligible, IsNextOf}
use Rattle.flow_book.specs.Book.{Ascend}

-- the order on ranks, last starts and SIDs
abbrev pub goes_first : ℕ → Option ℕ → ℕ → ℕ → Option ℕ → ℕ → Bool
goes_first rank last sid rank' last' sid' =
    nat_lt rank' rank || (rank == rank' && (is_earlier last last' || (is_as_early last last' && nat_lt sid sid')))

first-trans : (r s t : ℕ) (a b d : Option ℕ) (x y z : ℕ) → goes_first r a x s b y ≡ true
    → goes_first s b y t d z ≡ true → goes_first r a x t d z ≡ true
first-trans r s t None None None x y z p q = grind (arith, nat_tests)
first-trans r s t None None (Some n) x y z p q = grind (arith, nat_tests)
first-trans r s t None (Some m) None x y z p q = grind (arith, nat_tests)
first-trans r s t None (Some m) (Some n) x y z p q = grind (arith, nat_tests)
first-trans r s t (Some k) None None x y z p q = grind (arith, nat_tests)
first-trans r s t (Some k) None (Some n) x y z p q = grind (arith, nat_tests)
first-trans r s t (Some k) (Some m) None x y z p q = grind (arith, nat_tests)
first-trans r s t (Some k) (Some m) (Some n) x y z p q = grind (arith, nat_tests)

first-total : (r s : ℕ) (a b : Option ℕ) (x y : ℕ) → y < x → goes_first r a x s b y ≡ false
    → goes_first s b y r a x ≡ true
first-total r s None None x y differ fails = grind (arith, nat_tests)
first-total r s None (Some m) x y differ fails = grind (arith, nat_tests)
first-total r s (Some k) None x y differ fails = grind (arith, nat_tests)
first-total r s (Some k) (Some m) x y differ fails = grind (arith, nat_tests)

before-trans : (c : Config) (start : ℕ) (f g h : LiveFlow) → is_before c start f g ≡ true → is_before c start g h ≡ true
    → is_before c start f h ≡ true
before-trans c start f g h p q = first-trans (rank_at c start f) (rank_at c start g) (rank_at c start h) (last_start f.grants)
    (last_start g.grants) (last_start h.grants) f.sid g.sid h.sid p q

before-total : (c : Config) (start : ℕ) (f g : LiveFlow) → g.sid < f.sid → is_before c start f g ≡ false
    → is_before c start g f ≡ true
before-total c start f g higher fails =
    first-total (rank_at c start f) (rank_at c start g) (last_start f.grants) (last_start g.grants) f.sid g.sid higher fails

-- what holds of each and of one more holds of each then
pub all-push : {X : Type 0} (P : X → Type 0) (xs : List X) (x : X) → AllByRecursion P xs → P x
    → AllByRecursion P (xs ++ x ∷ [])
all-push P [] x all here = (here, tt)
all-push P (y ∷ xs) x all here = (all.0, all-push P xs x all.1 here)

-- what follows from what is so of each is so of each
pub all-implied : {X : Type 0} (P Q : X → Type 0) (xs : List X) → ((x : X) → P x → Q x) → AllByRecursion P xs
    → AllByRecursion Q xs
all-implied P Q [] step all = tt
all-implied P Q (x ∷ xs) step all = (step x all.0, all-implied P Q xs step all.1)

-- what is so of all members is so of each that a list contains
pub all-contains : {X : Type 0} (P : X → Type 0) (xs : List X) (x : X) → AllByRecursion P xs → Contains xs x → P x
all-contains P xs x all (k, lt, at) = subst P at (All-from_recursion P xs all k x lt)

higher : (flows : List LiveFlow) (g f : LiveFlow) (more : List LiveFlow)
    → AllByRecursion (λ h. g.sid < h.sid) (flows ++ f ∷ more) → g.sid < f.sid
higher [] g f more all = all.0
higher (h ∷ flows) g f more all = higher flows g f more all.1

follows : (c : Config) (start : ℕ) (n f g : LiveFlow) → is_before c start f n ≡ true
    → (g ≡ n) ⊎ (is_before c start n g ≡ true) → (g ≡ f) ⊎ (is_before c start f g ≡ true)
follows c start n f g before (inl same) =
    inr (subst (λ (h : LiveFlow). is_before c start f h ≡ true) (sym same) before)
follows c start n f g before (inr after) = inr (before-trans c start f n g before after)

-- in order of SID all before one have lower SIDs
pub lower-before : (flows : List LiveFlow) (f : LiveFlow) (more : List LiveFlow) → Ascend (flows ++ f ∷ more)
    → AllByRecursion (λ g. g.sid < f.sid) flows
lower-before [] f more up = tt
lower-before (g ∷ flows) f more up = (higher flows g f more up.0, lower-before flows f more up.1)

module _ (c : Config) (start room : ℕ) where
  -- a flow that may not be served changes nothing
  pub next-passes : (flows : List LiveFlow) (o : Option LiveFlow) (f : LiveFlow) → IsNextOf c start room flows o
      → (IsEligible c start room f → ⊥) → IsNextOf c start room (flows ++ f ∷ []) o
  next-passes flows None f is fails = all-push (λ g. IsEligible c start room g → ⊥) flows f is fails
  next-passes flows (Some n) f is fails = record {
    live = Contains-append_left flows (f ∷ []) n is.live;
    eligible = is.eligible;
    first = all-push (λ g. IsEligible c start room g → (g ≡ n) ⊎ (is_before c start n g ≡ true)) flows f is.first
        (λ may. absurd (fails may));
  }

  -- the first flow that may be served is the next
  pub next-first : (flows : List LiveFlow) (f : LiveFlow) → IsNextOf c start room flows None
      → IsEligible c start room f → IsNextOf c start room (flows ++ f ∷ []) (Some f)
  next-first flows f is may = record {
    live = Contains-push flows f;
    eligible = may;
    first = all-push (λ g. IsEligible c start room g → (g ≡ f) ⊎ (is_before c start f g ≡ true)) flows f
        (all-implied (λ g. IsEligible c start room g → ⊥) (λ g. IsEligible c start room g
        → (g ≡ f) ⊎ (is_before c start f g ≡ true)) flows (λ g fails may'. absurd (fails may')) is) (λ same. inl refl);
  }

  -- one that goes before the next takes its place
  pub next-changes : (flows : List LiveFlow) (n f : LiveFlow) → IsNextOf c start room flows (Some n)
      → IsEligible c start room f → is_before c start f n ≡ true → IsNextOf c start room (flows ++ f ∷ []) (Some f)
  next-changes flows n f is may before = record {
    live = Contains-push flows f;
    eligible = may;
    first = all-push (λ g. IsEligible c start room g → (g ≡ f) ⊎ (is_before c start f g ≡ true)) flows f
        (all-implied (λ g. IsEligible c start room g → (g ≡ n) ⊎ (is_before c start n g ≡ true)) (λ g. IsEligible c start room g
        → (g ≡ f) ⊎ (is_before c start f g ≡ true)) flows
        (λ g order may'. follows c start n f g before (order may')) is.first) (λ same. inl refl);
  }

  -- one of a higher SID that does not comes after it
  pub next-stays : (flows : List LiveFlow) (n f : LiveFlow) → IsNextOf c start room flows (Some n)
      → AllByRecursion (λ g. g.sid < f.sid) flows → is_before c start f n ≡ false
      → IsNextOf c start room (flows ++ f ∷ []) (Some n)
  next-stays flows n f is lower fails =
      let higher_sid : n.sid < f.sid = all-contains (λ (g : LiveFlow). g.sid < f.sid) flows n lower is.live in
      record {
        live = Contains-append_left flows (f ∷ []) n is.live;
        eligible = is.eligible;
        first = all-push (λ g. IsEligible c start room g → (g ≡ n) ⊎ (is_before c start n g ≡ true)) flows f is.first
            (λ may. inr (before-total c start f n higher_sid fails));
      }
