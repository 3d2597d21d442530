-- Of alike flows that are steady at a minislot alike ones may be served there, and the next is alike.
use Rattle.std.proofs.Common.{◌≡◌, refl, sym, ap, subst, ◌∙◌, ℕ, ◌≤◌, min, ◌==◌, Bool, true, false, cond}
use Rattle.std.proofs.Common.{List, Contains, Option, Some, inl, inr, ◌⊎◌, arith}
use Rattle.std.specs.List.{AllByRecursion}
use Rattle.std.proofs.lemmas.Bool.{eqb-true}
use Rattle.std.proofs.lemmas.List.Elements.{recursion_from_All, All-contains_itself}
use Rattle.minislots.specs.declared.config.Config.{Config}
use Rattle.sched_calls.specs.FlowSpec.{takes_requests}
use Rattle.flow_book.specs.declared.flow.Grant.{Grant}
use Rattle.flow_book.specs.Flows.{LiveFlow, outstanding, flow_of}
use Rattle.flow_book.specs.Reserved.{rank_at, with_grant}
use Rattle.flow_book.specs.Choice.{MayTake, MayGrant, IsAmount, IsEligible, NoneEligible, last_start, is_before, IsNext}
use Rattle.flow_book.specs.Book.{Ascend, changed}
use Rattle.flow_book.proofs.Order.{goes_first, all-implied}
use Rattle.flow_book.proofs.Places.{flow_of-member}
use Rattle.flow_book.proofs.Matching.{all-map}
use Rattle.periodic.proofs.Joined.{all-both}
use Rattle.restart_laws.proofs.Alike.{IsSteadyFlow, AlikeFlow, AlikeFlows}
use Rattle.restart_laws.proofs.flows.Fields.{sid-alike, spec-alike, outstanding-alike, last-alike}
use Rattle.restart_laws.proofs.flows.Under.{rank-alike}
use Rattle.restart_laws.proofs.flows.Keeps.{keeps-with-alike}
use Rattle.restart_laws.proofs.flows.Grants.{grant-steady, grant-alike, later-steady}
use Rattle.restart_laws.proofs.maps.Lists.{all-alike, map-alike, HasPartner, partner-of, ascend-alike, ascend-changed}

-- Flows in order that are alike, of which nothing is later than a minislot
pub record AreAlikeAt (c : Config) (slot : ℕ) (fs gs : List LiveFlow) : Type 0 where
  pub same : AlikeFlows c fs gs
  pub up : Ascend fs
  pub own : AllByRecursion (IsSteadyFlow c slot) fs
  pub others : AllByRecursion (IsSteadyFlow c slot) gs

-- the flow that is next among the others
pub record HasNext (c : Config) (start room : ℕ) (gs : List LiveFlow) (f : LiveFlow) : Type 0 where
  pub flow : LiveFlow
  pub same : AlikeFlow c f flow
  pub own : IsSteadyFlow c start f
  pub other : IsSteadyFlow c start flow
  pub next : IsNext c gs start room flow

same-order : (r r' s s' : ℕ) (a a' b b' : Option ℕ) (x x' y y' : ℕ) → r ≡ r' → a ≡ a' → x ≡ x' → s ≡ s' → b ≡ b'
    → y ≡ y' → goes_first r a x s b y ≡ goes_first r' a' x' s' b' y'
same-order r r' s s' a a' b b' x x' y y' e1 e2 e3 e4 e5 e6 = rw (e1, e2, e3, e4, e5, e6) refl

-- in a list by SID two members of one SID are one
pub one-of-sid : (flows : List LiveFlow) → Ascend flows → (f g : LiveFlow) → Contains flows f → Contains flows g
    → f.sid ≡ g.sid → f ≡ g
one-of-sid flows up f g here there same =
    let found : flow_of f.sid flows ≡ Some f = flow_of-member flows f up here in
    let other : flow_of f.sid flows ≡ Some g =
    ap (λ sid. flow_of sid flows) same ∙ flow_of-member flows g up there in
    cc

-- each member is one
all-members : (flows : List LiveFlow) → AllByRecursion (Contains flows) flows
all-members flows = recursion_from_All (Contains flows) flows (All-contains_itself flows)

module _ (c : Config) (start room : ℕ) where
  -- so many bytes may be granted to both
  pub may-alike : (f g : LiveFlow) (bytes : ℕ) → IsSteadyFlow c start f → IsSteadyFlow c start g → AlikeFlow c f g
      → MayGrant c f start room bytes → MayGrant c g start room bytes
  may-alike f g bytes sf sg same may = record {
    positive = may.positive;
    asked = omega (arith, may.asked, outstanding-alike c f g same);
    capped = may.capped;
    taken = record {
      ceiling = keeps-with-alike c start bytes f g sf sg same may.taken.ceiling;
      fits = may.taken.fits;
    };
  }

  -- and these are the most of both
  pub amount-alike : (f g : LiveFlow) (bytes : ℕ) → IsSteadyFlow c start f → IsSteadyFlow c start g → AlikeFlow c f g
      → IsAmount c f start room bytes → IsAmount c g start room bytes
  amount-alike f g bytes sf sg same is = record {
    allowed = may-alike f g bytes sf sg same is.allowed;
    greatest = λ more may. is.greatest more (may-alike g f more sg sf (sym same) may);
  }

  -- both may be served
  pub eligible-alike : (f g : LiveFlow) → IsSteadyFlow c start f → IsSteadyFlow c start g → AlikeFlow c f g
      → IsEligible c start room f → IsEligible c start room g
  eligible-alike f g sf sg same is =
      let takes : MayTake c g start room (min (outstanding f) c.quantum) = record {
        ceiling = keeps-with-alike c start (min (outstanding f) c.quantum) f g sf sg same is.takes.ceiling;
        fits = is.takes.fits;
      } in
      record {
        serves = ap takes_requests (sym (spec-alike c f g same)) ∙ is.serves;
        waits = omega (arith, is.waits, outstanding-alike c f g same);
        takes = subst (λ n. MayTake c g start room (min n c.quantum)) (outstanding-alike c f g same) takes;
      }

  -- none of both may be served
  pub none-alike : (fs gs : List LiveFlow) → AreAlikeAt c start fs gs → NoneEligible c fs start room
      → NoneEligible c gs start room
  none-alike fs gs are none =
      all-alike c (IsSteadyFlow c start) (IsSteadyFlow c start) (λ f. IsEligible c start room f → ⊥)
      (λ g. IsEligible c start room g → ⊥)
      (λ f g same sf sg never may. never (eligible-alike g f sg sf (sym same) may)) fs gs are.same are.own are.others
      none

  -- of two pairs the same are before the others
  pub before-alike : (f g x y : LiveFlow) → IsSteadyFlow c start f → IsSteadyFlow c start g → AlikeFlow c f g
      → IsSteadyFlow c start x → IsSteadyFlow c start y → AlikeFlow c x y
      → is_before c start f x ≡ is_before c start g y
  before-alike f g x y sf sg same sx sy alike =
      same-order (rank_at c start f) (rank_at c start g) (rank_at c start x) (rank_at c start y) (last_start f.grants)
      (last_start g.grants) (last_start x.grants) (last_start y.grants) f.sid g.sid x.sid y.sid
      (rank-alike c start f g sf sg same) (last-alike c f g same) (sid-alike c f g same)
      (rank-alike c start x y sx sy alike) (last-alike c x y alike) (sid-alike c x y alike)

  module _ (fs gs : List LiveFlow) (are : AreAlikeAt c start fs gs) (f : LiveFlow) (next : IsNext c fs start room f)
    where
      -- a flow is steady at the minislot
      abbrev Steady : LiveFlow → Type 0
      Steady = IsSteadyFlow c start

      -- and one of the others
      abbrev InOthers : LiveFlow → Type 0
      InOthers y = IsSteadyFlow c start y × Contains gs y

      has : HasPartner c Steady Steady gs f
      has = partner-of c Steady Steady fs gs are.same are.own are.others f next.live

      -- the partner of the next
      abbrev g : LiveFlow
      g = has.partner

      -- where it may be served it is the next, or comes after it
      abbrev IsAfter : LiveFlow → Type 0
      IsAfter x = IsEligible c start room x → (x ≡ f) ⊎ (is_before c start f x ≡ true)

      -- the same of the others
      abbrev IsAfterOther : LiveFlow → Type 0
      IsAfterOther y = IsEligible c start room y → (y ≡ g) ⊎ (is_before c start g y ≡ true)

      turned : (x y : LiveFlow) → AlikeFlow c x y → IsSteadyFlow c start x → InOthers y
          → (x ≡ f) ⊎ (is_before c start f x ≡ true) → (y ≡ g) ⊎ (is_before c start g y ≡ true)
      turned x y alike sx sy (inl is) =
          inl (one-of-sid gs (ascend-alike c fs gs are.same are.up) y g sy.1 has.member
          (sym (sid-alike c x y alike) ∙ ap (λ (z : LiveFlow). z.sid) is ∙ sid-alike c f g has.same))
      turned x y alike sx sy (inr before) =
          inr (sym (before-alike f g x y has.own has.other has.same sx sy.0 alike) ∙ before)

      after : (x y : LiveFlow) → AlikeFlow c x y → IsSteadyFlow c start x → InOthers y → IsAfter x → IsAfterOther y
      after x y alike sx sy is may = turned x y alike sx sy (is (eligible-alike y x sy.0 sx (sym alike) may))

      -- the next of the one list is alike to the next of the other
      pub next-alike : HasNext c start room gs f
      next-alike = record {
        flow = g;
        same = has.same;
        own = has.own;
        other = has.other;
        next = record {
          live = has.member;
          eligible = eligible-alike f g has.own has.other has.same next.eligible;
          first = all-alike c Steady InOthers IsAfter IsAfterOther after fs gs are.same are.own
              (all-both Steady (Contains gs) InOthers (λ y sy member. (sy, member)) gs are.others (all-members gs))
              next.first;
        };
      }

module _ (c : Config) (fs gs : List LiveFlow) where
  -- at a later minislot they are steady too
  pub alike-later : (slot later : ℕ) → slot ≤ later → AreAlikeAt c slot fs gs → AreAlikeAt c later fs gs
  alike-later slot later le are = record {
    same = are.same;
    up = are.up;
    own = all-implied (IsSteadyFlow c slot) (IsSteadyFlow c later) fs (λ f sf. later-steady c slot later f le sf)
        are.own;
    others = all-implied (IsSteadyFlow c slot) (IsSteadyFlow c later) gs (λ f sf. later-steady c slot later f le sf)
        are.others;
  }

  module _ (start room bytes : ℕ) (are : AreAlikeAt c start fs gs) (f : LiveFlow) (next : IsNext c fs start room f)
      (amount : IsAmount c f start room bytes) where
    -- the data grant
    abbrev grant : Grant
    grant = record { start = start; bytes = bytes }

    -- a flow with it, where it is the one of the SID
    abbrev turned_flow : LiveFlow → LiveFlow
    turned_flow x = cond (x.sid == f.sid) (with_grant c grant x) x

    -- a flow is steady, and where it is the one of the SID it may be granted so much
    abbrev MayBeNext : LiveFlow → Type 0
    MayBeNext x = IsSteadyFlow c start x × (x.sid ≡ f.sid → MayGrant c x start room bytes)

    may-be-next : AllByRecursion MayBeNext fs
    may-be-next =
        all-both (IsSteadyFlow c start) (Contains fs) MayBeNext
        (λ x sx member. (
          sx,
          λ same. subst (λ y. MayGrant c y start room bytes)
              (one-of-sid fs are.up f x next.live member (sym same)) amount.allowed,
        )) fs are.own (all-members fs)

    granted-steady : (x : LiveFlow) → MayBeNext x → IsSteadyFlow c start (turned_flow x)
    granted-steady x may = by-sid (x.sid == f.sid) refl
      where
        by-sid : (b : Bool) → (x.sid == f.sid) ≡ b → IsSteadyFlow c start (cond b (with_grant c grant x) x)
        by-sid true test =
            let allowed = may.1 (eqb-true x.sid f.sid test) in
            grant-steady c start bytes x may.0 allowed.taken.ceiling allowed.asked
        by-sid false test = may.0

    granted-alike : (x y : LiveFlow) → AlikeFlow c x y → MayBeNext x → IsSteadyFlow c start y
        → AlikeFlow c (turned_flow x) (turned_flow y)
    granted-alike x y same may sy =
        by-sid (x.sid == f.sid) (y.sid == f.sid) refl (ap (λ sid. sid == f.sid) (sid-alike c x y same))
      where
        by-sid : (a b : Bool) → (x.sid == f.sid) ≡ a → a ≡ b
            → AlikeFlow c (cond a (with_grant c grant x) x) (cond b (with_grant c grant y) y)
        by-sid true true test is =
            let allowed = may.1 (eqb-true x.sid f.sid test) in
            grant-alike c start bytes x y may.0 sy same allowed.taken.ceiling allowed.asked
        by-sid true false test is = absurd (cc)
        by-sid false true test is = absurd (cc)
        by-sid false false test is = same

    other-may : (x y : LiveFlow) → AlikeFlow c x y → MayBeNext x → IsSteadyFlow c start y → MayBeNext y
    other-may x y same may sy =
        (sy, λ is. may-alike c start room x y bytes may.0 sy same (may.1 (sid-alike c x y same ∙ is)))

    -- after the grant they are alike
    pub alike-granted : AreAlikeAt c start (changed f.sid (with_grant c grant) fs)
        (changed f.sid (with_grant c grant) gs)
    alike-granted = record {
      same = map-alike c MayBeNext (IsSteadyFlow c start) turned_flow turned_flow granted-alike fs gs are.same
          may-be-next are.others;
      up = ascend-changed f.sid (with_grant c grant) (λ x. refl) fs are.up;
      own = all-map (IsSteadyFlow c start) turned_flow fs (all-implied MayBeNext
          (λ x. IsSteadyFlow c start (turned_flow x)) fs granted-steady may-be-next);
      others = all-map (IsSteadyFlow c start) turned_flow gs (all-implied MayBeNext
          (λ x. IsSteadyFlow c start (turned_flow x)) gs granted-steady
          (all-alike c MayBeNext (IsSteadyFlow c start) MayBeNext MayBeNext
          (λ x y same may sy own. other-may x y same own sy)
          fs gs are.same may-be-next are.others may-be-next));
    }
