-- What likeness tells of two lists of flows.
use Rattle.std.proofs.Common.{◌≡◌, refl, sym, ap, subst, ℕ, zero, suc, ◌<◌, ◌==◌, nat_lt, Bool, true, false, not, cond}
use Rattle.std.proofs.Common.{List, [], ◌∷◌, map, length, get_or, Option, None, Some, Contains, arith}
use Rattle.std.specs.Prelude.{filter, sum_by}
use Rattle.std.specs.List.{AllByRecursion}
use Rattle.std.proofs.lemmas.List.Sums.{sum_by-cons}
use Rattle.minislots.specs.declared.config.Config.{Config}
use Rattle.flow_book.specs.Flows.{LiveFlow, flow_of}
use Rattle.flow_book.specs.Book.{Ascend, with_flow, without, changed}
use Rattle.restart_laws.proofs.Alike.{AlikeFlow, AlikeFlows}
use Rattle.restart_laws.proofs.flows.Fields.{sid-alike}

-- both flows, which are alike, or none
abbrev pub AlikeOption : Config → Option LiveFlow → Option LiveFlow → Type 0
AlikeOption c None None = Unit {0}
AlikeOption c None (Some g) = ⊥
AlikeOption c (Some f) None = ⊥
AlikeOption c (Some f) (Some g) = AlikeFlow c f g

-- a flow of the other list that is alike
pub record HasPartner (c : Config) (P Q : LiveFlow → Type 0) (gs : List LiveFlow) (f : LiveFlow) : Type 0 where
  pub partner : LiveFlow
  pub member : Contains gs partner
  pub same : AlikeFlow c f partner
  pub own : P f
  pub other : Q partner

module _ (c : Config) where
  -- they are as many
  pub length-alike : (fs gs : List LiveFlow) → AlikeFlows c fs gs → length fs ≡ length gs
  length-alike [] [] same = refl
  length-alike [] (g ∷ gs) same = absurd same
  length-alike (f ∷ fs) [] same = absurd same
  length-alike (f ∷ fs) (g ∷ gs) same = ap suc (length-alike fs gs same.1)

  -- of each pair the same is counted
  pub sum-alike : (w : LiveFlow → ℕ) → ((f g : LiveFlow) → AlikeFlow c f g → w f ≡ w g) → (fs gs : List LiveFlow)
      → AlikeFlows c fs gs → sum_by w fs ≡ sum_by w gs
  sum-alike w each [] [] same = refl
  sum-alike w each [] (g ∷ gs) same = absurd same
  sum-alike w each (f ∷ fs) [] same = absurd same
  sum-alike w each (f ∷ fs) (g ∷ gs) same =
      let here : w f ≡ w g = each f g same.0 in
      let rest : sum_by w fs ≡ sum_by w gs = sum-alike w each fs gs same.1 in
      omega (arith, sum_by-cons w f fs, sum_by-cons w g gs)

  -- of each pair the same is made
  pub made-alike : {X : Type 0} (k l : LiveFlow → X) → ((f g : LiveFlow) → AlikeFlow c f g → k f ≡ l g)
      → (fs gs : List LiveFlow) → AlikeFlows c fs gs → map k fs ≡ map l gs
  made-alike k l each [] [] same = refl
  made-alike k l each [] (g ∷ gs) same = absurd same
  made-alike k l each (f ∷ fs) [] same = absurd same
  made-alike k l each (f ∷ fs) (g ∷ gs) same = rw (each f g same.0, made-alike k l each fs gs same.1) refl

  module _ (P Q : LiveFlow → Type 0) where
    -- what follows for each pair holds of the others
    pub all-alike : (R S : LiveFlow → Type 0) → ((f g : LiveFlow) → AlikeFlow c f g → P f → Q g → R f → S g)
        → (fs gs : List LiveFlow) → AlikeFlows c fs gs → AllByRecursion P fs → AllByRecursion Q gs
        → AllByRecursion R fs → AllByRecursion S gs
    all-alike R S step [] [] same ps qs rs = tt
    all-alike R S step [] (g ∷ gs) same ps qs rs = absurd same
    all-alike R S step (f ∷ fs) [] same ps qs rs = absurd same
    all-alike R S step (f ∷ fs) (g ∷ gs) same ps qs rs =
        (step f g same.0 ps.0 qs.0 rs.0, all-alike R S step fs gs same.1 ps.1 qs.1 rs.1)

    -- where changed pairs are alike the changed lists are
    pub map-alike : (k l : LiveFlow → LiveFlow)
        → ((f g : LiveFlow) → AlikeFlow c f g → P f → Q g → AlikeFlow c (k f) (l g))
        → (fs gs : List LiveFlow) → AlikeFlows c fs gs → AllByRecursion P fs → AllByRecursion Q gs
        → AlikeFlows c (map k fs) (map l gs)
    map-alike k l step [] [] same ps qs = tt
    map-alike k l step [] (g ∷ gs) same ps qs = absurd same
    map-alike k l step (f ∷ fs) [] same ps qs = absurd same
    map-alike k l step (f ∷ fs) (g ∷ gs) same ps qs =
        (step f g same.0 ps.0 qs.0, map-alike k l step fs gs same.1 ps.1 qs.1)

    partner-later : (g : LiveFlow) (gs : List LiveFlow) (f : LiveFlow) → HasPartner c P Q gs f
        → HasPartner c P Q (g ∷ gs) f
    partner-later g gs f has =
        let k : ℕ = has.member.0 in
        let within : k < length gs = has.member.1 in
        record {
          partner = has.partner;
          member = (suc k, omega arith, has.member.2);
          same = has.same;
          own = has.own;
          other = has.other;
        }

    partner-at : (fs gs : List LiveFlow) → AlikeFlows c fs gs → AllByRecursion P fs → AllByRecursion Q gs
        → (f : LiveFlow) (k : ℕ) → k < length fs → get_or fs k f ≡ f → HasPartner c P Q gs f
    partner-at [] gs same ps qs f k within at = absurd (omega arith)
    partner-at (h ∷ fs) [] same ps qs f k within at = absurd same
    partner-at (h ∷ fs) (g ∷ gs) same ps qs f zero within at = record {
      partner = g;
      member = (0, omega arith, refl);
      same = subst (λ (x : LiveFlow). AlikeFlow c x g) at same.0;
      own = subst P at ps.0;
      other = qs.0;
    }
    partner-at (h ∷ fs) (g ∷ gs) same ps qs f (suc k) within at =
        partner-later g gs f (partner-at fs gs same.1 ps.1 qs.1 f k (omega arith) at)

    -- each flow of the one list has a partner in the other
    pub partner-of : (fs gs : List LiveFlow) → AlikeFlows c fs gs → AllByRecursion P fs → AllByRecursion Q gs
        → (f : LiveFlow) → Contains fs f → HasPartner c P Q gs f
    partner-of fs gs same ps qs f (k, within, at) = partner-at fs gs same ps qs f k within at

  -- tests that are the same of each pair leave lists that are alike
  pub filter-alike : (p q : LiveFlow → Bool) → ((f g : LiveFlow) → AlikeFlow c f g → p f ≡ q g)
      → (fs gs : List LiveFlow) → AlikeFlows c fs gs → AlikeFlows c (filter p fs) (filter q gs)
  filter-alike p q each [] [] same = tt
  filter-alike p q each [] (g ∷ gs) same = absurd same
  filter-alike p q each (f ∷ fs) [] same = absurd same
  filter-alike p q each (f ∷ fs) (g ∷ gs) same =
      left (p f) (q g) (each f g same.0) (filter-alike p q each fs gs same.1)
    where
      left : (a b : Bool) → a ≡ b → AlikeFlows c (filter p fs) (filter q gs)
          → AlikeFlows c (cond a (f ∷ filter p fs) (filter p fs)) (cond b (g ∷ filter q gs) (filter q gs))
      left true true is rest = (same.0, rest)
      left true false is rest = absurd (cc)
      left false true is rest = absurd (cc)
      left false false is rest = rest

  -- without the flow of an SID they are alike
  pub without-alike : (sid : ℕ) (fs gs : List LiveFlow) → AlikeFlows c fs gs
      → AlikeFlows c (without sid fs) (without sid gs)
  without-alike sid fs gs same =
      filter-alike (λ f. not (f.sid == sid)) (λ g. not (g.sid == sid))
      (λ f g alike. ap (λ n. not (n == sid)) (sid-alike c f g alike)) fs gs same

  put-alike : (a b : Bool) → a ≡ b → (f g x y : LiveFlow) (fs gs rs ss : List LiveFlow) → AlikeFlow c x y
      → AlikeFlow c f g → AlikeFlows c fs gs → AlikeFlows c rs ss
      → AlikeFlows c (cond a (x ∷ f ∷ fs) (f ∷ rs)) (cond b (y ∷ g ∷ gs) (g ∷ ss))
  put-alike true true is f g x y fs gs rs ss new here same rest = (new, (here, same))
  put-alike true false is f g x y fs gs rs ss new here same rest = absurd (cc)
  put-alike false true is f g x y fs gs rs ss new here same rest = absurd (cc)
  put-alike false false is f g x y fs gs rs ss new here same rest = (here, rest)

  -- with flows more that are alike they are
  pub with_flow-alike : (x y : LiveFlow) → AlikeFlow c x y → (fs gs : List LiveFlow) → AlikeFlows c fs gs
      → AlikeFlows c (with_flow x fs) (with_flow y gs)
  with_flow-alike x y new [] [] same = (new, tt)
  with_flow-alike x y new [] (g ∷ gs) same = absurd same
  with_flow-alike x y new (f ∷ fs) [] same = absurd same
  with_flow-alike x y new (f ∷ fs) (g ∷ gs) same =
      let test : nat_lt x.sid f.sid ≡ nat_lt y.sid g.sid =
      rw (sid-alike c x y new, sid-alike c f g same.0) refl in
      put-alike (nat_lt x.sid f.sid) (nat_lt y.sid g.sid) test f g x y fs gs (with_flow x fs) (with_flow y gs) new
      same.0 same.1 (with_flow-alike x y new fs gs same.1)

  found-alike : (a b : Bool) → a ≡ b → (f g : LiveFlow) (o p : Option LiveFlow) → AlikeFlow c f g → AlikeOption c o p
      → AlikeOption c (cond a (Some f) o) (cond b (Some g) p)
  found-alike true true is f g o p here rest = here
  found-alike true false is f g o p here rest = absurd (cc)
  found-alike false true is f g o p here rest = absurd (cc)
  found-alike false false is f g o p here rest = rest

  -- the flows of an SID are alike, or both lists have none
  pub flow_of-alike : (sid : ℕ) (fs gs : List LiveFlow) → AlikeFlows c fs gs
      → AlikeOption c (flow_of sid fs) (flow_of sid gs)
  flow_of-alike sid [] [] same = tt
  flow_of-alike sid [] (g ∷ gs) same = absurd same
  flow_of-alike sid (f ∷ fs) [] same = absurd same
  flow_of-alike sid (f ∷ fs) (g ∷ gs) same =
      found-alike (f.sid == sid) (g.sid == sid) (ap (λ n. n == sid) (sid-alike c f g same.0)) f g (flow_of sid fs)
      (flow_of sid gs) same.0 (flow_of-alike sid fs gs same.1)

  above-alike : (m n : ℕ) → m ≡ n → (fs gs : List LiveFlow) → AlikeFlows c fs gs → AllByRecursion (λ f. m < f.sid) fs
      → AllByRecursion (λ g. n < g.sid) gs
  above-alike m n is [] [] same above = tt
  above-alike m n is [] (g ∷ gs) same above = absurd same
  above-alike m n is (f ∷ fs) [] same above = absurd same
  above-alike m n is (f ∷ fs) (g ∷ gs) same above =
      (omega (arith, above.0, sid-alike c f g same.0), above-alike m n is fs gs same.1 above.1)

  -- where the one is in order the other is
  pub ascend-alike : (fs gs : List LiveFlow) → AlikeFlows c fs gs → Ascend fs → Ascend gs
  ascend-alike [] [] same up = tt
  ascend-alike [] (g ∷ gs) same up = absurd same
  ascend-alike (f ∷ fs) [] same up = absurd same
  ascend-alike (f ∷ fs) (g ∷ gs) same up =
      (above-alike f.sid g.sid (sid-alike c f g same.0) fs gs same.1 up.0, ascend-alike fs gs same.1 up.1)

  -- some are alike to themselves
  pub alike-itself : (fs : List LiveFlow) → AlikeFlows c fs fs
  alike-itself [] = tt
  alike-itself (f ∷ fs) = (refl, alike-itself fs)

  -- and the other way round
  pub alike-turned : (fs gs : List LiveFlow) → AlikeFlows c fs gs → AlikeFlows c gs fs
  alike-turned [] [] same = tt
  alike-turned [] (g ∷ gs) same = absurd same
  alike-turned (f ∷ fs) [] same = absurd same
  alike-turned (f ∷ fs) (g ∷ gs) same = (sym same.0, alike-turned fs gs same.1)

above-mapped : (n : ℕ) (k : LiveFlow → LiveFlow) → ((f : LiveFlow) → (k f).sid ≡ f.sid) → (fs : List LiveFlow)
    → AllByRecursion (λ f. n < f.sid) fs → AllByRecursion (λ f. n < f.sid) (map k fs)
above-mapped n k keeps [] above = tt
above-mapped n k keeps (f ∷ fs) above = (omega (arith, above.0, keeps f), above-mapped n k keeps fs above.1)

-- a change that keeps the SIDs keeps the order
pub ascend-mapped : (k : LiveFlow → LiveFlow) → ((f : LiveFlow) → (k f).sid ≡ f.sid) → (fs : List LiveFlow)
    → Ascend fs → Ascend (map k fs)
ascend-mapped k keeps [] up = tt
ascend-mapped k keeps (f ∷ fs) up =
    (rw (keeps f) (above-mapped f.sid k keeps fs up.0), ascend-mapped k keeps fs up.1)

turned-sid : (b : Bool) (f g : LiveFlow) → g.sid ≡ f.sid → (cond b g f).sid ≡ f.sid
turned-sid true f g same = same
turned-sid false f g same = refl

-- so does a change of the flow of one SID
pub ascend-changed : (sid : ℕ) (k : LiveFlow → LiveFlow) → ((f : LiveFlow) → (k f).sid ≡ f.sid) → (fs : List LiveFlow)
    → Ascend fs → Ascend (changed sid k fs)
ascend-changed sid k keeps fs up =
    ascend-mapped (λ f. cond (f.sid == sid) (k f) f) (λ f. turned-sid (f.sid == sid) f (k f) (keeps f)) fs up
