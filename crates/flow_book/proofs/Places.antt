-- Where the flow of an SID stands in a list of flows.
use Rattle.std.proofs.Common.{◌≡◌, refl, sym, subst, ap, ◌∙◌, ℕ, zero, suc, ◌+◌, ◌<◌, Bool, true, false, not, cond}
use Rattle.std.proofs.Common.{◌==◌, List, [], ◌∷◌, map, length, get_or, slice_get, find, position, Option, Some, None}
use Rattle.std.proofs.Common.{IsSome, IsSomeAnd, option_map, unwrap_or, Contains, arith}
use Rattle.std.specs.List.{prefix_len, position_or_len, AllByRecursion}
use Rattle.std.proofs.lemmas.Bool.Decides.{nat_tests}
use Rattle.std.proofs.lemmas.List.{length-map}
use Rattle.std.proofs.Math.ListN.{get_or-map}
use Rattle.std.proofs.lemmas.List.Elements.{All-from_recursion}
use Rattle.std.proofs.lemmas.List.Folds.{find_at}
use Rattle.std.proofs.lemmas.List.Quantifiers.{position-Some}
use Rattle.std.proofs.lemmas.List.Sums.{prefix_len-le-length}
use Rattle.std.proofs.lemmas.Option.{slice_get-get_or}
use Rattle.flow_book.specs.declared.flow.Flow.{Flow}
use Rattle.flow_book.specs.Flows.{LiveFlow, flow_of}
use Rattle.flow_book.specs.Entry.{live}
use Rattle.flow_book.specs.Book.{Ascend}
use Rattle.flow_book.proofs.Searches.{ascends-of, found-first}

cond-option : {X Y : Type 0} (h : X → Y) (b : Bool) (x : X) (r : Option X) → cond b (Some (h x)) (option_map h r)
    ≡ option_map h (cond b (Some x) r)
cond-option h true x r = refl
cond-option h false x r = refl

-- what is found in the values of h is the value of what is found
pub find-map : {X Y : Type 0} (h : X → Y) (p : Y → Bool) (xs : List X)
    → find p (map h xs) ≡ option_map h (find (λ x. p (h x)) xs)
find-map h p [] = refl
find-map h p (x ∷ xs) = rw (find-map h p xs) (cond-option h (p (h x)) x (find (λ x. p (h x)) xs))

prefix_len-map : {X Y : Type 0} (h : X → Y) (p : Y → Bool) (xs : List X)
    → prefix_len p (map h xs) ≡ prefix_len (λ x. p (h x)) xs
prefix_len-map h p [] = refl
prefix_len-map h p (x ∷ xs) = rw (prefix_len-map h p xs)

-- and it stands at the same place
pub position_or_len-map : {X Y : Type 0} (h : X → Y) (p : Y → Bool) (xs : List X) → position_or_len p (map h xs)
    ≡ position_or_len (λ x. p (h x)) xs
position_or_len-map h p xs = prefix_len-map h (λ y. not (p y)) xs

-- the same of a position that may not be there
pub position-map : {X Y : Type 0} (h : X → Y) (p : Y → Bool) (xs : List X)
    → position p (map h xs) ≡ position (λ x. p (h x)) xs
position-map h p xs = rw (position_or_len-map h p xs, length-map xs h)

-- the place of the first that passes, or the length, is known from either
pub place-or_len : {X : Type 0} (p : X → Bool) (xs : List X)
    → unwrap_or (position p xs) (length xs) ≡ position_or_len p xs
place-or_len p xs = let within = prefix_len-le-length (λ x. not (p x)) xs in grind (arith, nat_tests)

some-within : (b : Bool) {X : Type 0} (x : X) (r : Option X) (m n : ℕ) → (IsSome r → m < n)
    → IsSome (cond b (Some x) r) → cond (not b) (1 + m) 0 < suc n
some-within true x r m n h found = omega arith
some-within false x r m n h found = omega (arith, h found)

-- what is found stands within the list
pub found-within : {X : Type 0} (p : X → Bool) (xs : List X) → IsSome (find p xs) → position_or_len p xs < length xs
found-within p [] found = absurd (cc)
found-within p (x ∷ xs) found = some-within (p x) x (find p xs) _ _ (found-within p xs) found

-- so it has a place
pub found-place : {X : Type 0} (p : X → Bool) (xs : List X) → IsSome (find p xs)
    → position p xs ≡ Some (position_or_len p xs)
found-place p xs found =
    let within : position_or_len p xs < length xs = found-within p xs found in
    grind (arith, nat_tests)

-- and none is found where none has a place
pub found-none : {X : Type 0} (p : X → Bool) (xs : List X) (o : Option X) → find p xs ≡ o → position p xs ≡ None
    → o ≡ None
found-none p xs None is none = refl
found-none p xs (Some x) is none = let stands = found-place p xs (rw is refl) in absurd (cc)

-- the flow of an SID is that of the fields found for it
pub flow_of-live : (sid : ℕ) (items : List Flow) → flow_of sid (map live items)
    ≡ option_map live (find (λ f. f.sid == sid) items)
flow_of-live sid items = find-map live (λ f. f.sid == sid) items

found-here : {X : Type 0} (P : X → Type 0) (b : Bool) (y x : X) (r : Option X) → P y → (r ≡ Some x → P x)
    → cond b (Some y) r ≡ Some x → P x
found-here P true y x r here rest found = let e : y ≡ x = cc in subst P e here
found-here P false y x r here rest found = rest found

-- what holds of each holds of the one that is found
pub all-found : {X : Type 0} (P : X → Type 0) (p : X → Bool) (xs : List X) (x : X) → AllByRecursion P xs
    → find p xs ≡ Some x → P x
all-found P p [] x all found = absurd (cc)
all-found P p (y ∷ xs) x all found = found-here P (p y) y x (find p xs) all.0 (all-found P p xs x all.1) found

found-last : (b : Bool) (sid : ℕ) (f : LiveFlow) (r s : Option LiveFlow) → b ≡ false → r ≡ s → cond b (Some f) r ≡ s
found-last b sid f r s fails e = rw fails e

-- in a list by SID each flow is the one of its SID
pub flow_of-at : (flows : List LiveFlow) (i : ℕ) (d : LiveFlow) → Ascend flows → i < length flows
    → flow_of (get_or flows i d).sid flows ≡ slice_get flows i
flow_of-at [] i d up lt = absurd (omega arith)
flow_of-at (f ∷ flows) zero d up lt = let same : (f.sid == f.sid) ≡ true = grind (arith, nat_tests) in rw same
flow_of-at (f ∷ flows) (suc i) d up lt =
    let above : f.sid < (get_or flows i d).sid = All-from_recursion (λ g. f.sid < g.sid) flows up.0 i d (omega arith) in
    let differ : (f.sid == (get_or flows i d).sid) ≡ false = grind (arith, nat_tests) in
    found-last _ 0 f _ _ differ (flow_of-at flows i d up.1 (omega arith))

-- the flow at the place of an SID
pub record StandsAt (sid : ℕ) (items : List Flow) (i : ℕ) (f : Flow) : Type 0 where
  pub within : i < length items
  pub here : f.sid ≡ sid
  pub at : live f ≡ get_or (map live items) i (live f)
  pub first : i ≡ position_or_len (λ g. g.sid == sid) items
  pub fields : find (λ g. g.sid == sid) items ≡ Some f
  pub found : flow_of sid (map live items) ≡ Some (live f)

-- a place that is found is this one
pub some-place : (b : Bool) (m i : ℕ) → cond b (Some m) None ≡ Some i → m ≡ i
some-place true m i h = cc
some-place false m i h = absurd (cc)

-- the account found at a position is that of the live flow with the SID
pub placed : (sid : ℕ) (items : List Flow) (i : ℕ) (f : Flow) → position (λ g. g.sid == sid) (map live items) ≡ Some i
    → f ≡ get_or items i f → StandsAt sid items i f
placed sid items i f stands is =
    let p : LiveFlow → Bool = λ g. g.sid == sid in
    let flows : List LiveFlow = map live items in
    let same : get_or flows i (live f) ≡ live (get_or items i f) = get_or-map live items i f in
    let at : live f ≡ get_or flows i (live f) = ap live is ∙ sym same in
    let first = position-Some p flows i (live f) stands in
    let here : position_or_len p flows ≡ i = some-place _ _ _ stands in
    let passes : ((get_or flows i (live f)).sid == sid) ≡ true = first.1 in
    let sid-is : (get_or flows i (live f)).sid ≡ sid = grind (arith, nat_tests) in
    let within : i < length items = omega (arith, first.0, length-map items live) in
    let fields : find (λ g. g.sid == sid) items ≡ Some f =
    find_at (λ g. g.sid == sid) items ∙ ap (slice_get items) (sym (position_or_len-map live p items) ∙ here)
    ∙ slice_get-get_or items i f within ∙ ap Some (sym is) in
    record {
      within = within;
      here = ap (λ g. g.sid) at ∙ sid-is;
      at = at;
      first = sym here ∙ position_or_len-map live p items;
      fields = fields;
      found = flow_of-live sid items ∙ ap (option_map live) fields;
    }

-- in a list by SID each member is the flow of its SID
pub flow_of-member : (flows : List LiveFlow) (f : LiveFlow) → Ascend flows → Contains flows f
    → flow_of f.sid flows ≡ Some f
flow_of-member flows f up (k, lt, at) =
    ap (λ (g : LiveFlow). flow_of g.sid flows) (sym at) ∙ flow_of-at flows k f up lt ∙ slice_get-get_or flows k f lt
    ∙ ap Some at

-- in a list by SID each flow stands at its place
pub placed-at : (items : List Flow) (i : ℕ) (f : Flow) → Ascend (map live items) → i < length items
    → f ≡ get_or items i f → StandsAt f.sid items i f
placed-at items i f up within is =
    let here : (get_or items i f).sid ≡ f.sid = ap (λ (g : Flow). g.sid) (sym is) in
    placed f.sid items i f
    (position-map live (λ g. g.sid == f.sid) items
    ∙ found-first (λ (g : Flow). g.sid) items f.sid (ascends-of live (λ g. g.sid) items up) f i within here) is

-- what holds of the flow at a place holds of the one that is read there
pub some-here : (P : LiveFlow → Type 0) (items : List Flow) (k : ℕ) → IsSomeAnd (slice_get (map live items) k) P
    → (k < length items) × ((f : Flow) → f ≡ get_or items k f → P (live f))
some-here P [] k some = absurd some
some-here P (f ∷ items) zero some =
    (omega arith, λ g is. let e : g ≡ f = is in subst (λ (h : Flow). P (live h)) (sym e) some)
some-here P (f ∷ items) (suc k) some =
    let rest = some-here P items k some in (omega (arith, rest.0), rest.1)
