-- The members of an object by their places, some of which may be left out: what stands under a key, and that they are
-- in the order of their keys.
use Rattle.std.proofs.Common.{◌≡◌, ℕ, ◌==◌, Bool, true, false, ◌&&◌, List, [], ◌∷◌, Option, Some, None}
use Rattle.std.proofs.Common.{Ordering, Less, Equal, Greater, inl, inr, refl, sym, ap, ◌∙◌}
use Rattle.std.specs.Prelude.{if◌then◌else◌}
use Rattle.std.specs.Ordering.{nat_cmp, match_ordering}
use Rattle.std.specs.Cmp.Lexicographic.{slice_cmp}
use Rattle.std.proofs.lemmas.Bool.{cases_Bool}
use Rattle.serde_json.specs.Data.{Data, Members, no_members, member, put}
use Rattle.serde_json.specs.Find.{get_member}
use Rattle.history_writing.specs.Json.{count, optional_member}
use Rattle.state_text.proofs.Ordered.{put_each}

-- a member that always stands, and a number that stands where it is another than the one of a missing member
pub data Part : Type 0 where
  always : List ℕ → Data → Part
  unless : ℕ → List ℕ → ℕ → Part

abbrev title_of : Part → List ℕ
title_of (always title d) = title
title_of (unless missing title n) = title

-- the members at these places
abbrev pub laid : List Part → Members
laid [] = no_members
laid (always title d ∷ ps) = member title d (laid ps)
laid (unless missing title n ∷ ps) = optional_member missing title n (laid ps)

-- what stands under a key, place by place
abbrev pub found_in : List ℕ → List Part → Option Data
found_in key [] = None
found_in key (always title d ∷ ps) =
    match_ordering (slice_cmp nat_cmp key title) (found_in key ps) (Some d) (found_in key ps)
found_in key (unless missing title n ∷ ps) =
    match_ordering (slice_cmp nat_cmp key title) (found_in key ps)
    (if n == missing then found_in key ps else Some (count n)) (found_in key ps)

all_alike : (o : Ordering) (x : Option Data) → match_ordering o x x x ≡ x
all_alike Less x = refl
all_alike Equal x = refl
all_alike Greater x = refl

-- a member is found by its place
pub found-laid : (key : List ℕ) (ps : List Part) → get_member key (laid ps) ≡ found_in key ps
found-laid key [] = refl
found-laid key (always title d ∷ ps) =
    ap (λ found. match_ordering (slice_cmp nat_cmp key title) found (Some d) found) (found-laid key ps)
found-laid key (unless missing title n ∷ ps) = elim (cases_Bool (n == missing)) [
  | inl same ↦
      rw same (found-laid key ps ∙ sym (all_alike (slice_cmp nat_cmp key title) (found_in key ps)))
  | inr other ↦
      rw other (ap (λ found. match_ordering (slice_cmp nat_cmp key title) found (Some (count n)) found)
      (found-laid key ps))
]

-- the first key is above the second
abbrev is_above : List ℕ → List ℕ → Bool
is_above key title = match_ordering (slice_cmp nat_cmp key title) false false true

-- the titles of all these are above a key
abbrev all_above : List ℕ → List Part → Bool
all_above key [] = true
all_above key (p ∷ ps) = is_above (title_of p) key && all_above key ps

-- each title is below those behind it
abbrev pub in_turn : List Part → Bool
in_turn [] = true
in_turn (p ∷ ps) = all_above (title_of p) ps && in_turn ps

-- a key is above those of members, and so are titles
abbrev tops : List ℕ → Members → Bool
tops key no_members = true
tops key (member k d ms) = is_above key k && tops key ms

abbrev all_top : List Part → Members → Bool
all_top [] ms = true
all_top (p ∷ ps) ms = tops (title_of p) ms && all_top ps ms

-- members, and others behind them
abbrev joined : Members → Members → Members
joined no_members behind = behind
joined (member k d ms) behind = member k d (joined ms behind)

joined-nothing : (ms : Members) → joined ms no_members ≡ ms
joined-nothing no_members = refl
joined-nothing (member k d ms) = ap (member k d) (joined-nothing ms)

joined-joined : (xs ys zs : Members) → joined (joined xs ys) zs ≡ joined xs (joined ys zs)
joined-joined no_members ys zs = refl
joined-joined (member k d xs) ys zs = ap (member k d) (joined-joined xs ys zs)

both : (a b : Bool) → (a && b) ≡ true → (a ≡ true) × (b ≡ true)
both true b is = (refl, is)
both false b is = absurd cc

both_are : (a b : Bool) → a ≡ true → b ≡ true → (a && b) ≡ true
both_are true b first second = second
both_are false b first second = absurd cc

the_last : (o : Ordering) (x y z : Members) → match_ordering o false false true ≡ true → match_ordering o x y z ≡ z
the_last Less x y z above = absurd cc
the_last Equal x y z above = absurd cc
the_last Greater x y z above = refl

-- what is put under a key above all others stands behind them
put_behind : (key : List ℕ) (d : Data) (ms : Members) → tops key ms ≡ true
    → put key d ms ≡ joined ms (member key d no_members)
put_behind key d no_members above = refl
put_behind key d (member k e ms) above =
    let each = both _ _ above in
    the_last (slice_cmp nat_cmp key k) _ _ _ each.0 ∙ ap (member k e) (put_behind key d ms each.1)

tops-joined : (key k : List ℕ) (d : Data) (ms : Members) → tops key ms ≡ true → is_above key k ≡ true
    → tops key (joined ms (member k d no_members)) ≡ true
tops-joined key k d no_members above last = both_are _ _ last refl
tops-joined key k d (member l e ms) above last =
    let each = both _ _ above in
    both_are _ _ each.0 (tops-joined key k d ms each.1 last)

all_top-joined : (ps : List Part) (k : List ℕ) (d : Data) (ms : Members) → all_top ps ms ≡ true
    → all_above k ps ≡ true → all_top ps (joined ms (member k d no_members)) ≡ true
all_top-joined [] k d ms top above = refl
all_top-joined (p ∷ ps) k d ms top above =
    let tops_them = both _ _ top in
    let is_higher = both _ _ above in
    both_are _ _ (tops-joined (title_of p) k d ms tops_them.0 is_higher.0)
    (all_top-joined ps k d ms tops_them.1 is_higher.1)

one_more : (key : List ℕ) (d : Data) (ps : List Part) (ms : Members) → tops key ms ≡ true
    → put_each (laid ps) (joined ms (member key d no_members))
    ≡ joined (joined ms (member key d no_members)) (laid ps)
    → put_each (member key d (laid ps)) ms ≡ joined ms (member key d (laid ps))
one_more key d ps ms top rest =
    ap (put_each (laid ps)) (put_behind key d ms top) ∙ rest ∙ joined-joined ms (member key d no_members) (laid ps)

put-laid : (ps : List Part) (ms : Members) → all_top ps ms ≡ true → in_turn ps ≡ true
    → put_each (laid ps) ms ≡ joined ms (laid ps)
put-laid [] ms top turn = sym (joined-nothing ms)
put-laid (always title d ∷ ps) ms top turn =
    let tops_them = both _ _ top in
    let turns = both _ _ turn in
    one_more title d ps ms tops_them.0
    (put-laid ps _ (all_top-joined ps title d ms tops_them.1 turns.0) turns.1)
put-laid (unless missing title n ∷ ps) ms top turn =
    let tops_them = both _ _ top in
    let turns = both _ _ turn in
    elim (cases_Bool (n == missing)) [
      | inl same ↦ rw same (put-laid ps ms tops_them.1 turns.1)
      | inr other ↦
          rw other (one_more title (count n) ps ms tops_them.0
          (put-laid ps _ (all_top-joined ps title (count n) ms tops_them.1 turns.0) turns.1))
    ]

all_top-nothing : (ps : List Part) → all_top ps no_members ≡ true
all_top-nothing [] = refl
all_top-nothing (p ∷ ps) = all_top-nothing ps

-- so members in turn are in order, whichever are left out
pub sorted : (ps : List Part) → in_turn ps ≡ true → put_each (laid ps) no_members ≡ laid ps
sorted ps turn = put-laid ps no_members (all_top-nothing ps) turn
