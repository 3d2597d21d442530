-- Members that were put in one after the other are in the order of their keys, so no key stands twice.
use Rattle.std.proofs.Common.{◌≡◌, ℕ, List, [], ◌∷◌, get_or, Ordering, Less, Equal, Greater, nat_cmp}
use Rattle.std.proofs.Common.{refl, sym, ap, ◌∙◌, subst}
use Rattle.std.specs.Ordering.{match_ordering, ordering_reverse}
use Rattle.std.specs.Cmp.Lexicographic.{slice_cmp}
use Rattle.std.specs.List.{AllByRecursion}
use Rattle.std.specs.List.Sorted.{IsStrictlySortedBy}
use Rattle.std.proofs.lemmas.Cmp.{nat_list_cmp_total, tied_itself}
use Rattle.std.proofs.lemmas.Map.Keys.{Less-from_sorted}
use Rattle.json.specs.Strict.{AreDistinct}
use Rattle.serde_json.specs.Data.{Data, Members, no_members, member, put}

abbrev compare : List ℕ → List ℕ → Ordering
compare = slice_cmp nat_cmp

-- the keys, in their order
abbrev pub keys_of : Members → List (List ℕ)
keys_of no_members = []
keys_of (member k d ms) = k ∷ keys_of ms

-- the members, put in one after the other
abbrev pub put_each : Members → Members → Members
put_each no_members found = found
put_each (member k d ms) found = put_each ms (put k d found)

-- a key is below those of the members
abbrev IsBelow : List ℕ → Members → Type 0
IsBelow k ms = AllByRecursion (λ l. compare k l ≡ Less) (keys_of ms)

-- each key is below those behind it
abbrev Ascends : Members → Type 0
Ascends ms = IsStrictlySortedBy compare (keys_of ms)

below_any : (x : List ℕ) (o : Ordering) (a b c : Members) → IsBelow x a → IsBelow x b → IsBelow x c
    → IsBelow x (match_ordering o a b c)
below_any x Less a b c one two three = one
below_any x Equal a b c one two three = two
below_any x Greater a b c one two three = three

below-put : (x k : List ℕ) (d : Data) (ms : Members) → compare x k ≡ Less → IsBelow x ms → IsBelow x (put k d ms)
below-put x k d no_members less below = (less, tt)
below-put x k d (member l e ms) less below =
    below_any x (compare k l) _ _ _ (less, below) below (below.0, below-put x k d ms less below.1)

below_both : (k l : List ℕ) (ms : Members) → compare k l ≡ Less → IsBelow l ms → IsBelow k ms
below_both k l no_members less below = tt
below_both k l (member x d ms) less below =
    (nat_list_cmp_total.trans k l x less below.0, below_both k l ms less below.1)

ascends_any : (o : Ordering) (a b c : Members) → (o ≡ Less → Ascends a) → (o ≡ Equal → Ascends b)
    → (o ≡ Greater → Ascends c) → Ascends (match_ordering o a b c)
ascends_any Less a b c one two three = one refl
ascends_any Equal a b c one two three = two refl
ascends_any Greater a b c one two three = three refl

ascends-put : (k : List ℕ) (d : Data) (ms : Members) → Ascends ms → Ascends (put k d ms)
unfolding IsStrictlySortedBy
ascends-put k d no_members up = (tt, tt)
ascends-put k d (member l e ms) up =
    ascends_any (compare k l) _ _ _ (λ less. ((less, below_both k l ms less up.0), up)) (λ same. up)
    (λ greater. (
      below-put l k d ms (nat_list_cmp_total.antisymm l k ∙ ap ordering_reverse greater) up.0,
      ascends-put k d ms up.1,
    ))

ascends-put_each : (ms found : Members) → Ascends found → Ascends (put_each ms found)
ascends-put_each no_members found up = up
ascends-put_each (member k d ms) found up = ascends-put_each ms (put k d found) (ascends-put k d found up)

ascends-nothing : Ascends no_members
unfolding IsStrictlySortedBy
ascends-nothing = tt

are_distinct : (ks : List (List ℕ)) → IsStrictlySortedBy compare ks → AreDistinct ks
are_distinct ks up i j d less within same =
    let below = Less-from_sorted compare ks i j d up less within in
    let itself = tied_itself nat_list_cmp_total (get_or ks j d) in
    let no : Less ≡ Equal = sym below ∙ ap (λ x. compare x (get_or ks j d)) same ∙ itself in
    cc

-- no key stands twice among members that stand as they are put in
pub keys_differ : (ms : Members) → put_each ms no_members ≡ ms → AreDistinct (keys_of ms)
keys_differ ms same =
    are_distinct (keys_of ms) (subst Ascends same (ascends-put_each ms no_members ascends-nothing))
