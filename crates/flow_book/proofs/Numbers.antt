-- Numbers that stand in order: one is put in or taken out.
use Rattle.std.proofs.Common.{◌≡◌, ◌≢◌, refl, sym, ap, ◌∙◌, ℕ, Bool, true, false, cond, ◌==◌, nat_lt}
use Rattle.std.proofs.Common.{List, [], ◌∷◌, ◌<◌, arith}
use Rattle.std.specs.List.{AllByRecursion}
use Rattle.std.specs.Ordering.{nat_cmp, match_ordering, is_eq}
use Rattle.std.specs.declared.cmp.Ordering.TheVariants.{Less, Equal, Greater}
use Rattle.std.specs.BTreeMap.{is_at}
use Rattle.std.specs.BTreeSet.{insert_key}
use Rattle.std.specs.Set.{remove_key}
use Rattle.std.proofs.lemmas.Bool.{cond_both}
use Rattle.std.proofs.lemmas.Bool.Decides.{nat_tests}
use Rattle.sched_calls.specs.Sids.{AscendBy, put_in}
use Rattle.flow_book.specs.Line.{itself, sorted_into, sorted}
use Rattle.flow_book.proofs.Lines.{IsNew, put_in-either, all-sorted_into}

order-cond : (b e : Bool) (xs ys zs ws : List ℕ) → e ≡ false → zs ≡ ws
    → match_ordering (cond b Less (cond e Equal Greater)) xs ys zs ≡ cond b xs ws
order-cond true e xs ys zs ws differs same = refl
order-cond false true xs ys zs ws differs same = absurd (cc)
order-cond false false xs ys zs ws differs same = same

-- a number that a set has not is put in its place
pub insert_key-put_in : (n : ℕ) (ns : List ℕ) → IsNew n ns → insert_key nat_cmp ns n ≡ put_in itself n ns
insert_key-put_in n [] new = refl
insert_key-put_in n (m ∷ ns) new =
    let differs : (n == m) ≡ false = let differ = new.0 in grind (arith, nat_tests) in
    order-cond (nat_lt n m) (n == m) (n ∷ m ∷ ns) (m ∷ ns) (m ∷ insert_key nat_cmp ns n) (m ∷ put_in itself n ns) differs
    (ap (λ ms. m ∷ ms) (insert_key-put_in n ns new.1))

at-cond : (b e : Bool) → b ≡ false → is_eq (cond b Less (cond e Equal Greater)) ≡ e
at-cond true e low = absurd (cc)
at-cond false true low = refl
at-cond false false low = refl

past-cond : (b e : Bool) → e ≡ false → is_eq (cond b Less (cond e Equal Greater)) ≡ false
past-cond true e differs = refl
past-cond false true differs = absurd (cc)
past-cond false false differs = refl

at-itself : (n : ℕ) → is_at (nat_cmp n) n ≡ true
at-itself n =
    let no : nat_lt n n ≡ false = grind (arith, nat_tests) in
    let yes' : (n == n) ≡ true = grind (arith, nat_tests) in
    at-cond (nat_lt n n) (n == n) no ∙ yes'

not-at : (n m : ℕ) → m ≢ n → is_at (nat_cmp n) m ≡ false
not-at n m differ =
    let no : (n == m) ≡ false = grind (arith, nat_tests) in
    past-cond (nat_lt n m) (n == m) no

-- and taken out again
pub remove_key-put_in : (n : ℕ) (ns : List ℕ) → IsNew n ns → remove_key (is_at (nat_cmp n)) (put_in itself n ns) ≡ ns
remove_key-put_in n [] new = rw (at-itself n) refl
remove_key-put_in n (m ∷ ns) new =
    cond_both (nat_lt n m) (n ∷ m ∷ ns) (m ∷ put_in itself n ns)
    (λ ms. remove_key (is_at (nat_cmp n)) ms ≡ m ∷ ns)
    (λ low. rw (at-itself n) refl)
    (λ high. rw (not-at n m new.0) (ap (λ ms. m ∷ ms) (remove_key-put_in n ns new.1)))

-- the first of some that are put in order may be put in last
pub sorted_into-put_in : (n : ℕ) (line ns : List ℕ)
    → sorted_into (put_in itself n line) ns ≡ put_in itself n (sorted_into line ns)
sorted_into-put_in n line [] = refl
sorted_into-put_in n line (m ∷ ns) =
    ap (λ l. sorted_into l ns) (put_in-either m n line) ∙ sorted_into-put_in n (put_in itself m line) ns

new-sorted : (n : ℕ) (ns : List ℕ) → IsNew n ns → IsNew n (sorted ns)
new-sorted n ns new = all-sorted_into (λ m. m ≢ n) [] ns tt new

-- of numbers in order one is taken out
pub taken-out : (n : ℕ) (ns xs : List ℕ) → IsNew n ns → xs ≡ sorted (n ∷ ns)
    → remove_key (is_at (nat_cmp n)) xs ≡ sorted ns
taken-out n ns xs new is =
    ap (remove_key (is_at (nat_cmp n))) (is ∙ sorted_into-put_in n [] ns)
    ∙ remove_key-put_in n (sorted ns) (new-sorted n ns new)

-- and one is put in
pub put-more : (n : ℕ) (ns xs : List ℕ) → IsNew n ns → xs ≡ sorted ns → insert_key nat_cmp xs n ≡ sorted (n ∷ ns)
put-more n ns xs new is =
    ap (λ ms. insert_key nat_cmp ms n) is ∙ insert_key-put_in n (sorted ns) (new-sorted n ns new)
    ∙ sym (sorted_into-put_in n [] ns)

all-taken : (P : ℕ → Type 0) (n : ℕ) (line : List ℕ) → AllByRecursion P (put_in itself n line)
    → P n × AllByRecursion P line
all-taken P n [] all = (all.0, tt)
all-taken P n (m ∷ line) all =
    cond_both (nat_lt n m) (n ∷ m ∷ line) (m ∷ put_in itself n line)
    (λ ms. AllByRecursion P ms → P n × AllByRecursion P (m ∷ line))
    (λ low both. both)
    (λ high both. let rest = all-taken P n line both.1 in (rest.0, (both.0, rest.1))) all

later-new : (n : ℕ) (line : List ℕ) → AllByRecursion (λ m. n < m) line → IsNew n line
later-new n [] above = tt
later-new n (m ∷ line) above = ((λ same. absurd (omega (arith, above.0, same))), later-new n line above.1)

-- where numbers ascend with one more, it is none of the others
ascends-without : (n : ℕ) (line : List ℕ) → AscendBy itself (put_in itself n line)
    → AscendBy itself line × IsNew n line
ascends-without n [] up = (tt, tt)
ascends-without n (m ∷ line) up =
    cond_both (nat_lt n m) (n ∷ m ∷ line) (m ∷ put_in itself n line)
    (λ ms. AscendBy itself ms → AscendBy itself (m ∷ line) × IsNew n (m ∷ line))
    (λ low rises. (rises.1, later-new n (m ∷ line) rises.0))
    (λ high rises. let rest = ascends-without n line rises.1 in
    let above = all-taken (λ k. m < k) n line rises.0 in
    ((above.1, rest.0), ((λ same. absurd (omega (arith, above.0, same))), rest.1))) up

ascends-start : (line ns : List ℕ) → AscendBy itself (sorted_into line ns) → AscendBy itself line
ascends-start line [] up = up
ascends-start line (n ∷ ns) up = (ascends-without n line (ascends-start (put_in itself n line) ns up)).0
