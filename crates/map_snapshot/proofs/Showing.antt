-- What a publish makes of a press.
use Rattle.std.proofs.Common.{◌≡◌, ℕ, ◌+◌, ◌<◌, List, [], ◌∷◌, ◌++◌, length, map, fold, Some, Result, Ok, MatchResult}
use Rattle.std.proofs.Common.{refl, ap, arith, sym, subst, ◌∙◌, ⊎_elim}
use mathlib.Core.List.{IsPrefix}
use Rattle.logbook.specs.Pages.{Book}
use Rattle.map_snapshot.specs.declared.printed.Printed.{Printed}
use Rattle.map_snapshot.specs.Maps.{map_in, IsLast, IsNewest, Coming, printed_of, MayWait, Page, Printing}
use Rattle.map_snapshot.specs.Rules.{word_of}
use Rattle.map_snapshot.proofs.Beginnings.{prefix_grown}
use Rattle.map_snapshot.proofs.Names.{applied}

-- the list that ends with the map that comes next is the one before with that map behind
shown_list : (list shown both : List (List ℕ)) (p : Printed) → IsPrefix list both → IsPrefix shown both
    → IsLast p shown → p.version ≡ length list + 1
    → shown ≡ list ++ map_in p ∷ []
shown_list list shown both p begins ends last next =
    last.list_is ∙ prefix_grown list last.before both (map_in p) begins (subst (λ l. IsPrefix l both) last.list_is ends)
    (ap length (sym last.list_is) ∙ (sym last.version ∙ next))

-- the map that waits comes next
comes_next : (press : Book) (list : List (List ℕ)) (ops : List Coming) (a : Coming) → MayWait press list ops
    → ops ≡ a ∷ []
    → (a.press ≡ press) × (a.printed.version ≡ length list + 1)
comes_next press list ops a may is =
    ⊎_elim (λ (none : ops ≡ []). absurd (cc (none, is)))
    (λ (t : (b : Coming) × (ops ≡ b ∷ []) × (b.press ≡ press) × (b.printed.version ≡ length list + 1)).
    let same : t.0 ≡ a = cc (t.1, is) in
    subst (λ (b : Coming). (b.press ≡ press) × (b.printed.version ≡ length list + 1)) same (t.2, t.3))
    may

-- where something waits, one map does
pub waits_one : (press : Book) (list : List (List ℕ)) (ops : List Coming) → MayWait press list ops → 0 < length ops
    → (p : Printed) × (map printed_of ops ≡ p ∷ [])
waits_one press list ops may some =
    ⊎_elim (λ (none : ops ≡ []). absurd (omega (arith, some, ap length none)))
    (λ (t : (b : Coming) × (ops ≡ b ∷ []) × (b.press ≡ press) × (b.printed.version ≡ length list + 1)).
    (t.0.printed, ap (map printed_of) t.1))
    may

-- where one map waits, one addition does
one_waits : (ops : List Coming) (p : Printed) → map printed_of ops ≡ p ∷ []
    → (a : Coming) × (ops ≡ a ∷ []) × (a.printed ≡ p)
one_waits [] p is = absurd (cc is)
one_waits (a ∷ []) p is = (a, refl, cc is)
one_waits (a ∷ (b ∷ ops)) p is = absurd (cc is)

abbrev the_printing : Book → List (List ℕ) → List Printed → Printing
the_printing press list waiting = record { press = press; list = list; waiting = waiting }

-- a press has shown the map that waited, and nothing waits
pub shown_press : (s next : Page) (ops after : List Coming) (both : List (List ℕ)) (p : Printed)
    → MayWait s.press s.list ops → map printed_of ops ≡ p ∷ []
    → (next.printed, word_of next.press) ≡ fold applied (s.printed, word_of s.press) ops → after ≡ []
    → IsNewest next.printed next.list → IsPrefix s.list both → IsPrefix next.list both
    → the_printing next.press next.list (map printed_of after) ≡ the_printing s.press
    (s.list ++ map map_in (map printed_of ops)) []
shown_press s next ops after both p may is applies none newest begins ends =
    let one = one_waits ops p is in
    let next_is = comes_next s.press s.list ops one.0 may one.1 in
    let state : (next.printed, word_of next.press) ≡ (Some one.0.printed, word_of one.0.press) = applies
    ∙ ap (λ o. fold applied (s.printed, word_of s.press) o) one.1 in
    let last : IsLast p next.list = subst (λ o. IsNewest o next.list) (ap (λ t. t.0) state ∙ ap (λ q. Some q) one.2)
    newest in
    let press : next.press ≡ s.press = ap (λ t. t.1.book) state ∙ next_is.0 in
    let version : p.version ≡ length s.list + 1 = subst (λ (q : Printed). q.version ≡ length s.list + 1) one.2
    next_is.1 in
    let grown : next.list ≡ s.list ++ map map_in (map printed_of ops) =
    shown_list s.list next.list both p begins ends last version ∙ ap (λ o. s.list ++ map map_in o) (sym is) in
    λ i. record { press = press i; list = grown i; waiting = ap (map printed_of) none i }

-- what a result says where it is Ok
pub at_ok : {A E : Type 0} (P : A → Type 0) (Q : E → Type 0) {r : Result A E} {x : A} → MatchResult r P Q → r ≡ Ok x
    → P x
at_ok P Q m is = subst (λ r. MatchResult r P Q) is m
