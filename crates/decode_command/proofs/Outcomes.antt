-- What becomes of lines, with one line more: what is shown, what is said, and whether one is wrong.
use Rattle.std.proofs.Common.{◌≡◌, ℕ, ◌+◌, Bool, true, false, ◌&&◌, List, [], ◌∷◌, ◌++◌, length}
use Rattle.std.proofs.Common.{Option, Some, None, refl, sym, ap, ◌∙◌, append_assoc, append-nil, arith}
use Rattle.std.proofs.lemmas.List.Concat.{flat_map-append}
use Rattle.std.specs.List.{flat_map}
use Rattle.std.specs.Io.KnownBytes.{IsAtEnd, prepend_known}
use Rattle.text_stream.specs.Lines.{lines_of, TakesLines}
use Rattle.text_stream.specs.Told.{HasEnded}
use Rattle.decode_command.specs.declared.form.Form.{Form}
use Rattle.decode_command.specs.Line.{Becomes, behind_gap, said_line}
use Rattle.decode_command.specs.Lines.{BecomeEach, shown_of, separated, said_from}
use Rattle.decode_command.specs.Lines.{are_well}
use Rattle.decode_command.specs.Line.{outcome_of, shown_one, said_one}
use Rattle.decode_command.specs.Lines.{stays_first}
use Rattle.decode_command.specs.Lines.{stays_well}

-- whether there is none
abbrev pub is_nil : List (List ℕ) → Bool
is_nil [] = true
is_nil (t ∷ ts) = false

is_nil-push : (ts : List (List ℕ)) (t : List ℕ) → is_nil (ts ++ t ∷ []) ≡ false
is_nil-push [] t = refl
is_nil-push (s ∷ ts) t = refl

-- lines were taken, and then others
pub TakesLines-trans : (a b c : Option (List ℕ)) (xs ys : List (List ℕ)) → TakesLines a xs b → TakesLines b ys c
    → TakesLines a (xs ++ ys) c
TakesLines-trans None b c xs ys first then = tt
TakesLines-trans (Some t) None c xs ys first then = absurd first
TakesLines-trans (Some t) (Some u) None xs ys first then = absurd then
TakesLines-trans (Some t) (Some u) (Some v) xs ys first then =
    first ∙ ap (λ (l : List (List ℕ)). xs ++ l) then ∙ sym (append_assoc xs ys (lines_of v))

-- no line was taken, and nothing is at hand
pub TakesLines-none : (a : Option (List ℕ)) (bytes : List ℕ) → bytes ≡ [] → TakesLines a [] (prepend_known bytes a)
TakesLines-none None bytes none = tt
TakesLines-none (Some t) bytes none = ap (λ (l : List ℕ). lines_of (l ++ t)) (sym none)

-- the input has ended behind lines that were taken
pub TakesLines-ended : (a b c : Option (List ℕ)) (xs : List (List ℕ)) → TakesLines a xs b → HasEnded b c → TakesLines a xs c
TakesLines-ended None b c xs takes ended = tt
TakesLines-ended (Some t) None c xs takes ended = absurd takes
TakesLines-ended (Some t) (Some u) None xs takes ended = absurd ended.2
TakesLines-ended (Some t) (Some u) (Some v) xs takes ended = takes ∙ ap (λ (l : List ℕ). xs ++ lines_of l) ended.2

-- where nothing is left with what is at hand, nothing is left
pub left_at_end : (bytes : List ℕ) (left : Option (List ℕ)) → IsAtEnd (prepend_known bytes left) → IsAtEnd left
left_at_end bytes None ended = tt
left_at_end [] (Some rest) ended = ended
left_at_end (b ∷ bytes) (Some rest) ended = cc

-- and nothing is at hand
pub takes_left : (a : Option (List ℕ)) (bytes : List ℕ) (left : Option (List ℕ)) (xs : List (List ℕ))
    → TakesLines a xs (prepend_known bytes left) → IsAtEnd (prepend_known bytes left) → TakesLines a xs left
takes_left None bytes left xs takes ended = tt
takes_left (Some t) bytes None xs takes ended = takes
takes_left (Some t) [] (Some rest) xs takes ended = takes
takes_left (Some t) (b ∷ bytes) (Some rest) xs takes ended = cc

-- one line more, with what becomes of it
pub BecomeEach-push : (form : Form) (columns : Option ℕ) (lines : List (List ℕ)) (os : List (Option (Bool × List ℕ)))
    (line : List ℕ) (o : Option (Bool × List ℕ)) → BecomeEach form columns lines os → Becomes form columns line o
    → BecomeEach form columns (lines ++ line ∷ []) (os ++ o ∷ [])
BecomeEach-push form columns [] [] line o each one = (one, tt)
BecomeEach-push form columns [] (p ∷ os) line o each one = absurd each
BecomeEach-push form columns (l ∷ lines) [] line o each one = absurd each
BecomeEach-push form columns (l ∷ lines) (p ∷ os) line o each one =
    (each.0, BecomeEach-push form columns lines os line o each.1 one)

-- what is shown of outcomes and others behind them
shown_of-append : (os us : List (Option (Bool × List ℕ))) → shown_of (os ++ us) ≡ shown_of os ++ shown_of us
shown_of-append [] us = refl
shown_of-append (None ∷ os) us = shown_of-append os us
shown_of-append (Some (true, told) ∷ os) us = ap (λ l. told ∷ l) (shown_of-append os us)
shown_of-append (Some (false, told) ∷ os) us = shown_of-append os us

-- what is written for one line more
separated-push : (ts : List (List ℕ)) (o : Option (Bool × List ℕ))
    → separated (ts ++ shown_of (o ∷ [])) ≡ separated ts ++ shown_one (is_nil ts) o
separated-push [] None = refl
separated-push [] (Some (true, told)) = append-nil told
separated-push [] (Some (false, told)) = refl
separated-push (t ∷ ts) None = ap separated (append-nil (t ∷ ts)) ∙ sym (append-nil (separated (t ∷ ts)))
separated-push (t ∷ ts) (Some (true, told)) =
    ap (λ l. t ++ l) (flat_map-append behind_gap ts (told ∷ [])
    ∙ ap (λ l. flat_map behind_gap ts ++ l) (append-nil (behind_gap told)))
    ∙ sym (append_assoc t (flat_map behind_gap ts) (behind_gap told))
separated-push (t ∷ ts) (Some (false, told)) =
    ap separated (append-nil (t ∷ ts)) ∙ sym (append-nil (separated (t ∷ ts)))

-- and behind what was shown before, where it is known whether anything was
pub shown-push : (os : List (Option (Bool × List ℕ))) (o : Option (Bool × List ℕ)) (is_first : Bool)
    → is_first ≡ is_nil (shown_of os)
    → separated (shown_of (os ++ o ∷ [])) ≡ separated (shown_of os) ++ shown_one is_first o
shown-push os o is_first first =
    ap separated (shown_of-append os (o ∷ [])) ∙ separated-push (shown_of os) o
    ∙ ap (λ b. separated (shown_of os) ++ shown_one b o) (sym first)

-- whether something was shown, with one line more
pub first-push : (os : List (Option (Bool × List ℕ))) (found : Option Bool) (told : List ℕ) (is_first : Bool)
    → is_first ≡ is_nil (shown_of os) → stays_first is_first found ≡ is_nil (shown_of (os ++ outcome_of found told ∷ []))
first-push os None told is_first first =
    first ∙ ap is_nil (sym (shown_of-append os (None ∷ []) ∙ append-nil (shown_of os)))
first-push os (Some true) told is_first first =
    sym (ap is_nil (shown_of-append os (Some (true, told) ∷ [])) ∙ is_nil-push (shown_of os) told)
first-push os (Some false) told is_first first =
    first ∙ ap is_nil (sym (shown_of-append os (Some (false, told) ∷ []) ∙ append-nil (shown_of os)))

and_true : (b : Bool) → (b && true) ≡ b
and_true true = refl
and_true false = refl

and_false : (b : Bool) → (b && false) ≡ false
and_false true = refl
and_false false = refl

are_well-append : (os us : List (Option (Bool × List ℕ))) → are_well (os ++ us) ≡ (are_well os && are_well us)
are_well-append [] us = refl
are_well-append (None ∷ os) us = are_well-append os us
are_well-append (Some (true, told) ∷ os) us = are_well-append os us
are_well-append (Some (false, told) ∷ os) us = refl

-- whether a line is wrong, with one line more
pub well-push : (os : List (Option (Bool × List ℕ))) (found : Option Bool) (told : List ℕ) (is_well : Bool)
    → is_well ≡ are_well os → stays_well is_well found ≡ are_well (os ++ outcome_of found told ∷ [])
well-push os None told is_well well = well ∙ sym (are_well-append os (None ∷ []) ∙ and_true (are_well os))
well-push os (Some true) told is_well well =
    well ∙ sym (are_well-append os (Some (true, told) ∷ []) ∙ and_true (are_well os))
well-push os (Some false) told is_well well =
    sym (are_well-append os (Some (false, told) ∷ []) ∙ and_false (are_well os))

said_first : (n : ℕ) (o : Option (Bool × List ℕ)) → said_from n (o ∷ []) ≡ said_one n o
said_first n None = refl
said_first n (Some (true, told)) = refl
said_first n (Some (false, told)) = append-nil (said_line n told)

-- what is said of one line more, which has this number
pub said-push : (n m : ℕ) (os : List (Option (Bool × List ℕ))) (o : Option (Bool × List ℕ)) → m ≡ n + length os
    → said_from n (os ++ o ∷ []) ≡ said_from n os ++ said_one m o
said-push n m [] o is =
    let same : n ≡ m = omega (arith, is) in
    said_first n o ∙ ap (λ k. said_one k o) same
said-push n m (None ∷ os) o is = said-push (n + 1) m os o (omega (arith, is))
said-push n m (Some (true, told) ∷ os) o is = said-push (n + 1) m os o (omega (arith, is))
said-push n m (Some (false, told) ∷ os) o is =
    ap (λ l. said_line n told ++ l) (said-push (n + 1) m os o (omega (arith, is)))
    ∙ sym (append_assoc (said_line n told) (said_from (n + 1) os) (said_one m o))
