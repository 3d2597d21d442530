-- What a text tells, once all bytes of a reader were read, and what stops its reading: the machine, or the one fault
-- that the text has.
use Rattle.std.proofs.Common.{◌≡◌, ℕ, ◌<◌, List, [], ◌++◌, length, Option, Some, None, Result, Ok, Err}
use Rattle.std.proofs.Common.{inl, inr, sym, ap, ◌∙◌, append-nil, arith, subst}
use Rattle.std.specs.Prelude.{◌⊎◌}
use Rattle.std.proofs.lemmas.List.{length-append}
use Rattle.text_stream.specs.declared.input.TheConstants.{MAX_INPUT}
use Rattle.text_stream.specs.declared.fault.TextFault.{TextFault}
use Rattle.text_stream.specs.declared.fault.TextFault.TheVariants.{Input, TooLong, NotJson, Shape, Config, Memory}
use Rattle.text_stream.specs.declared.fault.TextFault.TheVariants.{Output}
use Rattle.text_stream.specs.Input.{ReadsAll, ReadsTooMany}

-- the bytes of a reader that was read to its end are those that it had
pub all_bytes : (text : List ℕ) (new : Option (List ℕ)) (bytes : List ℕ) → ReadsAll (Some text) new bytes → bytes ≡ text
all_bytes text None bytes all = absurd all.consumed
all_bytes text (Some rest) bytes all = sym (all.consumed ∙ ap (λ r. bytes ++ r) all.ended ∙ append-nil bytes)

-- and none is left
pub none_left : (text : List ℕ) (new : Option (List ℕ)) (bytes : List ℕ) → ReadsAll (Some text) new bytes
    → new ≡ Some []
none_left text None bytes all = absurd all.consumed
none_left text (Some rest) bytes all = ap Some all.ended

-- a reader from which too many bytes came had too many
pub too_many : (text : List ℕ) (new : Option (List ℕ)) → ReadsTooMany (Some text) new → MAX_INPUT < length text
too_many text None many = absurd many.consumed
too_many text (Some rest) many =
    let parts = ap length many.consumed in
    let sum = length-append many.bytes rest in
    let long = many.long in
    omega (arith, parts, sum, long)

-- the machine fails, or the text has this fault
abbrev pub IsTold : {A : Type 0} → TextFault → Result A TextFault → Type 0
IsTold fault outcome = (fault ≡ Input) ⊎ ((fault ≡ Memory) ⊎ (outcome ≡ Err fault))

-- a fault that a text has, and no failed read and no lack of memory
abbrev pub IsOfText : TextFault → Type 0
IsOfText Input = ⊥
IsOfText TooLong = Unit {0}
IsOfText NotJson = Unit {0}
IsOfText (Shape n) = Unit {0}
IsOfText (Config field) = Unit {0}
IsOfText Memory = ⊥
IsOfText Output = ⊥

-- a whole text has none
pub not-told : {A : Type 0} (fault : TextFault) (outcome : Result A TextFault) (value : A)
    → IsOfText fault → outcome ≡ Ok value → IsTold fault outcome → ⊥
not-told fault outcome value of_text whole (inl e) = subst IsOfText e of_text
not-told fault outcome value of_text whole (inr (inl e)) = subst IsOfText e of_text
not-told fault outcome value of_text whole (inr (inr e)) = absurd cc
