-- What is read of a slice is the slice.
use Rattle.std.proofs.Common.{◌≡◌, ℕ, ◌<◌, refl, sym, subst, ◌∙◌, ap, List, ◌++◌, length, inl, arith}
use Rattle.std.specs.Prelude.{Option, None, Some, Result, Ok, Err}
use Rattle.std.proofs.lemmas.Bool.{lt-ltb}
use Rattle.std.proofs.lemmas.List.{append-nil, length-append}
use Rattle.text_stream.specs.declared.fault.TextFault.{TextFault}
use Rattle.text_stream.specs.declared.fault.TextFault.TheVariants.{TooLong}
use Rattle.text_stream.specs.declared.input.TheConstants.{MAX_INPUT}
use Rattle.text_stream.specs.Input.{ReadsAll, ReadsTooMany}
use Rattle.history_reading.specs.Recorded.{History, GivesHistory, history_outcome}
use Rattle.mapsched_c.specs.declared.status.TheConstants.{TOO_LONG}
use Rattle.mapsched_c.specs.Text.{Judges, TellsFault, AuditsOutcome, Audits}

read_whole : (text : List ℕ) (left : Option (List ℕ)) (bytes : List ℕ) → ReadsAll (Some text) left bytes → bytes ≡ text
read_whole text None bytes all = absurd all.consumed
read_whole text (Some rest) bytes all = sym (all.consumed ∙ ap (λ ys. bytes ++ ys) all.ended ∙ append-nil bytes)

outcome : (text : List ℕ) (left : Option (List ℕ)) (o : Result History TextFault) → GivesHistory (Some text) left o
    → history_outcome text ≡ o
outcome text left o gives = rw (sym (read_whole text left gives.bytes gives.all)) gives.outcome_is

-- a text that was read as a history is audited as that
pub audits_history : (text : List ℕ) (left : Option (List ℕ)) (h : History) (status untold told : ℕ)
    → GivesHistory (Some text) left (Ok h) → Judges h.config h.entries status untold told
    → Audits text status untold told
audits_history text left h status untold told gives judged =
    inl (subst (λ o. AuditsOutcome o status untold told) (sym (outcome text left (Ok h) gives)) judged)

-- a text that was read with a fault is audited as that
pub audits_fault : (text : List ℕ) (left : Option (List ℕ)) (fault : TextFault) (status untold told : ℕ)
    → GivesHistory (Some text) left (Err fault) → TellsFault fault status untold told
    → Audits text status untold told
audits_fault text left fault status untold told gives tells =
    inl (subst (λ o. AuditsOutcome o status untold told) (sym (outcome text left (Err fault) gives)) tells)

too_many : (text : List ℕ) (left : Option (List ℕ)) → ReadsTooMany (Some text) left → MAX_INPUT < length text
too_many text None many = absurd many.consumed
too_many text (Some rest) many =
    let whole = ap length many.consumed ∙ length-append many.bytes rest in omega (arith, whole, many.long)

long_outcome : (text : List ℕ) → MAX_INPUT < length text → history_outcome text ≡ Err TooLong
unfolding history_outcome
long_outcome text long = rw (lt-ltb MAX_INPUT (length text) long) refl

-- a text that is too long is told as that
pub audits_long : (text : List ℕ) (left : Option (List ℕ)) (untold : ℕ) → ReadsTooMany (Some text) left
    → Audits text TOO_LONG untold untold
audits_long text left untold many =
    inl (subst (λ o. AuditsOutcome o TOO_LONG untold untold) (sym (long_outcome text (too_many text left many)))
    (refl, refl))
