-- A file is checked as the kind that its first bytes begin.
use Rattle.std.proofs.Common.{◌≡◌, ℕ, List, take, Option, Result, Ok, Err, sym, ap, subst, ◌∙◌, inl, inr}
use Rattle.std.specs.Prelude.{◌⊎◌, IfOk, IfErr}
use Rattle.std.specs.Io.KnownBytes.{Keeps}
use Rattle.text_stream.specs.declared.fault.TextFault.{TextFault}
use Rattle.text_stream.specs.declared.fault.TextFault.TheVariants.{Input, Memory, Output}
use Rattle.text_stream.specs.declared.run_fault.RunFault.{RunFault}
use Rattle.text_stream.specs.declared.run_fault.RunFault.TheVariants.{Text}
use Rattle.check_lines.specs.declared.front.TheConstants.{FRONT}
use Rattle.check_lines.specs.declared.front.Front.{Front}
use Rattle.check_lines.specs.declared.form.CheckForm.{CheckForm}
use Rattle.check_lines.specs.declared.kind.FileKind.{FileKind}
use Rattle.check_lines.specs.declared.verdict.Verdict.{Verdict}
use Rattle.check_lines.specs.Front.{unread_of, behind_of, at_hand, IsLookedAt, IsFront}
use Rattle.check_lines.specs.Kind.{kind_of_front}
use Rattle.check_lines.specs.Check.{ChecksAs, ChecksAny, StopsAs, StopsAny}
use Rattle.check_lines.proofs.Fronts.{IsFront-looked}

-- the first bytes were not looked at
pub StopsAny-look : (unread left : Option (List ℕ)) (fault : TextFault) → (fault ≡ Input) ⊎ (fault ≡ Memory)
    → StopsAny unread left (Text fault)
StopsAny-look unread left fault (inl is) = inl (ap Text is)
StopsAny-look unread left fault (inr is) = inr (inl (ap Text is))

-- and nothing was written
pub unwritten : (fault : TextFault) → (fault ≡ Input) ⊎ (fault ≡ Memory) → Text fault ≡ Text Output → ⊥
unwritten fault (inl is) output = (let no : Text Input ≡ Text Output = ap Text (sym is) ∙ output in cc)
unwritten fault (inr is) output = (let no : Text Memory ≡ Text Output = ap Text (sym is) ∙ output in cc)

module _ (form : CheckForm) {R : Type 0} (remaining : R → Option (List ℕ)) (looked : Front R)
    (unread left : Option (List ℕ)) (front : List ℕ) (kind : FileKind)
    (same : Keeps unread (unread_of remaining looked)) (is_looked : IsLookedAt remaining looked)
    (front_is : front ≡ take FRONT (at_hand looked)) (kind_is : kind ≡ kind_of_front front) where
  is_front : IsFront (unread_of remaining looked) front
  is_front =
      subst (IsFront (unread_of remaining looked)) (sym front_is)
      (IsFront-looked (behind_of remaining looked) (at_hand looked) is_looked)

  -- they were, and the file was checked as that kind
  pub ChecksAny-as : (before after : Option (List ℕ)) (r : Result Verdict RunFault)
      → IfOk r (ChecksAs form kind (unread_of remaining looked) left before after)
      → IfOk r (ChecksAny form unread left before after)
  ChecksAny-as before after (Ok found) checks = record {
    text = unread_of remaining looked;
    same = same;
    front = front;
    is_front = is_front;
    checks = subst (λ (k : FileKind). ChecksAs form k (unread_of remaining looked) left before after found) kind_is
        checks;
  }
  ChecksAny-as before after (Err fault) checks = tt

  -- or that ended
  pub StopsAny-as : (r : Result Verdict RunFault) → IfErr r (StopsAs kind (unread_of remaining looked) left)
      → IfErr r (StopsAny unread left)
  StopsAny-as (Ok found) stops = tt
  StopsAny-as (Err fault) stops = inr (inr (record {
    text = unread_of remaining looked;
    same = same;
    front = front;
    is_front = is_front;
    stops = subst (λ (k : FileKind). StopsAs k (unread_of remaining looked) left fault) kind_is stops;
  }))
