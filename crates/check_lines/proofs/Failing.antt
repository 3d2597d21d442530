-- Why a call fails that reads and writes nothing.
use Rattle.std.proofs.Common.{◌≡◌, Bool, Result, Ok, Err, sym, ◌∙◌}
use Rattle.std.specs.Prelude.{IfErr}
use Rattle.text_stream.specs.declared.fault.TextFault.{TextFault}
use Rattle.text_stream.specs.declared.fault.TextFault.TheVariants.{Input, Memory}
use Rattle.text_stream.specs.Watched.{FailsBy}

-- to run out of memory is no failed read
pub failed-memory : {T : Type 0} (r : Result T TextFault) (old new : Bool) → IfErr r (λ e. e ≡ Memory) → new ≡ old
    → FailsBy Input r old new
failed-memory (Ok x) old new is same = same
failed-memory (Err e) old new is same = λ input. (let no : Input ≡ Memory = sym input ∙ is in absurd cc)
