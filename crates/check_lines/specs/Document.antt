-- What is read and written where a file is checked.
use Rattle.std.specs.Prelude.{◌≡◌, ℕ, List, Option, option_map}
use Rattle.std.specs.Io.KnownBytes.{Appends}
use Rattle.text_stream.specs.Input.{ReadsAll, ReadsTooMany}
use Rattle.text_stream.specs.declared.run_fault.RunFault.{RunFault}
use Rattle.check_lines.specs.DocumentKind.{kind_of}
use Rattle.check_lines.specs.declared.form.CheckForm.{CheckForm}
use Rattle.check_lines.specs.Found.{fault_of}
use Rattle.check_lines.specs.Forms.{document_as}
use Rattle.text_stream.specs.declared.fault.TextFault.TheVariants.{Input, TooLong, NotJson, Shape, Config, Memory}
use Rattle.text_stream.specs.declared.fault.TextFault.TheVariants.{Output}
use Rattle.text_stream.specs.declared.run_fault.RunFault.TheVariants.{Text, Threads}

-- the reader's bytes were read, all of them; what is answered is the fault by which the command for such a file ends,
-- if any; and that was written in this form, with words, and nothing else
pub record Checks (form : CheckForm) (unread left written_before written_after : Option (List ℕ))
    (found : Option RunFault) : Type 0 where
  pub bytes : List ℕ
  pub all : ReadsAll unread left bytes
  pub found_is : found ≡ option_map Text (fault_of bytes)
  pub words : List ℕ
  pub written : Appends written_before written_after (document_as form (kind_of bytes) (fault_of bytes) words)

-- why nothing is found: lack of memory and a failed read tell nothing more, and a write is tried only after all bytes
-- were read
abbrev pub StopsCheck : Option (List ℕ) → Option (List ℕ) → RunFault → Type 0
StopsCheck unread left (Text Input) = Unit {0}
StopsCheck unread left (Text TooLong) = ReadsTooMany unread left
StopsCheck unread left (Text NotJson) = ⊥
StopsCheck unread left (Text (Shape n)) = ⊥
StopsCheck unread left (Text (Config field)) = ⊥
StopsCheck unread left (Text Memory) = Unit {0}
StopsCheck unread left (Text Output) = (bytes : List ℕ) × ReadsAll unread left bytes
StopsCheck unread left Threads = ⊥
