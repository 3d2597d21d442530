-- Bytes without a newline are a line, where there are any.
use Rattle.std.proofs.Common.{◌≡◌, ℕ, false, List, [], ◌∷◌, length, sym, ◌∙◌}
use Rattle.std.specs.Prelude.{◌≢◌, ◌==◌}
use Rattle.text_stream.proofs.Taking.{lines_of-last}
use Rattle.check_lines.proofs.lines.last_line.Goals as goal

some : (bytes : List ℕ) → (length bytes == 0) ≡ false → bytes ≢ []
some [] e none = (cc)
some (b ∷ bytes) e none = (cc)

pub returns-clause-parts : goal.returns-clause-parts
returns-clause-parts c =
    lines_of-last c.args.bytes.now (some c.args.bytes.now (sym c.is_empty.ensures ∙ c.if-is_empty.false)) c.requires
