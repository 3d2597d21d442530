-- The front of many spaces is so many spaces.
use Rattle.std.proofs.Common.{ℕ, ◌++◌, ap, ◌∙◌, List}
use Rattle.std.proofs.lemmas.List.{take-replicate}
use Rattle.text_stream.proofs.Written.{where_ok}
use Rattle.bursts_command.proofs.text.push_spaces.Goals as goal

pub returns : goal.returns
returns c =
    where_ok c.push_text.result
    (λ more. more ∙ ap (λ (t : List ℕ). c.args.words.now.items ++ t) (take-replicate c.args.count 12 32 c.requires))
    c.push_text.ensures
