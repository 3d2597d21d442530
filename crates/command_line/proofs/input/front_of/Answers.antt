-- As many bytes as there are, at most.
use Rattle.std.proofs.Common.{◌∙◌, ap, take}
use Rattle.std.proofs.lemmas.List.{take_min}
use Rattle.command_line.proofs.input.front_of.Goals as goal

pub returns : goal.returns
returns c = ap (λ k. take k c.args.bytes.now) c.min.ensures ∙ take_min c.args.most c.args.bytes.now
