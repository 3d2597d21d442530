-- Three pieces, one behind another.
use Rattle.std.proofs.Common.{codes}
use Rattle.text_stream.proofs.Written.{where_ok}
use Rattle.bursts_command.specs.Json.{labelled, request_of_both}
use Rattle.bursts_command.proofs.Ranges.{grown}
use Rattle.bursts_command.proofs.json.push_both.Goals as goal

pub returns : goal.returns
unfolding request_of_both
returns c =
    where_ok c.push_text.result (λ end. grown c.args.words.now.items c.push_labelled.new.words.items
    c.push_labelled-2.new.words.items _ (labelled (codes ",\"request\":{\"6\":") c.args.six)
    (labelled (codes ",\"7\":") c.args.seven) (codes "}") c.in_ok-push_labelled.ensures c.in_ok-push_labelled-2.ensures
    end) c.push_text.ensures
