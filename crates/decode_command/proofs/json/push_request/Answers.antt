-- The kind, the line and the two numbers of a request.
use Rattle.text_stream.proofs.Written.{where_ok}
use Rattle.decode_command.proofs.Grown.{grown}
use Rattle.decode_command.proofs.json.push_request.Goals as goal

pub returns-in_ok-push_line-in-Minislots : goal.returns-in_ok-push_line-in-Minislots
returns-in_ok-push_line-in-Minislots c =
    let last = rw c.from.ensures at c.push_both.ensures in
    rw c.in-Minislots.is (where_ok c.push_both.result
    (λ more. grown _ _ _ _ _ _ _ c.in_ok-push_text-in-Minislots.ensures c.in_ok-push_line-in-Minislots.ensures more)
    last)

pub returns-in_ok-push_line-in-Queue : goal.returns-in_ok-push_line-in-Queue
returns-in_ok-push_line-in-Queue c =
    rw c.in-Queue.is (where_ok c.push_both-in-Queue.result
    (λ more. grown _ _ _ _ _ _ _ c.in_ok-push_text-in-Queue.ensures c.in_ok-push_line-in-Queue.ensures more)
    c.push_both-in-Queue.ensures)
