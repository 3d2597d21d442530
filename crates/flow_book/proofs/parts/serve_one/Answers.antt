-- It is served, and its SID is told by its turn.
use Rattle.flow_book.proofs.parts.serve_one.Goals as goal

pub returns : goal.returns
returns c =
    let s = c.serve-bytes.ensures in
    record {
      amount = s.bytes;
      wants = s.wants;
      place = s.place;
      limits = s.limits;
      settled = s.settled;
      tier = s.spent;
      turn = s.turn;
      later = s.later;
      is = c.sid.ensures;
    }
