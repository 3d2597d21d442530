-- As many bytes as are looked at.
use Rattle.check_lines.proofs.Fronts.{first-shown}
use Rattle.check_lines.proofs.front.Front.first.Goals as goal

pub returns : goal.returns
returns g c =
    first-shown c.deref.result.now c.args.self.now.bytes.items c.args.self.now.given c.min.result
    c.deref.ensures.value c.min.ensures
