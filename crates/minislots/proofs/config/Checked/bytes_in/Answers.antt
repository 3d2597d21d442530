-- So many bytes, and no more, are carried.
use Rattle.std.proofs.Common.{◌≡◌}
use Rattle.minislots.specs.Units.{bytes_in}
use Rattle.minislots.proofs.Bounds.{bounds_of}
use Rattle.minislots.proofs.UnitLaws.{carries}
use Rattle.minislots.proofs.config.Checked.bytes_in.Goals as goal

pub returns-in-Described-clause-exact : goal.returns-in-Described-clause-exact
returns-in-Described-clause-exact c =
    carries c.args.self.now (bounds_of c.args.self.now c.as_bursts.ensures.lawful).bursts _ _ c.described_bytes.ensures

pub returns-in-Uniform-clause-exact : goal.returns-in-Uniform-clause-exact
returns-in-Uniform-clause-exact c =
    let is : c.bytes.result ≡ bytes_in c.args.self.now c.args.slots = cc in
    carries c.args.self.now (bounds_of c.args.self.now c.as_bursts.ensures.lawful).bursts _ _ is
