-- The starts are in turn where those that are left are.
use Rattle.std.proofs.Common.{◌<◌, ◌^◌, drop}
use Rattle.periodic.proofs.Adopting.{IsGoneThrough}
use Rattle.channel_states.specs.Nominal.{IsStartFrom}
use Rattle.channel_states.proofs.place.are_starts_in.Given as goal

abbrev pub invariant-loop-start : goal.invariant-loop-start
invariant-loop-start l = record {
  from : l.from < 2 ^ 17;
  gone : IsGoneThrough (IsStartFrom l.config l.nominal l.offset) l.nominal.slots l.offset l.from l.starts
      (drop l.start-index l.starts);
}
