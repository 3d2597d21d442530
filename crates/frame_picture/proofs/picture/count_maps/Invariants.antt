-- The frames so far.
use Rattle.std.proofs.Common.{◌≡◌, length, take}
use Rattle.frame_picture.specs.Frames.{frames_of}
use Rattle.frame_picture.proofs.picture.count_maps.Given as goal

abbrev pub invariant-loop-entry : goal.invariant-loop-entry
invariant-loop-entry l = l.maps ≡ length (frames_of (take l.entry-index l.entries))
