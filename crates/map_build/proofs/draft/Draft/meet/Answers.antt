-- The mark of the first place that is not met and fits is the draft's from now on.
use Rattle.std.proofs.Common.{refl}
use Rattle.map_build.proofs.Unmet.{Meets-marked}
use Rattle.map_build.proofs.draft.Draft.meet.Goals as goal

pub returns : goal.returns
returns c =
    Meets-marked c.args.waiting.now c.args.room c.in_ok-place.place _ c.args.self.now _ c.in_ok-place.ensures.found refl
    refl refl refl (record { elements = refl; bytes_of = refl; offset = refl })
