-- Worked histories of open idles: an idle in which a request fits stands as a request region.
use Rattle.std.proofs.Common.{◌≡◌, [], ◌∷◌, map, refl, lit<}
use Rattle.minislots.specs.declared.config.Config.{Config}
use Rattle.map_codec.specs.Element.{word_of}
use Rattle.sched_calls.proofs.Base.{base}
use Rattle.sched_calls.proofs.BaseMaps.{first_map}
use Rattle.sched_calls.specs.declared.call.Call.TheVariants.{Build}
use Rattle.sched_calls.specs.declared.reply.Reply.TheVariants.{Built}
use Rattle.sched_history.specs.Reserves.{met_after}
use Rattle.sched_history.specs.History.{IsStep}
use Rattle.sched_history.proofs.reserves.Idle.{met_by-none}
use Rattle.sched_history.proofs.rows.NextMap.{idle_map, IsNextMap-idle}

-- idles are open
abbrev opens : Config
opens = record base { open_idle = 1 }

-- the first MAP may follow nothing
pub a_map_with_an_open_idle_may_follow_nothing : IsStep opens [] (Build 760) (Built (idle_map opens 800 800))
a_map_with_an_open_idle_may_follow_nothing =
    (idle_map opens 800 800, IsNextMap-idle opens [] (lit< tt) (λ sid. refl) refl refl refl, refl)

-- its idle is to all modems
the_words_of_an_open_idle : map word_of (idle_map opens 800 800).wire.elements
    ≡ 0xfffc4000 ∷ 0xfffc4004 ∷ 0x0001c028 ∷ []
the_words_of_an_open_idle = refl

-- where idles are not open it is to nobody
the_words_of_an_idle : map word_of first_map.wire.elements ≡ 0xfffc4000 ∷ 0x00018004 ∷ 0x0001c028 ∷ []
the_words_of_an_idle = refl

-- an open idle is no opportunity
pub an_open_idle_is_no_opportunity : met_after opens [] (Built (idle_map opens 800 800)) ≡ []
an_open_idle_is_no_opportunity = met_by-none opens [] (idle_map opens 800 800).wire.elements
