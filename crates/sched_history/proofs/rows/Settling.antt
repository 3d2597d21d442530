-- Worked histories of settling: the MAP with a new UCD count has no request region, nor have those near behind it.
use Rattle.std.proofs.Common.{◌≡◌, ℕ, true, false, List, [], ◌∷◌, map, refl, ◌∙◌, lit<}
use Rattle.minislots.specs.declared.config.Config.{Config}
use Rattle.map_codec.specs.Element.{word_of}
use Rattle.sched_calls.proofs.Base.{base}
use Rattle.sched_calls.proofs.BaseMaps.{element, base_map, first_map}
use Rattle.sched_calls.specs.declared.frame_map.FrameMap.{FrameMap}
use Rattle.sched_calls.specs.declared.opportunity.Header.{Header}
use Rattle.sched_calls.specs.declared.opportunity.Usage.TheVariants.{Initial}
use Rattle.sched_calls.specs.Header.{header_of}
use Rattle.map_build.specs.Plan.{demand_at, settling, IsPlan}
use Rattle.map_build.proofs.IdleFrame.{IsLawfulMap-idle}
use Rattle.map_build.proofs.RowsOffers.{initial}
use Rattle.sched_calls.specs.declared.call.Call.TheVariants as calls
use Rattle.sched_calls.specs.declared.reply.Refusal.TheVariants.{BadBackoff}
use Rattle.sched_calls.specs.declared.reply.Reply.TheVariants.{Built, Noted, Refused, Reserved, Skipped}
use Rattle.sched_calls.specs.declared.reply.Entry.{Entry}
use Rattle.sched_history.specs.Reserves.{reserves_of}
use Rattle.sched_history.specs.Settling.{count_after, changes_of, settles_after}
use Rattle.sched_history.specs.History.{IsStep, IsLegal}
use Rattle.sched_history.specs.Facts.{HoldsAfter}
use Rattle.sched_history.proofs.lives.LiveFlows.{flows_of-none, table_of-none}
use Rattle.sched_history.proofs.reserves.ReservesAfter.{reserves_of-built}
use Rattle.sched_history.proofs.reserves.Idle.{reserves_behind-settled}
use Rattle.sched_history.proofs.rows.NextMap.{IsNextMap-from_lawful}
use Rattle.sched_history.proofs.rows.TwoMaps.{entry}

-- a MAP settles that starts less than so many minislots behind one that changes
abbrev settles_for : ℕ → Config
settles_for settle = record base { settle = settle }

-- the header of the UCD count 2
abbrev header : Header
header = record (header_of base) { ucd_count = 2 }

abbrev set : Entry
set = entry 0 (calls.Header header) Noted

-- a MAP of that count
abbrev with_count : FrameMap → FrameMap
with_count m = record m { wire = record m.wire { ucd_count = 2 } }

-- a MAP that settles
abbrev quiet : ℕ → FrameMap
quiet start = with_count (base_map start 800 (element 0 6 0 ∷ element 0 7 40 ∷ []) (0 ∷ 0 ∷ []))

-- and one that does not, of an idle frame
abbrev idle : ℕ → FrameMap
idle start =
    with_count (base_map start 800 (element 0x3fff 1 0 ∷ element 0 6 4 ∷ element 0 7 40 ∷ []) (0 ∷ 0 ∷ 0 ∷ []))

abbrev changed : Entry
changed = entry 1 (calls.Build 760) (Built (quiet 800))

-- a MAP that settles has no plan
nothing-planned : (c : Config) (start : ℕ) → IsPlan c (settling (demand_at [] [] [] start)) []
nothing-planned c start = record {
  each = tt;
  whole = λ lasts. absurd cc;
  due = λ lasts. absurd cc;
  quiet = λ settles. refl;
}

-- the MAP that has the new count settles
the_map_that_changes_settles : IsStep (settles_for 40) (set ∷ []) (calls.Build 760) (Built (quiet 800))
the_map_that_changes_settles = (
  quiet 800,
  IsNextMap-from_lawful (settles_for 40) (set ∷ []) [] [] (quiet 800)
      (flows_of-none (settles_for 40) (set ∷ []) (λ sid. refl)) (table_of-none (set ∷ []) (λ sid. refl)) refl
      ([], nothing-planned (settles_for 40) 800, refl),
  refl,
)

-- it has an idle in the place of the request region, and nothing else
the_words_of_a_map_that_settles : map word_of (quiet 800).wire.elements ≡ 0x00018000 ∷ 0x0001c028 ∷ []
the_words_of_a_map_that_settles = refl

-- a frame later the request region is there again
the_next_map_has_its_request_region : IsStep (settles_for 40) (set ∷ changed ∷ []) (calls.Build 800) (Built (idle 840))
the_next_map_has_its_request_region = (
  idle 840,
  IsNextMap-from_lawful (settles_for 40) (set ∷ changed ∷ []) [] [] (idle 840)
      (flows_of-none (settles_for 40) (set ∷ changed ∷ []) (λ sid. refl))
      (table_of-none (set ∷ changed ∷ []) (λ sid. refl)) refl
      (IsLawfulMap-idle (settles_for 40) header 840 800 (lit< tt)),
  refl,
)

the_words_of_the_next_map : map word_of (idle 840).wire.elements ≡ 0xfffc4000 ∷ 0x00018004 ∷ 0x0001c028 ∷ []
the_words_of_the_next_map = refl

-- the history is legal
pub a_map_settles_for_a_frame : IsLegal (settles_for 40)
    (set ∷ changed ∷ entry 2 (calls.Build 800) (Built (idle 840)) ∷ [])
a_map_settles_for_a_frame = (refl, (the_map_that_changes_settles, (the_next_map_has_its_request_region, tt)))

-- with a minislot more the next MAP settles too
pub a_map_within_the_time_settles : IsStep (settles_for 41) (set ∷ changed ∷ []) (calls.Build 800) (Built (quiet 840))
a_map_within_the_time_settles = (
  quiet 840,
  IsNextMap-from_lawful (settles_for 41) (set ∷ changed ∷ []) [] [] (quiet 840)
      (flows_of-none (settles_for 41) (set ∷ changed ∷ []) (λ sid. refl))
      (table_of-none (set ∷ changed ∷ []) (λ sid. refl)) refl ([], nothing-planned (settles_for 41) 840, refl),
  refl,
)

-- what a skip leaves out counts as time
pub a_map_behind_a_skip_does_not_settle :
    settles_after (settles_for 41) (set ∷ changed ∷ entry 2 (calls.Skip 801) (Skipped 880) ∷ []) ≡ false
a_map_behind_a_skip_does_not_settle = refl

-- a header that no MAP had changes nothing
pub a_header_that_is_taken_back_changes_nothing :
    settles_after (settles_for 41) (set ∷ entry 1 (calls.Header (header_of base)) Noted ∷ []) ≡ false
a_header_that_is_taken_back_changes_nothing = refl

-- a refused header neither
pub a_refused_header_settles_nothing :
    settles_after (settles_for 41) (entry 1 (calls.Header header) (Refused BadBackoff) ∷ []) ≡ false
a_refused_header_settles_nothing = refl

-- the first MAP of a count changes, and the next of the same does not
pub a_change_is_one_map : changes_of base (set ∷ changed ∷ entry 2 (calls.Build 800) (Built (quiet 840)) ∷ [])
    ≡ 800 ∷ []
a_change_is_one_map = refl

-- back to the count of the configuration is a change too
pub a_count_that_comes_back_changes :
    changes_of base (set ∷ changed ∷ entry 2 (calls.Build 800) (Built first_map) ∷ []) ≡ 800 ∷ 800 ∷ []
a_count_that_comes_back_changes = refl

-- before any MAP the count is the configuration's, whatever is set
pub a_header_alone_is_no_count : count_after base (set ∷ []) ≡ 1
a_header_alone_is_no_count = refl

-- where nothing settles a new count changes nothing
pub nothing_settles_for_no_time : settles_after base (set ∷ []) ≡ false
nothing_settles_for_no_time = refl

-- a Reserve is no older behind a MAP that settles
pub a_map_that_settles_ages_no_reserve :
    reserves_of (settles_for 40) (entry 0 (calls.Reserve Initial 8) Reserved ∷ set ∷ changed ∷ [])
    ≡ record { opportunity = initial 8; maps = 0 } ∷ []
a_map_that_settles_ages_no_reserve =
    let before : List Entry = entry 0 (calls.Reserve Initial 8) Reserved ∷ set ∷ [] in
    reserves_of-built (settles_for 40) before changed (quiet 800) refl
    ∙ reserves_behind-settled (settles_for 40) before (quiet 800).wire.elements
    (reserves_of (settles_for 40) before) refl

-- a MAP that is to settle has no request region
pub a_request_region_that_is_to_settle_is_refused :
    HoldsAfter (settles_for 40) (set ∷ entry 1 (calls.Build 760) (Built (idle 800)) ∷ []) → ⊥
a_request_region_that_is_to_settle_is_refused holds =
    absurd (let is : false ≡ true = holds.settles.1.0 in cc)

-- and one that is not to settle has it
pub a_map_without_its_request_region_is_refused :
    HoldsAfter (settles_for 40) (entry 0 (calls.Build 760) (Built (quiet 800)) ∷ []) → ⊥
a_map_without_its_request_region_is_refused holds = absurd (let is : true ≡ false = holds.settles.0 in cc)
