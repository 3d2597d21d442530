-- What is told of one life of a flow.
use Rattle.std.specs.Prelude.{◌≡◌, ℕ, ◌*◌, ◌<◌, ◌≤◌, ◌^◌, false, List, [], ◌∷◌, ◌++◌, length, take, None, Some}
use Rattle.std.specs.Prelude.{if◌then◌else◌}
use Rattle.minislots.specs.declared.config.Config.{Config}
use Rattle.minislots.specs.Config.{IsLawful}
use Rattle.flow_book.specs.declared.flow.Grant.{Grant}
use Rattle.flow_book.specs.Flows.{bytes_of}
use Rattle.map_build.specs.declared.met.Met.{Met}
use Rattle.sched_calls.specs.declared.frame_map.FrameMap.{FrameMap}
use Rattle.sched_calls.specs.declared.reply.Reply.TheVariants.{Built}
use Rattle.sched_calls.specs.declared.reply.Entry.{Entry}
use Rattle.sched_calls.specs.declared.reply.TheConstants.{MAX_WHOLE_HISTORY}
use Rattle.sched_history.specs.Life.{asked_in, grants_since}
use Rattle.sched_history.specs.Facts.{IsOrderly}
use Rattle.sched_history.specs.Reserves.{met_after}
use Rattle.sched_history.specs.Time.{next_after}
use Rattle.sched_report.specs.declared.service.Service.{Service}
use Rattle.sched_report.specs.declared.life.LifeTally.{LifeTally}
use Rattle.sched_report.specs.Delays.{Claim}
use Rattle.sched_report.specs.Served.{IsServiceOf, IsServiceAfter, HasRoom}
use Rattle.sched_report.specs.Lives.{PastLife, is_turn, is_told, spec_of}
use Rattle.sched_report.specs.Said.{unsolicited_in, granted_before, carried_in}

-- What is told is of this life: it lived from the next frame at its admission, or where what is told begins, to the
-- next frame at its end, and asked and was granted what the entries in between have
pub record IsLifeOf (c : Config) (t : LifeTally) (life : PastLife) : Type 0 where
  pub sid : t.sid ≡ life.sid
  pub spec : t.spec ≡ spec_of life
  pub from : t.beginning.from ≡ next_after c (life.upto ++ take life.passed life.since)
  pub to : t.to ≡ (if life.ended then Some (next_after c (life.upto ++ life.since)) else None)
  pub service : IsServiceAfter c t.service life.sid life.passed life.since
  pub before : t.beginning.granted ≡ granted_before life
  pub carried : t.beginning.carried ≡ carried_in c life
  pub told : t.beginning.is_live ≡ is_told life
  pub few : length life.since ≤ MAX_WHOLE_HISTORY
  pub unsolicited : t.unsolicited ≡ unsolicited_in c life
  pub bounded : t.unsolicited ≤ 240 * 2 ^ 32 * length life.since

-- there is room for one request more
abbrev pub HasRoomFor : LifeTally → Type 0
HasRoomFor t = HasRoom t.service

-- The entry may follow a life that has not ended: the next frame starts there, and no more is granted than was asked
pub record MayNote (c : Config) (life : PastLife) (slot : ℕ) (e : Entry) : Type 0 where
  pub lawful : IsLawful c
  pub few : length life.since < MAX_WHOLE_HISTORY
  pub passed : life.ended ≡ false → life.passed ≤ length life.since
  pub next : life.ended ≡ false → slot ≡ next_after c (life.upto ++ life.since)
  pub within : life.ended ≡ false → is_turn life.sid e ≡ false
      → (bytes_of (grants_since life.sid (life.since ++ e ∷ [])) ≤ asked_in c life.sid (life.since ++ e ∷ []))
      × (asked_in c life.sid (life.since ++ e ∷ []) < 2 ^ 64)
  pub start : (m : FrameMap) → e.reply ≡ Built m → m.start < 2 ^ 62
  pub orderly : (m : FrameMap) → e.reply ≡ Built m → IsOrderly c m

-- the MAP of an entry that follows a life that goes on meets these opportunities
abbrev pub Meets : Config → PastLife → Entry → List Met → Type 0
Meets c life e met = life.ended ≡ false → met ≡ met_after c (life.upto ++ life.since) e.reply

-- These data grants may be counted: their bytes were asked
pub record MayGrantAll (c : Config) (s : Service) (more : List Grant) : Type 0 where
  pub claims : List Claim
  pub bytes : ℕ
  pub grants : List Grant
  pub is : IsServiceOf c s claims bytes grants
  pub lawful : IsLawful c
  pub few : length claims ≤ 2 ^ 44
  pub fits : bytes < 2 ^ 64
  pub within : bytes_of (grants ++ more) ≤ bytes
