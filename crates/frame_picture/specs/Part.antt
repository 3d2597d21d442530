-- A part of a history in which all frames are that are drawn.
use Rattle.std.specs.Prelude.{◌≡◌, ℕ, ◌-◌, ◌≤◌, ◌<◌, List, [], ◌∷◌, ◌++◌, length}
use Rattle.std.specs.List.{AllByRecursion}
use Rattle.minislots.specs.declared.config.Config.{Config}
use Rattle.map_build.specs.declared.met.Met.{Met}
use Rattle.sched_calls.specs.declared.reply.Entry.{Entry}
use Rattle.sched_calls.specs.declared.reply.Reply.{Reply}
use Rattle.sched_calls.specs.declared.reply.TheConstants.{MAX_ENTRIES, MAX_WHOLE_HISTORY}
use Rattle.sched_calls.specs.Reply.{IsEncodable}
use Rattle.sched_history.specs.History.{IsLegal}
use Rattle.frame_picture.specs.declared.along.Along.{Along}
use Rattle.frame_picture.specs.declared.layout.Scale.{Scale}
use Rattle.frame_picture.specs.declared.part.Part.{Part}
use Rattle.frame_picture.specs.declared.span.Span.{Span}
use Rattle.frame_picture.specs.Layout.{scale_of}
use Rattle.frame_picture.specs.Along.{IsAlong}
use Rattle.frame_picture.specs.Frames.{frames_of, frames_in}
use Rattle.frame_picture.specs.Meeting.{met_by_each, met_lists, TellsMet}

-- A history has so many frames, and these entries, behind some of which it is known what they tell, have all of them
-- that are drawn; and it is told what each of them meets
pub record IsPart (scale : Scale) (met : List Entry → Reply → List Met) (span : Span) (along : Along) (total : ℕ)
    (found : List (List Met)) (kept h : List Entry) : Type 0 where
  pub before : List Entry
  pub known : IsAlong scale along before
  pub early : along.number ≤ span.from
  pub within : along.number ≤ total
  pub drawn : frames_in span (frames_of (before ++ kept)) ≡ frames_in span (frames_of h)
  pub count : total ≡ length (frames_of h)
  pub tells : TellsMet met before kept found

-- The entries of a history came one by one: as long as the first frame that is drawn does not come nothing is kept, and
-- then all entries are, up to the last frame that is drawn, each with what it meets
pub record Keeps (c : Config) (span : Span) (along : Along) (total : ℕ) (found : List (List Met))
    (kept h : List Entry) : Type 0 where
  pub before : List Entry
  pub known : IsAlong (scale_of c) along before
  pub early : along.number ≤ span.from
  pub within : along.number ≤ total
  pub drawn : frames_in span (frames_of (before ++ kept)) ≡ frames_in span (frames_of h)
  pub count : total ≡ length (frames_of h)
  pub ahead : total < span.from → (before ≡ h) × (kept ≡ [])
  pub inside : total - span.from < span.count → before ++ kept ≡ h
  pub reached : 0 < length kept → span.from ≤ along.number
  pub few : length kept ≤ MAX_ENTRIES
  pub whole : AllByRecursion (λ e. IsEncodable e.reply) kept
  pub meets : found ≡ met_by_each c before kept

-- The entries came to a part, which has judged each: they are legal
pub record HasTaken (part : Part) : Type 0 where
  pub config : part.auditor.config ≡ part.config
  pub legal : IsLegal part.config part.auditor.history
  pub most : length part.auditor.history ≤ MAX_WHOLE_HISTORY
  pub keeps : Keeps part.config part.span part.along part.total (met_lists part.met.items) part.kept.items
      part.auditor.history

-- As many entries as a picture may have stand behind the frames before those that are drawn, and one more, with a frame
-- that is drawn still to come
pub record HasManyDrawn (span : Span) (h : List Entry) : Type 0 where
  pub before : List Entry
  pub among : List Entry
  pub last : Entry
  pub all : h ≡ (before ++ among) ++ last ∷ []
  pub reached : length (frames_of before) ≡ span.from
  pub inside : length (frames_of (before ++ among)) - span.from < span.count
  pub many : MAX_ENTRIES ≤ length among
