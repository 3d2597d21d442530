-- The parts of a history that are told of one by one.
use Rattle.std.specs.Prelude.{◌≡◌, ◌⊎◌, ℕ, ◌+◌, ◌-◌, ◌*◌, ◌/◌, ◌%◌, ◌^◌, ◌<◌, ◌≤◌, nat_le, min, max, Bool, true, false}
use Rattle.std.specs.Prelude.{List, [], ◌∷◌, ◌++◌, length, take, codes, if◌then◌else◌}
use Rattle.std.specs.List.{flat_map}
use Rattle.minislots.specs.declared.config.Config.{Config as Configuration}
use Rattle.sched_calls.specs.declared.reply.Entry.{Entry}
use Rattle.sched_lines.specs.Line.{number_line}
use Rattle.sched_report.specs.Window.{Window, whole}
use Rattle.report_command.specs.declared.form.Form.{Form}
use Rattle.report_command.specs.declared.form.Form.TheVariants.{Json, All, Few, Metrics, Picture}
use Rattle.report_command.specs.Range.{ticks_after}
use Rattle.report_command.specs.Form.{Says}

-- how many ticks a part has that has so many milliseconds
abbrev pub part_ticks : ℕ → ℕ
part_ticks every = 160 * every

-- the time at which a part begins that has so many milliseconds, as all have, and has this time
abbrev pub part_start : ℕ → ℕ → ℕ
part_start every ticks = ticks - ticks % part_ticks every

-- and the one at which it ends
abbrev pub part_end : ℕ → ℕ → ℕ
part_end every ticks = part_start every ticks + part_ticks every

-- where the part ends that begins with the entry behind these
abbrev pub end_behind : Configuration → ℕ → List Entry → ℕ
end_behind c every before = part_end every (ticks_after c before)

-- These entries of a history, from this place up to that one, are those of one part so far: at the time of each of them
-- that in which the first one stands is not over
pub record IsPart (c : Configuration) (every : ℕ) (h : List Entry) (from upto : ℕ) : Type 0 where
  pub some : from < upto
  pub few : upto ≤ length h
  pub within : (place : ℕ) → from ≤ place → place < upto
      → ticks_after c (take place h) < end_behind c every (take from h)

-- what is told of the entries from one place of a history up to another
abbrev pub between : Configuration → List Entry → ℕ → ℕ → Window
between c h from upto = record { config = c; history = take upto h; passed = from }

-- the millisecond with which a part begins that ends at this time, as far as 64 bits can count
abbrev pub first_ms : ℕ → ℕ → ℕ
first_ms every end = min ((end - part_ticks every) / 160) (2 ^ 64 - 1)

-- what stands over the report on a part: in tables the millisecond with which it begins
abbrev pub heading : Form → ℕ → List ℕ
heading Json ms = []
heading All ms = number_line (codes "from") ms
heading Few ms = number_line (codes "from") ms
heading Metrics ms = []
heading Picture ms = []

-- A text tells of the entries from one place up to another, by which a part begins: its heading, and their report
pub record SaysPart (form : Form) (c : Configuration) (every : ℕ) (h : List Entry) (from upto : ℕ) (text : List ℕ)
    : Type 0 where
  pub report : List ℕ
  pub says : Says form (between c h from upto) report
  pub is : text ≡ heading form (first_ms every (end_behind c every (take from h))) ++ report

-- each text tells of one part, from this place of a history on up to that one: it begins where the one before it ends,
-- and is over where the next one begins
abbrev pub ArePartsTold : Form → Configuration → ℕ → List Entry → ℕ → ℕ → List (List ℕ) → Type 0
ArePartsTold form c every h from upto [] = from ≡ upto
ArePartsTold form c every h from upto (text ∷ texts) = (next : ℕ) × IsPart c every h from next
    × SaysPart form c every h from next text × (end_behind c every (take from h) ≤ ticks_after c (take next h))
    × ArePartsTold form c every h next upto texts

-- no part goes on behind so many entries of a history, or the one does that begins there
abbrev pub GoesOnFrom : Configuration → ℕ → List Entry → ℕ → Type 0
GoesOnFrom c every h from = (from ≡ length h)
    ⊎ (IsPart c every h from (length h) × (ticks_after c h < end_behind c every (take from h)))

-- Each part of a history that is over has been told of, and the one that goes on has not
pub record TellsEnded (form : Form) (c : Configuration) (every : ℕ) (h : List Entry) (text : List ℕ) : Type 0 where
  pub texts : List (List ℕ)
  pub upto : ℕ
  pub told : ArePartsTold form c every h 0 upto texts
  pub rest : GoesOnFrom c every h upto
  pub is : text ≡ flat_map (λ text. text) texts

-- a part that goes on where a history ends has been told of, from this place on, or none goes on
abbrev pub TellsLast : Form → Configuration → ℕ → List Entry → ℕ → List ℕ → Type 0
TellsLast form c every h from text = ((from ≡ length h) × (text ≡ []))
    ⊎ (IsPart c every h from (length h) × SaysPart form c every h from (length h) text)

-- Each part of a history has been told of, also the last one
pub record TellsParts (form : Form) (c : Configuration) (every : ℕ) (h : List Entry) (text : List ℕ) : Type 0 where
  pub texts : List (List ℕ)
  pub upto : ℕ
  pub last : List ℕ
  pub told : ArePartsTold form c every h 0 upto texts
  pub rest : TellsLast form c every h upto last
  pub is : text ≡ flat_map (λ text. text) texts ++ last

-- The length of a part in milliseconds, where the part ends that goes on, and what is told of it
pub record Serial : Type 0 where
  pub every : ℕ
  pub end : ℕ
  pub told : Window

-- before any entry
abbrev pub opened : Configuration → ℕ → Serial
opened c every = record { every = max every 1; end = 0; told = whole c [] }

-- whether no part goes on
abbrev pub is_between : Serial → Bool
is_between s = nat_le s.end (ticks_after s.told.config s.told.history)

-- where none does, one begins with the entry that comes
abbrev pub begun : Serial → Serial
begun s = if is_between s
    then record s {
      end = end_behind s.told.config s.every s.told.history;
      told = record s.told { passed = length s.told.history };
    }
    else s

-- with one entry more, of the part that goes on
abbrev pub with_more : Serial → Entry → Serial
with_more s e = record s { told = record s.told { history = s.told.history ++ e ∷ [] } }

-- with one entry more, with which a part begins where none goes on
abbrev pub with_entry : Serial → Entry → Serial
with_entry s e = with_more (begun s) e

-- what a reporter of parts keeps to
pub record IsSerial (c : Configuration) (every : ℕ) (w : Window) : Type 0 where
  pub config : c ≡ w.config
  pub some : 0 < every

-- Each part that is over has been told of, and what is told now is of the one that goes on
pub record IsTellerOf (form : Form) (s : Serial) (text : List ℕ) : Type 0 where
  pub some : 0 < s.every
  pub texts : List (List ℕ)
  pub upto : ℕ
  pub told : ArePartsTold form s.told.config s.every s.told.history 0 upto texts
  pub is : text ≡ flat_map (λ text. text) texts
  pub between : is_between s ≡ true → upto ≡ length s.told.history
  pub part : is_between s ≡ false → IsPart s.told.config s.every s.told.history upto (length s.told.history)
  pub passed : is_between s ≡ false → s.told.passed ≡ upto
  pub end : is_between s ≡ false → s.end ≡ end_behind s.told.config s.every (take upto s.told.history)
