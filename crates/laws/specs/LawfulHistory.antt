-- The histories that a scheduler may have.
use Rattle.std.specs.Prelude.{◌^◌, ◌<◌, ◌≤◌, List, length}
use Rattle.minislots.specs.declared.config.Config.{Config}
use Rattle.minislots.specs.Config.{IsLawful}
use Rattle.sched_calls.specs.declared.reply.Entry.{Entry}
use Rattle.sched_calls.specs.declared.reply.TheConstants.{MAX_WHOLE_HISTORY}
use Rattle.sched_history.specs.History.{IsLegal}
use Rattle.history_writing.specs.Fits.{CallFits, ConfigFits}

-- A legal history under a lawful configuration whose numbers fit the types of its fields, with no more entries than a
-- whole history may have
pub record IsLawfulHistory (c : Config) (es : List Entry) : Type 0 where
  pub config_fits : ConfigFits c
  pub lawful : IsLawful c
  pub legal : IsLegal c es
  pub few : length es ≤ MAX_WHOLE_HISTORY

-- The numbers of an entry's stamp and of its call fit the types of their fields; nothing is said of its reply
pub record IsCallOfTypes (e : Entry) : Type 0 where
  pub seat : e.stamp.seat < 2 ^ 32
  pub ticket : e.stamp.ticket < 2 ^ 64
  pub call : CallFits e.call
