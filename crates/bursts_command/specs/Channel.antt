-- The channel that a document is about.
use Rattle.std.specs.Prelude.{◌≡◌, ℕ, nat_lt, if◌then◌else◌, List, length, codes, Option, option_and_then}
use Rattle.std.specs.Prelude.{ok_or, Result, Err}
use Rattle.serde_json.specs.Data.{Data}
use Rattle.serde_json.specs.Find.{get}
use Rattle.minislots.specs.declared.bursts.Profile.{Profile}
use Rattle.minislots.specs.Config.{first_wrong}
use Rattle.text_stream.specs.declared.input.TheConstants.{MAX_INPUT}
use Rattle.text_stream.specs.declared.fault.TextFault.{TextFault}
use Rattle.text_stream.specs.declared.fault.TextFault.TheVariants.{Input, TooLong, NotJson, Shape, Config, Memory}
use Rattle.text_stream.specs.declared.fault.TextFault.TheVariants.{Output}
use Rattle.text_stream.specs.Input.{value_of, ReadsAll, ReadsTooMany}
use Rattle.text_stream.specs.Outcome.{◌>>=◌, unless_wrong}
use Rattle.json_fields.specs.Fields.{profile_of, config_of}
use Rattle.bursts_command.specs.declared.channel.Channel.{Channel}

-- the burst profile of requests among the burst descriptors of a document's configuration
unfoldable pub request_of : Data → Option Profile
request_of d =
    option_and_then profile_of
    (option_and_then (get (codes "request")) (option_and_then (get (codes "bursts")) (get (codes "config") d)))

-- the channel of a document: its configuration, where that is lawful, and the profile of requests
unfoldable pub channel_of : Data → Result Channel TextFault
channel_of d = do
  config ← ok_or (option_and_then config_of (get (codes "config") d)) (Shape 0)
  unless_wrong (first_wrong config) (record { config = config; request = request_of d })

-- the channel of the document that bytes are the text of
unfoldable pub channel_in : List ℕ → Result Channel TextFault
channel_in bytes = value_of bytes >>= channel_of

-- what the bytes of an input stand for
unfoldable pub channel_outcome : List ℕ → Result Channel TextFault
channel_outcome bytes = if nat_lt MAX_INPUT (length bytes) then Err TooLong else channel_in bytes

-- the bytes of a reader, all of them, stand for this channel, or have this fault
pub record GivesChannel (old new : Option (List ℕ)) (outcome : Result Channel TextFault) : Type 0 where
  pub bytes : List ℕ
  pub all : ReadsAll old new bytes
  pub outcome_is : channel_outcome bytes ≡ outcome

-- why there is no channel: lack of memory and a failed read tell nothing more
abbrev pub StopsChannel : Option (List ℕ) → Option (List ℕ) → TextFault → Type 0
StopsChannel old new Input = Unit {0}
StopsChannel old new TooLong = ReadsTooMany old new
StopsChannel old new NotJson = GivesChannel old new (Err NotJson)
StopsChannel old new (Shape n) = GivesChannel old new (Err (Shape n))
StopsChannel old new (Config field) = GivesChannel old new (Err (Config field))
StopsChannel old new Memory = Unit {0}
StopsChannel old new Output = ⊥
