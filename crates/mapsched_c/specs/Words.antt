-- What the exports say in words: the version, what a status says, and what a refusal means.
use Rattle.std.specs.Prelude.{◌≡◌, ℕ, ◌-◌, List, [], ◌∷◌, codes, nat_lt, if◌then◌else◌, Option, None, Some}
use Rattle.std.specs.List.{slice_get}
use Rattle.sched_calls.specs.declared.reply.Refusal.{Refusal}
use Rattle.sched_lines.specs.Meaning.{meaning_of}
use Rattle.history_reading.specs.Refusals.{refusal_with}
use Rattle.mapsched_c.specs.declared.status.TheConstants.{NO_WORDS, BAD_CONFIG, BAD_PAYLOAD, BAD_MAP, BAD_REQUEST}
use Rattle.mapsched_c.specs.Text.{GivesText}
use Rattle.mapsched_c.specs.Journal.{GivesTextOrNone}

-- the version
abbrev pub version : List ℕ
version = codes "0.2.0"

-- what the statuses up to the first group say, by their numbers from 0
abbrev pub status_texts : List (List ℕ)
status_texts =
    codes "ok" ∷ codes "no scheduler" ∷ codes "a scheduler already" ∷ codes "no such call" ∷ codes "history full"
    ∷ codes "out of memory" ∷ codes "no such entry" ∷ codes "no room" ∷ codes "illegal" ∷ codes "text too long"
    ∷ codes "not json" ∷ codes "no history" ∷ codes "no ticket" ∷ codes "not served" ∷ codes "has a ticket"
    ∷ codes "no seat" ∷ codes "workers left" ∷ codes "seats" ∷ codes "not kept" ∷ codes "no turn" ∷ codes "keeps all"
    ∷ codes "no such number" ∷ []

-- the fields of a configuration that can be wrong, by their numbers from 1
abbrev pub field_names : List (List ℕ)
field_names =
    codes "ticks" ∷ codes "bytes_per_slot" ∷ codes "overhead" ∷ codes "frame" ∷ codes "cycle" ∷ codes "req_slots"
    ∷ codes "poll_slots" ∷ codes "lead" ∷ codes "short_max" ∷ codes "quantum" ∷ codes "grant_cap" ∷ codes "receivers"
    ∷ codes "calls" ∷ codes "start" ∷ codes "ranging_start" ∷ codes "ranging_end" ∷ codes "data_start"
    ∷ codes "data_end" ∷ codes "phy" ∷ codes "bursts" ∷ codes "flows" ∷ codes "pending" ∷ codes "periodic"
    ∷ codes "open_idle" ∷ codes "settle" ∷ []

-- what the faults of a payload say, by their numbers from 1
abbrev pub payload_texts : List (List ℕ)
payload_texts =
    codes "too short" ∷ codes "too many elements" ∷ codes "wrong length" ∷ codes "an expansion" ∷ codes "a descent"
    ∷ codes "no null" ∷ codes "a second null" ∷ []

-- those of numbers that are no MAP
abbrev pub map_texts : List (List ℕ)
map_texts =
    codes "too many elements" ∷ codes "out of range" ∷ codes "a descent" ∷ codes "no null" ∷ codes "a second null"
    ∷ []

-- those of bytes that are no request frame
abbrev pub request_texts : List (List ℕ)
request_texts =
    codes "length" ∷ codes "kind" ∷ codes "sid" ∷ codes "hcs" ∷ []

-- the text of a fault whose number, from 1, is added to that of its group
abbrev pub text_behind : ℕ → List (List ℕ) → ℕ → Option (List ℕ)
text_behind group texts n = if nat_lt group n then slice_get texts (n - group - 1) else None

-- the text of a fault, whose group is added to its number
unfoldable pub fault_text : ℕ → Option (List ℕ)
fault_text n =
    if nat_lt n BAD_PAYLOAD then text_behind BAD_CONFIG field_names n
    else if nat_lt n BAD_MAP then text_behind BAD_PAYLOAD payload_texts n
    else if nat_lt n BAD_REQUEST then text_behind BAD_MAP map_texts n
    else text_behind BAD_REQUEST request_texts n

-- what a status says: one below the groups by its own number, the others by that of their fault
unfoldable pub status_words : ℕ → Option (List ℕ)
status_words n = if nat_lt n BAD_CONFIG then slice_get status_texts n else fault_text n

-- the words are given, where there are any; else nothing is written
abbrev pub GivesWords : Option (List ℕ) → ℕ → List ℕ → List ℕ → ℕ → ℕ → Type 0
GivesWords None status before after untold told = (status ≡ NO_WORDS) × (after ≡ before) × (told ≡ untold)
GivesWords (Some words) status before after untold told = GivesText words status before after told

-- the first that is there
abbrev pub first_of : Option Refusal → Option Refusal → Option Refusal
first_of None other = other
first_of (Some refusal) other = Some refusal

-- the refusal of this number: one without a value, or the one with this
abbrev pub refusal_told : ℕ → ℕ → Option Refusal
refusal_told n value = first_of (refusal_with n None) (refusal_with n (Some value))

-- what a refusal means is given, or memory ran out; where there is no refusal nothing is written
abbrev pub GivesMeaning : Option Refusal → ℕ → List ℕ → List ℕ → ℕ → ℕ → Type 0
GivesMeaning None status before after untold told = (status ≡ NO_WORDS) × (after ≡ before) × (told ≡ untold)
GivesMeaning (Some refusal) status before after untold told =
    GivesTextOrNone (meaning_of refusal) status before after untold told
