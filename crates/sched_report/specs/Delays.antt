-- The requests of a flow, the data grants that serve them, and how long that takes.
use Rattle.std.specs.Prelude.{◌≡◌, ℕ, ◌+◌, ◌-◌, ◌&&◌, min, max, nat_le, not, Bool, List, [], ◌∷◌, length, count_by}
use Rattle.std.specs.Prelude.{filter_map, Option, None, Some, is_none, option_map, if◌then◌else◌}
use Rattle.std.specs.Option.{option_map_or}
use Rattle.minislots.specs.declared.config.Config.{Config}
use Rattle.minislots.specs.Units.{slots_for}
use Rattle.flow_book.specs.declared.flow.Grant.{Grant}
use Rattle.flow_book.specs.Flows.{bytes_of}
use Rattle.sched_report.specs.declared.service.Delays.{Delays}
use Rattle.sched_report.specs.declared.service.Sums.{Sums}

-- A request as it stands in the life of its flow: the bytes that the flow had asked with it, the minislot at which it
-- was heard, the data grants of the life up to the next request that supersedes those before, and whether there is one
pub record Claim : Type 0 where
  pub upto : ℕ
  pub heard : ℕ
  pub grants : List Grant
  pub superseded : Bool

-- the first data grant with which so many bytes are granted
abbrev pub reaching : ℕ → List Grant → Option Grant
reaching bytes [] = None
reaching bytes (g ∷ grants) = if nat_le bytes g.bytes then Some g else reaching (bytes - g.bytes) grants

-- the minislots from where a request was heard to the end of a data grant
abbrev pub delay_until : Config → ℕ → Grant → ℕ
delay_until c heard g = g.start + slots_for c g.bytes - heard

-- the delay of a request, where a data grant serves it before it is superseded
abbrev pub delay_of : Config → Claim → Option ℕ
delay_of c m = option_map (delay_until c m.heard) (reaching m.upto m.grants)

-- the delays of the requests that were served, in the order in which they were asked
abbrev pub delays_of : Config → List Claim → List ℕ
delays_of c claims = filter_map (delay_of c) claims

-- how many requests were replaced: superseded before a data grant served them
abbrev pub replaced_of : Config → List Claim → ℕ
replaced_of c claims = count_by (λ m. m.superseded && is_none (delay_of c m)) claims

-- how many requests neither were superseded nor did a data grant serve
abbrev pub unserved_of : Config → List Claim → ℕ
unserved_of c claims = count_by (λ m. not m.superseded && is_none (delay_of c m)) claims

-- the least of some numbers, where there are any
abbrev pub least_of : List ℕ → Option ℕ
least_of [] = None
least_of (n ∷ ns) = Some (option_map_or (λ least. min n least) (least_of ns) n)

-- the greatest of them
abbrev pub greatest_of : List ℕ → Option ℕ
greatest_of [] = None
greatest_of (n ∷ ns) = Some (option_map_or (λ greatest. max n greatest) (greatest_of ns) n)

-- the delays are so many, and these are the least and the greatest of them
pub record AreDelays (d : Delays) (delays : List ℕ) : Type 0 where
  pub served : d.served ≡ length delays
  pub least : d.least ≡ least_of delays
  pub greatest : d.greatest ≡ greatest_of delays

-- these are the sums of the requests of a flow that asked so many bytes, and of its data grants
pub record AreSums (c : Config) (s : Sums) (claims : List Claim) (bytes : ℕ) (grants : List Grant) : Type 0 where
  pub asks : s.asks ≡ length claims
  pub asked : s.asked ≡ bytes
  pub granted : s.granted ≡ bytes_of grants
  pub replaced : s.replaced ≡ replaced_of c claims
  pub delays : AreDelays s.delays (delays_of c claims)
