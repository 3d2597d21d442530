-- What waits of the flows up to a place, with the flow there.
use Rattle.std.proofs.Common.{◌≡◌, ◌∙◌, ℕ, ◌+◌, ◌<◌, ◌≤◌, nat_lt, List, take, length, get_or, slice_get}
use Rattle.std.proofs.Common.{Option, None, Some, option_map, unwrap_or, count_by, sum_by, refl, ap}
use Rattle.std.proofs.lemmas.Bool.{le-ltb, lt-ltb}
use Rattle.std.proofs.lemmas.List.Sums.{sum_by_more, count_by_more_yes, count_by_more_no}
use Rattle.std.proofs.lemmas.Option.{get_or_from_slice_get}
use Rattle.flow_book.specs.Flows.{LiveFlow, outstanding}

-- the flow at a place, of which so many bytes are outstanding
record Stands (flows : List LiveFlow) (i n : ℕ) : Type 0 where
  flow : LiveFlow
  at : get_or flows i flow ≡ flow
  bytes : outstanding flow ≡ n

stands_as : (flows : List LiveFlow) (i n : ℕ) (o : Option LiveFlow) → slice_get flows i ≡ o
    → option_map outstanding o ≡ Some n → Stands flows i n
stands_as flows i n None at is = absurd (let no : None ≡ Some n = is in cc)
stands_as flows i n (Some f) at is =
    record { flow = f; at = get_or_from_slice_get flows i f f at; bytes = ap (λ o. unwrap_or o 0) is }

module _ (flows : List LiveFlow) (i n : ℕ) (within : i < length flows)
    (is : option_map outstanding (slice_get flows i) ≡ Some n) where
  stands : Stands flows i n
  stands = stands_as flows i n (slice_get flows i) refl is

  here : outstanding (get_or flows i stands.flow) ≡ n
  here = ap outstanding stands.at ∙ stands.bytes

  -- the bytes outstanding
  pub bytes-next : sum_by outstanding (take (i + 1) flows) ≡ sum_by outstanding (take i flows) + n
  bytes-next = sum_by_more outstanding flows i stands.flow within ∙ ap (λ k. sum_by outstanding (take i flows) + k) here

  -- the flows that wait: it is one
  pub flows-waits : 0 < n → count_by (λ f. nat_lt 0 (outstanding f)) (take (i + 1) flows)
      ≡ count_by (λ f. nat_lt 0 (outstanding f)) (take i flows) + 1
  flows-waits some = count_by_more_yes (λ (f : LiveFlow). nat_lt 0 (outstanding f)) flows i stands.flow within
      (ap (λ k. nat_lt 0 k) here ∙ lt-ltb 0 n some)

  -- or not
  pub flows-none : n ≤ 0 → count_by (λ f. nat_lt 0 (outstanding f)) (take (i + 1) flows)
      ≡ count_by (λ f. nat_lt 0 (outstanding f)) (take i flows)
  flows-none none = count_by_more_no (λ (f : LiveFlow). nat_lt 0 (outstanding f)) flows i stands.flow within
      (ap (λ k. nat_lt 0 k) here ∙ le-ltb 0 n none)
