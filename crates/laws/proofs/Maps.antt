-- The MAPs of a legal history fit the types of their fields, and are well formed.
use Rattle.std.proofs.Common.{◌≡◌, ℕ, ◌/◌, ◌^◌, ◌<◌, List, [], ◌∷◌, ◌++◌, map, Option, None, Some, refl, sym}
use Rattle.std.proofs.Common.{ap, subst, arith}
use Rattle.std.specs.List.{AllByRecursion}
use Rattle.std.specs.Option.{option_or, option_map, option_map_or}
use Rattle.minislots.specs.declared.config.Config.{Config}
use Rattle.minislots.specs.Config.{IsLawful, HasBounds}
use Rattle.minislots.proofs.Bounds.{bounds_of}
use Rattle.map_codec.specs.WireMap.{FitsHeader}
use Rattle.periodic.proofs.Joined.{all-append}
use Rattle.sched_calls.specs.declared.frame_map.FrameMap.{FrameMap}
use Rattle.sched_calls.specs.declared.opportunity.Header.{Header}
use Rattle.map_build.specs.declared.purpose.Allocation.{Allocation}
use Rattle.map_build.specs.declared.purpose.Purpose.{Purpose}
use Rattle.map_build.specs.declared.purpose.Purpose.TheVariants.{Poll, UnsolicitedGrant, Offer, DataGrant, Idle}
use Rattle.flow_book.proofs.InLine.{ack-most}
use Rattle.map_build.specs.EachAfter.{EachAfter}
use Rattle.sched_calls.specs.Header.{header_of}
use Rattle.map_build.specs.Purpose.{bytes_in}
use Rattle.map_build.specs.Plan.{Demand, Stands, IsOfClass, flows_after}
use Rattle.map_build.specs.FrameMap.{pending, bytes_of_plan}
use Rattle.map_build.proofs.Planned.{plan-within}
use Rattle.map_build.proofs.WellFormed.{AreEncodable, elements_of-encodable}
use Rattle.sched_calls.specs.declared.call.Call.{Call}
use Rattle.sched_calls.specs.declared.call.Call.TheVariants as calls
use Rattle.sched_calls.specs.declared.reply.Reply.{Reply}
use Rattle.sched_calls.specs.declared.reply.Reply.TheVariants as replies
use Rattle.sched_calls.specs.declared.reply.Entry.{Entry}
use Rattle.sched_history.specs.Latest.{Found, latest}
use Rattle.sched_history.specs.Time.{next_after, ack_after}
use Rattle.sched_history.specs.Reserves.{header_by, header_after}
use Rattle.sched_history.specs.History.{IsLegal, IsNextMap, demand_after}
use Rattle.sched_history.proofs.facts.Orderly.{next_orderly, flows_of-in_range, due_in-in_range}
use Rattle.sched_history.proofs.reserves.GoodReserves.{HaveElementSids-legal}
use Rattle.sched_history.proofs.steps.LegalBounds.{next_after-most}
use Rattle.history_writing.specs.Fits.{CallFits, ConfigFits, MapFits}
use Rattle.laws.proofs.Times.{ack_after-most}

-- the numbers of a header are bytes
record HeaderFits (header : Header) : Type 0 where
  ucd_count : header.ucd_count < 2 ^ 8
  ranging_start : header.ranging_start < 2 ^ 8
  ranging_end : header.ranging_end < 2 ^ 8
  data_start : header.data_start < 2 ^ 8
  data_end : header.data_end < 2 ^ 8

set_fits : (call : Call) (reply : Reply) (header : Header) → CallFits call → header_by call reply ≡ Some header
    → HeaderFits header
set_fits (calls.Header said) replies.Noted header fits is =
    let same : said ≡ header = cc in
    subst HeaderFits same (record {
      ucd_count = fits.0;
      ranging_start = fits.1;
      ranging_end = fits.2;
      data_start = fits.3;
      data_end = fits.4;
    })
set_fits call reply header fits is = absurd (cc)

-- what was found fits
abbrev FoundFits : Option (Found Entry Header) → Type 0
FoundFits None = Unit {0}
FoundFits (Some found) = HeaderFits found.said

latest_or : (later : Option (Found Entry Header)) (here : Option Header) (rest : List Entry) → FoundFits later
    → ((header : Header) → here ≡ Some header → HeaderFits header)
    → FoundFits (option_or later (option_map (λ y. record { said = y; after = rest }) here))
latest_or None None rest later fits = tt
latest_or None (Some header) rest later fits = fits header refl
latest_or (Some found) here rest later fits = later

latest_fits : (h : List Entry) → AllByRecursion (λ e. CallFits e.call) h
    → FoundFits (latest (λ e. header_by e.call e.reply) h)
latest_fits [] fits = tt
latest_fits (e ∷ h) fits =
    latest_or (latest (λ e. header_by e.call e.reply) h) (header_by e.call e.reply) h (latest_fits h fits.1)
    (λ header is. set_fits e.call e.reply header fits.0 is)

module _ (c : Config) (config_fits : ConfigFits c) where
  found_fits : (o : Option (Found Entry Header)) → FoundFits o
      → HeaderFits (option_map_or (λ found. found.said) o (header_of c))
  found_fits None fits = record {
    ucd_count = config_fits.ucd_count;
    ranging_start = config_fits.ranging_start;
    ranging_end = config_fits.ranging_end;
    data_start = config_fits.data_start;
    data_end = config_fits.data_end;
  }
  found_fits (Some found) fits = fits

  header_fits : (h : List Entry) → AllByRecursion (λ e. CallFits e.call) h → HeaderFits (header_after c h)
  header_fits h fits = found_fits (latest (λ e. header_by e.call e.reply) h) (latest_fits h fits)

  -- the fixed bytes of the next MAP
  next_header : (h : List Entry) (m : FrameMap) → AllByRecursion (λ e. CallFits e.call) h → IsNextMap c h m
      → FitsHeader m.wire
  next_header h m fits next =
      let header = header_fits h fits in
      subst (λ (m : FrameMap). FitsHeader m.wire) (sym next.2) (record {
        channel = config_fits.channel;
        ucd_count = header.ucd_count;
        reserved = omega arith;
        alloc_start = omega arith;
        ack = omega arith;
        ranging_start = header.ranging_start;
        ranging_end = header.ranging_end;
        data_start = header.data_start;
        data_end = header.data_end;
      })

module _ (c : Config) (bounds : HasBounds c) (d : Demand) where
  bytes-kind : (before : List Allocation) (a : Allocation) (offset : ℕ) (purpose : Purpose) → a.purpose ≡ purpose
      → IsOfClass c d before offset a.slots purpose → bytes_in c a < 2 ^ 32
  bytes-kind before a offset (Poll sid) is stands = rw is (omega arith)
  bytes-kind before a offset (UnsolicitedGrant sid size) is stands = rw is (omega arith)
  bytes-kind before a offset (Offer place usage) is stands = rw is (omega arith)
  bytes-kind before a offset (DataGrant sid bytes) is stands =
      rw is (omega (arith, stands.4.allowed.capped, bounds.cap_most))
  bytes-kind before a offset Idle is stands = rw is (omega arith)

  bytes-plan : (before plan : List Allocation) → EachAfter (Stands c d) before plan
      → AllByRecursion (λ n. n < 2 ^ 32) (map (bytes_in c) plan)
  bytes-plan before [] each = tt
  bytes-plan before (a ∷ plan) each =
      (bytes-kind before a a.offset a.purpose refl each.0.purpose, bytes-plan (before ++ a ∷ []) plan each.1)

  bytes-none : {X : Type 0} (xs : List X) → AllByRecursion (λ n. n < 2 ^ 32) (map (λ x. 0) xs)
  bytes-none [] = tt
  bytes-none (x ∷ xs) = (omega arith, bytes-none xs)

  -- each byte count is at most the cap
  bytes_fit : (plan : List Allocation) → EachAfter (Stands c d) [] plan
      → AllByRecursion (λ n. n < 2 ^ 32) (bytes_of_plan c d plan)
  bytes_fit plan each =
      let tail = pending c (flows_after c d.start plan d.flows) in (
        omega arith,
        all-append (λ n. n < 2 ^ 32) (map (bytes_in c) plan) (0 ∷ map (λ e. 0) tail) (bytes-plan [] plan each)
            (omega arith, bytes-none tail),
      )

-- the next MAP fits, where the configuration and the calls do
pub next_fits : (c : Config) (h : List Entry) (m : FrameMap) → IsLawful c → ConfigFits c → IsLegal c h
    → AllByRecursion (λ e. CallFits e.call) h → IsNextMap c h m → MapFits m
next_fits c h m lawful config_fits legal fits next =
    let bounds = bounds_of c lawful in
    let d = demand_after c h in
    let orderly = next_orderly c lawful h m legal next in
    let elements = ap (λ (m : FrameMap). m.wire.elements) next.2 in
    let good : AreEncodable m.wire.elements =
    subst AreEncodable (sym elements)
    (elements_of-encodable c d next.0 (omega (arith, bounds.frame_most)) (flows_of-in_range c h)
    (due_in-in_range c (next_after c h / c.frame) h) (HaveElementSids-legal c h legal) next.1.each
    (plan-within c d next.0 (omega (arith, bounds.requests_fit)) next.1)) in
    record {
      start = omega (arith, ap (λ (m : FrameMap). m.start) next.2, next_after-most c lawful h legal);
      ack = omega (
        arith,
        ap (λ (m : FrameMap). m.ack) next.2,
        ack-most c.pending (ack_after c h) (flows_after c d.start next.0 d.flows),
        ack_after-most c h legal,
        next_after-most c lawful h legal,
      );
      formed = record {
        fits = next_header c config_fits h m fits next;
        count = orderly.within;
        in_range = good.in_range;
        one_null = good.one_null;
        ascends = good.ascends;
      };
      bytes = subst (AllByRecursion (λ n. n < 2 ^ 32)) (sym (ap (λ (m : FrameMap). m.bytes) next.2))
          (bytes_fit c bounds d next.0 next.1.each);
    }
