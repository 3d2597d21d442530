-- Each level is that of its bucket where the last grant starts, by which all have.
use Rattle.std.proofs.Common.{◌≡◌, refl, ap, ◌∙◌, ℕ, Option, unwrap_or}
use Rattle.minislots.specs.declared.config.Config.{Config}
use Rattle.sched_calls.specs.FlowSpec.{rate_of, burst_of, peak_of, reserved_of, reserved_burst_of}
use Rattle.sched_calls.specs.declared.spec.TheConstants.{PEAK_BURST}
use Rattle.flow_book.specs.declared.flow.Flow.{Flow}
use Rattle.flow_book.specs.Flows.{HaveStartedBy}
use Rattle.flow_book.specs.Choice.{last_start, last_slot}
use Rattle.flow_book.specs.Limits.{HasBegunBy}
use Rattle.flow_book.specs.Entry.{live, top_rank, IsTurn, KeepsSums}
use Rattle.flow_book.proofs.Charges.{begun-by}
use Rattle.flow_book.proofs.flow.Flow.state.Goals as goal

-- what a turn tells of the last start, of a flow that keeps its sums
told : (c : Config) (f : Flow) (last : Option ℕ) → KeepsSums c f
    → ((rank sid : ℕ) (before : Option ℕ) → IsTurn rank before sid f.turn → last ≡ before)
    → last ≡ last_start f.grants.items
told c f last keeps of = of (top_rank f.spec) f.sid (last_start f.grants.items) keeps.turn.1

-- and the minislot of its levels
told-slot : (c : Config) (f : Flow) (last : Option ℕ) (slot : ℕ) → KeepsSums c f
    → ((rank sid : ℕ) (before : Option ℕ) → IsTurn rank before sid f.turn → last ≡ before) → slot ≡ unwrap_or last 0
    → slot ≡ last_slot f.grants.items
told-slot c f last slot keeps of is = is ∙ ap (λ start. unwrap_or start 0) (told c f last keeps of)

-- its buckets are counted from no later
begun : (c : Config) (f : Flow) (slot : ℕ) → KeepsSums c f → slot ≡ last_slot f.grants.items → HasBegunBy slot f.limits
begun c f slot keeps is = rw is (begun-by c (live f) f.limits _ keeps.limits keeps.charges keeps.last)

pub state-requires : goal.state-requires
state-requires c =
    let slot = c.unwrap_or-slot.result in
    (begun c.requires.0 c.args.self.now slot c.requires.1 (told-slot c.requires.0 c.args.self.now
    c.last_start-last.result slot c.requires.1 c.last_start-last.ensures c.unwrap_or-slot.ensures)).sustained

pub state-requires-2 : goal.state-requires-2
state-requires-2 c =
    let slot = c.unwrap_or-slot.result in
    (begun c.requires.0 c.args.self.now slot c.requires.1 (told-slot c.requires.0 c.args.self.now
    c.last_start-last.result slot c.requires.1 c.last_start-last.ensures c.unwrap_or-slot.ensures)).peak

pub state-requires-3 : goal.state-requires-3
state-requires-3 c =
    let slot = c.unwrap_or-slot.result in
    (begun c.requires.0 c.args.self.now slot c.requires.1 (told-slot c.requires.0 c.args.self.now
    c.last_start-last.result slot c.requires.1 c.last_start-last.ensures c.unwrap_or-slot.ensures)).reserved

pub returns : goal.returns
returns c = λ channel keeps.
    let f = c.args.self.now in
    let slot = c.unwrap_or-slot.result in
    let is =
    told-slot channel f c.last_start-last.result slot keeps c.last_start-last.ensures c.unwrap_or-slot.ensures in
    let started : HaveStartedBy slot f.grants.items = rw is keeps.last in
    let charges = keeps.charges in
    let sustained = c.state.ensures channel (rate_of f.spec) (burst_of f.spec) f.grants.sustained
    keeps.limits.sustained (charges.sustained slot started) in
    let peak = c.state-2.ensures channel (peak_of f.spec) PEAK_BURST f.grants.peak keeps.limits.peak
    (charges.peak slot started) in
    let reserved = c.state-3.ensures channel (reserved_of f.spec) (reserved_burst_of f.spec) f.grants.reserved
    keeps.limits.reserved (charges.reserved slot started) in
    rw (
      sustained,
      peak,
      reserved,
      is,
      told channel f c.last_start-last.result keeps c.last_start-last.ensures,
      c.state-4.ensures,
      keeps.granted,
    ) refl
