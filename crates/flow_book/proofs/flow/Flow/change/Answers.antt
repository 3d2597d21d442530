-- The sums are those of the same grants, and where a period begins nothing is charged yet.
use Rattle.std.proofs.Common.{◌≡◌, ap, ◌∙◌, sym, subst, ℕ, ◌≤◌, max, nat_lt, List, [], Bool, true, false, cond, arith}
use Rattle.sched_calls.specs.declared.spec.FlowSpec.{FlowSpec}
use Rattle.sched_calls.specs.FlowSpec.{rank_of, reserved_of}
use Rattle.flow_book.specs.declared.flow.Flow.{Flow}
use Rattle.flow_book.specs.declared.limits.Limits.{Limits}
use Rattle.flow_book.specs.Flows.{Charge, AreMadeBy}
use Rattle.flow_book.specs.Choice.{last_start}
use Rattle.flow_book.specs.Book.{has_ceiling_of, has_peak_of, has_reserve_of}
use Rattle.flow_book.specs.Entry.{top_rank, KeepsSums}
use Rattle.flow_book.proofs.flow.Flow.change.Goals as goal

below-top : (spec : FlowSpec) → rank_of spec ≤ top_rank spec
below-top spec = by (nat_lt 0 (reserved_of spec))
  where
    by : (b : Bool) → rank_of spec ≤ cond b (max 8 (rank_of spec)) (rank_of spec)
    by true = omega arith
    by false = omega arith

-- what is charged is made where it was, and nothing is where a period begins
made-in : (b : Bool) (slot : ℕ) (charges begun : List Charge) → begun ≡ cond b charges [] → AreMadeBy slot charges
    → AreMadeBy slot begun
made-in true slot charges begun is made = rw is made
made-in false slot charges begun is made = rw is tt

pub returns-clause-sums : goal.returns-clause-sums
returns-clause-sums c = λ keeps.
    let f = c.args.self.now in
    let spec = c.args.spec in
    let grants = c.under-self.result in
    let are = c.under-self.ensures in
    let one = c.change_sustained.new.self in
    let two = c.change_peak.new.self in
    let new = c.change_reserved.new.self in
    let limits : Limits = record {
      sustained = one.limits.sustained;
      peak = two.limits.peak;
      reserved = new.limits.reserved;
    } in
    let first = c.change_sustained.ensures in
    let second = rw first.same at c.change_peak.ensures in
    let third = rw (c.change_peak.ensures.same, first.same) at c.change_reserved.ensures in
    let made : Flow = record f {
      turn = c.turn_in-self.result;
      limits = limits;
      spec = spec;
      grants = grants;
    } in
    let same : made ≡ record new { spec = spec } =
    sym (ap (λ (g : Flow). record g { spec = spec }) c.change_reserved.ensures.same
    ∙ ap (λ (g : Flow). record g {
      limits = record g.limits { reserved = new.limits.reserved };
      spec = spec;
    }) c.change_peak.ensures.same ∙ ap (λ (g : Flow). record g {
      limits = record g.limits { peak = two.limits.peak; reserved = new.limits.reserved };
      spec = spec;
    }) first.same) in
    let sums : KeepsSums c.args.config.now made = record {
      granted = rw are.0 keeps.granted;
      turn = (
        (let low = below-top spec in omega (arith, low, c.top_rank.ensures, c.top_rank.type_inv)),
        rw (sym c.top_rank.ensures, are.0)
            (c.turn_in-self.ensures.of (top_rank f.spec) f.sid (last_start f.grants.items) keeps.turn.1),
      );
      last = rw are.0 keeps.last;
      charges = rw are.0 (record {
        sustained = λ slot started. made-in (has_ceiling_of f.spec spec) slot f.grants.sustained grants.sustained are.1
            (keeps.charges.sustained slot started);
        peak = λ slot started. made-in (has_peak_of f.spec spec) slot f.grants.peak grants.peak are.2
            (keeps.charges.peak slot started);
        reserved = λ slot started. made-in (has_reserve_of f.spec spec) slot f.grants.reserved grants.reserved are.3
            (keeps.charges.reserved slot started);
      });
      limits = record {
        sustained = rw are.1 (first.bucket f.grants.sustained keeps.limits.sustained);
        peak = rw are.2 (second.bucket f.grants.peak keeps.limits.peak);
        reserved = rw are.3 (third.bucket f.grants.reserved keeps.limits.reserved);
      };
      settled = record {
        sustained = rw are.1 (first.settled f.grants.sustained keeps.settled.sustained);
        peak = rw are.2 (second.settled f.grants.peak keeps.settled.peak);
        reserved = rw are.3 (third.settled f.grants.reserved keeps.settled.reserved);
      };
    } in
    subst (KeepsSums c.args.config.now) same sums
