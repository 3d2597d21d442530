-- Nothing is counted before any entry.
use Rattle.std.proofs.Common.{◌≡◌, ◌∙◌, ℕ, List, [], length, get_or, refl, ap, arith}
use Rattle.std.proofs.lemmas.List.{get_or-replicate}
use Rattle.sched_report.proofs.tally.Tally.open.Goals as goal

pub returns-clause-none : goal.returns-clause-none
returns-clause-none c =
    let none : length c.new-2.result.items ≡ 0 = ap length c.new-2.ensures.items in
    let under : length c.none-3.result.under.items ≡ 0 = ap length c.none-3.ensures.under in
    let held : length c.none-3.result.held.items ≡ 0 = ap length c.none-3.ensures.held in
    record {
      lawful = c.start.ensures.lawful;
      legal = tt;
      passed_few = omega arith;
      told = rw c.in_ok-new.ensures.ok c.no_flows.ensures;
      totals = c.none.ensures [];
      extremes = c.none-2.ensures c.args.config [];
      refused = record { places = refl; each = λ place below. get_or-replicate 23 place 0 0 below };
      sids = record {
        places = omega (arith, c.in_ok-vec.field-0.ok.0, c.in_ok-vec.ensures.len);
        each = λ sid below. ap (λ (ns : List ℕ). get_or ns sid 0)
            (c.in_ok-vec.ensures.items_if_clones_equal (λ y same. same))
            ∙ get_or-replicate 65536 sid 0 0 below;
      };
      next = omega (arith, c.start.ensures.value);
      lives = record { long = none; each = λ k t life below. absurd (omega (arith, below, none)) };
      live = record {
        long = omega (arith, c.in_ok-vec-2.field-0.ok.0, c.in_ok-vec-2.ensures.len);
        each = λ k t below alive. absurd (omega (arith, below, none));
      };
      waited = record {
        under = record {
          long = under;
          each = λ k n life below. absurd (omega (arith, below, under));
          few = λ k n below. absurd (omega (arith, below, under));
        };
        held = record {
          long = held;
          each = λ k n life below. absurd (omega (arith, below, held));
          few = λ k n below. absurd (omega (arith, below, held));
        };
      };
    }
