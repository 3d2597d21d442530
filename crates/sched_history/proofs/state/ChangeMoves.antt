-- The fields that stand for what a change leaves.
use Rattle.std.proofs.Common.{◌≡◌, ℕ, None, Some, sym, ap, ◌∙◌}
use Rattle.sched_calls.specs.declared.spec.FlowSpec.{FlowSpec}
use Rattle.flow_book.specs.Book.{BookView, changed, with_spec}
use Rattle.sched_calls.specs.declared.placement.Placement.{Placement}
use Rattle.periodic.specs.Table.{TableView, placed_at, with_placed, without}
use Rattle.sched_history.specs.declared.scheduler.state.State.{State}
use Rattle.sched_calls.specs.declared.call.Call.TheVariants as calls
use Rattle.sched_calls.specs.declared.reply.Reply.TheVariants as replies
use Rattle.sched_history.specs.Situation.{Situation, after}
use Rattle.sched_history.specs.State.{IsStateAfter}

module _ (s : State) (x : Situation) (is_after : IsStateAfter s x) (sid : ℕ) (spec : FlowSpec) where
  -- after a change with a placement
  pub IsStateAfter-changed : (p : Placement) (book : BookView) (table : TableView)
      → book ≡ record s.book { flows = changed sid (with_spec spec) s.book.flows }
      → table.config ≡ s.table.config
      → table.placed ≡ with_placed (placed_at sid spec p) (without sid s.table.placed)
      → IsStateAfter (record s { book = book; table = table })
      (after s.config x (calls.Change sid spec) (replies.Changed (Some p)))
  IsStateAfter-changed p book table gave config placed = record {
    lawful = is_after.lawful;
    book_config = ap (λ b. b.config) gave ∙ is_after.book_config;
    table_config = config ∙ is_after.table_config;
    flows = ap (λ b. b.flows) gave ∙ ap (changed sid (with_spec spec)) is_after.flows;
    placed = placed ∙ ap (λ ps. with_placed (placed_at sid spec p) (without sid ps)) is_after.placed;
    next = is_after.next;
    places = is_after.places;
    progress = is_after.progress;
    reserves = is_after.reserves;
    header = is_after.header;
    settling = is_after.settling;
    last_ack = is_after.last_ack;
  }

  -- and without one
  pub IsStateAfter-given : (book : BookView)
      → book ≡ record s.book { flows = changed sid (with_spec spec) s.book.flows }
      → without sid s.table.placed ≡ s.table.placed
      → IsStateAfter (record s { book = book }) (after s.config x (calls.Change sid spec) (replies.Changed None))
  IsStateAfter-given book gave unplaced = record {
    lawful = is_after.lawful;
    book_config = ap (λ b. b.config) gave ∙ is_after.book_config;
    table_config = is_after.table_config;
    flows = ap (λ b. b.flows) gave ∙ ap (changed sid (with_spec spec)) is_after.flows;
    placed = sym unplaced ∙ ap (without sid) is_after.placed;
    next = is_after.next;
    places = is_after.places;
    progress = is_after.progress;
    reserves = is_after.reserves;
    header = is_after.header;
    settling = is_after.settling;
    last_ack = is_after.last_ack;
  }
