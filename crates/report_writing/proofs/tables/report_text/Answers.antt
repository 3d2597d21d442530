-- The tables, one behind another.
use Rattle.std.proofs.Common.{◌≡◌, ◌++◌, ℕ, Ok, ap, ◌∙◌, refl}
use Rattle.minislots.specs.declared.config.Config.{Config}
use Rattle.report_writing.specs.Tables.{head_text, uses_text, refused_text, ranks_text}
use Rattle.report_writing.specs.Flows.{flows_text}
use Rattle.report_writing.specs.ReservedTable.{reserved_lines}
use Rattle.report_writing.specs.Report.{tells_replaced}
use Rattle.report_writing.specs.Text.{tables_text}
use Rattle.report_writing.proofs.Appended.{then_ok}
use Rattle.report_writing.proofs.tables.report_text.Goals as goal

pub returns : goal.returns
unfolding tables_text
returns c =
    let ticks = c.ticks-ticks.result in
    let t = c.totals-totals.result in
    let start = c.new-words.result.items in
    let first = c.push_head.new.words.items in
    let second = c.push_uses.new.words.items in
    let third = c.push_refused.new.words.items in
    let fourth = c.push_ranks.new.words.items in
    let fifth = c.push_flows.new.words.items in
    let end = c.push_reserved.new.words.items in
    let head = head_text ticks t in
    let uses = uses_text t.opens t.slots t.calls in
    let refused = refused_text c.refused.result.now in
    let ranks = ranks_text ticks (tells_replaced t) c.deref.result.now in
    let flows = flows_text ticks (tells_replaced t) c.args.all c.deref-2.result.now in
    let reserved = reserved_lines c.frame.result c.args.all c.deref-3.result.now in
    let whole : end ≡ start ++ (head ++ (uses ++ (refused ++ (ranks ++ (flows ++ reserved))))) =
    then_ok {E = ℕ} (Ok tt) start first end head (uses ++ (refused ++ (ranks ++ (flows ++ reserved))))
    c.in_ok-push_head.ensures
    (then_ok {E = ℕ} (Ok tt) first second end uses (refused ++ (ranks ++ (flows ++ reserved)))
    c.in_ok-push_uses.ensures
    (then_ok {E = ℕ} (Ok tt) second third end refused (ranks ++ (flows ++ reserved)) c.in_ok-push_refused.ensures
    (then_ok {E = ℕ} (Ok tt) third fourth end ranks (flows ++ reserved) c.in_ok-push_ranks.ensures
    (then_ok {E = ℕ} (Ok tt) fourth fifth end flows reserved c.in_ok-push_flows.ensures
    c.in_ok-push_reserved.ensures)))) in
    record {
      refused = c.refused.result.now;
      counts = c.refused.ensures;
      ranks = c.in_ok-ranks.ranks.items;
      are_ranks = c.in_ok-ranks.ensures;
      lives = c.in_ok-lives.lives.items;
      are_lives = c.in_ok-lives.ensures.told;
      ordered = c.order_lives.new.lives.items;
      are_ordered = c.in_ok-order_lives.ensures.ordered;
      text_is = whole
          ∙ rw (
            c.new-words.ensures.items,
            c.ticks-ticks.ensures.value,
            ap (λ (k : Config). k.ticks) c.requires,
            c.totals-totals.ensures,
            c.deref.ensures.value,
            c.deref-2.ensures.value,
            c.frame.ensures.value,
            ap (λ (k : Config). k.frame) c.requires,
            c.deref-3.ensures.value,
            c.keep_reserved.ensures.kept,
          ) refl;
    }
