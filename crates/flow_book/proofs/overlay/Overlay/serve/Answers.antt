-- The flow that is next has one grant more, and is put in its turn.
use Rattle.std.proofs.Common.{Bool, ◌≡◌, ◌⊎◌, ◌∙◌, Some, refl, sym, ap, subst, map, slice_get, length, drop, arith}
use Rattle.std.proofs.lemmas.List.{take_at}
use Rattle.std.specs.Option.{IsSomeAnd, IfSome}
use Rattle.flow_book.specs.Choice.{IsNext, IsAmount, NoneEligible}
use Rattle.flow_book.specs.Queue.{IsIn, NoneWaitsBefore, all_of, served_of}
use Rattle.flow_book.specs.Parts.{HasStartedIn, IsServedFirst}
use Rattle.flow_book.specs.declared.flow.Grant.{Grant}
use Rattle.flow_book.specs.Flows.{flow_of}
use Rattle.flow_book.specs.Reserved.{with_grant}
use Rattle.std.specs.Prelude.{if◌then◌else◌}
use Rattle.flow_book.specs.Numbers.{IsLineOf}
use Rattle.flow_book.specs.Overlay.{IsOverlay}
use Rattle.flow_book.specs.Book.{changed}
use Rattle.flow_book.specs.Entry.{live, top_rank}
use Rattle.flow_book.proofs.Overlays.{IsServed, started-queue, is-served, same-changed}
use Rattle.flow_book.proofs.overlay.Overlay.serve.Goals as goal

pub serve_first-requires-clause-started : goal.serve_first-requires-clause-started
serve_first-requires-clause-started c =
    let o = c.self.invariant.overlay in
    let has =
    started-queue c.self.inside.channel c.self.inside.before.items c.self.inside.flows.items c.self.inside.is_long
    (all_of c.self.inside.is_long c.self.inside.few.items c.self.inside.many) c.self.inside.served.items c.self.inside.tiers.items _ c.self.inside.first c.args.start o
    (rw (← c.self.view_is) at c.requires.started) in
    (o.items, o.order, rw (c.deref_mut.ensures.value, c.config-config.ensures) has)

pub returns-in_err-served-clause-next : goal.returns-in_err-served-clause-next
returns-in_err-served-clause-next c =
    let o = c.self.invariant.overlay in
    let config = c.self.inside.channel in
    let has =
    started-queue config c.self.inside.before.items c.self.inside.flows.items c.self.inside.is_long
    (all_of c.self.inside.is_long c.self.inside.few.items c.self.inside.many) c.self.inside.served.items c.self.inside.tiers.items _ c.self.inside.first c.args.start o
    (rw (← c.self.view_is) at c.requires.started) in
    let none = (rw (c.deref_mut.ensures.value, c.config-config.ensures) at c.in_err-served.ensures.next) o.items o.order has in
    rw (← c.self.view_is, c.from_residual.ensures)
    (subst (λ fs. NoneEligible config fs c.args.start c.args.room) o.shows none)

-- all its grants have started
has-started : (c : goal.After-forget_shown) → HasStartedIn c.self.inside.channel c.self.invariant.overlay.items
    c.self.inside.tiers.items (all_of c.self.inside.is_long c.self.inside.few.items c.self.inside.many) c.self.inside.served.items c.args.start
has-started c =
    started-queue c.self.inside.channel c.self.inside.before.items c.self.inside.flows.items c.self.inside.is_long
    (all_of c.self.inside.is_long c.self.inside.few.items c.self.inside.many) c.self.inside.served.items c.self.inside.tiers.items _ c.self.inside.first c.args.start c.self.invariant.overlay
    (rw (← c.self.view_is) at c.requires.started)

-- the first is served
first : (c : goal.After-forget_shown) → IsServedFirst c.self.inside.channel c.self.inside.is_long c.self.invariant.overlay.items
    c.self.inside.tiers.items c.serve_first.new.tiers (all_of c.self.inside.is_long c.self.inside.few.items c.self.inside.many) c.self.inside.served.items (all_of c.self.inside.is_long c.serve_first.new.few.items c.serve_first.new.many) c.serve_first.new.served.items
    c.args.start c.args.room c.most_in-bytes.result c.in_ok-served.served.sid c.in_ok-served.served.bytes
first c =
    (rw (c.deref_mut.ensures.value, c.config-config.ensures) at c.in_ok-served.ensures.next) c.self.invariant.overlay.items c.self.invariant.overlay.order
    (has-started c)

-- the flow is served
served : (c : goal.After-forget_shown) → IsServed c.self.inside.channel c.self.invariant.overlay.items c.self.inside.is_long
    c.serve_first.new.tiers (all_of c.self.inside.is_long c.self.inside.few.items c.self.inside.many) c.self.inside.served.items (all_of c.self.inside.is_long c.serve_first.new.few.items c.serve_first.new.many) c.serve_first.new.served.items
    c.args.start c.args.room c.in_ok-served.served.bytes (first c).waiting (first c).new
served c =
    let f = first c in
    is-served c.self.inside.channel c.self.invariant.overlay.items c.self.inside.tiers.items c.serve_first.new.tiers
    (all_of c.self.inside.is_long c.self.inside.few.items c.self.inside.many) c.self.inside.served.items (all_of c.self.inside.is_long c.serve_first.new.few.items c.serve_first.new.many) c.serve_first.new.served.items
    c.args.start c.args.room c.in_ok-served.served.sid c.in_ok-served.served.bytes c.most_in-bytes.result f.at f.waiting
    f.new (rw c.config-config.ensures at c.in_ok-served.ensures.lawful) (has-started c) f.here f.next
    (rw c.config-config.ensures at c.most_in-bytes.ensures) f.granted c.self.inside.is_long
    c.self.invariant.overlay.tiered.ones f.put

-- its SID is told by its turn
same-sid : (c : goal.After-forget_shown) → c.in_ok-served.served.sid ≡ (served c).flow.sid
same-sid c =
    let is = served c in
    (first c).granted.is (top_rank is.flow.spec) (Some c.args.start) is.flow.sid is.turn

-- as many tiers stand behind it
as-long : (c : goal.After-forget_shown) → length c.serve_first.new.tiers ≡ c.self.inside.tiers.len
as-long c =
    omega (arith, c.serve_first.auto.tiers, ap length c.deref_mut.ensures.value, c.self.inside.tiers.ok.0)

pub invariant_of-self-2 : goal.invariant_of-self-2
invariant_of-self-2 c =
    let o = c.self.invariant.overlay in
    let is = served c in
    let grant : Grant = record { start = c.args.start; bytes = c.in_ok-served.served.bytes } in
    let config = c.self.inside.channel in
    let before = c.self.inside.before.items in
    let is_long = c.self.inside.is_long in
    let old = served_of is_long (all_of c.self.inside.is_long c.self.inside.few.items c.self.inside.many) c.self.inside.served.items in
    let queue = (all_of c.self.inside.is_long c.serve_first.new.few.items c.serve_first.new.many) in
    let after = c.serve_first.new.served.items in
    let ones = served_of is_long queue after in
    let shows : map live is.grown ≡ changed is.flow.sid (with_grant config grant) c.self.inside.flows.items =
    is.shows ∙ ap (changed is.flow.sid (with_grant config grant)) o.shows in
    let all : IsOverlay config before (changed is.flow.sid (with_grant config grant) c.self.inside.flows.items) is_long
    queue after c.serve_first.new.tiers _ c.serve_first.new.first = record {
      items = is.grown;
      shows = shows;
      book = is.book;
      order = is.order;
      tiered = is.tiered;
      room = c.serve_first.ensures.reserved;
      passed = c.serve_first.ensures.passed;
      same = same-changed config is.flow.sid grant before c.self.inside.flows.items o.same;
      rest = λ place. subst (λ fs. IsIn place ones ⊎ (slice_get fs place ≡ slice_get before place)) shows
          (is.rest before (λ k. subst (λ fs. IsIn k old ⊎ (slice_get fs k ≡ slice_get before k)) (sym o.shows)
          (o.rest k)) place);
    } in
    let items : c.granted-self-inside.result.items
    ≡ changed is.flow.sid (with_grant config grant) c.self.inside.flows.items =
    c.granted-self-inside.ensures
    ∙ ap (λ k. changed c.in_ok-served.served.sid (with_grant k grant) c.self.inside.flows.items) c.config-config.ensures
    ∙ ap (λ sid. changed sid (with_grant config grant) c.self.inside.flows.items) (same-sid c) in
    let tiers = c.serve_first.new.tiers in
    let kept = take_at tiers (drop (length tiers) c.self.inside.tiers.items) c.self.inside.tiers.len (as-long c) in
    rw (items, kept) (record {
      overlay = all;
      lined = subst (λ (b : Bool). IsLineOf (if b then changed is.flow.sid (with_grant config grant) c.self.inside.flows.items
          else before) c.forget_shown.new.line) (sym c.forget_shown.ensures.shown)
          (c.forget_shown.ensures.line before c.self.inside.flows.items c.self.invariant.lined);
    })

pub returns-clause-next : goal.returns-clause-next
returns-clause-next c =
    let is = served c in
    let config = c.self.inside.channel in
    let flows = map live c.self.invariant.overlay.items in
    let here : IsSomeAnd (flow_of is.flow.sid flows) (IsNext config flows c.args.start c.args.room) =
    rw is.found.stands.found is.found.next in
    let next =
    subst (λ fs. IsSomeAnd (flow_of is.flow.sid fs) (IsNext config fs c.args.start c.args.room)) c.self.invariant.overlay.shows
    here in
    rw (← c.self.view_is) (subst (λ sid. IsSomeAnd (flow_of sid c.self.inside.flows.items)
    (IsNext config c.self.inside.flows.items c.args.start c.args.room)) (sym (same-sid c)) next)

pub returns-clause-amount : goal.returns-clause-amount
returns-clause-amount c =
    let is = served c in
    let config = c.self.inside.channel in
    let bytes = c.in_ok-served.served.bytes in
    let flows = map live c.self.invariant.overlay.items in
    let here : IfSome (flow_of is.flow.sid flows) (λ f. IsAmount config f c.args.start c.args.room bytes) =
    rw is.found.stands.found is.amount in
    let amount =
    subst (λ fs. IfSome (flow_of is.flow.sid fs) (λ f. IsAmount config f c.args.start c.args.room bytes))
    c.self.invariant.overlay.shows here in
    rw (← c.self.view_is) (subst (λ sid. IfSome (flow_of sid c.self.inside.flows.items)
    (λ f. IsAmount config f c.args.start c.args.room bytes)) (sym (same-sid c)) amount)

pub invariant_of-self : goal.invariant_of-self
invariant_of-self c =
    let o = c.self.invariant.overlay in
    let new = c.serve_first.new in
    let same = c.in_err-served.ensures.none refl in
    let long : length new.tiers ≡ c.self.inside.tiers.len =
    omega (arith, c.serve_first.auto.tiers, ap length c.deref_mut.ensures.value, c.self.inside.tiers.ok.0) in
    let tiers = take_at new.tiers (drop (length new.tiers) c.self.inside.tiers.items) c.self.inside.tiers.len long
    ∙ same.2 ∙ c.deref_mut.ensures.value in
    rw (same.0, same.1, tiers) (record {
      overlay = record {
        items = o.items;
        shows = o.shows;
        book = o.book;
        order = o.order;
        tiered = o.tiered;
        room = o.room;
        passed = λ many. subst (NoneWaitsBefore new.first) same.0 (c.serve_first.ensures.passed many);
        same = o.same;
        rest = o.rest;
      };
      lined = c.self.invariant.lined;
    })
