-- There is a tally exactly where no worker was stopped and memory was there for the audit. What the reader read is of
-- as many MAPs as the history has, and the verdict is that of the history.
use Rattle.std.proofs.Common.{◌≡◌, ℕ, true, List, length, drop, ap, sym, subst, ◌∙◌, refl, rules}
use Rattle.std.specs.Prelude.{◌↔◌}
use Rattle.std.proofs.lemmas.List.{length-map}
use Rattle.map_codec.specs.WireMap.{spelling}
use Rattle.sched_calls.specs.declared.reply.Entry.{Entry}
use Rattle.sched_desk.specs.Closed.{ClosesTo}
use Rattle.sched_desk.specs.Desk.{published}
use Rattle.sched_history.specs.Facts.{maps_of}
use Rattle.sched_history.specs.History.{IsLegal}
use Rattle.sched_storm.specs.Storm.{HasRead}
use Rattle.sched_storm.proofs.storm.close.Goals as goal

pub returns-clause-told : goal.returns-clause-told
returns-clause-told g c =
    let items = c.close-history.result.history.items in
    let told = c.close-history.ensures in
    let h = told.closed.0 in
    let none = told.whole c.requires.keeps in
    let whole : items ≡ h = told.closed.1 ∙ ap (λ n. drop n h) none in
    let counted : c.count_maps-maps.result ≡ length (maps_of items) =
    c.count_maps-maps.ensures ∙ ap (λ h. length (maps_of h)) c.deref.ensures.value in
    let shown : length c.close-history.result.press.list ≡ length (maps_of items) =
    ap length (told.closed.3 ∙ ap published (sym whole)) ∙ length-map (maps_of items) (λ m. spelling m.wire) in
    let judged : (c.in_ok-legal.legal ≡ true) ↔ IsLegal c.args.checked.now items =
    subst (λ h. (c.in_ok-legal.legal ≡ true) ↔ IsLegal c.args.checked.now h) c.deref-2.ensures.value
    c.in_ok-legal.ensures.ok in record {
      closed = subst (λ (y : List Entry × ℕ). ClosesTo c.args.shared.config c.args.shared.lock
          c.args.gathered.seats.items y.0 y.1 c.close-history.result.counts)
          (λ i. (sym whole i, none i)) told.closed.2;
      unrecorded_is = refl;
      maps_is = counted;
      newest_is = subst (λ n. HasRead n c.read_last-newest.result) (shown ∙ sym counted)
          c.read_last-newest.ensures.read;
      legal_is = subst (λ x. (c.in_ok-legal.legal ≡ true) ↔ IsLegal x items) (sym c.requires.config) judged;
      held_is = refl;
    }

pub returns-then-stopped-clause-err : goal.returns-then-stopped-clause-err
returns-then-stopped-clause-err g c = search rules

pub returns-clause-ok : goal.returns-clause-ok
returns-clause-ok g c = search rules
