-- From what the table tells of an entry to what callers see.
use Rattle.std.proofs.Common.{◌≡◌, ℕ, List, ◌++◌, map, Option, Some, sym, ap, ◌∙◌, subst}
use mathlib.Core.Option.{none}
use Rattle.atomic_table.specs.Table.{Me, step}
use Rattle.atomic_table.specs.Seated.{TableId}
use Rattle.minislots.specs.declared.stamp.Stamp.{Stamp}
use Rattle.ticket_lock.specs.declared.board.About.{About}
use Rattle.ticket_lock.specs.declared.board.Part.{Part}
use Rattle.ticket_lock.specs.declared.board.View.{View}
use Rattle.ticket_lock.specs.Rule.{entry_of, head_in, IsOfOthers, IsOrdered}
use Rattle.ticket_lock.specs.Standing.{Standing, opening_in, seats_in, first_in, ticket_in, number_in, log_in}
use Rattle.ticket_lock.specs.Standing.{turns_in, standing_of}
use Rattle.ticket_lock.specs.Plays.{entered_view, Looked}
use Rattle.ticket_lock.specs.Calls.{Enters}
use Rattle.ticket_lock.specs.Tokens.{IsWaiting, carried_in}

module _ {T H E : Type 0} (head : T → H) (entries : T → List E) (stamp : E → Stamp) where
  -- the seat that found its ticket in its word has the value that callers are told of
  Looked-told : (table : TableId) (v : View H E) (number residue : ℕ) (waits : IsWaiting number residue v)
      (c : List (ℕ × Option T)) (found : ℕ) (after : Me (Option T) (View H E)) → found ≡ residue
      → Looked stamp head entries (step 0 0 0 0 none) (v, c) found after
      → (x : T) × (carried_in after.1 ≡ Some x)
      × Enters stamp head entries (standing_of table v) (standing_of table after.0) x
  Looked-told table v number residue waits c found after same told =
      let p = waits.0.0 in
      let t = waits.1.0 in
      let did = (told p t waits.0.1 waits.1.1).0 (same ∙ waits.1.2) in
      let about = did.1 in
      let more = did.2 in
      let view : after.0 ≡ entered_view v p t more = ap (λ (m : Me (Option T) (View H E)). m.0) did.4 in
      let looks : v.looks ≡ after.0.looks = ap (λ (u : View H E). u.looks) (sym view) in (
        did.3,
        ap (λ (m : Me (Option T) (View H E)). carried_in m.1) did.4,
        record {
          more = more;
          entered = ap (standing_of table) view ∙ (λ i. record {
            lock = record { table = table; about = v.about };
            number = number_in (sym waits.0.1 i);
            log = log_in (sym waits.0.1 i) ++ more;
            ticket = ticket_in (sym waits.1.1 i);
            looks = looks i;
            turns = turns_in (sym waits.0.1 i);
          });
          others = subst (λ (ps : List (Part E)). IsOfOthers stamp (number_in ps) more) (sym waits.0.1) did.5;
          head_is = sym (ap head_in about ∙ did.6.0);
          entries_are = did.6.1
              ∙ ap (λ (o : Option (About H E)). opening_in o ++ map entry_of (p.log ++ more)) (sym about)
              ∙ ap (λ (u : View H E). opening_in u.about ++ map entry_of (log_in u.parts)) (sym view);
          ordered = rw view (subst
              (λ (o : Option (About H E)). IsOrdered stamp (first_in o) (seats_in o) (p.log ++ more) t)
              (sym about) did.7);
        },
      )

  -- the same of a ticket as callers see it
  pub entered_as : (table : TableId) (before after : Me (Option T) (View H E)) (number residue : ℕ)
      → IsWaiting number residue before.0 → (ticket : Standing H E) → standing_of table before.0 ≡ ticket
      → (found : ℕ) → found ≡ residue → Looked stamp head entries (step 0 0 0 0 none) before found after
      → (after_table : TableId) → after_table ≡ table
      → (x : T) × (carried_in after.1 ≡ Some x)
      × Enters stamp head entries ticket (standing_of after_table after.0) x
  entered_as table before after number residue waits ticket is found same told after_table kept =
      subst (λ (y : Standing H E × TableId). (x : T) × (carried_in after.1 ≡ Some x)
      × Enters stamp head entries y.0 (standing_of y.1 after.0) x)
      (λ i. (is i, sym kept i))
      (Looked-told table before.0 number residue waits before.1 found after same told)

  -- one look more or less before it makes no difference to an entry
  pub Enters-looks : (s w : Standing H E) (looks : ℕ) (x : T)
      → Enters stamp head entries (record s { looks = looks }) w x → Enters stamp head entries s w x
  Enters-looks s w looks x e = record {
    more = e.more;
    entered = e.entered;
    others = e.others;
    head_is = e.head_is;
    entries_are = e.entries_are;
    ordered = e.ordered;
  }

  -- the seat that entered is of its ticket's lock
  pub Enters-lock : (s w : Standing H E) (x : T) → Enters stamp head entries s w x → w.lock ≡ s.lock
  Enters-lock s w x e = ap (λ (y : Standing H E). y.lock) e.entered
