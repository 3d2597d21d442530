-- The live flows and placements after a request that replaces others.
use Rattle.std.proofs.Common.{◌≡◌, ℕ, ◌+◌, Bool, true, false, ◌==◌, if◌then◌else◌, List, [], ◌∷◌, ◌++◌}
use Rattle.std.proofs.Common.{None, Some, refl, ◌∙◌, arith, append-nil}
use Rattle.std.specs.Option.{option_map_or}
use Rattle.minislots.specs.declared.config.Config.{Config}
use Rattle.minislots.specs.declared.stamp.Stamp.{Stamp}
use Rattle.sched_calls.specs.declared.amount.Amount.{Amount}
use Rattle.sched_calls.specs.Amount.{requested}
use Rattle.flow_book.specs.Batches.{with_request}
use Rattle.flow_book.specs.Flows.{LiveFlow, granted}
use Rattle.flow_book.specs.Book.{changed, with_replaced}
use Rattle.sched_calls.specs.declared.call.Call.TheVariants as calls
use Rattle.sched_calls.specs.declared.reply.Reply.TheVariants as replies
use Rattle.sched_calls.specs.declared.reply.Entry.{Entry}
use Rattle.sched_history.specs.Life.{flows_of, table_of}
use Rattle.sched_history.proofs.lives.FlowsAfter.{grown_by, flows_of-grown, table_of-stays}
use Rattle.sched_history.proofs.flows.FlowCalls.{map-each, eqb-sym}

-- a flow whose request replaces its others, or another
replaced_flow : (b : Bool) (bytes heard : ℕ) (f : LiveFlow) → record f {
  asked = option_map_or (λ n. granted f + n) (if b then Some bytes else None) (f.asked + 0);
  batches = if b then with_request f.batches (granted f) (granted f) bytes heard else f.batches;
  grants = f.grants ++ [];
  sustained = f.sustained ++ [];
  peak = f.peak ++ [];
} ≡ (if b then with_replaced bytes heard f else f)
replaced_flow true bytes heard f = rw (append-nil f.grants, append-nil f.sustained, append-nil f.peak) refl
replaced_flow false bytes heard f =
    let none : f.asked + 0 ≡ f.asked = omega arith in
    rw (none, append-nil f.grants, append-nil f.sustained, append-nil f.peak) refl

replaced_this : (sid bytes heard : ℕ) (f : LiveFlow) → record f {
  asked = option_map_or (λ n. granted f + n) (if sid == f.sid then Some bytes else None) (f.asked + 0);
  batches = if sid == f.sid then with_request f.batches (granted f) (granted f) bytes heard else f.batches;
  grants = f.grants ++ [];
  sustained = f.sustained ++ [];
  peak = f.peak ++ [];
} ≡ (if f.sid == sid then with_replaced bytes heard f else f)
replaced_this sid bytes heard f = rw (eqb-sym sid f.sid) (replaced_flow (f.sid == sid) bytes heard f)

module _ (stamp : Stamp) (h : List Entry) (receiver sid : ℕ) (amount : Amount) (heard : ℕ) where
  -- after such a request so many bytes of the flow are outstanding
  pub flows_of-replace : (c : Config) → flows_of c
      (h ++ record { stamp = stamp; call = calls.Replace receiver sid amount heard; reply = replies.Taken } ∷ [])
      ≡ changed sid (with_replaced (requested c amount) heard) (flows_of c h)
  flows_of-replace c =
      let e : Entry = record { stamp = stamp; call = calls.Replace receiver sid amount heard; reply = replies.Taken } in
      flows_of-grown c h e (λ other. refl) ∙ map-each (grown_by c e)
      (λ f. if f.sid == sid then with_replaced (requested c amount) heard f else f)
      (flows_of c h) (replaced_this sid (requested c amount) heard)

  -- and no placement changes
  pub table_of-replace : table_of
      (h ++ record { stamp = stamp; call = calls.Replace receiver sid amount heard; reply = replies.Taken } ∷ [])
      ≡ table_of h
  table_of-replace =
      table_of-stays h (record { stamp = stamp; call = calls.Replace receiver sid amount heard; reply = replies.Taken })
      (λ other. refl) (λ other. refl) (λ other. refl)
