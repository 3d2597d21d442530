-- The live flows and placements after a request, an admission and a removal.
use Rattle.std.proofs.Common.{◌≡◌, ◌≢◌, ℕ, ◌+◌, Bool, true, false, not, ◌==◌, if◌then◌else◌, cond, List, [], ◌∷◌}
use Rattle.std.proofs.Common.{◌++◌, map, Option, None, Some, refl, sym, ap, ◌∙◌, arith, inl, inr, append-nil}
use Rattle.std.specs.Option.{option_map, option_and_then}
use Rattle.std.proofs.lemmas.Bool.{cases_eq}
use Rattle.std.proofs.lemmas.Bool.Decides.{nat_tests}
use Rattle.minislots.specs.declared.config.Config.{Config}
use Rattle.minislots.specs.declared.stamp.Stamp.{Stamp}
use Rattle.sched_calls.specs.declared.amount.Amount.{Amount}
use Rattle.sched_calls.specs.Amount.{requested}
use Rattle.flow_book.specs.Batches.{with_request}
use Rattle.flow_book.specs.Flows.{LiveFlow, granted}
use Rattle.flow_book.specs.Book.{without, changed, with_asked}
use Rattle.periodic.specs.Table.{without as without_placed}
use Rattle.sched_calls.specs.declared.call.Call.TheVariants as calls
use Rattle.sched_calls.specs.declared.reply.Reply.TheVariants as replies
use Rattle.sched_calls.specs.declared.reply.Entry.{Entry}
use Rattle.sched_history.specs.Life.{Ends, flow_in_life, placed_in_life, sids, flows_of, table_of}
use Rattle.sched_history.proofs.lives.LivesAfter.{life_of-ends}
use Rattle.sched_history.proofs.lists.Numbered.{kept_if, filter_map-kept}
use Rattle.sched_history.proofs.lives.Finding.{flow_at, placed_at, flow_at-sid, placed_at-sid}
use Rattle.sched_history.proofs.lives.FlowsAfter.{grown_by, flow_at-stays, placed_at-stays}
use Rattle.sched_history.proofs.lives.FlowsAfter.{flows_of-grown, table_of-stays}

-- to change each in the same way is to change them all so
pub map-each : {X Y : Type 0} (j k : X → Y) (xs : List X) → ((x : X) → j x ≡ k x) → map j xs ≡ map k xs
map-each j k [] same = refl
map-each j k (x ∷ xs) same = rw (same x, map-each j k xs same) refl

-- a flow that asks, or another
asked_flow : (b : Bool) (bytes heard : ℕ) (f : LiveFlow) → record f {
  asked = f.asked + cond {A = ℕ} b bytes 0;
  batches = cond b (with_request f.batches f.asked (granted f) bytes heard) f.batches;
  grants = f.grants ++ [];
  sustained = f.sustained ++ [];
  peak = f.peak ++ [];
} ≡ cond b (with_asked bytes heard f) f
asked_flow true bytes heard f = rw (append-nil f.grants, append-nil f.sustained, append-nil f.peak) refl
asked_flow false bytes heard f =
    let none : f.asked + 0 ≡ f.asked = omega arith in
    rw (none, append-nil f.grants, append-nil f.sustained, append-nil f.peak) refl

-- a test whether two numbers are the same, either way round
pub eqb-sym : (m n : ℕ) → (m == n) ≡ (n == m)
eqb-sym m n = grind (arith, nat_tests)

asked_this : (sid bytes heard : ℕ) (f : LiveFlow) → record f {
  asked = f.asked + (if sid == f.sid then bytes else 0);
  batches = if sid == f.sid then with_request f.batches f.asked (granted f) bytes heard else f.batches;
  grants = f.grants ++ [];
  sustained = f.sustained ++ [];
  peak = f.peak ++ [];
} ≡ (if f.sid == sid then with_asked bytes heard f else f)
asked_this sid bytes heard f = rw (eqb-sym sid f.sid) (asked_flow (f.sid == sid) bytes heard f)

module _ (stamp : Stamp) (h : List Entry) (receiver sid : ℕ) (amount : Amount) (heard : ℕ) where
  -- after a request the flow has asked for so many bytes more
  pub flows_of-ask : (c : Config) → flows_of c
      (h ++ record { stamp = stamp; call = calls.Ask receiver sid amount heard; reply = replies.Taken } ∷ [])
      ≡ changed sid (with_asked (requested c amount) heard) (flows_of c h)
  flows_of-ask c =
      let e : Entry = record { stamp = stamp; call = calls.Ask receiver sid amount heard; reply = replies.Taken } in
      flows_of-grown c h e (λ other. refl) ∙ map-each (grown_by c e)
      (λ f. if f.sid == sid then with_asked (requested c amount) heard f else f)
      (flows_of c h) (asked_this sid (requested c amount) heard)

  -- and no placement changes
  pub table_of-ask : table_of
      (h ++ record { stamp = stamp; call = calls.Ask receiver sid amount heard; reply = replies.Taken } ∷ [])
      ≡ table_of h
  table_of-ask =
      table_of-stays h (record { stamp = stamp; call = calls.Ask receiver sid amount heard; reply = replies.Taken })
      (λ other. refl) (λ other. refl) (λ other. refl)

-- a turn of another SID is none
pub other_turn : {X : Type 0} (sid other : ℕ) (turn : X) → other ≢ sid
    → (if sid == other then Some turn else None) ≡ None
other_turn sid other turn differ = grind (arith, nat_tests)

-- the turn of the SID that an entry names
pub own_turn : {X : Type 0} (sid : ℕ) (turn : X) → (if sid == sid then Some turn else None) ≡ Some turn
own_turn sid turn = grind (arith, nat_tests)

-- a value under another number is kept, and that under this number is not
pub kept_other : {Y : Type 0} (key : Y → ℕ) (sid other : ℕ) (o : Option Y) → ((y : Y) → o ≡ Some y → key y ≡ other)
    → other ≢ sid → option_and_then (kept_if (λ y. not (key y == sid))) o ≡ o
kept_other key sid other None has differ = refl
kept_other key sid other (Some y) has differ = let own : key y ≡ other = has y refl in grind (arith, nat_tests)

-- none is kept under this number
pub kept_own : {Y : Type 0} (key : Y → ℕ) (sid : ℕ) (o : Option Y) → ((y : Y) → o ≡ Some y → key y ≡ sid)
    → option_and_then (kept_if (λ y. not (key y == sid))) o ≡ None
kept_own key sid None has = refl
kept_own key sid (Some y) has = let own : key y ≡ sid = has y refl in grind (arith, nat_tests)

-- a flow that asks for nothing and is granted nothing
abbrev ungrown : LiveFlow → LiveFlow
ungrown f = record f {
  asked = f.asked + 0;
  grants = f.grants ++ [];
  sustained = f.sustained ++ [];
  peak = f.peak ++ [];
}

-- it stays as it is
pub ungrown-map : (o : Option LiveFlow) → option_map ungrown o ≡ o
ungrown-map None = refl
ungrown-map (Some f) =
    let none : f.asked + 0 ≡ f.asked = omega arith in
    rw (none, append-nil f.grants, append-nil f.sustained, append-nil f.peak) refl

module _ (stamp : Stamp) (h : List Entry) (sid : ℕ) where
  -- the history with the removal
  abbrev removed : List Entry
  removed = h ++ record { stamp = stamp; call = calls.Remove sid; reply = replies.Removed } ∷ []

  -- after a removal no flow with the SID is live, and the others stay
  pub flows_of-remove : (c : Config) → flows_of c
      (h ++ record { stamp = stamp; call = calls.Remove sid; reply = replies.Removed } ∷ [])
      ≡ without sid (flows_of c h)
  flows_of-remove c =
      let e : Entry = record { stamp = stamp; call = calls.Remove sid; reply = replies.Removed } in
      filter_map-kept (flow_at c h) (flow_at c removed) (λ f. not (f.sid == sid)) sids (λ other. elim
      (cases_eq other sid) [
        | inl same ↦ rw same (ap (option_map (flow_in_life c sid)) (life_of-ends sid h e (own_turn sid Ends))
            ∙ sym (kept_own (λ f. f.sid) sid (flow_at c h sid) (flow_at-sid c h sid)))
        | inr differ ↦ flow_at-stays c h e other (other_turn sid other Ends differ) ∙ ungrown-map (flow_at c h other)
            ∙ sym (kept_other (λ f. f.sid) sid other (flow_at c h other) (flow_at-sid c h other) differ)
      ])

  -- nor is one placed
  pub table_of-remove : table_of
      (h ++ record { stamp = stamp; call = calls.Remove sid; reply = replies.Removed } ∷ [])
      ≡ without_placed sid (table_of h)
  table_of-remove =
      let e : Entry = record { stamp = stamp; call = calls.Remove sid; reply = replies.Removed } in
      filter_map-kept (placed_at h) (placed_at removed) (λ p. not (p.sid == sid)) sids
      (λ other. elim (cases_eq other sid) [
        | inl same ↦ rw same (ap (option_and_then (placed_in_life sid)) (life_of-ends sid h e (own_turn sid Ends))
            ∙ sym (kept_own (λ p. p.sid) sid (placed_at h sid) (placed_at-sid h sid)))
        | inr differ ↦ placed_at-stays h e other (other_turn sid other Ends differ) refl refl
            ∙ sym (kept_other (λ p. p.sid) sid other (placed_at h other) (placed_at-sid h other) differ)
      ])
