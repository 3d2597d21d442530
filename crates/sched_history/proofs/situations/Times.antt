-- What is left of the time, of the progress of receivers, of the Reserves and of headers, with one call more.
use Rattle.std.proofs.Common.{◌≡◌, ◌≢◌, ℕ, zero, suc, ◌+◌, ◌<◌, if◌then◌else◌, ◌==◌, List, [], ◌∷◌, ◌++◌, map, set}
use Rattle.std.proofs.Common.{Option, None, Some, refl, sym, ap, ◌∙◌, arith}
use Rattle.std.specs.Option.{option_map_or}
use Rattle.std.proofs.lemmas.Bool.Decides.{nat_tests}
use Rattle.minislots.specs.declared.config.Config.{Config}
use Rattle.minislots.specs.declared.stamp.Stamp.{Stamp}
use Rattle.periodic.specs.Placement.{count_from}
use Rattle.sched_calls.specs.declared.opportunity.Header.{Header}
use Rattle.sched_calls.specs.declared.call.Call.{Call}
use Rattle.sched_calls.specs.declared.call.Call.TheVariants as calls
use Rattle.sched_calls.specs.declared.reply.Reply.{Reply}
use Rattle.sched_calls.specs.declared.reply.Reply.TheVariants as replies
use Rattle.sched_calls.specs.declared.reply.Entry.{Entry}
use Rattle.sched_history.specs.Time.{progress_of, next_after}
use Rattle.sched_history.specs.Headers.{header_by, header_after}
use Rattle.sched_history.specs.Settling.{settling_after, last_ack}
use Rattle.sched_history.specs.Situation.{next_by, heard_by, settling_by, ack_by}
use Rattle.sched_history.proofs.time.TimeAfter.{next_after-same, next_after-built, next_after-skipped}
use Rattle.sched_history.proofs.time.TimeAfter.{progress_of-same, progress_of-noted}
use Rattle.sched_history.proofs.reserves.HeaderAfter.{header_after-same, header_after-set}
use Rattle.sched_history.proofs.settling.SettlingAfter.{settling_after-same, settling_after-built}
use Rattle.sched_history.proofs.settling.LastAcks.{last_ack-same, last_ack-built}

-- the values of some numbers are those of others where each is
map-counted : (f g : ℕ → ℕ) (first n : ℕ) → ((x : ℕ) → first < x + 1 → g x ≡ f x)
    → map g (count_from first n) ≡ map f (count_from first n)
map-counted f g first zero same = refl
map-counted f g first (suc n) same =
    rw (same first (omega arith), map-counted f g (first + 1) n (λ x above. same x (omega arith))) refl

-- with another value for one number they have that in its place
map-set_at : (f g : ℕ → ℕ) (first n i y : ℕ) → g (first + i) ≡ y → ((x : ℕ) → x ≢ first + i → g x ≡ f x)
    → map g (count_from first n) ≡ set (map f (count_from first n)) i y
map-set_at f g first zero i y here others = refl
map-set_at f g first (suc n) zero y here others =
    let same : first + 0 ≡ first = omega arith in
    let now : g first ≡ y = ap g (sym same) ∙ here in
    rw (now, map-counted f g (first + 1) n (λ x above. others x (omega arith))) refl
map-set_at f g first (suc n) (suc i) y here others =
    let now : g first ≡ f first = others first (omega arith) in
    let rest = map-set_at f g (first + 1) n i y (ap g (omega arith) ∙ here) (λ x apart. others x (omega arith)) in
    rw (now, rest) refl

own_note : (receiver upto : ℕ) → (if receiver == receiver then Some upto else None) ≡ Some upto
own_note receiver upto = grind (arith, nat_tests)

other_note : (receiver other upto : ℕ) → other ≢ receiver → (if receiver == other then Some upto else None) ≡ None
other_note receiver other upto differ = grind (arith, nat_tests)

module _ (c : Config) (stamp : Stamp) (h : List Entry) where
  -- the call and its reply, with the stamp
  abbrev entry : Call → Reply → Entry
  entry call reply = record { stamp = stamp; call = call; reply = reply }

  -- where the next MAP starts
  pub next-left : (call : Call) (reply : Reply)
      → next_after c (h ++ record { stamp = stamp; call = call; reply = reply } ∷ []) ≡ next_by c reply (next_after c h)
  next-left call (replies.Built m) = next_after-built c h (entry call (replies.Built m)) m refl
  next-left call (replies.Skipped start) = next_after-skipped c h (entry call (replies.Skipped start)) start refl
  next-left call reply = next_after-same c h (entry call reply) refl refl

  -- what the next MAP settles by
  pub settling-left : (call : Call) (reply : Reply)
      → settling_after c (h ++ record { stamp = stamp; call = call; reply = reply } ∷ [])
      ≡ settling_by reply (settling_after c h)
  settling-left call (replies.Built m) = settling_after-built c h (entry call (replies.Built m)) m refl
  settling-left call reply = settling_after-same c h (entry call reply) refl

  -- the acknowledge time of the last MAP
  pub ack-left : (call : Call) (reply : Reply)
      → last_ack c (h ++ record { stamp = stamp; call = call; reply = reply } ∷ []) ≡ ack_by reply (last_ack c h)
  ack-left call (replies.Built m) = last_ack-built c h (entry call (replies.Built m)) m refl
  ack-left call reply = last_ack-same c h (entry call reply) refl

  header-by : (call : Call) (reply : Reply) (o : Option Header) → header_by call reply ≡ o
      → header_after c (h ++ entry call reply ∷ []) ≡ option_map_or (λ header. header) o (header_after c h)
  header-by call reply None none = header_after-same c h (entry call reply) none
  header-by call reply (Some header) sets = header_after-set c h (entry call reply) header sets

  -- the header of the next MAP
  pub header-left : (call : Call) (reply : Reply)
      → header_after c (h ++ record { stamp = stamp; call = call; reply = reply } ∷ [])
      ≡ option_map_or (λ header. header) (header_by call reply) (header_after c h)
  header-left call reply = header-by call reply (header_by call reply) refl

  -- how far each receiver has handed in what it heard
  pub progress-all : (call : Call) (reply : Reply) → map (λ receiver. progress_of c receiver
      (h ++ record { stamp = stamp; call = call; reply = reply } ∷ [])) (count_from 0 c.receivers)
      ≡ heard_by call reply (map (λ receiver. progress_of c receiver h) (count_from 0 c.receivers))
  progress-all (calls.Heard receiver upto) replies.Noted =
      let e : Entry = entry (calls.Heard receiver upto) replies.Noted in
      let own : 0 + receiver ≡ receiver = omega arith in
      map-set_at (λ r. progress_of c r h) (λ r. progress_of c r (h ++ e ∷ [])) 0 c.receivers receiver upto
      (rw own (progress_of-noted c receiver h e upto (own_note receiver upto)))
      (λ other apart. progress_of-same c other h e (other_note receiver other upto (omega arith)))
  progress-all call reply =
      map-counted (λ r. progress_of c r h) (λ r. progress_of c r (h ++ entry call reply ∷ [])) 0 c.receivers
      (λ r above. progress_of-same c r h (entry call reply) refl)
