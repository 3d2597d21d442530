-- The minislots that a legal history tells are those of numbers of 64 bits.
use Rattle.std.proofs.Common.{◌≡◌, ℕ, ◌≤◌, Bool, true, false, nat_lt, if◌then◌else◌, List, [], ◌∷◌, ◌++◌, map}
use Rattle.std.proofs.Common.{Option, None, Some, zero, suc, refl, arith}
use Rattle.std.specs.Option.{option_or}
use Rattle.std.proofs.lemmas.Bool.Decides.{nat_tests}
use Rattle.minislots.specs.declared.config.Config.{Config}
use Rattle.periodic.specs.Placement.{count_from}
use Rattle.sched_calls.specs.declared.call.Call.{Call}
use Rattle.sched_calls.specs.declared.call.Call.TheVariants as calls
use Rattle.sched_calls.specs.declared.reply.Refusal.{Refusal}
use Rattle.sched_calls.specs.declared.reply.Reply.{Reply}
use Rattle.sched_calls.specs.declared.reply.Reply.TheVariants as replies
use Rattle.sched_calls.specs.declared.reply.Entry.{Entry}
use Rattle.sched_history.specs.Time.{next_after, progress_by, progress_of, least, ack_after}
use Rattle.sched_history.specs.Refusal.{refused_if, refusal_of}
use Rattle.sched_history.specs.History.{IsStep, IsLegal}
use Rattle.sched_history.proofs.steps.LegalHistories.{legal_induction, accepted}
use Rattle.sched_history.proofs.time.NextFrames.{next_after-ascends}
use Rattle.sched_history.proofs.time.TimeAfter.{progress_of-same, progress_of-noted}

-- where no test refuses the first does not, nor do the others
passed : (b : Bool) (refusal : Refusal) (rest : Option Refusal) → option_or (refused_if b refusal) rest ≡ None
    → (b ≡ false) × (rest ≡ None)
passed true refusal rest e = absurd (cc)
passed false refusal rest e = (refl, e)

within : (m n : ℕ) → nat_lt m n ≡ false → n ≤ m
within m n e = grind (arith, nat_tests)

-- the least of numbers is at most what each is at most
least-most : (f : ℕ → ℕ) (first n most : ℕ) → ((i : ℕ) → f i ≤ most) → least (map f (count_from first n)) ≤ most
least-most f first zero most each = omega arith
least-most f first (suc zero) most each = each first
least-most f first (suc (suc n)) most each = omega (arith, each first)

noted-same : (same : Bool) (said upto : ℕ) → (if same then Some said else None) ≡ Some upto → said ≡ upto
noted-same true said upto is = cc
noted-same false said upto is = absurd (cc)

module _ (c : Config) where
  heard-most : (h : List Entry) (receiver upto : ℕ) → refusal_of c h (calls.Heard receiver upto) ≡ None
      → upto ≤ next_after c h
  heard-most h receiver upto none =
      let behind = passed _ _ _ none in
      let ahead = passed _ _ _ behind.1 in
      within (next_after c h) upto ahead.0

  -- what a receiver notes is at most the next frame
  notes-most : (receiver : ℕ) (h : List Entry) (call : Call) (reply : Reply) (upto : ℕ) → IsStep c h call reply
      → progress_by receiver call reply ≡ Some upto → upto ≤ next_after c h
  notes-most receiver h (calls.Heard other said) replies.Noted upto step notes =
      let none = (accepted c h (calls.Heard other said) replies.Noted (λ r refuses. cc) step).0 in
      omega (arith, noted-same _ said upto notes, heard-most h other said none)
  notes-most receiver h call reply upto step notes = absurd (cc)

  progress-more : (receiver : ℕ) (h : List Entry) (e : Entry) → IsStep c h e.call e.reply
      → progress_of c receiver h ≤ next_after c h → (o : Option ℕ) → progress_by receiver e.call e.reply ≡ o
      → progress_of c receiver (h ++ e ∷ []) ≤ next_after c (h ++ e ∷ [])
  progress-more receiver h e step within None is =
      omega (arith, progress_of-same c receiver h e is, next_after-ascends c h e step)
  progress-more receiver h e step within (Some upto) is =
      rw (progress_of-noted c receiver h e upto is)
      (omega (arith, next_after-ascends c h e step, notes-most receiver h e.call e.reply upto step is))

  -- no receiver's progress is past the next frame
  pub progress_of-most : (h : List Entry) → IsLegal c h → (receiver : ℕ) → progress_of c receiver h ≤ next_after c h
  progress_of-most =
      legal_induction c (λ h. (receiver : ℕ) → progress_of c receiver h ≤ next_after c h)
      (λ h e legal step within receiver. progress-more receiver h e step (within receiver)
      (progress_by receiver e.call e.reply) refl)
      (λ receiver. omega arith)

  -- nor is the acknowledge time
  pub ack_after-most : (h : List Entry) → IsLegal c h → ack_after c h ≤ next_after c h
  ack_after-most h legal =
      least-most (λ receiver. progress_of c receiver h) 0 c.receivers (next_after c h) (progress_of-most h legal)
