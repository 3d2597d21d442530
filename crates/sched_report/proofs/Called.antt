-- How many calls of each kind there are with one more.
use Rattle.std.proofs.Common.{◌≡◌, ℕ, ◌+◌, Bool, true, false, List, [], ◌∷◌, ◌++◌, refl, ap, ◌∙◌, sym, cond, arith}
use Rattle.std.proofs.Common.{if◌then◌else◌}
use Rattle.std.proofs.lemmas.List.Sums.{sum_by_push}
use Rattle.sched_calls.specs.declared.call.Call.{Call}
use Rattle.sched_calls.specs.declared.reply.Entry.{Entry}
use Rattle.sched_report.specs.declared.calls.Calls.{Calls}
use Rattle.sched_report.specs.Counts.{is_admit, is_ask, is_build, is_change, is_header, is_heard, is_remove, is_replace}
use Rattle.sched_report.specs.Counts.{is_reserve, is_rest, is_skip, is_status, is_wake, calls_with, calls_of}

-- a number for each kind of call
abbrev pub calls_by : ((Call → Bool) → ℕ) → Calls
calls_by f = record {
  admit = f is_admit;
  ask = f is_ask;
  build = f is_build;
  change = f is_change;
  header = f is_header;
  heard = f is_heard;
  remove = f is_remove;
  replace = f is_replace;
  reserve = f is_reserve;
  rest = f is_rest;
  skip = f is_skip;
  status = f is_status;
  wake = f is_wake;
}

-- numbers are the same where that of each kind is
same_calls : (f g : (Call → Bool) → ℕ) → ((kind : Call → Bool) → f kind ≡ g kind) → calls_by f ≡ calls_by g
same_calls f g same =
    rw (
      same is_admit,
      same is_ask,
      same is_build,
      same is_change,
      same is_header,
      same is_heard,
      same is_remove,
      same is_replace,
      same is_reserve,
      same is_rest,
      same is_skip,
      same is_status,
      same is_wake,
    ) refl

more_if : (b : Bool) (n : ℕ) → n + cond b 1 0 ≡ (if b then n + 1 else n)
more_if true n = refl
more_if false n = omega arith

-- one more of the kind of a call
abbrev called : List Entry → Call → Calls
called h call = calls_by (λ kind. if kind call then calls_with kind h + 1 else calls_with kind h)

-- the numbers with one call more
pub calls_of-push : (h : List Entry) (e : Entry) (call : Call) → e.call ≡ call → (new : Calls) → new ≡ called h call
    → new ≡ calls_of (h ++ e ∷ [])
calls_of-push h e call is new more =
    more ∙ ap (called h) (sym is)
    ∙ sym (same_calls (λ kind. calls_with kind (h ++ e ∷ []))
    (λ kind. if kind e.call then calls_with kind h + 1 else calls_with kind h)
    (λ kind. sum_by_push (λ (x : Entry). cond (kind x.call) 1 0) h e ∙ more_if (kind e.call) (calls_with kind h)))
