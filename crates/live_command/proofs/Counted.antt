-- The numbers of a conversation, as far as it has come.
use Rattle.std.proofs.Common.{◌≡◌, ℕ, ◌+◌, ◌-◌, ◌^◌, ◌<◌, ◌≤◌, List, [], ◌∷◌, ◌++◌, length, drop, Ok, Err, refl, sym}
use Rattle.std.proofs.Common.{subst, arith, length-append}
use Rattle.std.proofs.Math.Seq.{drop-length}
use Rattle.std.proofs.lemmas.List.{append-nil, length-drop, drop-append-le, get_or-replicate}
use Rattle.minislots.specs.declared.config.Config.{Config}
use Rattle.sched_calls.specs.declared.call.Call.{Call}
use Rattle.sched_calls.specs.declared.reply.Reply.{Reply}
use Rattle.sched_calls.specs.declared.reply.TheConstants.{MAX_WHOLE_HISTORY}
use Rattle.sched_calls.specs.declared.reply.Entry.{Entry}
use Rattle.sched_calls.specs.declared.reply.Unrecorded.{Unrecorded}
use Rattle.sched_calls.specs.Reply.{Answer}
use Rattle.live_command.specs.declared.numbers.Numbers.{Numbers}
use Rattle.live_command.specs.Numbers.{AreNumbersOf, no_numbers}
use Rattle.live_command.specs.Answers.{MayGet, after, Point, point_at, since_start, since_stats, Waiting, IsCounted}
use Rattle.live_command.specs.Answers.{Counted, fresh}

-- the same numbers, whatever waits
pub IsCounted-as : (p : Point) (old new : Waiting) → old.total ≡ new.total → old.since ≡ new.since
    → IsCounted p old → IsCounted p new
IsCounted-as p old new total since counted = record {
  total = subst (λ (n : Numbers). AreNumbersOf n (since_start p)) total counted.total;
  since = subst (λ (n : Numbers). AreNumbersOf n (since_stats p)) since counted.since;
  begun = counted.begun;
  told = counted.told;
}

-- nothing was counted
pub none_counted : AreNumbersOf no_numbers []
none_counted = record {
  entries = refl;
  maps = refl;
  refused = record { places = refl; each = λ place within. get_or-replicate 23 place 0 0 within };
  elements = refl;
  margin = refl;
  behind = refl;
}

-- a conversation begins
pub IsCounted-start : (h : List Entry) → IsCounted (point_at h) fresh
IsCounted-start h = record {
  total = subst (AreNumbersOf no_numbers) (sym (drop-length h)) none_counted;
  since = subst (AreNumbersOf no_numbers) (sym (drop-length h)) none_counted;
  begun = omega arith;
  told = omega arith;
}

-- one entry more is counted
abbrev pub CountsOne : Call → Reply → Numbers → Numbers → Type 0
CountsOne call reply old new = (es : List Entry) (e : Entry) → e.call ≡ call → e.reply ≡ reply
    → length es < 2 ^ 64 - 1 → AreNumbersOf old es → AreNumbersOf new (es ++ e ∷ [])

-- among those behind some
counts_behind : (call : Call) (reply : Reply) (old new : Numbers) (h : List Entry) (n : ℕ) (e : Entry)
    → CountsOne call reply old new → e.call ≡ call → e.reply ≡ reply → n ≤ length h
    → length h < MAX_WHOLE_HISTORY → AreNumbersOf old (drop n h) → AreNumbersOf new (drop n (h ++ e ∷ []))
counts_behind call reply old new h n e counts asked replied within few are =
    subst (AreNumbersOf new) (sym (drop-append-le n h (e ∷ []) within))
    (counts (drop n h) e asked replied (omega (arith, few, length-drop n h)) are)

-- a call that was recorded is counted
pub counted_reply : (c : Config) (h : List Entry) (call : Call) (reply : Reply) (old new : Waiting)
    → MayGet c h call (Ok reply) → CountsOne call reply old.total new.total
    → CountsOne call reply old.since new.since → Counted h call (Ok reply) old new
counted_reply c h call reply old new may total since = λ p same counted.
    let e : Entry =
    record { stamp = record { seat = 0; ticket = length p.history }; call = call; reply = reply } in
    let few : length p.history < MAX_WHOLE_HISTORY =
    subst (λ (k : List Entry). length k < MAX_WHOLE_HISTORY) (sym same) may.0 in
    let more : length (p.history ++ e ∷ []) ≡ length p.history + 1 = length-append p.history (e ∷ []) in
    record {
      total = counts_behind call reply old.total new.total p.history p.begun e total refl refl counted.begun few
          counted.total;
      since = counts_behind call reply old.since new.since p.history p.told e since refl refl counted.told few
          counted.since;
      begun = omega (arith, more, counted.begun);
      told = omega (arith, more, counted.told);
    }

counted_none : (h : List Entry) (call : Call) (why : Unrecorded) (box : Waiting)
    → Counted h call (Err why) box box
counted_none h call why box = λ p same counted.
    subst (λ (k : List Entry). IsCounted (record p { history = k }) box) (sym (append-nil p.history)) counted

-- and no other
pub counted_err : (h : List Entry) (call : Call) (answer : Answer) (why : Unrecorded) (box : Waiting)
    → answer ≡ Err why → Counted h call answer box box
counted_err h call answer why box is =
    subst (λ (a : Answer). Counted h call a box box) (sym is) (counted_none h call why box)

-- and so it is where its answer was put
pub Counted-put : (h : List Entry) (call : Call) (answer : Answer) (old mid new : Waiting)
    → Counted h call answer old mid → new.total ≡ mid.total → new.since ≡ mid.since
    → Counted h call answer old new
Counted-put h call answer old mid new counts total since = λ p same counted.
    IsCounted-as (record p { history = after p.history call answer }) mid new (sym total) (sym since)
    (counts p same counted)
