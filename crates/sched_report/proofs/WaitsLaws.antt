-- How often a flow waited and stood so to its rates, with one entry more.
use Rattle.std.proofs.Common.{◌≡◌, ℕ, ◌+◌, ◌≤◌, ◌==◌, Bool, true, false, List, [], ◌∷◌, ◌++◌, filter, length, take, drop}
use Rattle.std.proofs.Common.{get_or, refl, ap, ◌∙◌, append_assoc}
use Rattle.std.proofs.Common.{if◌then◌else◌, arith}
use Rattle.std.specs.Prelude.{is_some}
use Rattle.std.proofs.lemmas.List.{append-nil, length-append, take-append-drop, take-append-le, drop-append-le}
use Rattle.std.proofs.lemmas.List.Elements.{filter-append}
use Rattle.minislots.specs.declared.config.Config.{Config}
use Rattle.sched_calls.specs.declared.reply.Reply.{Reply}
use Rattle.sched_calls.specs.declared.reply.Reply.TheVariants as replies
use Rattle.sched_calls.specs.declared.call.Call.{Call}
use Rattle.sched_calls.specs.declared.call.Call.TheVariants as calls
use Rattle.sched_calls.specs.declared.reply.Entry.{Entry}
use Rattle.flow_book.specs.declared.standing.Standing.{Standing}
use Rattle.sched_history.specs.Facts.{waits_by}
use Rattle.sched_history.specs.Life.{turn_by}
use Rattle.sched_report.specs.declared.life.LifeTally.{LifeTally}
use Rattle.sched_report.specs.Lives.{PastLife, is_turn, with_entry}
use Rattle.sched_report.specs.WaitsIn.{times, waits_since, waits_in}
use Rattle.sched_report.specs.Waits.{counted_by, HasCounted}
use Rattle.sched_report.proofs.LegalLives.{IsLifeIn}

-- no SID is more often among some than they are
pub times-most : (sid : ℕ) (sids : List ℕ) → times sid sids ≤ length sids
times-most sid [] = omega arith
times-most sid (x ∷ xs) = by-test (times-most sid xs) (x == sid) refl
  where
    by-test : times sid xs ≤ length xs → (b : Bool) → (x == sid) ≡ b → times sid (x ∷ xs) ≤ length (x ∷ xs)
    by-test most true is = rw is (omega (arith, most))
    by-test most false is = rw is (omega (arith, most))

-- among two lists it is as often as among each
pub times-append : (sid : ℕ) (xs ys : List ℕ) → times sid (xs ++ ys) ≡ times sid xs + times sid ys
times-append sid xs ys =
    ap length (filter-append (λ other. other == sid) xs ys)
    ∙ length-append (filter (λ other. other == sid) xs) (filter (λ other. other == sid) ys)

-- so is a life counted
pub counted-append : (xs ys : List ℕ) (t : LifeTally) → counted_by (xs ++ ys) t ≡ counted_by xs t + counted_by ys t
counted-append xs ys t = by-end (is_some t.to)
  where
    by-end : (b : Bool) → (if b then 0 else times t.sid (xs ++ ys))
        ≡ (if b then 0 else times t.sid xs) + (if b then 0 else times t.sid ys)
    by-end true = refl
    by-end false = times-append t.sid xs ys

pub counted-most : (sids : List ℕ) (t : LifeTally) → counted_by sids t ≤ length sids
counted-most sids t = by-end (is_some t.to)
  where
    by-end : (b : Bool) → (if b then 0 else times t.sid sids) ≤ length sids
    by-end true = omega arith
    by-end false = times-most t.sid sids

-- one list after the other
pub HasCounted-then : (xs ys : List ℕ) (ts : List LifeTally) (a b d : List ℕ) → HasCounted xs ts a b
    → HasCounted ys ts b d → HasCounted (xs ++ ys) ts a d
HasCounted-then xs ys ts a b d first second = λ k n t below.
    omega (arith, first k n t below, second k n t below, counted-append xs ys (get_or ts k t))

pub HasCounted-none : (ts : List LifeTally) (a : List ℕ) → HasCounted [] ts a a
HasCounted-none ts a = λ k n t below. by-end (is_some (get_or ts k t).to) (get_or a k n)
  where
    by-end : (b : Bool) (m : ℕ) → m ≡ m + (if b then 0 else 0)
    by-end true m = omega arith
    by-end false m = omega arith

-- one entry more
pub waits_since-push : (s : Standing) (c : Config) (sid : ℕ) (before es : List Entry) (e : Entry)
    → waits_since s c sid before (es ++ e ∷ [])
    ≡ waits_since s c sid before es + times sid (waits_by s c (before ++ es) e.reply)
waits_since-push s c sid before [] e =
    rw (append-nil before) (omega arith)
waits_since-push s c sid before (x ∷ es) e =
    omega (
      arith,
      waits_since-push s c sid (before ++ x ∷ []) es e,
      ap (λ (all : List Entry). times sid (waits_by s c all e.reply)) (append_assoc before (x ∷ []) es),
    )

-- an entry with which a life ends or begins has no MAP
turn-none : (s : Standing) (c : Config) (h : List Entry) (sid : ℕ) (e : Entry) → is_turn sid e ≡ true
    → waits_by s c h e.reply ≡ []
turn-none s c h sid e turn = by-reply e.call e.reply turn
  where
    by-reply : (call : Call) (reply : Reply) → is_some (turn_by sid call reply) ≡ true
        → waits_by s c h reply ≡ []
    by-reply (calls.Admit other spec) (replies.Admitted placement) turn = refl
    by-reply (calls.Remove other) replies.Removed turn = refl
    by-reply call reply turn = absurd (cc)

-- a life that goes on has what the entry counts of its SID
pub waits-with : (s : Standing) (c : Config) (h : List Entry) (e : Entry) (life : PastLife) → IsLifeIn h life
    → waits_in s c (with_entry e life)
    ≡ waits_in s c life + (if life.ended then 0 else times life.sid (waits_by s c h e.reply))
waits-with s c h e life in_h = by-end life.ended (is_turn life.sid e) refl refl
  where
    by-end : (ended turns : Bool) → life.ended ≡ ended → is_turn life.sid e ≡ turns → waits_in s c (with_entry e life)
        ≡ waits_in s c life + (if life.ended then 0 else times life.sid (waits_by s c h e.reply))
    by-end true turns ended turn = rw ended (omega arith)
    by-end false true ended turn = rw (ended, turn, turn-none s c h life.sid e turn) (omega arith)
    by-end false false ended turn =
        let within : life.passed ≤ length life.since = in_h.passed ended in
        let front : List Entry = take life.passed life.since in
        let rest : List Entry = drop life.passed life.since in
        let whole : (life.upto ++ front) ++ rest ≡ h =
        append_assoc life.upto front rest
        ∙ ap (λ (es : List Entry). life.upto ++ es) (take-append-drop life.passed life.since)
        ∙ in_h.whole ended in
        rw (ended, turn)
        (ap (λ (es : List Entry). waits_since s c life.sid (life.upto ++ es)
        (drop life.passed (life.since ++ e ∷ []))) (take-append-le life.passed life.since (e ∷ []) within)
        ∙ ap (waits_since s c life.sid (life.upto ++ front)) (drop-append-le life.passed life.since (e ∷ []) within)
        ∙ waits_since-push s c life.sid (life.upto ++ front) rest e
        ∙ ap (λ (all : List Entry). waits_in s c life + times life.sid (waits_by s c all e.reply)) whole)
