-- A turn of a conversation.
use Rattle.std.proofs.Common.{◌≡◌, ℕ, ◌<◌, List, [], length, drop, Option, None, Some}
use Rattle.std.proofs.Common.{Result, Ok, Err, refl, sym, ap, subst, inl, inr, arith}
use Rattle.std.specs.Prelude.{◌⊎◌, IfErr, OnOk, MatchOption, MatchResult}
use Rattle.std.proofs.Math.Seq.{drop-length}
use Rattle.sched_calls.specs.declared.reply.Entry.{Entry}
use Rattle.sched_history.specs.Machine.{Machine, kept_of}
use Rattle.text_stream.specs.declared.Told.{Told}
use Rattle.text_stream.specs.Told.{AtHand, HasEnded, TellsNext, StopsLine}
use Rattle.text_stream.specs.declared.fault.TextFault.{TextFault}
use Rattle.text_stream.specs.declared.fault.TextFault.TheVariants.{Input, TooLong, NotJson, Shape, Config, Memory}
use Rattle.text_stream.specs.declared.fault.TextFault.TheVariants.{Output}
use Rattle.live_command.specs.declared.wording.Wording.{Wording}
use Rattle.live_command.specs.declared.fault.LiveFault.{LiveFault}
use Rattle.live_command.specs.declared.fault.LiveFault.TheVariants.{Text, Journal}
use Rattle.live_command.specs.Talk.{start_at, Start, Talk, TellsOn, Conversed, StopsTalk}
use Rattle.live_command.specs.Answers.{point_at, Waiting, fresh}
use Rattle.live_command.proofs.Counted.{IsCounted-start}
use Rattle.live_command.proofs.Talking.{Appends-none, TakesLines-none, Talk-ended, Talk-broken}

-- what follows from the first of two facts that hold where there is a value
pub first_of_two : {A E : Type 0} (P Q : Type 0) (S : E → Type 0) (r : Result A E) → MatchResult r (λ _. P × Q) S
    → MatchResult r (λ _. P) S
first_of_two P Q S (Ok x) holds = holds.0
first_of_two P Q S (Err e) holds = holds

-- what follows where there is a value
pub on_ok : {A E : Type 0} (P : Type 0) (Q S : E → Type 0) (r : Result A E) → MatchResult r (λ _. P) (λ e. Q e × S e)
    → OnOk r P
on_ok P Q S (Ok x) holds = holds
on_ok P Q S (Err e) holds = tt

-- where there is a fault, the first of two facts that hold of it
pub on_err-first : {A E : Type 0} (P : Type 0) (Q S : E → Type 0) (r : Result A E)
    → MatchResult r (λ _. P) (λ e. Q e × S e) → IfErr r Q
on_err-first P Q S (Ok x) holds = tt
on_err-first P Q S (Err e) holds = holds.0

-- and the second of them
pub on_err-second : {A E : Type 0} (P : Type 0) (Q S : E → Type 0) (r : Result A E)
    → MatchResult r (λ _. P) (λ e. Q e × S e) → IfErr r S
on_err-second P Q S (Ok x) holds = tt
on_err-second P Q S (Err e) holds = holds.1

-- what follows where there is a value, of each view of which a premise holds
pub all_ok : {A E : Type 0} (V : Type 0) (H P : V → Type 0) (r : Result A E) → ((v : V) → H v → OnOk r (P v))
    → OnOk r ((v : V) → H v → P v)
all_ok V H P (Ok x) holds = holds
all_ok V H P (Err e) holds = tt

-- and where there is a fault
pub all_err : {A E : Type 0} (V : Type 0) (H : V → Type 0) (Q : V → E → Type 0) (r : Result A E)
    → ((v : V) → H v → IfErr r (Q v)) → IfErr r (λ e. (v : V) → H v → Q v e)
all_err V H Q (Ok x) holds = tt
all_err V H Q (Err e) holds = holds

-- where all that was kept is handed over there is room
pub settled_room : (m new : Machine) → 0 < m.config.calls → new ≡ record m { handed = length m.history }
    → length (kept_of new) < new.config.calls
settled_room m new positive state =
    let empty : length (drop (length m.history) m.history) ≡ 0 = ap length (drop-length m.history) in
    let room : length (drop (length m.history) m.history) < m.config.calls =
    subst (λ (n : ℕ). n < m.config.calls) (sym empty) positive in
    subst (λ (k : Machine). length (kept_of k) < k.config.calls) (sym state) room

module _ (s : Start) (turns : ℕ) (m : Machine) (left written : Option (List ℕ)) (stands : List Entry → Type 0) where
  -- the next line of what is left
  pub TellsOn-next : (after : Option (List ℕ)) (waits : Waiting) (hand : AtHand) (told : Told)
      → Talk s turns m left written stands waits → TellsNext left after hand told
      → TellsOn s turns m after written stands waits hand told
  TellsOn-next after waits hand told talk next = record {
    line = next.line;
    is = next.is;
    between = left;
    talk = talk;
    taken = next.taken;
  }

  -- or the end
  pub next_or_end : (after : Option (List ℕ)) (waits : Waiting) (hand : AtHand) (told : Option Told)
      → Talk s turns m left written stands waits → waits.text ≡ [] → stands m.history
      → MatchOption told (HasEnded left after) (TellsNext left after hand)
      → MatchOption told (Conversed s m after written stands) (TellsOn s turns m after written stands waits hand)
  next_or_end after waits hand None talk empty stood ended =
      Talk-ended s turns m left written stands waits talk empty after stood ended.0 ended.1
  next_or_end after waits hand (Some told) talk empty stood next = TellsOn-next after waits hand told talk next

  -- or no line
  pub stops_reading : (after : Option (List ℕ)) (waits : Waiting) (fault : TextFault)
      → Talk s turns m left written stands waits → waits.text ≡ [] → stands m.history → StopsLine left after fault
      → StopsTalk s m after written stands (Text fault)
  stops_reading after waits Input talk empty stood stops =
      Talk-broken s turns m left written stands waits talk empty after stood stops
  stops_reading after waits TooLong talk empty stood stops =
      inl (Talk-broken s turns m left written stands waits talk empty after stood stops.0, stops.1)
  stops_reading after waits NotJson talk empty stood stops = stops
  stops_reading after waits (Shape n) talk empty stood stops = stops
  stops_reading after waits (Config field) talk empty stood stops = stops
  stops_reading after waits Memory talk empty stood stops = absurd stops
  stops_reading after waits Output talk empty stood stops = absurd stops

-- a journal, a writer or memory stops a conversation anywhere
pub stops_anywhere : (s : Start) (m : Machine) (left written : Option (List ℕ)) (stands : List Entry → Type 0)
    (e : LiveFault) → (e ≡ Journal) ⊎ ((e ≡ Text Memory) ⊎ (e ≡ Text Output)) → StopsTalk s m left written stands e
stops_anywhere s m left written stands e (inl is) = subst (StopsTalk s m left written stands) (sym is) tt
stops_anywhere s m left written stands e (inr (inl is)) = subst (StopsTalk s m left written stands) (sym is) tt
stops_anywhere s m left written stands e (inr (inr is)) = subst (StopsTalk s m left written stands) (sym is) tt

-- a conversation begins
pub Talk-start : (wording : Wording) (m : Machine) (unread written : Option (List ℕ)) (stands : List Entry → Type 0)
    → m.handed ≡ length m.history → stands m.history
    → Talk (start_at wording m unread written) 0 m unread written stands fresh
Talk-start wording m unread written stands handed stood = record {
  lines = [];
  texts = [];
  point = point_at m.history;
  says = refl;
  stood = stood;
  out = Appends-none written;
  more = [];
  answers = [];
  now = point_at m.history;
  says_more = refl;
  history = refl;
  waiting = refl;
  counted = IsCounted-start m.history;
  read = TakesLines-none unread;
  config = refl;
  handed = handed;
  many = omega arith;
}

-- so many turns were taken, and so none at least
pub talk_again : {A E : Type 0} (s : Start) (m : Machine) (left written : Option (List ℕ))
    (stands : List Entry → Type 0) (waits : Waiting) (S : E → Type 0) (r : Result A E)
    → MatchResult r (λ _. Talk s 1 m left written stands waits) S
    → MatchResult r (λ _. Talk s 0 m left written stands waits) S
talk_again s m left written stands waits S (Ok x) talk = record {
  lines = talk.lines;
  texts = talk.texts;
  point = talk.point;
  says = talk.says;
  stood = talk.stood;
  out = talk.out;
  more = talk.more;
  answers = talk.answers;
  now = talk.now;
  says_more = talk.says_more;
  history = talk.history;
  waiting = talk.waiting;
  counted = talk.counted;
  read = talk.read;
  config = talk.config;
  handed = talk.handed;
  many = omega arith;
}
talk_again s m left written stands waits S (Err e) stopped = stopped
