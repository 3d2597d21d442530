-- What is said to lines, one after the other.
use Rattle.std.proofs.Common.{◌≡◌, ℕ, ◌<◌, ◌≤◌, Bool, true, false, List, [], ◌∷◌, ◌++◌, length}
use Rattle.std.proofs.Common.{Option, None, Some, Result, Ok, Err, refl, sym, ap, subst, ◌∙◌, append_assoc, arith}
use Rattle.std.proofs.Math.Seq.{drop-length}
use Rattle.std.specs.Prelude.{not, ◌||◌, if◌then◌else◌, OnOk, OnErr}
use Rattle.std.proofs.lemmas.Bool.{le-ltb, lt-ltb}
use Rattle.std.proofs.lemmas.List.{append-nil}
use Rattle.std.proofs.lemmas.List.Concat.{flat_map-append}
use Rattle.std.proofs.lemmas.List.Elements.{filter-append}
use Rattle.minislots.specs.declared.config.Config.{Config}
use Rattle.sched_calls.specs.declared.call.Call.{Call}
use Rattle.sched_calls.specs.declared.reply.Entry.{Entry}
use Rattle.sched_history.specs.Machine.{Machine}
use Rattle.sched_calls.specs.Reply.{Answer}
use Rattle.sched_history.specs.Answer.{recorded}
use Rattle.sched_history.specs.declared.scheduler.backlog.Backlog.{Backlog}
use Rattle.sched_history.specs.Backlog.{backlog_of}
use Rattle.sched_history.specs.Life.{flows_of}
use Rattle.text_stream.specs.declared.TheConstants.{MAX_LINE}
use Rattle.text_stream.specs.declared.fault.TextFault.{TextFault}
use Rattle.live_command.specs.declared.wording.Wording.{Wording}
use Rattle.live_command.specs.declared.fault.LineFault.{LineFault}
use Rattle.live_command.specs.declared.fault.LineFault.TheVariants.{Long}
use Rattle.live_command.specs.declared.said.Said.{Said}
use Rattle.live_command.specs.Said.{said_in}
use Rattle.live_command.specs.Spoken.{is_blank, is_spoken, spoken, asked_read, asked_of_line, asked_in, fault_line}
use Rattle.live_command.specs.Answers.{answer_line, MayGet, after, Says, SaysEach, joined, AnswersLines}
use Rattle.live_command.specs.Answers.{SaysHeard, SaysOne, AnswersHeard, Point, since_start, Waiting, IsCounted}
use Rattle.live_command.specs.Answers.{Counted, standing_of}
use Rattle.live_command.specs.declared.asked.Asked.{Asked}
use Rattle.live_command.specs.declared.asked.Asked.TheVariants as asking
use Rattle.live_command.specs.declared.numbers.Numbers.{Numbers}
use Rattle.live_command.specs.Numbers.{AreNumbersOf}
use Rattle.live_command.specs.Stats.{stats_line}
use Rattle.live_command.proofs.Counted.{IsCounted-as}

-- lines, and then others
pub SaysEach-append : (c : Config) (e : Wording) (p : Point) (xs ts : List (List ℕ)) (mid : Point)
    (ys us : List (List ℕ)) (new : Point)
    → SaysEach c e p xs ts mid → SaysEach c e mid ys us new → SaysEach c e p (xs ++ ys) (ts ++ us) new
SaysEach-append c e p [] [] mid ys us new first next = subst (λ (k : Point). SaysEach c e k ys us new) first next
SaysEach-append c e p [] (t ∷ ts) mid ys us new first next = absurd first
SaysEach-append c e p (x ∷ xs) [] mid ys us new first next = absurd first
SaysEach-append c e p (x ∷ xs) (t ∷ ts) mid ys us new first next =
    (first.0, first.1, SaysEach-append c e first.0 xs ts mid ys us new first.2 next)

Says-grows : (c : Config) (e : Wording) (p : Point) (asked : Result Asked LineFault) (text : List ℕ)
    (new : Point) → Says c e p asked text new → (more : List Entry) × (new.history ≡ p.history ++ more)
Says-grows c e p (Ok (asking.Call call)) text new says =
    (recorded (length p.history) call says.0, ap (λ (k : Point). k.history) says.3)
Says-grows c e p (Ok asking.Stats) text new says =
    ([], ap (λ (k : Point). k.history) says.1 ∙ sym (append-nil p.history))
Says-grows c e p (Err fault) text new says =
    ([], ap (λ (k : Point). k.history) says.1 ∙ sym (append-nil p.history))

-- entries come behind those that there are
pub SaysEach-grows : (c : Config) (e : Wording) (p : Point) (xs ts : List (List ℕ)) (new : Point)
    → SaysEach c e p xs ts new → (more : List Entry) × (new.history ≡ p.history ++ more)
SaysEach-grows c e p [] [] new says = ([], ap (λ (k : Point). k.history) says ∙ sym (append-nil p.history))
SaysEach-grows c e p [] (t ∷ ts) new says = absurd says
SaysEach-grows c e p (x ∷ xs) [] new says = absurd says
SaysEach-grows c e p (x ∷ xs) (t ∷ ts) new says =
    let one = Says-grows c e p (asked_of_line x) t says.0 says.1 in
    let rest = SaysEach-grows c e says.0 xs ts new says.2 in
    (one.0 ++ rest.0, rest.1 ∙ ap (λ (k : List Entry). k ++ rest.0) one.1 ∙ append_assoc p.history one.0 rest.0)

-- the lines that are answered, of lines and then others
pub spoken-append : (xs ys : List (List ℕ)) → spoken (xs ++ ys) ≡ spoken xs ++ spoken ys
spoken-append xs ys = filter-append is_spoken xs ys

-- what is said to lines and then to others that may be blank
pub SaysEach-spoken : (c : Config) (e : Wording) (p : Point) (xs ts : List (List ℕ)) (mid : Point)
    (ys us : List (List ℕ)) (new : Point)
    → SaysEach c e p (spoken xs) ts mid → SaysEach c e mid (spoken ys) us new
    → SaysEach c e p (spoken (xs ++ ys)) (ts ++ us) new
SaysEach-spoken c e p xs ts mid ys us new first next =
    rw spoken-append (SaysEach-append c e p (spoken xs) ts mid (spoken ys) us new first next)

-- the texts of both
pub joined-append : (ts us : List (List ℕ)) → joined (ts ++ us) ≡ joined ts ++ joined us
joined-append ts us = flat_map-append (λ (text : List ℕ). text) ts us

-- what is said to what was heard of a line is said to the line
says_heard : (c : Config) (e : Wording) (p : Point) (line : List ℕ) (is : Bool) (texts : List (List ℕ))
    (new : Point) → is_spoken line ≡ is
    → SaysHeard c e p (if is then Some (asked_of_line line) else None) texts new
    → SaysEach c e p (spoken (line ∷ [])) texts new
says_heard c e p line true texts new is says = rw (is, says.1) (new, says.2, refl)
says_heard c e p line false texts new is says = rw (is, says.0) says.1

module _ (e : Wording) (line : List ℕ) (heard : Option (Result Asked LineFault)) (p : Point) (old new : Machine)
    (is : heard ≡ asked_in line) where
  -- so it is where its answer was not put
  pub SaysOne-line : (one : SaysOne e heard p old new)
      → SaysEach old.config e p (spoken (line ∷ [])) one.texts one.point
  SaysOne-line one = says_heard old.config e p line (is_spoken line) one.texts one.point refl
      (subst (λ (h : Option (Result Asked LineFault)). SaysHeard old.config e p h one.texts one.point) is
      one.says)

  -- and where it was
  pub AnswersLines-heard : (before waits : Waiting) → AnswersHeard e heard p old new before waits
      → AnswersLines e (line ∷ []) p old new before waits
  AnswersLines-heard before waits answers = record {
    texts = answers.said.texts;
    point = answers.said.point;
    says = SaysOne-line answers.said;
    history = answers.said.history;
    waits = answers.waits;
    counted = answers.counted;
    state = answers.said.state;
  }

-- what follows where there is no value
pub where_err : {A E P Q : Type 0} (r : Result A E) → (P → Q) → OnErr r P → OnErr r Q
where_err (Ok x) follows holds = tt
where_err (Err e) follows holds = follows holds

-- what holds anyway holds where there is none
pub always_err : {A E P : Type 0} (r : Result A E) → P → OnErr r P
always_err (Ok x) holds = tt
always_err (Err e) holds = holds

-- what follows from two facts where there is a value
pub both_ok : {A E P Q S : Type 0} (r : Result A E) → (P → Q → S) → OnOk r P → OnOk r Q → OnOk r S
both_ok (Ok x) follows one other = follows one other
both_ok (Err e) follows one other = tt

-- what is said to a call, whether its answer is put or not
pub said_call : (e : Wording) (call : Call) (p : Point) (old new : Machine) → p.history ≡ old.history
    → ((answer : Answer) × MayGet old.config old.history call answer
    × (new ≡ record old { history = after old.history call answer }))
    → SaysOne e (Some (Ok (asking.Call call))) p old new
said_call e call p old new same answered =
    let history : new.history ≡ after old.history call answered.0 =
    ap (λ (m : Machine). m.history) answered.2 in
    let now : after p.history call answered.0 ≡ after old.history call answered.0 =
    ap (λ (h : List Entry). after h call answered.0) same in
    let may : MayGet old.config p.history call answered.0 =
    subst (λ (h : List Entry). MayGet old.config h call answered.0) (sym same) answered.1 in
    record {
      texts = answer_line e answered.0 ∷ [];
      point = record p { history = after p.history call answered.0 };
      says = (answer_line e answered.0, refl, (answered.0, may, refl, refl));
      history = now ∙ sym history;
      state = answered.2 ∙ ap (λ (h : List Entry). record old { history = h }) (sym history);
    }

-- and its answer was put
pub answered_call : (e : Wording) (call : Call) (p : Point) (old new : Machine) (before waits : Waiting)
    → ((answer : Answer) × MayGet old.config old.history call answer
    × (waits.text ≡ before.text ++ answer_line e answer)
    × (new ≡ record old { history = after old.history call answer })
    × Counted old.history call answer before waits)
    → p.history ≡ old.history → IsCounted p before
    → AnswersHeard e (Some (Ok (asking.Call call))) p old new before waits
unfolding said_call
answered_call e call p old new before waits answered same counted = record {
  said = said_call e call p old new same (answered.0, answered.1, answered.3);
  waits = answered.2 ∙ ap (λ (t : List ℕ). before.text ++ t) (sym (append-nil (answer_line e answered.0)));
  counted = answered.4 p same counted;
}

-- what is said to a fault
pub said_fault : (e : Wording) (fault : LineFault) (p : Point) (old : Machine) → p.history ≡ old.history
    → SaysOne e (Some (Err fault)) p old old
said_fault e fault p old same = record {
  texts = fault_line fault ∷ [];
  point = p;
  says = (fault_line fault, refl, (refl, refl));
  history = same;
  state = refl;
}

-- and that was put
pub answered_fault : (e : Wording) (fault : LineFault) (p : Point) (old : Machine) (before waits : Waiting)
    → waits ≡ record before { text = before.text ++ fault_line fault } → p.history ≡ old.history
    → IsCounted p before → AnswersHeard e (Some (Err fault)) p old old before waits
unfolding said_fault
answered_fault e fault p old before waits put same counted = record {
  said = said_fault e fault p old same;
  waits = ap (λ (b : Waiting). b.text) put
      ∙ ap (λ (t : List ℕ). before.text ++ t) (sym (append-nil (fault_line fault)));
  counted = IsCounted-as p before waits (sym (ap (λ (b : Waiting). b.total) put))
      (sym (ap (λ (b : Waiting). b.since) put)) counted;
}

-- nothing is said to a blank line
pub answered_blank : (e : Wording) (p : Point) (old : Machine) (before : Waiting) → p.history ≡ old.history
    → IsCounted p before → AnswersHeard e None p old old before before
answered_blank e p old before same counted = record {
  said = record { texts = []; point = p; says = (refl, refl); history = same; state = refl };
  waits = sym (append-nil before.text);
  counted = counted;
}

-- what is said to a line that asks for the numbers
pub said_stats : (e : Wording) (p : Point) (old : Machine) (before : Waiting) (lapsed written : ℕ)
    → p.history ≡ old.history → IsCounted p before → SaysOne e (Some (Ok asking.Stats)) p old old
said_stats e p old before lapsed written same counted = record {
  texts = stats_line before.total before.since (standing_of old.config p.history lapsed written) ∷ [];
  point = record p { told = length p.history };
  says = (
    stats_line before.total before.since (standing_of old.config p.history lapsed written),
    refl,
    ((before.total, before.since, lapsed, written, counted.total, counted.since, refl), refl),
  );
  history = same;
  state = refl;
}

-- and that was put: the numbers are counted anew
pub answered_stats : (e : Wording) (p : Point) (old : Machine) (before waits : Waiting) (backlog : Backlog)
    (lapsed written : ℕ) → backlog ≡ backlog_of (flows_of old.config old.history)
    → waits.text ≡ before.text ++ stats_line before.total before.since
    (record { backlog = backlog; lapsed = lapsed; journal_bytes = written })
    → waits.total ≡ before.total → AreNumbersOf waits.since [] → p.history ≡ old.history → IsCounted p before
    → AnswersHeard e (Some (Ok asking.Stats)) p old old before waits
unfolding said_stats
answered_stats e p old before waits backlog lapsed written is put total since same counted = record {
  said = said_stats e p old before lapsed written same counted;
  waits = put
      ∙ ap (λ (b : Backlog). before.text ++ stats_line before.total before.since
      (record { backlog = b; lapsed = lapsed; journal_bytes = written })) is
      ∙ ap (λ (h : List Entry). before.text ++ stats_line before.total before.since
      (standing_of old.config h lapsed written)) (sym same)
      ∙ ap (λ (t : List ℕ). before.text ++ t) (sym (append-nil (stats_line before.total before.since
      (standing_of old.config p.history lapsed written))));
  counted = record {
    total = subst (λ (n : Numbers). AreNumbersOf n (since_start p)) (sym total) counted.total;
    since = subst (AreNumbersOf waits.since) (sym (drop-length p.history)) since;
    begun = counted.begun;
    told = omega arith;
  };
}

-- a line that is not long asks for what its text says
pub asked_of_short : (line : List ℕ) (said : Result Said TextFault) → length line ≤ MAX_LINE → said_in line ≡ said
    → asked_of_line line ≡ asked_read said
unfolding asked_of_line
asked_of_short line said short is = rw (le-ltb MAX_LINE (length line) short, is) refl

-- a long line has none
pub asked_of_long : (line : List ℕ) → MAX_LINE < length line → asked_of_line line ≡ Err Long
unfolding asked_of_line
asked_of_long line long = rw (lt-ltb MAX_LINE (length line) long) refl

-- and is answered
pub spoken_long : (line : List ℕ) → MAX_LINE < length line → is_spoken line ≡ true
spoken_long line long = ap (λ (b : Bool). b || not (is_blank line)) (lt-ltb MAX_LINE (length line) long)
