-- The lives of a legal history: those that have not ended are the flows that live.
use Rattle.std.proofs.Common.{◌≡◌, ℕ, ◌+◌, ◌<◌, ◌≤◌, Bool, true, false, List, [], ◌∷◌, ◌++◌, map, length, Option, None}
use Rattle.std.proofs.Common.{Some, refl, sym, ap, ◌∙◌, subst, append_assoc, if◌then◌else◌, arith}
use Rattle.std.specs.Prelude.{is_some}
use Rattle.std.specs.List.{AllByRecursion}
use Rattle.std.specs.Option.{option_map}
use Rattle.std.proofs.lemmas.Bool.{eq-eqb}
use Rattle.std.proofs.lemmas.List.{append-nil, length_push, length-append}
use Rattle.minislots.specs.declared.config.Config.{Config}
use Rattle.sched_calls.specs.declared.spec.FlowSpec.{FlowSpec}
use Rattle.sched_calls.specs.declared.call.Call.{Call}
use Rattle.sched_calls.specs.declared.call.Call.TheVariants as calls
use Rattle.sched_calls.specs.declared.reply.Reply.{Reply}
use Rattle.sched_calls.specs.declared.reply.Reply.TheVariants as replies
use Rattle.sched_calls.specs.declared.reply.Entry.{Entry}
use Rattle.sched_history.specs.Life.{Admission, Turn, Begins, turn_by, turn_of, Life, life_of}
use Rattle.sched_history.specs.Situation.{situation_of}
use Rattle.sched_history.specs.History.{IsStep, IsLegal}
use Rattle.sched_history.proofs.lives.Finding.{good_sid}
use Rattle.sched_history.proofs.lives.LivesAfter.{with_since, life_of-stays, life_of-begins}
use Rattle.periodic.proofs.Joined.{all-append}
use Rattle.sched_history.proofs.steps.LegalHistories.{accepted, legal_induction}
use Rattle.sched_history.proofs.steps.Passed.{passed-admit}
use Rattle.sched_report.specs.declared.lives.Opening.{Opening}
use Rattle.sched_report.specs.Lives.{PastLife, opening_by, is_turn, life_begun, lives_of, passing, with_entry}
use Rattle.sched_report.proofs.PastLives.{lives_of-push}

-- A life of the history: its SID is one of a flow, and where it has not ended it goes up to the history's end, and is
-- the life that its SID has
pub record IsLifeIn (h : List Entry) (life : PastLife) : Type 0 where
  pub least : 1 ≤ life.sid
  pub most : life.sid ≤ 8191
  pub few : length life.since ≤ length h
  pub whole : life.ended ≡ false → life.upto ++ life.since ≡ h
  pub lives : life.ended ≡ false → (l : Life) × (life_of life.sid h ≡ Some l) × (l.since ≡ life.since)
  pub passed : life.ended ≡ false → life.passed ≤ length life.since
  pub behind : life.ended ≡ true → length life.upto + length life.since < length h

-- an entry that is no turn
pub no_turn : (o : Option Turn) → is_some o ≡ false → o ≡ None
no_turn None dead = refl
no_turn (Some turn) dead = absurd cc

-- a life with one entry more
module _ (h : List Entry) (e : Entry) (sid : ℕ) (first : FlowSpec) (upto since : List Entry) (passed : ℕ) where
  goes_on : (ended ends : Bool) → is_turn sid e ≡ ends
      → IsLifeIn h (record { sid = sid; first = first; upto = upto; since = since; ended = ended; passed = passed })
      → IsLifeIn (h ++ e ∷ []) (if ended
      then record { sid = sid; first = first; upto = upto; since = since; ended = ended; passed = passed }
      else if ends then record { sid = sid; first = first; upto = upto; since = since; ended = true; passed = passed }
      else record { sid = sid; first = first; upto = upto; since = since ++ e ∷ []; ended = ended; passed = passed })
  goes_on true ends is life = record {
    least = life.least;
    most = life.most;
    few = omega (arith, life.few, length_push h e);
    whole = λ alive. absurd (cc);
    lives = λ alive. absurd (cc);
    passed = λ alive. absurd (cc);
    behind = λ ended. omega (arith, life.behind refl, length_push h e);
  }
  goes_on false true is life = record {
    least = life.least;
    most = life.most;
    few = omega (arith, life.few, length_push h e);
    whole = λ alive. absurd (cc);
    lives = λ alive. absurd (cc);
    passed = λ alive. absurd (cc);
    behind = λ ended.
        omega (arith, length-append upto since, ap (λ (es : List Entry). length es) (life.whole refl), length_push h e);
  }
  goes_on false false is life =
      let l = life.lives refl in
      record {
        least = life.least;
        most = life.most;
        few = omega (arith, life.few, length_push h e, length_push since e);
        whole = λ alive. sym (append_assoc upto since (e ∷ []))
            ∙ ap (λ (es : List Entry). es ++ e ∷ []) (life.whole refl);
        lives = λ alive. (
          with_since e l.0,
          life_of-stays sid h e (no_turn (turn_of sid e) is) ∙ ap (option_map (with_since e)) l.1,
          ap (λ (es : List Entry). es ++ e ∷ []) l.2,
        );
        passed = λ alive. omega (arith, life.passed refl, length_push since e);
        behind = λ ended. absurd (cc);
      }

go_on : (h : List Entry) (e : Entry) (lives : List PastLife) → AllByRecursion (IsLifeIn h) lives
    → AllByRecursion (IsLifeIn (h ++ e ∷ [])) (map (with_entry e) lives)
go_on h e [] all = tt
go_on h e (life ∷ lives) all = (
  goes_on h e life.sid life.first life.upto life.since life.passed life.ended (is_turn life.sid e) refl all.0,
  go_on h e lives all.1,
)

-- The entry begins a life of this SID, which is one of a flow
pub record Begun (sid : ℕ) (call : Call) (reply : Reply) : Type 0 where
  pub least : 1 ≤ sid
  pub most : sid ≤ 8191
  pub admission : Admission
  pub turn : turn_by sid call reply ≡ Some (Begins admission)

-- a flow that is admitted has a SID of one
good_opening : (c : Config) (h : List Entry) (call : Call) (reply : Reply) (o : Opening) → IsStep c h call reply
    → opening_by call reply ≡ Some o → Begun o.sid call reply
good_opening c h (calls.Admit sid spec) (replies.Admitted placement) o step is =
    let same : record { sid = sid; spec = spec } ≡ o = cc in
    let good = good_sid sid (passed-admit c (situation_of c h) sid spec
    (accepted c h (calls.Admit sid spec) (replies.Admitted placement) (λ r refuses. cc) step).0).good in
    subst (λ (o : Opening). Begun o.sid (calls.Admit sid spec) (replies.Admitted placement)) same (record {
      least = good.0;
      most = good.1;
      admission = record { spec = spec; placement = placement };
      turn = ap (λ b. if b then Some (Begins (record { spec = spec; placement = placement })) else None)
          (eq-eqb sid sid refl);
    })
good_opening c h call reply o step is = absurd (cc)

begun : (c : Config) (h : List Entry) (e : Entry) (o : Option Opening) → IsStep c h e.call e.reply
    → opening_by e.call e.reply ≡ o
    → AllByRecursion (IsLifeIn (h ++ e ∷ [])) (life_begun (h ++ e ∷ []) o [])
begun c h e None step is = tt
begun c h e (Some o) step is =
    let b = good_opening c h e.call e.reply o step is in (
      record {
        least = b.least;
        most = b.most;
        few = omega arith;
        whole = λ alive. append-nil (h ++ e ∷ []);
        lives = λ alive. (
          record { admission = b.admission; since = [] },
          life_of-begins o.sid h e b.admission b.turn,
          refl,
        );
        passed = λ alive. omega arith;
        behind = λ ended. absurd (cc);
      },
      tt,
    )

lives_more : (c : Config) (h : List Entry) (e : Entry) → IsLegal c h → IsStep c h e.call e.reply
    → AllByRecursion (IsLifeIn h) (lives_of h) → AllByRecursion (IsLifeIn (h ++ e ∷ [])) (lives_of (h ++ e ∷ []))
lives_more c h e legal step all =
    rw (lives_of-push h e)
    (all-append (IsLifeIn (h ++ e ∷ [])) (map (with_entry e) (lives_of h))
    (life_begun (h ++ e ∷ []) (opening_by e.call e.reply) [])
    (go_on h e (lives_of h) all) (begun c h e (opening_by e.call e.reply) step refl))

-- the lives of a legal history are its flows'
pub are_lives : (c : Config) (h : List Entry) → IsLegal c h → AllByRecursion (IsLifeIn h) (lives_of h)
are_lives c = legal_induction c (λ h. AllByRecursion (IsLifeIn h) (lives_of h)) (lives_more c) tt

-- a life of a history is one where so many entries of that came before what is told
pub passing-in : (h : List Entry) (p : ℕ) (life : PastLife) → p ≤ length h → IsLifeIn h life
    → IsLifeIn h (passing p life)
passing-in h p life few is = record {
  least = is.least;
  most = is.most;
  few = is.few;
  whole = is.whole;
  lives = is.lives;
  passed = λ alive. omega (
    arith,
    few,
    length-append life.upto life.since,
    ap (λ (es : List Entry). length es) (is.whole alive),
  );
  behind = is.behind;
}
