-- An entry that may follow a legal history may follow each of its lives.
use Rattle.std.proofs.Common.{◌≡◌, ◌*◌, ◌<◌, ◌≤◌, ◌^◌, ◌==◌, Bool, true, false, List, [], ◌∷◌, ◌++◌}
use Rattle.std.proofs.Common.{length, find, Option, Some, sym, ap, ◌∙◌, subst, if◌then◌else◌, arith}
use Rattle.std.specs.List.{AllByRecursion}
use Rattle.std.specs.Option.{option_map}
use Rattle.std.proofs.lemmas.List.{length_push}
use Rattle.minislots.specs.declared.config.Config.{Config}
use Rattle.minislots.specs.Config.{IsLawful}
use Rattle.flow_book.specs.Flows.{LiveFlow, bytes_of}
use Rattle.map_build.proofs.EachAfterLaws.{EachAfter-push}
use Rattle.sched_calls.specs.declared.reply.Entry.{Entry}
use Rattle.sched_calls.specs.declared.reply.TheConstants.{MAX_WHOLE_HISTORY}
use Rattle.sched_history.specs.Life.{turn_of, Life, life_of, flow_in_life, asked_in, grants_since, flows_of}
use Rattle.sched_history.specs.Refusal.{most_bytes}
use Rattle.sched_history.specs.History.{IsStep, IsLegal}
use Rattle.sched_history.specs.Time.{next_after}
use Rattle.sched_history.specs.Facts.{IsWithinAsked}
use Rattle.sched_history.proofs.facts.Orderly.{next_orderly}
use Rattle.sched_history.proofs.lives.Finding.{flow_of-flows_of}
use Rattle.sched_history.proofs.lives.LivesAfter.{with_since, life_of-stays}
use Rattle.sched_history.proofs.facts.SoundLives.{within_asked}
use Rattle.sched_history.proofs.steps.LegalBounds.{flows_of-asked}
use Rattle.sched_history.proofs.steps.LegalHistories.{IsNextMap-from_step}
use Rattle.sched_report.specs.Lives.{PastLife, is_turn}
use Rattle.sched_report.specs.Told.{MayNote}
use Rattle.sched_report.specs.ToldLives.{HasOrderlyMap}
use Rattle.sched_report.proofs.Frames.{next_start-most}
use Rattle.sched_report.proofs.LegalLives.{IsLifeIn, no_turn}

-- what holds of each member holds of one that is found
found_if : {X : Type 0} (P : X → Type 0) (b : Bool) (y x : X) (rest : Option X) → P y → (rest ≡ Some x → P x)
    → (if b then Some y else rest) ≡ Some x → P x
found_if P true y x rest here later is = let same : y ≡ x = cc in subst P same here
found_if P false y x rest here later is = later is

found_all : {X : Type 0} (P : X → Type 0) (p : X → Bool) (xs : List X) (x : X) → AllByRecursion P xs
    → find p xs ≡ Some x → P x
found_all P p [] x all is = absurd (cc)
found_all P p (y ∷ xs) x all is =
    found_if P (p y) y x (find p xs) all.0 (λ later. found_all P p xs x all.1 later) is

module _ (c : Config) (lawful : IsLawful c) (h : List Entry) (legal : IsLegal c h) (e : Entry)
    (step : IsStep c h e.call e.reply) (short : length h < MAX_WHOLE_HISTORY) where
  -- what a life that goes on was granted was asked
  granted_within : (life : PastLife) → IsLifeIn h life → life.ended ≡ false → is_turn life.sid e ≡ false
      → (bytes_of (grants_since life.sid (life.since ++ e ∷ [])) ≤ asked_in c life.sid (life.since ++ e ∷ []))
      × (asked_in c life.sid (life.since ++ e ∷ []) < 2 ^ 64)
  granted_within life is alive stays =
      let longer : List Entry = h ++ e ∷ [] in
      let legal' : IsLegal c longer = EachAfter-push (λ before x. IsStep c before x.call x.reply) [] h e legal step in
      let l = is.lives alive in
      let now : Life = with_since e l.0 in
      let lives : life_of life.sid longer ≡ Some now =
      life_of-stays life.sid h e (no_turn (turn_of life.sid e) stays) ∙ ap (option_map (with_since e)) l.1 in
      let f : LiveFlow = flow_in_life c life.sid now in
      let found : find (λ (f : LiveFlow). f.sid == life.sid) (flows_of c longer) ≡ Some f =
      flow_of-flows_of c life.sid longer is.least is.most ∙ ap (option_map (flow_in_life c life.sid)) lives in
      let within : IsWithinAsked f = found_all IsWithinAsked (λ (f : LiveFlow). f.sid == life.sid) (flows_of c longer) f
      (within_asked c longer legal') found in
      let few : f.asked ≤ most_bytes * length longer =
      found_all (λ (f : LiveFlow). f.asked ≤ most_bytes * length longer) (λ (f : LiveFlow). f.sid == life.sid)
      (flows_of c longer) f (flows_of-asked c lawful longer legal') found in
      let same : now.since ≡ life.since ++ e ∷ [] = ap (λ (es : List Entry). es ++ e ∷ []) l.2 in
      subst (λ es. (bytes_of (grants_since life.sid es) ≤ asked_in c life.sid es) × (asked_in c life.sid es < 2 ^ 64))
      same (within, omega (arith, few, length_push h e, short))

  -- its MAP, where it has one, starts in reach and is in order
  pub orderly_map : HasOrderlyMap c e.reply
  orderly_map m built =
      let next = IsNextMap-from_step c h e.call m (subst (λ r. IsStep c h e.call r) built step) in (
        omega (arith, next_start-most c lawful h m legal next),
        next_orderly c lawful h m legal next,
      )

  -- the entry may follow the life
  pub may_note : (life : PastLife) → IsLifeIn h life → MayNote c life (next_after c h) e
  may_note life is = record {
    lawful = lawful;
    few = omega (arith, is.few, short);
    passed = λ alive. is.passed alive;
    next = λ alive. ap (next_after c) (sym (is.whole alive));
    within = granted_within life is;
    start = λ m built. (orderly_map m built).0;
    orderly = λ m built. (orderly_map m built).1;
  }
