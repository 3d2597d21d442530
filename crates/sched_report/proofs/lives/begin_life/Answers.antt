-- A life more, or none.
use Rattle.std.proofs.Common.{◌≡◌, ℕ, List, [], ◌∷◌, ◌++◌, false, Some, None, length, set, sym, ◌∙◌, subst, arith}
use Rattle.std.proofs.lemmas.List.{append-nil}
use Rattle.sched_report.specs.declared.life.LifeTally.{LifeTally}
use Rattle.sched_report.specs.Live.{AreLive}
use Rattle.sched_report.specs.Lives.{PastLife, opening_by, life_begun}
use Rattle.sched_report.specs.ToldLives.{AreLives}
use Rattle.sched_report.proofs.LifeNotes.{none_of}
use Rattle.sched_report.proofs.LivesEach.{is_opening, AreLives-push}
use Rattle.sched_report.proofs.LivesGoing.{AreLive-push}
use Rattle.sched_report.proofs.lives.begin_life.Goals as goal

pub push_reserved-requires : goal.push_reserved-requires
push_reserved-requires c =
    c.requires.lives (is_opening c.args.entry.now.call c.args.entry.now.reply c.in-Some.opening
    (sym c.opening_of.ensures ∙ c.in-Some.is))

pub returns-in-Some-clause-lives : goal.returns-in-Some-clause-lives
returns-in-Some-clause-lives c = λ k h ls from are.
    let o = c.in-Some.opening in
    let upto = h ++ c.args.entry.now ∷ [] in
    let last : PastLife = record { sid = o.sid; first = o.spec; upto = upto; since = []; ended = false; passed = 0 } in
    let is : opening_by c.args.entry.now.call c.args.entry.now.reply ≡ Some o =
    sym c.opening_of.ensures ∙ c.in-Some.is in
    subst (λ x. AreLives k c.push_reserved.new.self.items (ls ++ life_begun upto x [])) (sym is)
    (subst (λ (ts : List LifeTally). AreLives k ts (ls ++ last ∷ [])) (sym c.push_reserved.ensures.items)
    (AreLives-push k c.args.lives.now.items ls are c.begin.result last (c.begin.ensures.life k upto from)))

pub returns-in-Some-clause-live : goal.returns-in-Some-clause-live
returns-in-Some-clause-live c =
    let ts = c.args.lives.now.items in
    let new = c.begin.result in
    let o = c.in-Some.opening in
    let place : c.len.result ≡ length ts = c.len.ensures ∙ c.args.lives.now.ok.0 in
    let is : opening_by c.args.entry.now.call c.args.entry.now.reply ≡ Some o =
    sym c.opening_of.ensures ∙ c.in-Some.is in
    subst (λ (places : List ℕ). AreLive places c.push_reserved.new.self.items) (sym c.note_place.ensures)
    (subst (AreLive (set c.args.places.now o.sid c.len.result)) (sym c.push_reserved.ensures.items)
    (AreLive-push c.args.places.now ts c.requires.live new o.sid c.len.result
    c.begin.ensures.sid place (omega arith)
    (λ k t below alive same. c.requires.alone o is k t below alive same)))

pub returns-in_default-clause-lives : goal.returns-in_default-clause-lives
returns-in_default-clause-lives c = λ k h ls from are.
    let upto = h ++ c.args.entry.now ∷ [] in
    let is : opening_by c.args.entry.now.call c.args.entry.now.reply ≡ None =
    sym c.opening_of.ensures ∙ none_of _ c.in_default.not-Some in
    subst (λ x. AreLives k c.args.lives.now.items (ls ++ life_begun upto x [])) (sym is)
    (subst (AreLives k c.args.lives.now.items) (sym (append-nil ls)) are)
