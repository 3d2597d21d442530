-- The lives have the grants of the entry's MAP, or what it names.
use Rattle.std.proofs.Common.{ℕ, length, get_or, arith}
use Rattle.sched_calls.specs.declared.spec.FlowSpec.{FlowSpec}
use Rattle.sched_history.specs.Life.{grants_of_map}
use Rattle.sched_report.specs.Lives.{PastLife}
use Rattle.sched_report.specs.Said.{unsolicited_of_map}
use Rattle.sched_report.specs.Told.{MayNote, Meets}
use Rattle.sched_report.proofs.GrantedLaws.{HaveMore-live, may_grant-map, may_count-map, goes_on-map}
use Rattle.sched_report.proofs.LivesEach.{no_life}
use Rattle.sched_report.proofs.LivesGoing.{AreLives-map}
use Rattle.sched_report.proofs.lives.note_each.Goals as goal

pub note_map-requires-clause-start : goal.note_map-requires-clause-start
note_map-requires-clause-start c = (c.requires.orderly c.in-Built.map c.in-Built.is).0

pub note_map-requires-clause-orderly : goal.note_map-requires-clause-orderly
note_map-requires-clause-orderly c = (c.requires.orderly c.in-Built.map c.in-Built.is).1

pub note_map-requires-clause-few : goal.note_map-requires-clause-few
note_map-requires-clause-few c = λ k t below alive.
    let m = c.requires.may in
    may_count-map c.args.config.now (get_or c.args.lives.now k t) (get_or m.0 k no_life) c.args.next c.args.entry.now
    c.in-Built.map c.in-Built.is (m.1.each k t no_life below) (m.2 k no_life (omega (arith, below, m.1.long)))

pub note_map-requires-clause-granted : goal.note_map-requires-clause-granted
note_map-requires-clause-granted c = λ k t below alive.
    let m = c.requires.may in
    may_grant-map c.args.config.now (get_or c.args.lives.now k t) (get_or m.0 k no_life) c.args.next c.args.entry.now
    c.in-Built.map c.in-Built.is (m.1.each k t no_life below) (m.2 k no_life (omega (arith, below, m.1.long))) alive

pub returns-in-Built-clause-lives : goal.returns-in-Built-clause-lives
returns-in-Built-clause-lives c = λ ls are may meets.
    AreLives-map c.args.config.now c.args.lives.now c.note_map.new.lives ls c.args.entry.now
    (λ (life : PastLife). MayNote c.args.config.now life c.args.next c.args.entry.now
    × Meets c.args.config.now life c.args.entry.now c.args.met.now) are
    (λ k life below. (may k life below, meets k life below)) c.note_map.auto.lives (λ k t life below is both.
    goes_on-map c.args.config.now (get_or c.args.lives.now k t) life c.args.next c.args.entry.now c.in-Built.map
    c.in-Built.is is both.0 c.args.met.now both.1 (get_or c.note_map.new.lives k t) (c.note_map.ensures k t below))

pub returns-in-Built-clause-live : goal.returns-in-Built-clause-live
returns-in-Built-clause-live c =
    HaveMore-live c.args.config.now (λ (sid : ℕ). grants_of_map sid c.in-Built.map)
    (length c.in-Built.map.wire.elements) (λ (spec : FlowSpec) (sid : ℕ).
    unsolicited_of_map c.args.met.now spec sid c.in-Built.map) c.args.lives.now c.note_map.new.lives
    c.note_map.auto.lives c.note_map.ensures
    c.args.places.now c.requires.live
