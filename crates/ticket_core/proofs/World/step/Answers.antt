-- In each arm the fields become what the step makes of the words, so the words stand for the world after it.
use Rattle.std.proofs.Common.{rules}
use Rattle.ticket_core.proofs.Fields.{drawn, looked, entered, left}
use Rattle.ticket_core.proofs.World.step.Goals as goal

pub invariant_of-self : goal.invariant_of-self
invariant_of-self c =
    let moves = drawn _ _ _ _ _ c.self.view_is c.self.invariant (search rules) _ c.if-seat-self.false _
    c.in-Idle-Draw.is-0 c.in-Idle-Draw.is-1 in
    (c.self.invariant.0, moves.lawful)

pub returns-in-Idle-Draw-clause-taken : goal.returns-in-Idle-Draw-clause-taken
returns-in-Idle-Draw-clause-taken c =
    let moves = drawn _ _ _ _ _ c.self.view_is c.self.invariant (search rules) _ c.if-seat-self.false _
    c.in-Idle-Draw.is-0 c.in-Idle-Draw.is-1 in
    moves.taken

pub invariant_of-self-in-Enter-1 : goal.invariant_of-self-in-Enter-1
invariant_of-self-in-Enter-1 c =
    let moves = entered _ _ _ _ _ c.self.view_is c.self.invariant (search rules) _ c.if-seat-self.false _
    _ c.in-Waiting-Enter.is-0 c.in-Waiting-Enter.is-1 c.if-ticket-self.false in
    (c.self.invariant.0, moves.lawful)

pub returns-else-ticket-self-clause-taken : goal.returns-else-ticket-self-clause-taken
returns-else-ticket-self-clause-taken c =
    let moves = entered _ _ _ _ _ c.self.view_is c.self.invariant (search rules) _ c.if-seat-self.false _
    _ c.in-Waiting-Enter.is-0 c.in-Waiting-Enter.is-1 c.if-ticket-self.false in
    moves.taken

pub returns-else-ticket-self-clause-not_taken : goal.returns-else-ticket-self-clause-not_taken
returns-else-ticket-self-clause-not_taken c = λ w lawful stands passed.
    let moves = entered _ _ _ _ _ c.self.view_is c.self.invariant (search rules) _ c.if-seat-self.false _
    _ c.in-Waiting-Enter.is-0 c.in-Waiting-Enter.is-1 c.if-ticket-self.false in
    absurd (moves.never_passed w lawful stands passed)

pub invariant_of-self-in-Leave-1 : goal.invariant_of-self-in-Leave-1
invariant_of-self-in-Leave-1 c =
    let moves = left _ _ _ _ _ c.self.view_is c.self.invariant (search rules) _ c.if-seat-self.false _
    _ c.in-Holding-Leave.is-0 c.in-Holding-Leave.is-1 in
    (c.self.invariant.0, moves.lawful)

pub returns-in-Holding-Leave-clause-taken : goal.returns-in-Holding-Leave-clause-taken
returns-in-Holding-Leave-clause-taken c =
    let moves = left _ _ _ _ _ c.self.view_is c.self.invariant (search rules) _ c.if-seat-self.false _
    _ c.in-Holding-Leave.is-0 c.in-Holding-Leave.is-1 in
    moves.taken

pub returns-in-Waiting-Look-clause-taken : goal.returns-in-Waiting-Look-clause-taken
returns-in-Waiting-Look-clause-taken c =
    let looks = looked _ _ _ _ _ c.self.view_is c.self.invariant (search rules) _ c.if-seat-self.false _
    _ c.in-Waiting-Look.is-0 c.in-Waiting-Look.is-1 in
    looks.taken

pub returns-in-Waiting-Look-clause-not_taken : goal.returns-in-Waiting-Look-clause-not_taken
returns-in-Waiting-Look-clause-not_taken c =
    let looks = looked _ _ _ _ _ c.self.view_is c.self.invariant (search rules) _ c.if-seat-self.false _
    _ c.in-Waiting-Look.is-0 c.in-Waiting-Look.is-1 in
    looks.passed
