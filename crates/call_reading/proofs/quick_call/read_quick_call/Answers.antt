-- The members of the object make the call.
use Rattle.std.proofs.Common.{◌≡◌, ◌-◌, ◌<◌, ◌∷◌, length, sym, subst, arith}
use Rattle.json.specs.Token.{Token}
use Rattle.call_reading.specs.Made.{MakesCall}
use Rattle.call_reading.proofs.Made.{call_is}
use Rattle.call_reading.proofs.quick_call.read_quick_call.Goals as goal

pub returns-in-Some-clause-is : goal.returns-in-Some-clause-is
returns-in-Some-clause-is c =
    let s = c.open_object.new.self in
    let r = c.usual_call.new.reader in
    let first : c.args.reader.now ≡ Token.begin_object ∷ s = grind arith in
    let makes : MakesCall (c.args.depth - 1) s r c.in-Some.call =
    subst (λ s. MakesCall (c.args.depth - 1) s r c.in-Some.call) c.again-attempt.ensures
    (c.in-Some.ensures (c.args.depth - 1)) in
    call_is c.args.depth c.args.reader.now s r c.in-Some.call (omega arith) first makes

pub returns-in-Some-clause-shorter : goal.returns-in-Some-clause-shorter
returns-in-Some-clause-shorter c =
    let s = c.open_object.new.self in
    let r = c.usual_call.new.reader in
    let first : c.args.reader.now ≡ Token.begin_object ∷ s = grind arith in
    let makes : MakesCall (c.args.depth - 1) s r c.in-Some.call =
    subst (λ s. MakesCall (c.args.depth - 1) s r c.in-Some.call) c.again-attempt.ensures
    (c.in-Some.ensures (c.args.depth - 1)) in
    let fewer = makes.1.1 in
    subst (λ l. length r < length l) (sym first) (omega (arith, fewer))

pub returns-clause-is : goal.returns-clause-is
returns-clause-is c =
    let s = c.open_object.new.self in
    let first : c.args.reader.now ≡ Token.begin_object ∷ s = grind arith in
    call_is c.args.depth c.args.reader.now s c.read_any_call.new.reader c.in_ok-call.call (omega arith) first
    c.in_ok-call.ensures
