-- The line waits behind the others, or behind those that were written.
use Rattle.std.proofs.Common.{◌≡◌, ◌++◌, refl, arith, rules}
use Rattle.std.specs.Prelude.{IsTrue}
use Rattle.text_stream.proofs.Written.{Appends-waits, Appends-behind}
use Rattle.text_stream.proofs.buffer.append.Goals as goal

pub returns-else-not-try_extend : goal.returns-else-not-try_extend
returns-else-not-try_extend g c =
    let extended : c.try_extend.new.self ≡ c.args.waiting.now ++ c.args.text.now = search rules in
    (Appends-waits _ _ _ _ extended, refl)

pub returns-in_ok-write_waiting : goal.returns-in_ok-write_waiting
returns-in_ok-write_waiting g c =
    let out = c.in_ok-write_waiting.ensures in
    let more = c.try_extend-fits in
    let fits : IsTrue more.result = more.ensures.variant.1 (rw out.empty (omega (arith, c.requires))) in
    let extended : more.new.self ≡ c.write_waiting.new.waiting ++ c.args.text.now = rw fits at more.ensures.put in
    let kept : c.try_extend.new.self ≡ c.args.waiting.now = search rules in
    (Appends-behind _ _ _ _ _ (rw kept at out.written.0) (rw out.empty at extended), out.written.1)
