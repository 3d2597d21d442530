-- What the text stands for is the entry, and its MAP has bytes.
use Rattle.std.proofs.Common.{◌≡◌, Option, Result, Ok, Err, sym, subst}
use Rattle.std.specs.Prelude.{IfOk, IfSome}
use Rattle.sched_calls.specs.declared.reply.Entry.{Entry}
use Rattle.sched_calls.specs.Reply.{IsEncodable}
use Rattle.history_reading.specs.Recorded.{entry_in}
use Rattle.history_reading.proofs.Encodable.{entry_of-encodable, entry_in-encodable}
use Rattle.history_reading.proofs.recorded.single.entry_in.Goals as goal

pub returns-in-Ok-clause-value : goal.returns-in-Ok-clause-value
unfolding entry_in
returns-in-Ok-clause-value c =
    let found = c.in-Ok.ensures in
    rw found.1 (sym found.2)

pub returns-in-Ok-clause-encodable : goal.returns-in-Ok-clause-encodable
returns-in-Ok-clause-encodable c =
    let found = c.in-Ok.ensures in
    subst (λ (o : Option Entry). IfSome o (λ e. IsEncodable e.reply)) found.2 (entry_of-encodable found.0)

-- whatever was read as the text's entry has a MAP with bytes
each : {E : Type 0} (r : Result (Option Entry) E) (o : Option Entry) → IfSome o (λ e. IsEncodable e.reply)
    → IfOk r (λ entry. entry ≡ o) → IfOk r (λ entry. IfSome entry (λ e. IsEncodable e.reply))
each (Ok entry) o encodable is = subst (λ (o : Option Entry). IfSome o (λ e. IsEncodable e.reply)) (sym is) encodable
each (Err e) o encodable is = tt

pub returns-in-Err-Unusual-clause-encodable : goal.returns-in-Err-Unusual-clause-encodable
returns-in-Err-Unusual-clause-encodable c =
    each c.entry_in_tree.result (entry_in c.args.bytes.now) (entry_in-encodable c.args.bytes.now)
    c.entry_in_tree.ensures
