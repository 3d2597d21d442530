-- The space is passed.
use Rattle.std.proofs.Common.{refl, inl, ◌+◌, drop, arith}
use Rattle.byte_tokens.proofs.Bytes.{first}
use Rattle.byte_tokens.proofs.Taken.{space_passed}
use Rattle.byte_tokens.proofs.between.behind_space.Goals as goal

pub returns-then-byte_at-gt32-clause-same : goal.returns-then-byte_at-gt32-clause-same
returns-then-byte_at-gt32-clause-same c =
    let text = c.args.text.now in
    space_passed (drop c.args.at text) (drop (c.args.at + 1) text) 32 (inl refl)
    (first text text c.args.at c.byte_at-first.result 32 refl c.if-first-eq32.true c.byte_at-first.ensures.here
    (omega arith))
