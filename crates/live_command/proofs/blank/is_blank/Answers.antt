-- The byte at the index is the first of what is left.
use Rattle.std.proofs.Common.{◌≡◌, ℕ, ◌+◌, ◌<◌, Bool, true, false, List, length, drop, get_or, sym, ap, ◌∙◌}
use Rattle.std.specs.Prelude.{◌&&◌}
use Rattle.std.proofs.lemmas.List.{drop_more, drop_all}
use Rattle.live_command.specs.Spoken.{is_white, is_blank}
use Rattle.live_command.proofs.blank.is_blank.Goals as goal

at_place : (line : List ℕ) (i : ℕ) (white : Bool) → i < length line → is_white (get_or line i 0) ≡ white
    → is_blank (drop i line) ≡ (white && is_blank (drop (i + 1) line))
at_place line i white below is =
    ap is_blank (drop_more line i 0 below) ∙ ap (λ (b : Bool). b && is_blank (drop (i + 1) line)) is

pub returns-then-not-is_white : goal.returns-then-not-is_white
returns-then-not-is_white c =
    let white = sym c.is_white.ensures ∙ c.if-not-is_white.true in
    sym (at_place c.args.line.now c.loop-byte.byte-index false c.loop-byte-test.true white) ∙ c.loop-byte.invariant

pub loop-byte-preserved : goal.loop-byte-preserved
loop-byte-preserved c =
    let white = sym c.is_white.ensures ∙ c.if-not-is_white.false in
    sym (at_place c.args.line.now c.loop-byte.byte-index true c.loop-byte-test.true white) ∙ c.loop-byte.invariant

pub returns : goal.returns
returns c =
    sym (ap is_blank (drop_all c.loop-byte.byte-index c.args.line.now c.loop-byte-test.false)) ∙ c.loop-byte.invariant
