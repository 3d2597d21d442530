-- Bytes at hand are given first, and then those of the reader.
use Rattle.std.proofs.Common.{◌+◌, ◌<◌, ◌≤◌, List, ℕ, length, drop, sym, subst, arith}
use Rattle.std.specs.Prelude.{vec_len}
use Rattle.std.specs.Io.KnownBytes.{ReadConsumes, prepend_known}
use Rattle.std.proofs.lemmas.List.{drop_all}
use Rattle.check_lines.specs.Front.{behind_of}
use Rattle.check_lines.proofs.Fronts.{ReadConsumes-behind, given-fits, Consumes-front, some-given}
use Rattle.check_lines.proofs.front.FrontSource.read_some.Goals as goal

pub returns-then-self-len-clause-bytes : goal.returns-then-self-len-clause-bytes
returns-then-self-len-clause-bytes g c =
    let front = c.args.self.now in
    let all : length front.bytes.items ≤ front.given =
    omega (arith, front.bytes.ok.0, c.if-self-len.true, c.len.ensures) in
    let hand = drop front.given front.bytes.items in
    let behind = behind_of g.R.Source.remaining in
    let reads = ReadConsumes-behind (behind front) (behind c.read_behind.new.self) hand c.read_behind.result
    c.read_behind.new.buf (drop_all front.given front.bytes.items all) c.read_behind.ensures.bytes in
    subst (λ (h : List ℕ). ReadConsumes (prepend_known hand (behind front))
    (prepend_known h (behind c.read_behind.new.self)) c.read_behind.result c.read_behind.new.buf)
    (sym c.read_behind.ensures.same) reads

pub invariant_of-self : goal.invariant_of-self
invariant_of-self g c =
    let front = c.args.self.now in
    let within : front.given ≤ length c.deref.result.now = omega (arith, front.given_within, c.deref.ensures.len) in
    let fits = given-fits c.deref.result.now front.given c.in-Ok.len c.read_some.new.buf _ c.in-Ok.ensures.bytes.0
    c.in-Ok.ensures.bound.0 within in
    let inside : front.given + c.in-Ok.len ≤ vec_len front.bytes = omega (arith, fits, c.deref.ensures.len) in
    record { given_within = inside }

pub returns-in-Ok-clause-bytes : goal.returns-in-Ok-clause-bytes
returns-in-Ok-clause-bytes g c =
    let front = c.args.self.now in
    let below : front.given < length c.deref.result.now =
    omega (arith, front.given_within, c.deref.ensures.len, c.if-self-len.false, c.len.ensures) in (
      Consumes-front c.deref.result.now front.given c.in-Ok.len c.read_some.new.buf _ c.in-Ok.ensures.bytes.0
          c.in-Ok.ensures.bound.0 _ front.bytes.items c.deref.ensures.value,
      λ zero room. absurd (some-given c.deref.result.now front.given c.in-Ok.len c.read_some.new.buf _
          c.in-Ok.ensures.bytes.0 c.in-Ok.ensures.bound.0 below zero (c.in-Ok.ensures.bytes.1 zero room)),
    )
