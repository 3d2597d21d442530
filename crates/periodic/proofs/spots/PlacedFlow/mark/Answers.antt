-- The minislots behind each start of the frame are marked.
use Rattle.std.proofs.Common.{◌≡◌, ◌∙◌, sym, ap, ℕ, ◌+◌, ◌<◌, ◌++◌, [], ◌∷◌, length, map, take, get_or, subst, arith}
use Rattle.std.proofs.lemmas.List.{take_all, take_more, map-append}
use Rattle.periodic.specs.declared.placement.Spot.{Spot}
use Rattle.periodic.specs.Bits.{bit_for}
use Rattle.periodic.specs.Placement.{spot_at, starts_in}
use Rattle.periodic.specs.Rows.{AreMarked}
use Rattle.periodic.specs.Fields.{placed_of}
use Rattle.periodic.proofs.Fields.{spots-here}
use Rattle.periodic.proofs.Marking.{none-marked, marked-push}
use Rattle.periodic.proofs.spots.PlacedFlow.mark.Goals as goal

pub loop-start-init : goal.loop-start-init
loop-start-init c = record {
  marked = λ config sound within. none-marked (bit_for c.args.taken) c.args.bits.now.words;
  bounded = c.requires.bounded;
}

pub loop-start-preserved : goal.loop-start-preserved
loop-start-preserved c = record {
  marked = λ config sound within.
      let f = c.args.self.now in
      let starts = starts_in config f.spec f.placement c.args.place in
      let i = c.loop-start.start-index in
      let here = c.starts-start-items.ensures config sound within in
      let h : ℕ → Spot = spot_at config (placed_of f) in
      let bit = bit_for c.args.taken in
      let from : c.from-start.result ≡ get_or starts i 0 = c.from-start.ensures ∙ ap (λ xs. get_or xs i 0) here in
      let lt : i < length starts = omega (arith, ap length here) in
      let more : map h (take (i + 1) starts) ≡ map h (take i starts) ++ h (get_or starts i 0) ∷ [] =
      ap (map h) (take_more starts i 0 lt) ∙ map-append h (take i starts) (get_or starts i 0 ∷ []) in
      subst (λ ss. AreMarked ss bit c.args.bits.now.words c.mark.new.bits.words) (sym more)
      (marked-push bit c.from-start.result (c.from-start.result + c.from.result) c.loop-start.bits.words
      c.mark.new.bits.words c.mark.ensures.inside c.mark.ensures.outside (map h (take i starts))
      (h (get_or starts i 0)) c.args.bits.now.words from (omega (arith, from, c.from.ensures, sound.times.slots))
      (c.loop-start.invariant.marked config sound within));
  bounded = c.mark.ensures.bounded;
}

pub returns-clause-marked : goal.returns-clause-marked
returns-clause-marked c = λ config sound within.
    let f = c.args.self.now in
    let starts = starts_in config f.spec f.placement c.args.place in
    let here = c.starts-start-items.ensures config sound within in
    let all : take c.loop-start.start-index starts ≡ starts =
    take_all c.loop-start.start-index starts (omega (arith, ap length here)) in
    subst (λ ss. AreMarked ss (bit_for c.args.taken) c.args.bits.now.words c.loop-start.bits.words)
    (ap (map (spot_at config (placed_of f))) all ∙ sym (spots-here config c.args.place (placed_of f) within))
    (c.loop-start.invariant.marked config sound within)
