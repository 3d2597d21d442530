-- One start more stands behind those before.
use Rattle.std.proofs.Common.{◌≡◌, ◌∙◌, sym, ap, ◌+◌, ◌<◌, [], ◌∷◌, ◌++◌, length, take, get_or, append_assoc, arith}
use Rattle.std.proofs.lemmas.List.{take_more, take_more_set, length-set}
use Rattle.periodic.specs.Search.{starts_of}
use Rattle.periodic.proofs.row.Row.push.Goals as goal

pub loop-start-preserved : goal.loop-start-preserved
loop-start-preserved c =
    let row = c.loop-start.self in
    let starts = c.args.starts.now in
    let i = c.loop-start.start-index in
    let inv = c.loop-start.invariant in
    let start = get_or starts i 0 in
    let room : row.count < length row.starts = omega (arith, inv.long, inv.count, c.requires) in
    let one : take (i + 1) starts ≡ take i starts ++ start ∷ [] = take_more starts i 0 (omega arith) in
    record {
      long = length-set row.starts row.count start ∙ inv.long;
      count = omega (arith, inv.count);
      starts = take_more_set row.starts row.count start room ∙ ap (λ xs. xs ++ start ∷ []) inv.starts
          ∙ append_assoc (starts_of c.args.self.now) (take i starts) (start ∷ [])
          ∙ ap (λ xs. starts_of c.args.self.now ++ xs) (sym one);
    }
