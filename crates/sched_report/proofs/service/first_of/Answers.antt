-- One more is gone through.
use Rattle.std.proofs.Common.{◌≡◌, ◌+◌, ◌<◌, ℕ, List, [], ◌∷◌, ◌++◌, Option, Some, length, map, take, sym, ap, ◌∙◌, arith}
use Rattle.std.specs.Prelude.{min}
use Rattle.std.specs.Option.{option_map_or}
use Rattle.std.proofs.lemmas.List.{take_more, map_push}
use Rattle.sched_report.specs.declared.service.Waiting.{Waiting}
use Rattle.sched_report.specs.Delays.{least_of}
use Rattle.sched_report.proofs.Reaching.{least_of-push}
use Rattle.sched_report.proofs.service.first_of.Goals as goal

pub loop-place-preserved : goal.loop-place-preserved
loop-place-preserved c =
    let items : List Waiting = c.args.waiting.now.items in
    let i = c.loop-place.place in
    let w : Waiting = c.index.result.now in
    let heard : Waiting → ℕ = λ (w : Waiting). w.heard in
    let front : List ℕ = map heard (take i items) in
    let below : i < length items =
    omega (arith, c.loop-place-test.true, c.len-place-end.ensures, c.args.waiting.now.ok.0) in
    let more : map heard (take (i + 1) items) ≡ front ++ w.heard ∷ [] =
    ap (map heard) (take_more items i w below)
    ∙ ap (λ (x : Waiting). map heard (take i items ++ x ∷ [])) (sym c.index.ensures)
    ∙ map_push heard (take i items) w in
    ap Some (c.least_with.ensures
    ∙ ap (λ (o : Option ℕ). option_map_or (λ least. min least w.heard) o w.heard) c.loop-place.invariant)
    ∙ sym (least_of-push front w.heard) ∙ sym (ap least_of more)
