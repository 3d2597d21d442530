-- How many MAPs a history has.
use Rattle.std.proofs.Common.{◌≡◌, ◌<◌, ◌≤◌, ◌+◌, ℕ, length, List, [], ◌∷◌, take, get_or, Option, Some, None, ap, ◌∙◌}
use Rattle.std.proofs.Common.{arith, length-append}
use Rattle.std.specs.List.{filter_map}
use Rattle.std.proofs.lemmas.List.{take_more}
use Rattle.std.proofs.lemmas.List.Elements.{filter_map-append}
use Rattle.sched_calls.specs.declared.reply.Entry.{Entry}
use Rattle.sched_history.specs.History.{map_by}
use Rattle.sched_history.specs.Facts.{maps_of}
use Rattle.sched_calls.specs.declared.frame_map.FrameMap.{FrameMap}

-- one entry more
pub count_maps-push : (h : List Entry) (i : ℕ) (d : Entry) → i < length h
    → length (maps_of (take (i + 1) h)) ≡ length (maps_of (take i h)) + length (maps_of (get_or h i d ∷ []))
count_maps-push h i d below =
    let e = get_or h i d in
    ap (λ l. length (maps_of l)) (take_more h i d below)
    ∙ ap length (filter_map-append (λ (x : Entry). map_by x.reply) (take i h) (e ∷ []))
    ∙ length-append (maps_of (take i h)) (maps_of (e ∷ []))

-- an entry has one MAP at most
pub one_map : (e : Entry) → length (maps_of (e ∷ [])) ≤ 1
one_map e = by (map_by e.reply)
  where
    by : (found : Option FrameMap) → length (filter_map (λ (o : Option FrameMap). o) (found ∷ [])) ≤ 1
    by (Some m) = omega arith
    by None = omega arith

-- a history has no more MAPs than entries
pub count_maps-le : (h : List Entry) → length (maps_of h) ≤ length h
count_maps-le [] = omega arith
count_maps-le (e ∷ es) =
    let more : length (maps_of (e ∷ es)) ≡ length (maps_of (e ∷ [])) + length (maps_of es) =
    ap length (filter_map-append (λ (x : Entry). map_by x.reply) (e ∷ []) es)
    ∙ length-append (maps_of (e ∷ [])) (maps_of es) in
    omega (arith, more, one_map e, count_maps-le es)
