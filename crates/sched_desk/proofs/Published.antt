-- What is published of a history, as it grows.
use Rattle.std.proofs.Common.{◌≡◌, ◌≤◌, ◌+◌, ℕ, List, [], ◌∷◌, ◌++◌, map, length, Option, None, Some, ap, ◌∙◌}
use Rattle.std.proofs.Common.{arith, length-append}
use Rattle.std.specs.List.{filter_map}
use Rattle.std.proofs.lemmas.List.{append-nil, map-append}
use Rattle.std.proofs.lemmas.List.Elements.{filter_map-append}
use Rattle.sched_calls.specs.declared.frame_map.FrameMap.{FrameMap}
use Rattle.map_codec.specs.WireMap.{spelling}
use Rattle.sched_calls.specs.declared.reply.Entry.{Entry}
use Rattle.sched_calls.specs.declared.reply.Reply.TheVariants.{Built}
use Rattle.sched_history.specs.History.{map_by}
use Rattle.sched_history.specs.Facts.{maps_of}
use Rattle.sched_desk.specs.Desk.{published}

-- the encodings of both parts
abbrev encodings : List FrameMap → List (List ℕ)
encodings maps = map (λ m. spelling m.wire) maps

-- a list in two parts publishes what both publish
pub published-append : (h more : List Entry) → published (h ++ more) ≡ published h ++ published more
published-append h more =
    ap encodings (filter_map-append (λ (e : Entry). map_by e.reply) h more)
    ∙ map-append (λ (m : FrameMap). spelling m.wire) (maps_of h) (maps_of more)

-- an entry with a MAP publishes its encoding
pub published-built : (h : List Entry) (e : Entry) (m : FrameMap) → e.reply ≡ Built m
    → published (h ++ e ∷ []) ≡ published h ++ spelling m.wire ∷ []
published-built h e m builds =
    published-append h (e ∷ []) ∙ ap (λ reply. published h ++ published (record e { reply = reply } ∷ [])) builds

-- any other publishes nothing
pub published-same : (h : List Entry) (e : Entry) → map_by e.reply ≡ None → published (h ++ e ∷ []) ≡ published h
published-same h e unbuilt = published-append h (e ∷ [])
    ∙ ap (λ found. published h ++ encodings (filter_map (λ (o : Option FrameMap). o) (found ∷ []))) unbuilt
    ∙ append-nil (published h)

-- an entry publishes one MAP at most
one : (e : Entry) → length (published (e ∷ [])) ≤ 1
one e = by (map_by e.reply)
  where
    by : (found : Option FrameMap) → length (encodings (filter_map (λ (o : Option FrameMap). o) (found ∷ []))) ≤ 1
    by (Some m) = omega arith
    by None = omega arith

-- it is no longer than the history
pub published-few : (h : List Entry) → length (published h) ≤ length h
published-few [] = omega arith
published-few (e ∷ es) =
    let more : length (published (e ∷ es)) ≡ length (published (e ∷ [])) + length (published es) =
    ap length (published-append (e ∷ []) es) ∙ length-append (published (e ∷ [])) (published es) in
    omega (arith, more, one e, published-few es)
