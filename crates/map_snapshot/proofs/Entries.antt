-- The maps of a list, and what stands behind them.
use Rattle.std.proofs.Common.{◌≡◌, ◌⊎◌, ℕ, ◌+◌, List, [], ◌∷◌, ◌++◌, length, map, refl, ap, sym, ◌∙◌, arith}
use Rattle.std.proofs.Common.{length-append, ⊎_elim, subst}
use Rattle.std.proofs.lemmas.List.{append-nil, map-append}
use mathlib.Core.List.{IsPrefix}
use Rattle.logbook.specs.Pages.{Cell}
use Rattle.map_snapshot.specs.declared.list.Entry.{Entry}
use Rattle.map_snapshot.specs.declared.list.Entry.TheVariants.{Published, End}
use Rattle.map_snapshot.specs.Maps.{maps_in, IsWhole}
use Rattle.map_snapshot.specs.Rules.{IsOpen, HasEnded, CountsList}
use Rattle.map_snapshot.proofs.Beginnings.{prefix_self, prefix_same, prefix_length}

-- the maps of maps alone are those maps
pub maps_in_map : (maps : List (List ℕ)) → maps_in (map Published maps) ≡ maps
maps_in_map [] = refl
maps_in_map (m ∷ maps) = ap (λ l. m ∷ l) (maps_in_map maps)

-- the maps of two lists, one behind the other
pub maps_in_append : (xs ys : List Entry) → maps_in (xs ++ ys) ≡ maps_in xs ++ maps_in ys
maps_in_append [] ys = refl
maps_in_append (Published m ∷ xs) ys = ap (λ l. m ∷ l) (maps_in_append xs ys)
maps_in_append (End ∷ xs) ys = maps_in_append xs ys

-- the maps of a beginning begin the maps of the whole
pub maps_begin : (xs ys : List Entry) → IsPrefix xs ys → IsPrefix (maps_in xs) (maps_in ys)
maps_begin xs ys p = (maps_in p.0, sym (maps_in_append xs p.0) ∙ ap maps_in p.1)

-- maps with one more entry behind
pub maps_in_snoc : (maps : List (List ℕ)) (e : Entry)
    → maps_in (map Published maps ++ e ∷ []) ≡ maps ++ maps_in (e ∷ [])
maps_in_snoc maps e = maps_in_append (map Published maps) (e ∷ []) ∙ ap (λ l. l ++ maps_in (e ∷ [])) (maps_in_map maps)

-- a list with one map more has no end
pub open_after : (maps : List (List ℕ)) (m : List ℕ) → IsOpen (length maps + 1) (map Published maps ++ Published m ∷ [])
open_after maps m =
    let all = maps_in_snoc maps (Published m) in (
      sym (ap (map Published) all ∙ map-append Published maps (m ∷ [])),
      omega (arith, length-append maps (m ∷ []), ap length all),
    )

-- maps with an end behind are a whole list
pub whole_after : (maps : List (List ℕ)) → IsWhole (map Published maps ++ End ∷ [])
whole_after maps = ap (λ l. map Published l ++ End ∷ []) (sym (maps_in_snoc maps End ∙ append-nil maps))

only_end : (xs ys : List (List ℕ)) (rest : List Entry)
    → (map Published xs ++ End ∷ []) ++ rest ≡ map Published ys ++ End ∷ [] → xs ≡ ys
only_end [] [] rest p = refl
only_end [] (y ∷ ys) rest p = absurd (cc p)
only_end (x ∷ xs) [] rest p = absurd (cc p)
only_end (x ∷ xs) (y ∷ ys) rest p = cc (only_end xs ys rest (cc p), p)

no_end : (xs ys : List (List ℕ)) (rest : List Entry) → ¬ ((map Published xs ++ End ∷ []) ++ rest ≡ map Published ys)
no_end [] [] rest p = absurd (cc p)
no_end [] (y ∷ ys) rest p = absurd (cc p)
no_end (x ∷ xs) [] rest p = absurd (cc p)
no_end (x ∷ xs) (y ∷ ys) rest p = no_end xs ys rest (cc p)

-- under the rule nothing stands behind the end: a list that begins with a whole one has the same maps
pub whole_stays : (whole log : List Entry) (cells : List Cell) → IsWhole whole → IsPrefix whole log
    → CountsList cells log → maps_in whole ≡ maps_in log
whole_stays whole log cells ended begins counts =
    let with : (map Published (maps_in whole) ++ End ∷ []) ++ begins.0 ≡ log =
    ap (λ l. l ++ begins.0) (sym ended) ∙ begins.1 in
    ⊎_elim
    (λ (o : IsOpen counts.number log). absurd (no_end (maps_in whole) (maps_in log) begins.0 (with ∙ o.0)))
    (λ (h : HasEnded counts.number log). only_end (maps_in whole) (maps_in log) begins.0 (with ∙ h.0))
    counts.stands

-- a list that goes on from what was seen of it, with as many maps, has the same maps
pub same_maps : (seen log : List Entry) (maps : List (List ℕ)) (count : ℕ) → maps_in seen ≡ maps → IsPrefix seen log
    → length (maps_in log) ≡ count → count ≡ length maps
    → maps_in log ≡ maps
same_maps seen log maps count are begins has is =
    prefix_same (maps_in log) maps (maps_in log) (prefix_self (maps_in log))
    (subst (λ l. IsPrefix l (maps_in log)) are (maps_begin seen log begins)) (has ∙ is)

-- what is a list before or the whole of it, and begins with the whole, is the whole
pub is_whole : (old new whole : List (List ℕ)) → IsPrefix old whole → IsPrefix whole new
    → (new ≡ old) ⊎ (new ≡ whole) → new ≡ whole
is_whole old new whole began has one =
    ⊎_elim (λ (same : new ≡ old).
    let back : IsPrefix whole old = subst (λ l. IsPrefix whole l) same has in
    same ∙ prefix_same old whole whole began (prefix_self whole)
    (omega (arith, prefix_length old whole began, prefix_length whole old back)))
    (λ (is : new ≡ whole). is)
    one
