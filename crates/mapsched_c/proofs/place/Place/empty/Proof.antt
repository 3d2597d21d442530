-- `empty` keeps nothing at null.
use Rattle.std.proofs.Common.{List, [], ◌∷◌, ◌++◌, refl, sym, subst, lit<}
use mathlib.Core.Bool.{true}
use Rattle.std.specs.Prelude.{None}
use mir.Val.{Val, has_ty}
use base.Logic.{SProp, ent, emp, id⊢}
use base.Fml.{ftrue}
use prog.Wp.{WpFn}
use types.Kit.{‵, raw, ◌⊛◌, ◌$◌, ◌∵◌, !, qed, move, drop, use1, join, split, rewrite, fsplit, fjoin, fjoin3, fpack}
use types.Kit.{feq_i, suffices, done}
use types.Run.{lit, no_more, and_then, returns, enter}
use types.ByLocal.{alloc_all, pass_all, free_all, look_at, get, sets}
use types.Part.{agg}
use contract.Running.{tables}
use denote.Exit.{yes}
use denote.RattleType.{RattleType, Valss, owns}
use denote.RawPtr.{RawPtr, null_ptr, ptr_val}
use denote.Param.{layout}
use denote.Signature.{types_at, type_at, plain}
use denote.Steps.{nothing}
use denote.Struct.Struct.{within}
use denote.Triple.Walked.{says, Stays, stay_dropped, walk_of, ends_at, Goes-dropped}
use Rattle.core.proofs.cell.Inside.{Good, one}
use Rattle.std.proofs.raw_atomic.Walks.{proved_at}
use Rattle.std_heap.specs.contracts.Global as Heap
use Rattle.std_heap.proofs.Global.TheLaws as heap
use Rattle.mapsched_c.proofs.AsBox.{both, both_tt}
use Rattle.mapsched_c.specs.contracts.place.Place.empty.{ended, clauses}
use Rattle.mapsched_c.specs.contracts.place.Place.empty.Key.{name as #self}
use Rattle.mapsched_c.proofs.place.Place.empty.Statement.{statement}
use Rattle.mapsched_c.proofs.place.Place.empty.Code as code

abbrev Z : RattleType
Z = Heap.the_row

abbrev hs : Stays ended.signature.params ended.kept
hs = (stay_dropped (plain (λ _. Z)) yes, tt)

pub empty_spec : {M : Type 1} → statement M
empty_spec 𝓤 𝓛 𝓜 𝓡 wired =
    let H = 𝓛.H in let 𝓣 = tables 𝓤 H 𝓜 𝓡 𝓡.env in let c = clauses 𝓛 𝓜.mem 𝓡.returns in
    proved_at 𝓛 ended hs c 𝓜 𝓡 (Goes-dropped 𝓛 0 (plain (λ _. Z)) yes (λ κs x f. refl), tt)
    #self code.function (code.unfolded 𝓤 H 𝓜 𝓡 wired) (λ z are.
    let Post : Val → SProp 𝓤 = (walk_of 𝓛 ended hs c).post z in
    let Run : List Val → SProp 𝓤 = λ ws. WpFn 𝓤 H 𝓣.C 𝓣.Λ code.function ws Post in
    let Out : RattleType = type_at ended.signature.result z.0.0 in
    let a = z.0.3.0 in
    let h = one (layout Z) z.0.4.0 ((heap.the_row_laws.lawful 𝓛).typed a z.0.4.0 are.0) in
    let w : Val = both (ptr_val null_ptr) h.0 in
    let good : Good (layout Out) w =
    (both_tt true (has_ty (layout Z) h.0) tt h.2.0, (record { fits = lit< tt }, (h.2.1, tt))) in
    let made : Out.Denot = record { at = null_ptr; alloc = a; machine = None } in
    qed 𝓛 ((‵ ftrue ⊛ ‵ (owns (types_at ended.signature.params z.0.0) z.0.3 z.0.4)) ∷ raw (emp 𝓤) ∷ []) ∵ split ! $
    drop ! $ fsplit ! $
    rewrite ! 0 (λ (us : List Val). ‵ (Z.own_val a us)) h.1 refl $
    -- [the allocator; nothing; nothing]
    feq_i ! (List Val) (ptr_val null_ptr ∷ []) (ptr_val null_ptr ∷ []) refl $ fjoin3 ! $
    feq_i ! (List Val) (w ∷ []) (w ∷ []) refl $ fjoin ! $
    fpack ! (Valss (RawPtr ∷ Z ∷ []))
    (within (record { name = []; args = []; types = []; fields = RawPtr ∷ Z ∷ [] }) (null_ptr, (a, tt)) (w ∷ []))
    (ptr_val null_ptr ∷ [], (h.0 ∷ [], tt)) $
    nothing ! $ move ! (1 ∷ 0 ∷ []) $ fjoin ! $ use1 𝓛 (‵ (Out.own_val made (w ∷ []))) (id⊢ 𝓤 _) $ move ! (1 ∷ []) $
    drop ! $
    suffices ! (Run (h.0 ∷ [])) (subst (λ (us : List Val). ent 𝓤 (Run (h.0 ∷ [])) (Run us)) (sym (λ i. h.1 i ++ []))
    (id⊢ 𝓤 (Run (h.0 ∷ [])))) $
    enter ! 𝓣.C 𝓣.Λ code.function (h.0 ∷ []) Post $ alloc_all ! (λ l. pass_all ! refl (h.2, tt) $
    sets ! (agg ! (and_then ! (lit ! tt) (and_then ! (get ! refl) (no_more !)))) refl good $
    returns ! (look_at ! 0 refl) $ free_all ! refl $
    suffices ! _ (ends_at 𝓛 ended hs c z w made (tt, tt) (tt, tt)) $ says ! refl $
    nothing ! $ nothing ! $ fjoin ! $ join ! $ nothing ! $ join ! $ done !))
