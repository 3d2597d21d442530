-- One row more where an entry has a MAP in the span.
use Rattle.std.proofs.Common.{◌∙◌, ◌≡◌, ◌+◌, List, [], ◌∷◌, ◌++◌, take, arith, ap, subst, sym, refl}
use Rattle.std.proofs.Common.{append_assoc, append-nil}
use Rattle.std.proofs.lemmas.List.{take_more, length-take-le}
use Rattle.sched_calls.specs.declared.reply.Entry.{Entry}
use Rattle.sched_calls.specs.Reply.{IsEncodable}
use Rattle.frame_picture.specs.Along.{IsAlong}
use Rattle.frame_picture.proofs.FrameLists.{frames_behind-≤}
use Rattle.frame_picture.proofs.Rows.{rows_more, rows_none, row_within, whole_at}
use Rattle.frame_picture.proofs.picture.put_rows.Goals as goal

pub loop-i-init : goal.loop-i-init
loop-i-init g c = record {
  along = λ before known. subst (IsAlong c.args.scale c.args.along.now) (sym (append-nil before)) known;
  rows = λ met before known tells.
      rows_none _ c.args.scale met c.args.span c.args.along.now before known c.requires.early;
  unfailed = refl;
}

pub go_along-requires : goal.go_along-requires
go_along-requires g c =
    let before = c.requires.known.0 in
    let known = c.requires.known.1 in
    let at = c.loop-i.invariant.along before known in
    let front = take c.loop-i.i c.args.entries.now in
    omega (
      arith,
      at.number,
      frames_behind-≤ before front,
      length-take-le c.loop-i.i c.args.entries.now (omega arith),
      known.number,
      c.requires.near,
      c.requires.few,
    )

pub put_entry-requires-clause-few : goal.put_entry-requires-clause-few
put_entry-requires-clause-few g c =
    let before = c.requires.known.0 in
    let known = c.requires.known.1 in
    let at = c.loop-i.invariant.along before known in
    let front = take c.loop-i.i c.args.entries.now in
    row_within c.place_in-place.result c.loop-i.along.number c.args.span.from (omega (
      arith,
      at.number,
      frames_behind-≤ before front,
      length-take-le c.loop-i.i c.args.entries.now (omega arith),
      known.number,
      c.requires.early,
      c.requires.few,
    )) c.place_in-place.ensures.near

pub loop-i-preserved : goal.loop-i-preserved
loop-i-preserved g c =
    let at = c.loop-i.invariant in
    let h = c.args.entries.now in
    let i = c.loop-i.i in
    let d = c.index-entries-i.result in
    let whole : IsEncodable d.reply =
    subst (λ (e : Entry). IsEncodable e.reply) (sym c.index-entries-i.is)
    (whole_at h i d c.requires.whole (omega arith)) in
    let longer : (before : List Entry) → before ++ take (i + 1) h ≡ (before ++ take i h) ++ d ∷ [] =
    λ before.
    ap (λ (xs : List Entry). before ++ xs)
    (take_more h i d (omega arith) ∙ ap (λ (e : Entry). take i h ++ e ∷ []) (sym c.index-entries-i.is))
    ∙ sym (append_assoc before (take i h) (d ∷ [])) in
    record {
      along = λ before known. subst (IsAlong c.args.scale c.go_along.new.along) (sym (longer before))
          (c.go_along.ensures (before ++ take i h) (at.along before known));
      rows = λ met before known tells.
          let here = c.met_at_place-met.ensures ∙ tells i d (omega arith)
          ∙ ap (λ (e : Entry). met (before ++ take i h) e.reply) (sym c.index-entries-i.is) in
          rows_more _ _ _ c.args.scale met c.args.span c.loop-i.along (before ++ take i h) (before ++ take (i + 1) h)
          d (longer before) whole (at.along before known) (at.rows met before known tells)
          (rw (c.place_in-place.ensures.value, here) at c.in_ok-put_entry.ensures.0);
      unfailed = c.in_ok-put_entry.ensures.1 ∙ at.unfailed;
    }
