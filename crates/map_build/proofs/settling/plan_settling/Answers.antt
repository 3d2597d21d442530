-- The MAP of the quiet draft is the lawful one, and is well formed.
use Rattle.std.proofs.Common.{◌∙◌, [], ap, refl, sym}
use Rattle.map_build.specs.Plan.{demand_at, settling}
use Rattle.map_build.proofs.Planned.{lawful-from_frame}
use Rattle.map_build.proofs.QuietFrame.{quiet-frame, quiet-map, quiet-encodable}
use Rattle.map_build.proofs.settling.plan_settling.Goals as goal

pub put_end-requires-clause-full : goal.put_end-requires-clause-full
put_end-requires-clause-full c =
    let is = (rw c.in_ok-overlay.ensures.overlay at c.in_ok-draft.ensures) in is.offset ∙ ap (λ k. k.frame) (sym is.config)

pub put_end-requires-clause-before : goal.put_end-requires-clause-before
put_end-requires-clause-before c = rw c.lend.ensures.same (rw c.in_ok-overlay.ensures.overlay at c.in_ok-draft.ensures).before

pub returns-clause-lawful : goal.returns-clause-lawful
returns-clause-lawful c = λ spots waiting.
    quiet-frame c.args.book.now.config (settling (demand_at c.args.book.now.flows spots waiting c.args.start)) refl
    c.in_ok-draft.draft c.put_end.new.self (rw c.in_ok-overlay.ensures.overlay at c.in_ok-draft.ensures) c.in_ok-ack.ensures.ends c.args.header c.args.progress
    c.in_ok-ack.ack _ c.in_ok-ack.ensures.ack c.into_map-map.ensures.made c.into_map-map.ensures.overlay refl

pub returns-clause-only : goal.returns-clause-only
returns-clause-only c = λ spots waiting n lawful.
    let config = c.args.book.now.config in
    let d = settling (demand_at c.args.book.now.flows spots waiting c.args.start) in
    quiet-map config d c.args.header c.args.progress n refl lawful
    ∙ sym (quiet-map config d c.args.header c.args.progress _ refl
    (lawful-from_frame config d c.args.header c.args.progress _ (returns-clause-lawful c spots waiting)))

pub returns-clause-encodable : goal.returns-clause-encodable
returns-clause-encodable c = λ channel.
    let config = c.args.book.now.config in
    let d = settling (demand_at c.args.book.now.flows [] [] c.args.start) in
    quiet-encodable config c.args.book.now.flows c.args.start c.args.header c.args.progress
    c.into_map-map.result.0 (rw c.in_ok-overlay.ensures.overlay at c.in_ok-draft.ensures).lawful
    (lawful-from_frame config d c.args.header c.args.progress _ (returns-clause-lawful c [] []))
    c.into_map-map.ensures.fits channel

pub returns-clause-config : goal.returns-clause-config
returns-clause-config c =
    ap (λ b. b.config) (c.into_map-map.ensures.overlay ∙ c.in_ok-ack.ensures.ends.overlay) ∙ (rw c.in_ok-overlay.ensures.overlay at c.in_ok-draft.ensures).config
