-- A row of free minislots that has some of those now free ends at the next that is taken.
use Rattle.std.proofs.Common.{◌≡◌, ◌∙◌, sym, ap, subst, ◌+◌, ◌-◌, min, max, arith}
use Rattle.minislots.proofs.Bounds.{bounds_of}
use Rattle.periodic.specs.Rows.{HaveAtMost}
use Rattle.periodic.proofs.Bounding.{freed-bounded}
use Rattle.periodic.proofs.widest.widened.Goals as goal

pub returns-then-known-frame : goal.returns-then-known-frame
returns-then-known-frame c = λ old outer bounded start slots after within clear.
    omega (arith, within, c.if-known-frame.true, c.from-known.ensures, c.from-frame.ensures, c.frame.ensures.value)

pub returns : goal.returns
returns c = λ old outer bounded.
    let config = c.args.config.now in
    let words = c.args.bits.now.words in
    let start = c.args.start in
    let reached = c.before-reached.result in
    let next = c.next_taken.result in
    let frame : c.from-frame.result ≡ config.frame = c.from-frame.ensures ∙ c.frame.ensures.value in
    let behind : c.from.result ≡ config.req_slots = c.from.ensures ∙ c.req_slots.ensures.value in
    let taken : c.min-taken.result ≡ min next config.frame = c.min-taken.ensures ∙ ap (min next) frame in
    let more : c.saturating_sub.result ≡ min next config.frame - start =
    c.saturating_sub.ensures ∙ ap (λ n. n - start) taken in
    let wide : c.max.result ≡ max (reached + (min next config.frame - start)) c.args.most =
    c.max.ensures ∙ ap (λ n. max (reached + n) c.from-known.result) more
    ∙ ap (max (reached + (min next config.frame - start))) c.from-known.ensures in
    let whole : c.min-2.result ≡ min (max (reached + (min next config.frame - start)) c.args.most) 1024 =
    c.min-2.ensures ∙ ap (λ n. min n 1024) wide in
    subst (HaveAtMost config words) (sym whole)
    (freed-bounded config start c.args.end c.args.most old words outer bounded
    (bounds_of _ c.frame.ensures.lawful).frame_most reached next
    (λ m after lt low. c.before-reached.ensures.reached m (omega (arith, after, behind)) lt low)
    (omega (arith, c.next_taken.ensures.from, c.min.ensures)) c.next_taken.ensures.is)
