-- With an idle over the whole frame alone the draft is quiet.
use Rattle.std.proofs.Common.{◌≡◌, ℕ, ◌∙◌, ap, subst}
use Rattle.minislots.specs.Config.{IsLawful}
use Rattle.map_build.specs.UsageCodes.{long_iuc}
use Rattle.map_build.specs.Draft.{Puts}
use Rattle.map_build.proofs.Begun.{IsQuiet-begun}
use Rattle.map_build.proofs.draft.Draft.quiet.Goals as goal

pub returns : goal.returns
returns c =
    let book = c.args.overlay in
    let begun = c.in_ok-draft.ensures in
    let same : c.config.result.now ≡ book.config = c.config.ensures.value ∙ begun.config in
    let code : c.long_iuc-iuc.result ≡ long_iuc book.config = c.long_iuc-iuc.ensures ∙ ap long_iuc same in
    let again : c.config-2.result.now ≡ book.config = c.config-2.ensures.value ∙ begun.config in
    let all : c.frame-frame.result ≡ book.config.frame = c.frame-frame.ensures.value ∙ ap (λ k. k.frame) again in
    IsQuiet-begun book.config book.flows c.args.start c.in_ok-draft.draft c.put_slots.new.self
    (subst IsLawful again c.frame-frame.ensures.lawful) begun
    (subst (λ (n : ℕ). Puts 0 n book.config.frame 0 c.in_ok-draft.draft c.put_slots.new.self) code
    (subst (λ (n : ℕ). Puts 0 c.long_iuc-iuc.result n 0 c.in_ok-draft.draft c.put_slots.new.self) all
    c.in_ok-put_slots.ensures))
