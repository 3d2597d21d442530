-- Where the channel with that profile is not lawful, the profile is not.
use Rattle.std.proofs.Common.{◌≡◌, None, ap, sym, subst, ◌∙◌}
use Rattle.std.specs.Result.{result_ok}
use Rattle.minislots.specs.declared.config.Config.{Config}
use Rattle.minislots.specs.declared.bursts.Bursts.TheVariants.{Described}
use Rattle.minislots.specs.Config.{IsLawful}
use Rattle.bursts_command.specs.Numbers.{slots_of}
use Rattle.bursts_command.proofs.Profiles.{none_by}
use Rattle.bursts_command.proofs.numbers.slots_by.Goals as goal

pub returns-in_err-ok : goal.returns-in_err-ok
returns-in_err-ok c =
    let d = c.in-Described.these in
    let same : c.config.result ≡ c.args.config.now = c.config.ensures.value in
    let is : c.config.result.bursts ≡ Described d =
    ap (λ (k : Config). k.bursts) same ∙ sym c.in-Described.ensures.value in
    let lawful : IsLawful c.config.result = subst IsLawful (sym same) c.config.ensures.lawful in
    let none : result_ok c.check.result ≡ None = sym c.ok.ensures.value ∙ c.in_err-ok.was in
    c.from_residual.ensures
    ∙ none_by c.config.result d c.args.profile c.args.bytes c.check.result is lawful none c.check.ensures.err
    ∙ ap (λ (k : Config). slots_of k.bursts c.args.profile c.args.bytes) same
