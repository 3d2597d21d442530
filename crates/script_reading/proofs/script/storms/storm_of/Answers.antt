-- Scripts are few.
use Rattle.std.proofs.Common.{◌≤◌, length, ◌∙◌, sym, subst}
use Rattle.script_reading.proofs.script.storms.storm_of.Goals as goal

pub scripts_of-requires : goal.scripts_of-requires
scripts_of-requires c = subst (λ l. length l ≤ 16) (c.deref.ensures.value ∙ sym c.deref-2.ensures.value)
    (c.are_scripts.ensures.few c.if-not-are_scripts.false)
