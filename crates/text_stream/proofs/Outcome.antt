-- Which faults the steps by which a text is read can find.
use Rattle.std.proofs.Common.{◌≡◌, ℕ, Bool, true, false, cond, List, Option, Some, None, Result, Ok, Err, refl, sym}
use Rattle.std.proofs.Common.{subst, ◌∙◌}
use Rattle.std.specs.Prelude.{IfErr, ok_or}
use Rattle.std.specs.Str.{is_utf8}
use Rattle.serde_json.specs.Read.{read}
use Rattle.minislots.specs.declared.config.ConfigFault.{ConfigFault}
use Rattle.text_stream.specs.declared.fault.TextFault.{TextFault}
use Rattle.text_stream.specs.declared.fault.TextFault.TheVariants.{Input, TooLong, NotJson, Shape, Config, Memory}
use Rattle.text_stream.specs.declared.fault.TextFault.TheVariants.{Output}
use Rattle.text_stream.specs.Input.{Gives, value_of}
use Rattle.text_stream.specs.Outcome.{◌>>=◌, unless_wrong}
use Rattle.text_stream.specs.Watched.{FailsBy}

-- a fault that stands in the text
abbrev pub IsOfText : TextFault → Type 0
IsOfText Input = ⊥
IsOfText TooLong = ⊥
IsOfText NotJson = Unit {0}
IsOfText (Shape n) = Unit {0}
IsOfText (Config field) = Unit {0}
IsOfText Memory = ⊥
IsOfText Output = ⊥

-- the fault of one step and then another is one of a text
pub faults-bind : {A B : Type 0} (r : Result A TextFault) (f : A → Result B TextFault) → IfErr r IsOfText
    → ((x : A) → IfErr (f x) IsOfText) → IfErr (r >>= f) IsOfText
faults-bind (Ok x) f first next = next x
faults-bind (Err fault) f first next = first

-- the fault of what is not there is one of a text
pub faults-ok_or : {A : Type 0} (o : Option A) (fault : TextFault) → IsOfText fault → IfErr (ok_or o fault) IsOfText
faults-ok_or (Some x) fault is = tt
faults-ok_or None fault is = is

-- the fault of a test is one of a text
pub faults-cond : {A : Type 0} (b : Bool) (r : Result A TextFault) (fault : TextFault) → IfErr r IsOfText
    → IsOfText fault → IfErr (cond b r (Err fault)) IsOfText
faults-cond true r fault first is = first
faults-cond false r fault first is = is

-- the fault of a value is one of a text
pub faults-value_of : (bytes : List ℕ) → IfErr (value_of bytes) IsOfText
unfolding value_of
faults-value_of bytes = faults-cond (is_utf8 bytes) (ok_or (read bytes) NotJson) NotJson
    (faults-ok_or (read bytes) NotJson tt) tt

-- a wrong field of a configuration is a fault of the text
pub faults-unless_wrong : {A : Type 0} (wrong : Option ConfigFault) (read : A)
    → IfErr (unless_wrong wrong read) IsOfText
faults-unless_wrong None read = tt
faults-unless_wrong (Some field) read = tt

-- a failed read is no fault that was found in a text
pub unfailed : {X Y : Type 0} (view : X → Y) (result : Result X TextFault) (there : Result Y TextFault)
    → IfErr there IsOfText → Gives view result there → (before after : Bool) → after ≡ before
    → FailsBy Input result before after
unfailed view (Ok x) there faults gives before after same = same
unfailed view (Err fault) there faults gives before after same = λ is.
    let given : there ≡ Err fault = gives (λ memory. let contra : Input ≡ Memory = sym is ∙ memory in cc) in
    absurd (subst IsOfText is (subst (λ r. IfErr r IsOfText) given faults))

-- a configuration is tested behind what is read
pub then_tested : {A B C : Type 0} (r : Result A TextFault) (f : A → Result B TextFault) (g : B → Result C TextFault)
    → (r >>= f) >>= g ≡ r >>= (λ x. f x >>= g)
then_tested (Ok x) f g = refl
then_tested (Err e) f g = refl
