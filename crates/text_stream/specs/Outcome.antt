-- What is made of a text in steps, each of which may find a fault.
use Rattle.std.specs.Prelude.{Option, None, Some, Result, Ok, Err}
use Rattle.minislots.specs.declared.config.ConfigFault.{ConfigFault}
use Rattle.text_stream.specs.declared.fault.TextFault.{TextFault}
use Rattle.text_stream.specs.declared.fault.TextFault.TheVariants.{Config}

-- the next step, where none before it found a fault
infixl 10 ◌>>=◌
abbrev pub ◌>>=◌ : {A B : Type 0} → Result A TextFault → (A → Result B TextFault) → Result B TextFault
(Ok x) >>= f = f x
(Err e) >>= f = Err e

-- what was read, unless this field of its configuration is wrong
abbrev pub unless_wrong : {A : Type 0} → Option ConfigFault → A → Result A TextFault
unless_wrong None read = Ok read
unless_wrong (Some field) read = Err (Config field)
