-- The header of every legal history has exponents that a header may have.
use Rattle.std.proofs.Common.{List}
use Rattle.minislots.specs.declared.config.Config.{Config}
use Rattle.minislots.specs.Config.{IsLawful}
use Rattle.sched_calls.specs.declared.reply.Entry.{Entry}
use Rattle.channel_states.specs.Possible.{IsPossibleHeader}
use Rattle.channel_states.proofs.Opening.{opening-possible}
use Rattle.sched_history.specs.Situation.{Situation, situation_of}
use Rattle.sched_history.specs.History.{IsLegal}
use Rattle.restart_laws.proofs.possible.Effects.{Effect, Headed, header_left}
use Rattle.restart_laws.proofs.possible.Legal.{kept-legal}

header-kept : (c : Config) (x : Situation) (effect : Effect c x) → IsPossibleHeader x.header
    → IsPossibleHeader (header_left c x effect)
header-kept c x (Headed header may) is = may
header-kept c x effect is = is

-- so it is of every legal history
pub header-legal : (c : Config) → IsLawful c → (h : List Entry) → IsLegal c h
    → IsPossibleHeader (situation_of c h).header
header-legal c lawful =
    kept-legal c (λ x. Unit {0}) (λ h legal. tt) (λ x. IsPossibleHeader x.header)
    (λ x effect old new is. header-kept c x effect is) (opening-possible c lawful).header
