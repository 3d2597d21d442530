-- A conversation with its opening.
use Rattle.std.proofs.Common.{◌≡◌, ℕ, List, [], ◌∷◌, ◌++◌, Option, None, Some, Result, Ok, Err, refl, inr}
use Rattle.std.specs.Prelude.{IfErr, OnOk, MatchResult}
use Rattle.std.specs.Io.KnownBytes.{IsAtEnd, prepend_known}
use Rattle.minislots.specs.declared.config.Config.{Config}
use Rattle.sched_calls.specs.declared.reply.Entry.{Entry}
use Rattle.sched_history.specs.Machine.{Machine}
use Rattle.live_command.specs.declared.wording.Wording.{Wording}
use Rattle.live_command.specs.declared.journal.BeginFault.{BeginFault}
use Rattle.live_command.specs.declared.fault.LiveFault.{LiveFault}
use Rattle.live_command.specs.Held.{start_new, Held, Ends}
use Rattle.live_command.specs.Opening.{Opens}
use Rattle.live_command.specs.Talk.{Conversed, Stopped, StopsTalk}

-- where nothing is at hand, what is untold is what will be read
pub none_at_hand : (left : Option (List ℕ)) → prepend_known [] left ≡ left
none_at_hand None = refl
none_at_hand (Some text) = refl

-- the end of what is untold is that of what will be read
at_end-behind : (held : List ℕ) (left : Option (List ℕ)) → IsAtEnd (prepend_known held left) → IsAtEnd left
at_end-behind held None ended = tt
at_end-behind [] (Some text) ended = ended
at_end-behind (b ∷ held) (Some text) ended = absurd (let no : b ∷ (held ++ text) ≡ [] = ended in cc)

module _ (wording : Wording) (config : Config) (unread behind left before written : Option (List ℕ))
    (stands : Config → List Entry → Type 0) (m : Machine) (opened : Opens unread behind (Ok config)) (held : List ℕ)
  where
    -- how a conversation ended behind its opening
    abbrev pub Ended : {A : Type 0} → Result A LiveFault → Type 0
    Ended r = MatchResult r
        (λ _. Conversed (start_new config wording behind before) m (prepend_known held left) written (stands config))
        (λ e. Stopped (start_new config wording behind before) m.history written (stands config)
        × StopsTalk (start_new config wording behind before) m left written (stands config) e)

    -- one that ends early
    pub ends_early : {A : Type 0} (refuses : Config → BeginFault → Type 0) (may : Config → List Entry → Type 0)
        (untouched quiet : Type 0) (r : Result A LiveFault) → Ended r
        → IfErr r (Ends wording unread left before written refuses may stands untouched quiet)
    ends_early refuses may untouched quiet (Ok x) conversed = tt
    ends_early refuses may untouched quiet (Err e) stopped = inr (inr (record {
      config = config;
      behind = behind;
      opened = opened;
      scheduler = m;
      stopped = stopped.0;
      stops = stopped.1;
    }))

    -- one whose input has ended
    pub ends_well : {A : Type 0} (r : Result A LiveFault) → Ended r
        → OnOk r (Held wording unread left before written stands)
    ends_well (Ok x) conversed = record {
      config = config;
      behind = behind;
      opened = opened;
      scheduler = m;
      rest = prepend_known held left;
      conversed = conversed;
      ended = at_end-behind held left conversed.ended;
    }
    ends_well (Err e) stopped = tt
