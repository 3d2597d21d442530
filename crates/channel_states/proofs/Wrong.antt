-- The first flow of a list that is wrong.
use Rattle.std.proofs.Common.{◌≡◌, refl, sym, ℕ, ◌+◌, ◌<◌, List, drop, get_or, length, inl, inr}
use Rattle.std.specs.List.{AllByRecursion}
use Rattle.std.proofs.lemmas.List.Elements.{All-from_recursion}
use Rattle.sched_calls.specs.declared.state.FlowState.{FlowState}
use Rattle.channel_states.specs.Faults.{IsFirstWrong}
use Rattle.channel_states.proofs.Left.{drop-here}

module _ (P : FlowState → Type 0) where
  -- The flows gone through are right: what is so of those that are left is so of all
  pub record AreRightUpTo (flows : List FlowState) (i : ℕ) : Type 0 where
    pub right : AllByRecursion P (drop i flows) → AllByRecursion P flows
    pub wrong : (sid : ℕ) → IsFirstWrong P sid (drop i flows) → IsFirstWrong P sid flows

  module _ (flows : List FlowState) (i : ℕ) (f : FlowState) (within : i < length flows) (is : f ≡ get_or flows i f)
    where
      -- one right flow more
      pub right-more : P f → AreRightUpTo flows i → AreRightUpTo flows (i + 1)
      right-more here upto = record {
        right = λ rest. upto.right (rw (drop-here flows i f within is) (here, rest));
        wrong = λ sid first. upto.wrong sid (rw (drop-here flows i f within is) (inr (here, first)));
      }

      -- a wrong one says that not all are right
      pub right-not : (P f → ⊥) → AllByRecursion P flows → ⊥
      right-not not all = not (rw (sym is) at (All-from_recursion P flows all i f within))

      -- and it is the first
      pub right-wrong : (P f → ⊥) → AreRightUpTo flows i → IsFirstWrong P f.sid flows
      right-wrong not upto = upto.wrong f.sid (rw (drop-here flows i f within is) (inl (not, refl)))
