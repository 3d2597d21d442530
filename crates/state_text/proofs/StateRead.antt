-- The text of a state is read as that state, and as no other.
use Rattle.std.proofs.Common.{◌≡◌, ◌≤◌, List, ℕ, Some, None, false}
use Rattle.std.proofs.Common.{sym, ap, ◌∙◌, arith}
use Rattle.std.specs.Prelude.{◌↔◌}
use Rattle.serde_json.specs.Data.{Data, depth}
use Rattle.serde_json.specs.Read.{read, max_depth}
use Rattle.serde_json.specs.Written.{compact_text, has_float}
use Rattle.sched_calls.specs.declared.state.ChannelState.{ChannelState}
use Rattle.state_text.specs.Fits.{StateFits}
use Rattle.state_text.specs.Found.{state_in}
use Rattle.state_text.specs.StateText.{state_data, state_text, IsStateText}
use Rattle.state_text.proofs.Readable.{read-alone, once-alone, no_float, IsUtf8-compact}
use Rattle.state_text.proofs.StateFound.{state_in-data}
use Rattle.state_text.proofs.StateReadable.{state_readable, depth-state}

shallow : (s : ChannelState) → depth (state_data s) ≤ max_depth
shallow s = let deep = depth-state s in omega (arith, deep)

-- the text of a state whose numbers fit is one of it
pub state_text_is : (s : ChannelState) → StateFits s → IsStateText (state_text s) s
unfolding state_text
state_text_is s fits =
    let readable = state_readable s fits in
    record {
      utf8 = IsUtf8-compact (state_data s) readable;
      value_is = read-alone (state_data s) readable (shallow s);
      once = once-alone (state_data s) readable (shallow s);
    }

-- a text that is read as some value, and is the text of a state: the value is the state's
pub value_from_text : (d : Data) (s : ChannelState) (text : List ℕ) → StateFits s → read text ≡ Some d
    → text ≡ state_text s → d ≡ state_data s
value_from_text d s text fits as_value same =
    let both : Some d ≡ Some (state_data s) =
    sym as_value ∙ ap read same ∙ (state_text_is s fits).value_is in
    cc

-- the compact text of a state's value is its text
pub text_from_value : (d : Data) (s : ChannelState) (text : List ℕ) → StateFits s
    → (has_float d ≡ false → text ≡ compact_text d) → d ≡ state_data s → text ≡ state_text s
unfolding state_text
text_from_value d s text fits written same =
    written (ap has_float same ∙ no_float (state_data s) (state_readable s fits)) ∙ ap compact_text same

-- ---- which value is that of which state

module _ (d : Data) where
  found_there : (s : ChannelState) → StateFits s → d ≡ state_data s → state_in d ≡ Some s
  found_there s fits is = ap state_in is ∙ state_in-data s fits

  -- of none, where no state stands in it
  pub value_of_none : state_in d ≡ None → (s : ChannelState) → StateFits s → (None ≡ Some s) ↔ (d ≡ state_data s)
  value_of_none none s fits = (
    λ (same : None ≡ Some s). absurd cc,
    λ is. sym none ∙ found_there s fits is,
  )

  module _ (found : ChannelState) (there : Some found ≡ state_in d) where
    one_state : (s : ChannelState) → StateFits s → d ≡ state_data s → found ≡ s
    one_state s fits is =
        let both : Some found ≡ Some s = there ∙ found_there s fits is in
        cc

    -- of none, where the state that stands in it has another
    pub value_of_other : ¬ (d ≡ state_data found) → (s : ChannelState) → StateFits s
        → (None ≡ Some s) ↔ (d ≡ state_data s)
    value_of_other other s fits = (
      λ (same : None ≡ Some s). absurd cc,
      λ is. absurd (other (is ∙ ap state_data (sym (one_state s fits is)))),
    )

    -- of the state that stands in it, where it is its value
    pub value_of_it : d ≡ state_data found → (s : ChannelState) → StateFits s
        → (Some found ≡ Some s) ↔ (d ≡ state_data s)
    value_of_it is_value s fits = (
      λ (same : Some found ≡ Some s).
          let is : found ≡ s = cc in
          is_value ∙ ap state_data is,
      λ is. ap (λ x. Some x) (one_state s fits is),
    )
