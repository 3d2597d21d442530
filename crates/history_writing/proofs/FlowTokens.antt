-- The tokens of a flow, whose peak rate stands only where it is a ceiling, and a reserved rate and its burst only where
-- they are above 0.
use Rattle.std.proofs.Common.{◌≡◌, ℕ, ◌==◌, [], ◌∷◌, codes, inl, inr, refl}
use Rattle.std.proofs.lemmas.Bool.{cases_Bool}
use Rattle.json.specs.Token.{Token}
use Rattle.sched_calls.specs.declared.spec.FlowSpec.TheVariants.{Polled, BestEffort}
use Rattle.history_writing.specs.Json.{flow_data}
use Rattle.history_writing.specs.Tokens.{tokens_of, numbered, optional_tokens, titled, joined}

-- those of a polled flow
pub polled-tokens : (interval jitter rate burst peak : ℕ)
    → tokens_of (flow_data (Polled interval jitter rate burst peak))
    ≡ joined ((Token.begin_object ∷ []) ∷ numbered (codes "burst") burst ∷ numbered (codes "interval_us") interval
    ∷ numbered (codes "jitter_us") jitter ∷ titled (codes "kind") (codes "polled")
    ∷ optional_tokens 0 (codes "peak") peak ∷ numbered (codes "rate") rate ∷ (Token.end_object ∷ []) ∷ [])
unfolding flow_data
polled-tokens interval jitter rate burst peak = elim (cases_Bool (peak == 0)) [
  | inl none ↦ rw none refl
  | inr stands ↦ rw stands refl
]

-- and of one of best effort
pub best_effort-tokens : (priority rate burst peak reserved reserved-burst : ℕ)
    → tokens_of (flow_data (BestEffort priority rate burst peak reserved reserved-burst))
    ≡ joined ((Token.begin_object ∷ []) ∷ numbered (codes "burst") burst ∷ titled (codes "kind") (codes "best_effort")
    ∷ optional_tokens 0 (codes "peak") peak ∷ numbered (codes "priority") priority ∷ numbered (codes "rate") rate
    ∷ optional_tokens 0 (codes "reserved") reserved ∷ optional_tokens 0 (codes "reserved_burst") reserved-burst
    ∷ (Token.end_object ∷ []) ∷ [])
unfolding flow_data
best_effort-tokens priority rate burst peak reserved reserved-burst = elim (cases_Bool (peak == 0)) [
  | inl a ↦ elim (cases_Bool (reserved == 0)) [
    | inl b ↦ elim (cases_Bool (reserved-burst == 0)) [
      | inl d ↦ rw (a, b, d) refl
      | inr d ↦ rw (a, b, d) refl
    ]
    | inr b ↦ elim (cases_Bool (reserved-burst == 0)) [
      | inl d ↦ rw (a, b, d) refl
      | inr d ↦ rw (a, b, d) refl
    ]
  ]
  | inr a ↦ elim (cases_Bool (reserved == 0)) [
    | inl b ↦ elim (cases_Bool (reserved-burst == 0)) [
      | inl d ↦ rw (a, b, d) refl
      | inr d ↦ rw (a, b, d) refl
    ]
    | inr b ↦ elim (cases_Bool (reserved-burst == 0)) [
      | inl d ↦ rw (a, b, d) refl
      | inr d ↦ rw (a, b, d) refl
    ]
  ]
]
