-- The numbers of a life by what is told of it.
use Rattle.std.proofs.Common.{◌≡◌, ℕ, ◌+◌, ◌≤◌, ◌^◌, Bool, true, false, List, [], ◌∷◌, length, take, drop, get_or}
use Rattle.std.proofs.Common.{Option, None, Some, refl, sym, ap, ◌∙◌, subst, if◌then◌else◌, arith}
use Rattle.std.specs.Prelude.{is_some, unwrap_or}
use Rattle.minislots.specs.declared.config.Config.{Config}
use Rattle.sched_calls.specs.declared.spec.FlowSpec.{FlowSpec}
use Rattle.sched_calls.specs.declared.spec.FlowSpec.TheVariants.{Unsolicited, Polled, BestEffort}
use Rattle.std.proofs.lemmas.Grind.{flat_map-append}
use Rattle.std.proofs.lemmas.List.{take-append-drop}
use Rattle.std.proofs.lemmas.List.Sums.{sum_by-append}
use Rattle.flow_book.specs.declared.flow.Grant.{Grant}
use Rattle.flow_book.specs.Flows.{bytes_of}
use Rattle.sched_calls.specs.declared.reply.Entry.{Entry}
use Rattle.sched_history.specs.Life.{asked_in, grants_by, grants_since}
use Rattle.sched_report.specs.declared.life.LifeTally.{LifeTally}
use Rattle.sched_report.specs.Lives.{PastLife}
use Rattle.sched_report.specs.Said.{claims_of, granted_before, grants_in, granted_under}
use Rattle.sched_report.specs.Told.{IsLifeOf}
use Rattle.sched_report.specs.ToldLives.{AreLives}
use Rattle.sched_report.proofs.Claims.{few_claims}
use Rattle.sched_report.proofs.Serving.{few_served}

-- an end is told of a life that has ended, and of no other
pub some_end : (ended : Bool) (n : ℕ) (o : Option ℕ) → o ≡ (if ended then Some n else None) → is_some o ≡ ended
some_end true n o is = ap is_some is
some_end false n o is = ap is_some is

-- where no end is told there is none
pub no_end : (o : Option ℕ) → is_some o ≡ false → o ≡ None
no_end None none = refl
no_end (Some n) none = absurd (cc)

-- the end, or what stands for it
pub end_told : (ended : Bool) (n now : ℕ) (o : Option ℕ) → o ≡ (if ended then Some n else None)
    → (ended ≡ false → now ≡ n) → unwrap_or o now ≡ n
end_told true n now o is alive = ap (λ o. unwrap_or o now) is
end_told false n now o is alive = ap (λ o. unwrap_or o now) is ∙ alive refl

-- the bytes of data grants, of a flow that is not unsolicited
pub granted_under-data : (spec : FlowSpec) (unsolicited bytes : ℕ)
    → ((size interval jitter grants : ℕ) → spec ≡ Unsolicited size interval jitter grants → ⊥)
    → granted_under spec unsolicited bytes ≡ bytes
granted_under-data (Unsolicited size interval jitter grants) unsolicited bytes other =
    absurd (other size interval jitter grants refl)
granted_under-data (Polled interval jitter rate burst peak) unsolicited bytes other = refl
granted_under-data (BestEffort priority rate burst peak reserved reserved-burst) unsolicited bytes other = refl

module _ (c : Config) (t : LifeTally) (life : PastLife) (is : IsLifeOf c t life) where
  -- there are few requests
  pub few_asked : length (claims_of c life) ≤ 2 ^ 44
  few_asked = omega (arith, few_claims c life.sid life.passed life.since, is.few)

  -- and few are served
  pub few_told : t.service.delays.served ≤ 2 ^ 44
  few_told = omega (
    arith,
    few_asked,
    few_served c t.service (claims_of c life) (asked_in c life.sid life.since) (grants_since life.sid life.since)
        is.service,
  )

  -- alone it is the only one
  pub AreLives-one : AreLives c (t ∷ []) (life ∷ [])
  AreLives-one = record {
    long = refl;
    each = λ k u other below.
        let first : k ≡ 0 = omega (arith, below) in
        subst (λ k. IsLifeOf c (get_or (t ∷ []) k u) (get_or (life ∷ []) k other)) (sym first) is;
  }

-- the bytes of the data grants of a life are those before what is told, and those since
pub granted-split : (life : PastLife) → bytes_of (grants_since life.sid life.since)
    ≡ granted_before life + bytes_of (grants_in life)
granted-split life =
    let front : List Entry = take life.passed life.since in
    let rest : List Entry = drop life.passed life.since in
    ap (λ (es : List Entry). bytes_of (grants_since life.sid es)) (sym (take-append-drop life.passed life.since))
    ∙ ap bytes_of (flat_map-append (λ (e : Entry). grants_by life.sid e.reply) front rest)
    ∙ sum_by-append (λ (g : Grant). g.bytes) (grants_since life.sid front) (grants_since life.sid rest)

-- where there is one, its life is the only one
pub one_of : (c : Config) (t : LifeTally) (ls : List PastLife) → AreLives c (t ∷ []) ls
    → (l : PastLife) × (ls ≡ l ∷ []) × IsLifeOf c t l
one_of c t [] are = absurd (omega (arith, are.long))
one_of c t (l ∷ []) are = (l, refl, are.each 0 t l (omega arith))
one_of c t (l ∷ m ∷ ls) are = absurd (omega (arith, are.long))
