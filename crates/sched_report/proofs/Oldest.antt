-- The requests that were neither superseded nor served are those that wait.
use Rattle.std.proofs.Common.{◌≡◌, ℕ, ◌++◌, Bool, true, false, List, [], ◌∷◌, map, filter, refl, ap, ◌∙◌, subst}
use Rattle.std.specs.List.{AllByRecursion}
use Rattle.std.proofs.lemmas.List.Elements.{filter-append}
use Rattle.minislots.specs.declared.config.Config.{Config}
use Rattle.flow_book.specs.declared.flow.Grant.{Grant}
use Rattle.flow_book.specs.Flows.{bytes_of}
use Rattle.sched_report.specs.declared.service.Service.{Service}
use Rattle.sched_report.specs.declared.service.Waiting.{Waiting}
use Rattle.sched_report.specs.Delays.{Claim, least_of}
use Rattle.sched_report.specs.Oldest.{is_unserved, first_heard}
use Rattle.sched_report.specs.Served.{waits_with, IsSettled, IsServiceOf}
use Rattle.sched_report.proofs.Reaching.{AreUnreached}
use Rattle.sched_report.proofs.Unserved.{settled-over, waiting-unserved}

-- where a test fails it leaves one out, and where it holds it keeps one
filter-no : {X : Type 0} (p : X → Bool) (x : X) (xs : List X) → p x ≡ false → filter p (x ∷ xs) ≡ filter p xs
filter-no p x xs is = rw is refl

filter-yes : {X : Type 0} (p : X → Bool) (x : X) (xs : List X) → p x ≡ true → filter p (x ∷ xs) ≡ x ∷ filter p xs
filter-yes p x xs is = rw is refl

module _ (c : Config) where
  -- none of those that are settled
  none-settled : (grants : List Grant) (ms : List Claim) → AllByRecursion (IsSettled grants) ms
      → filter (is_unserved c) ms ≡ []
  none-settled grants [] settled = refl
  none-settled grants (m ∷ ms) settled =
      filter-no (is_unserved c) m ms (settled-over c grants m settled.0) ∙ none-settled grants ms settled.1

  -- all of those that wait
  all-waiting : (grants : List Grant) (ws : List Waiting) → AreUnreached (bytes_of grants) ws
      → map (λ m. m.heard) (filter (is_unserved c) (map (waits_with grants) ws)) ≡ map (λ w. w.heard) ws
  all-waiting grants [] unreached = refl
  all-waiting grants (w ∷ ws) unreached =
      ap (map (λ (m : Claim). m.heard)) (filter-yes (is_unserved c) (waits_with grants w) (map (waits_with grants) ws)
      (waiting-unserved c grants w unreached.0))
      ∙ ap (λ (ns : List ℕ). w.heard ∷ ns) (all-waiting grants ws unreached.1)

-- so the first of those was heard where the first of these was
pub first_heard-kept : (c : Config) (s : Service) (claims : List Claim) (bytes : ℕ) (grants : List Grant)
    → IsServiceOf c s claims bytes grants
    → first_heard c claims ≡ least_of (map (λ w. w.heard) s.waiting.items)
first_heard-kept c s claims bytes grants is =
    let waits : List Claim = map (waits_with grants) s.waiting.items in
    ap (first_heard c) is.split
    ∙ ap (λ (ms : List Claim). least_of (map (λ (m : Claim). m.heard) ms))
    (filter-append (is_unserved c) is.settled waits
    ∙ ap (λ (ms : List Claim). ms ++ filter (is_unserved c) waits) (none-settled c grants is.settled is.are_settled))
    ∙ ap least_of (all-waiting c grants s.waiting.items
    (subst (λ n. AreUnreached n s.waiting.items) is.granted is.unreached))
