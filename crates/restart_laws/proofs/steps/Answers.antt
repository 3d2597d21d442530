-- Situations of one state answer alike.
use Rattle.std.proofs.Common.{◌≡◌, refl, sym, ap, ◌∙◌, subst, ℕ, ◌==◌, Bool, true, false, inl, inr}
use Rattle.std.proofs.Common.{find, Option, None, Some, if◌then◌else◌}
use Rattle.std.specs.Prelude.{IsSomeAnd}
use Rattle.std.specs.Option.{option_map, MatchOption}
use Rattle.minislots.specs.declared.config.Config.{Config}
use Rattle.sched_calls.specs.declared.spec.FlowSpec.{FlowSpec}
use Rattle.sched_calls.specs.declared.spec.FlowSpec.TheVariants.{Unsolicited, Polled, BestEffort}
use Rattle.sched_calls.specs.FlowSpec.{is_periodic, has_place_of, takes_requests, interval_frames}
use Rattle.sched_calls.specs.declared.placement.Placement.{Placement}
use Rattle.flow_book.specs.Flows.{LiveFlow, flow_of, granted, outstanding}
use Rattle.periodic.specs.Placement.{Placed, IsPlacement, NoPlacement, IsToldFrom}
use Rattle.periodic.specs.Table.{without}
use Rattle.periodic.proofs.Told.{alike-placed}
use Rattle.map_build.specs.Spots.{ArePeriodicOf}
use Rattle.sched_calls.specs.declared.call.Call.{Call}
use Rattle.sched_calls.specs.declared.call.Call.TheVariants as calls
use Rattle.sched_calls.specs.declared.reply.Reply.{Reply}
use Rattle.sched_calls.specs.declared.reply.Reply.TheVariants as replies
use Rattle.sched_history.specs.Life.{Admission}
use Rattle.sched_history.specs.Situation.{Situation}
use Rattle.sched_history.specs.History.{PlacesOrRefuses, AnswersAdmit, PlacesAnew, AnswersChange, flow_status}
use Rattle.sched_history.specs.History.{AnswersIn}
use Rattle.sched_history.proofs.situations.Places.{placed-periodic}
use Rattle.restart_laws.proofs.Alike.{AlikeFlow, IsSteady, IsAlike}
use Rattle.restart_laws.proofs.flows.Fields.{spec-alike, asked-alike, granted-alike, outstanding-alike}
use Rattle.restart_laws.proofs.tables.Alike.{AlikeFound, find-alike, without-alike, placement-alike, none-alike}
use Rattle.restart_laws.proofs.tables.Alike.{told-alike}
use Rattle.restart_laws.proofs.maps.Lists.{AlikeOption, flow_of-alike}
use Rattle.restart_laws.proofs.maps.Choice.{AreAlikeAt}
use Rattle.restart_laws.proofs.steps.Demands.{map-alike}

status-same : (b b' : Bool) (a a' g g' o o' : ℕ) → b ≡ b' → a ≡ a' → g ≡ g' → o ≡ o'
    → ◌≡◌ {A = Reply} (if b then replies.Flow a g o else replies.Flow 0 0 0)
    (if b' then replies.Flow a' g' o' else replies.Flow 0 0 0)
status-same b b' a a' g g' o o' e1 e2 e3 e4 = rw (e1, e2, e3, e4) refl

-- flows that are alike tell the same bytes
status-alike : (c : Config) (f g : LiveFlow) → AlikeFlow c f g → flow_status f ≡ flow_status g
status-alike c f g same =
    status-same (takes_requests f.spec) (takes_requests g.spec) f.asked g.asked (granted f) (granted g) (outstanding f)
    (outstanding g) (ap takes_requests (spec-alike c f g same)) (asked-alike c f g same) (granted-alike c f g same)
    (outstanding-alike c f g same)

status-found : (c : Config) (reply : Reply) (o p : Option LiveFlow) → AlikeOption c o p
    → MatchOption o ⊥ (λ f. reply ≡ flow_status f) → MatchOption p ⊥ (λ f. reply ≡ flow_status f)
status-found c reply None None same is = is
status-found c reply None (Some g) same is = absurd same
status-found c reply (Some f) None same is = absurd same
status-found c reply (Some f) (Some g) same is = is ∙ status-alike c f g same

-- a flow that keeps its place was periodic
was-periodic : (old new : FlowSpec) → has_place_of old new ≡ true → is_periodic old ≡ true
was-periodic (Unsolicited size interval jitter grants) new same = refl
was-periodic (Polled interval jitter rate burst peak) new same = refl
was-periodic (BestEffort priority rate burst peak reserved reserved-burst) new same = absurd (cc)

module _ (c : Config) (x y : Situation) (alike : IsAlike c x y) (spec : FlowSpec) (reply : Reply) where
  places-alike : PlacesOrRefuses c x spec reply → PlacesOrRefuses c y spec reply
  places-alike (inl (p, is, same)) =
      inl (
        p,
        subst (λ n. IsPlacement c y.placed spec n p) alike.next
            (placement-alike c x.placed y.placed alike.placed spec x.next p is),
        same,
      )
  places-alike (inr (none, same)) =
      inr (
        subst (NoPlacement c y.placed spec) alike.next
            (none-alike c x.placed y.placed alike.placed spec x.next none),
        same,
      )

  anew-alike : (sid : ℕ) → PlacesAnew c x sid spec reply → PlacesAnew c y sid spec reply
  anew-alike sid (inl (p, is, same)) =
      inl (
        p,
        subst (λ n. IsPlacement c (without sid y.placed) spec n p) alike.next
            (placement-alike c (without sid x.placed) (without sid y.placed)
            (without-alike c sid x.placed y.placed alike.placed)
            spec x.next p is),
        same,
      )
  anew-alike sid (inr (none, same)) =
      inr (
        subst (NoPlacement c (without sid y.placed) spec) alike.next
            (none-alike c (without sid x.placed) (without sid y.placed)
            (without-alike c sid x.placed y.placed alike.placed)
            spec x.next none),
        same,
      )

admit-alike : (c : Config) (x y : Situation) → IsAlike c x y → (spec : FlowSpec) (reply : Reply)
    → AnswersAdmit c x spec reply → AnswersAdmit c y spec reply
admit-alike c x y alike (Unsolicited size interval jitter grants) reply answers =
    places-alike c x y alike (Unsolicited size interval jitter grants) reply answers
admit-alike c x y alike (Polled interval jitter rate burst peak) reply answers =
    places-alike c x y alike (Polled interval jitter rate burst peak) reply answers
admit-alike c x y alike (BestEffort priority rate burst peak reserved reserved-burst) reply answers = answers

-- what a flow with these parameters has that is placed so
abbrev given_by : FlowSpec → Option Placed → Admission
given_by spec placed = record { spec = spec; placement = option_map (λ p. p.placement) placed }

module _ (c : Config) (x y : Situation) (alike : IsAlike c x y) (up : IsSteady c x)
    (periodic : ArePeriodicOf x.flows x.placed) (sid : ℕ) (spec : FlowSpec) (reply : Reply) where
  told-found : (o o' : Option Placed) (old : FlowSpec) (p : Placement) → AlikeFound c o o'
      → ((q : Placed) → o ≡ Some q → interval_frames c spec ≡ interval_frames c q.spec)
      → IsSomeAnd (given_by old o).placement (λ stands. IsToldFrom c spec x.next stands p)
      → IsSomeAnd (given_by old o').placement (λ stands. IsToldFrom c spec y.next stands p)
  told-found None None old p found interval told = told
  told-found None (Some r) old p found interval told = absurd found
  told-found (Some q) None old p found interval told = absurd found
  told-found (Some q) (Some r) old p found interval told =
      subst (λ n. IsToldFrom c spec n r.placement p) alike.next
      (told-alike c q r found spec x.next p (interval q refl) told)

  same-interval : (f : LiveFlow) → flow_of sid x.flows ≡ Some f → has_place_of f.spec spec ≡ true
      → (q : Placed) → find (λ p. p.sid == sid) x.placed ≡ Some q → interval_frames c spec ≡ interval_frames c q.spec
  same-interval f found same q is =
      let stands = placed-periodic x.flows x.placed up.ascending periodic sid f found (was-periodic f.spec spec same) in
      let one : Some q ≡ Some stands.0 = sym is ∙ stands.1 in
      let them : q ≡ stands.0 = cc in
      (alike-placed c f.spec spec same).interval ∙ ap (interval_frames c) (sym stands.2)
      ∙ ap (λ (p : Placed). interval_frames c p.spec) (sym them)

  given-alike : (f g : LiveFlow) → flow_of sid x.flows ≡ Some f → AlikeFlow c f g
      → AnswersChange c x sid (given_by f.spec (find (λ p. p.sid == sid) x.placed)) spec reply
      → AnswersChange c y sid (given_by g.spec (find (λ p. p.sid == sid) y.placed)) spec reply
  given-alike f g found same (inl (keeps, (p, told, is))) =
      inl (
        subst (λ old. has_place_of old spec ≡ true) (spec-alike c f g same) keeps,
        (
          p,
          told-found (find (λ p. p.sid == sid) x.placed) (find (λ p. p.sid == sid) y.placed) f.spec p
              (find-alike c sid x.placed y.placed alike.placed) (same-interval f found keeps) told,
          is,
        ),
      )
  given-alike f g found same (inr (inl (other, is, anew))) =
      inr (inl (
        subst (λ old. has_place_of old spec ≡ false) (spec-alike c f g same) other,
        is,
        anew-alike c x y alike spec reply sid anew,
      ))
  given-alike f g found same (inr (inr none)) = inr (inr none)

  found-alike : (o o' : Option LiveFlow) → flow_of sid x.flows ≡ o → AlikeOption c o o'
      → MatchOption (option_map (λ f. given_by f.spec (find (λ p. p.sid == sid) x.placed)) o) ⊥
      (λ given. AnswersChange c x sid given spec reply)
      → MatchOption (option_map (λ f. given_by f.spec (find (λ p. p.sid == sid) y.placed)) o') ⊥
      (λ given. AnswersChange c y sid given spec reply)
  found-alike None None found same answers = absurd answers
  found-alike None (Some g) found same answers = absurd answers
  found-alike (Some f) None found same answers = absurd same
  found-alike (Some f) (Some g) found same answers = given-alike f g found same answers

  change-alike : AnswersIn c x (calls.Change sid spec) reply → AnswersIn c y (calls.Change sid spec) reply
  change-alike answers =
      found-alike (flow_of sid x.flows) (flow_of sid y.flows) refl (flow_of-alike c sid x.flows y.flows alike.flows)
      answers

module _ (c : Config) (x y : Situation) (alike : IsAlike c x y) (up : IsSteady c x)
    (are : AreAlikeAt c x.next x.flows y.flows) (periodic : ArePeriodicOf x.flows x.placed) where
  -- a reply that is the answer of the one is that of the other
  pub answers-alike : (call : Call) (reply : Reply) → AnswersIn c x call reply → AnswersIn c y call reply
  answers-alike (calls.Admit sid spec) reply answers = admit-alike c x y alike spec reply answers
  answers-alike (calls.Change sid spec) reply answers = change-alike c x y alike up periodic sid spec reply answers
  answers-alike (calls.Build now) reply (m, lawful, is) = (m, map-alike c x y alike m are lawful, is)
  answers-alike (calls.Status sid) reply answers =
      status-found c reply (flow_of sid x.flows) (flow_of sid y.flows) (flow_of-alike c sid x.flows y.flows alike.flows)
      answers
  answers-alike (calls.Remove sid) reply answers = answers
  answers-alike (calls.Ask receiver sid amount heard) reply answers = answers
  answers-alike (calls.Replace receiver sid amount heard) reply answers = answers
  answers-alike (calls.Rest sid) reply answers = answers
  answers-alike (calls.Wake sid) reply answers = answers
  answers-alike (calls.Heard receiver upto) reply answers = answers
  answers-alike (calls.Skip now) reply answers = answers
  answers-alike (calls.Reserve usage slots) reply answers = answers
  answers-alike (calls.Header header) reply answers = answers
