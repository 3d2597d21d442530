-- The live flows and placements after one more entry.
use Rattle.std.proofs.Common.{◌≡◌, ℕ, ◌+◌, Bool, true, false, not, if◌then◌else◌, List, [], ◌∷◌, ◌++◌, map}
use Rattle.std.proofs.Common.{Option, None, Some, refl, sym, ap, ◌∙◌, arith, append-nil}
use Rattle.std.proofs.lemmas.List.{append_assoc, map-append}
use Rattle.std.specs.Option.{option_map, option_map_or, option_and_then}
use Rattle.std.proofs.lemmas.List.Sums.{sum_by_push}
use Rattle.std.proofs.lemmas.Grind.{flat_map-append}
use Rattle.minislots.specs.declared.config.Config.{Config}
use Rattle.flow_book.specs.declared.flow.Grant.{Grant}
use Rattle.flow_book.specs.declared.batches.Batches.{Batches}
use Rattle.flow_book.specs.Batches.{no_batches}
use Rattle.flow_book.specs.Flows.{LiveFlow, Charge, charge_of, charges_of, bytes_of, granted}
use Rattle.flow_book.specs.Reserved.{with_grant}
use Rattle.flow_book.specs.Book.{has_ceiling_of, has_peak_of, has_reserve_of}
use Rattle.map_build.specs.Plan.{with_grants}
use Rattle.sched_calls.specs.declared.spec.FlowSpec.{FlowSpec}
use Rattle.sched_calls.specs.declared.placement.Placement.{Placement}
use Rattle.periodic.specs.Placement.{Placed}
use Rattle.sched_calls.specs.declared.call.Call.{Call}
use Rattle.sched_calls.specs.declared.call.Call.TheVariants as calls
use Rattle.sched_calls.specs.declared.reply.Reply.{Reply}
use Rattle.sched_calls.specs.declared.reply.Reply.TheVariants as replies
use Rattle.sched_calls.specs.declared.reply.Entry.{Entry}
use Rattle.sched_history.specs.Latest.{Found, up_to, latest}
use Rattle.sched_history.specs.Life.{Admission, turn_by, Life, life_of, added_by, added_in, replaced_by, asked_in}
use Rattle.sched_history.specs.Life.{grants_by, grants_since, batches_by, batches_after, batches_in, change_by}
use Rattle.sched_history.specs.Life.{given_after, given_in, changes_ceiling, period_after, period_of, charged_in}
use Rattle.sched_history.specs.Life.{reservation_by, reservation_after}
use Rattle.sched_history.specs.Life.{rest_by, rests_in, flow_in_life, placed_in_life, sids, flows_of, table_of}
use Rattle.sched_history.proofs.lists.Latests.{with_after, latest-says, latest-silent, or_else, said-push, said-cons}
use Rattle.sched_history.proofs.lists.Latests.{up_to-push, up_to-none}
use Rattle.sched_history.proofs.lives.LivesAfter.{with_since, life_of-stays}
use Rattle.sched_history.proofs.lists.Numbered.{filter_map-same, filter_map-changed}
use Rattle.sched_history.proofs.lives.Finding.{flow_at, placed_at}

-- the parameters of a flow after an entry
abbrev pub spec_then : ℕ → Entry → FlowSpec → FlowSpec
spec_then sid e spec = option_map_or (λ a. a.spec) (change_by sid e.call e.reply) spec

-- the bytes asked after an entry, of a flow that had asked and was granted so many
abbrev pub asked_then : Config → ℕ → Entry → ℕ → ℕ → ℕ
asked_then c sid e asked granted = option_map_or (λ bytes. granted + bytes) (replaced_by c sid e.call e.reply)
    (asked + added_by c sid e.call e.reply)

-- what is charged to a ceiling after an entry: nothing where that gives another, and else what it grants too
abbrev pub charged_then : (FlowSpec → FlowSpec → Bool) → ℕ → Entry → FlowSpec → List Charge → List Charge
charged_then same sid e spec charged =
    if changes_ceiling same sid spec e then [] else charged ++ charges_of (grants_by sid e.reply)

-- a live flow with what an entry asks for it, grants to it and gives to it
abbrev pub grown_by : Config → Entry → LiveFlow → LiveFlow
grown_by c e f = record f {
  spec = spec_then f.sid e f.spec;
  asked = asked_then c f.sid e f.asked (granted f);
  batches = batches_by c f.sid e.call e.reply f.batches f.asked (granted f);
  grants = f.grants ++ grants_by f.sid e.reply;
  sustained = charged_then has_ceiling_of f.sid e f.spec f.sustained;
  peak = charged_then has_peak_of f.sid e f.spec f.peak;
  reserved = if changes_ceiling has_reserve_of f.sid f.spec e then []
      else (with_grants c (grants_by f.sid e.reply) f).reserved;
}

-- the grants in these entries and one more
pub grants_since-push : (sid : ℕ) (entries : List Entry) (e : Entry)
    → grants_since sid (entries ++ e ∷ []) ≡ grants_since sid entries ++ grants_by sid e.reply
grants_since-push sid entries e =
    flat_map-append (λ x. grants_by sid x.reply) entries (e ∷ [])
    ∙ ap (λ gs. grants_since sid entries ++ gs) (append-nil (grants_by sid e.reply))

-- a request that leaves its bytes in the place of those before grants nothing
replaced-ungranted : (c : Config) (sid : ℕ) (call : Call) (reply : Reply) (bytes : ℕ)
    → replaced_by c sid call reply ≡ Some bytes → grants_by sid reply ≡ []
replaced-ungranted c sid (calls.Replace receiver other amount heard) replies.Taken bytes is = refl
replaced-ungranted c sid call reply bytes is = absurd cc

-- nor does a change
changed-ungranted : (sid : ℕ) (call : Call) (reply : Reply) (given : Admission)
    → change_by sid call reply ≡ Some given → grants_by sid reply ≡ []
changed-ungranted sid (calls.Change other spec) (replies.Changed placement) given is = refl
changed-ungranted sid call reply given is = absurd cc

module _ (c : Config) (sid : ℕ) (entries : List Entry) (e : Entry) where
  added_in-push : (xs : List Entry) → added_in c sid (xs ++ e ∷ []) ≡ added_in c sid xs + added_by c sid e.call e.reply
  added_in-push xs = sum_by_push (λ x. added_by c sid x.call x.reply) xs e

  -- the bytes asked in these entries, of which the latest that replaced others is this
  abbrev asked_from : List Entry → Option (Found Entry ℕ) → ℕ
  asked_from xs o = option_map_or
      (λ found. bytes_of (grants_since sid (up_to xs found.after)) + found.said + added_in c sid found.after)
      o (added_in c sid xs)

  asked-added : (o : Option (Found Entry ℕ)) → asked_from (entries ++ e ∷ []) (option_map (with_after e) o)
      ≡ asked_from entries o + added_by c sid e.call e.reply
  asked-added None = added_in-push entries
  asked-added (Some found) =
      let before = ap (λ xs. bytes_of (grants_since sid xs)) (up_to-push entries found.after e) in
      let more = added_in-push found.after in
      omega (arith, before, more)

  asked-by : (o : Option ℕ) → replaced_by c sid e.call e.reply ≡ o → asked_in c sid (entries ++ e ∷ [])
      ≡ option_map_or (λ bytes. bytes_of (grants_since sid entries) + bytes) o
      (asked_in c sid entries + added_by c sid e.call e.reply)
  asked-by None silent =
      ap (asked_from (entries ++ e ∷ [])) (latest-silent (λ x. replaced_by c sid x.call x.reply) entries e silent)
      ∙ asked-added (latest (λ x. replaced_by c sid x.call x.reply) entries)
  asked-by (Some bytes) says =
      let nothing : grants_since sid (entries ++ e ∷ []) ≡ grants_since sid entries =
      grants_since-push sid entries e
      ∙ ap (λ gs. grants_since sid entries ++ gs) (replaced-ungranted c sid e.call e.reply bytes says)
      ∙ append-nil (grants_since sid entries) in
      let all = ap (λ xs. bytes_of (grants_since sid xs)) (up_to-none (entries ++ e ∷ [])) in
      let same = ap bytes_of nothing in
      ap (asked_from (entries ++ e ∷ [])) (latest-says (λ x. replaced_by c sid x.call x.reply) entries e bytes says)
      ∙ omega (arith, all, same)

  -- the bytes asked in these entries and one more
  pub asked_in-push : asked_in c sid (entries ++ e ∷ [])
      ≡ asked_then c sid e (asked_in c sid entries) (bytes_of (grants_since sid entries))
  asked_in-push = asked-by (replaced_by c sid e.call e.reply) refl

-- the batches behind some entries and one more
batches_after-push : (c : Config) (sid : ℕ) (b : Batches) (before entries : List Entry) (e : Entry)
    → batches_after c sid b before (entries ++ e ∷ [])
    ≡ batches_by c sid e.call e.reply (batches_after c sid b before entries) (asked_in c sid (before ++ entries))
    (bytes_of (grants_since sid (before ++ entries)))
batches_after-push c sid b before [] e = rw append-nil refl
batches_after-push c sid b before (d ∷ entries) e =
    let rest = batches_after-push c sid
    (batches_by c sid d.call d.reply b (asked_in c sid before) (bytes_of (grants_since sid before)))
    (before ++ d ∷ []) entries e in
    rw append_assoc at rest

pub batches_in-push : (c : Config) (sid : ℕ) (entries : List Entry) (e : Entry)
    → batches_in c sid (entries ++ e ∷ []) ≡ batches_by c sid e.call e.reply (batches_in c sid entries)
    (asked_in c sid entries) (bytes_of (grants_since sid entries))
batches_in-push c sid entries e = batches_after-push c sid no_batches [] entries e

-- what a flow has after some entries and one more
pub given_after-push : (sid : ℕ) (given : Admission) (entries : List Entry) (e : Entry)
    → given_after sid given (entries ++ e ∷ []) ≡ or_else (change_by sid e.call e.reply) (given_after sid given entries)
given_after-push sid given entries e = said-push (λ x. change_by sid x.call x.reply) given entries e

given-spec : (o : Option Admission) (given : Admission)
    → (or_else o given).spec ≡ option_map_or (λ a. a.spec) o given.spec
given-spec None given = refl
given-spec (Some a) given = refl

-- a period that goes on, or begins
either-period : (begins later : Bool) (xs ys : List Entry) (e : Entry)
    → (if begins then (if later then [] else xs ++ e ∷ []) else (if later then [] else ys ++ e ∷ []))
    ≡ (if later then [] else (if begins then xs else ys) ++ e ∷ [])
either-period true true xs ys e = refl
either-period true false xs ys e = refl
either-period false true xs ys e = refl
either-period false false xs ys e = refl

module _ (same : FlowSpec → FlowSpec → Bool) where
  -- the period of a ceiling after some entries and one more
  period_after-push : (sid : ℕ) (given : Admission) (period entries : List Entry) (e : Entry)
      → period_after same sid given period (entries ++ e ∷ [])
      ≡ (if changes_ceiling same sid (given_after sid given entries).spec e then []
      else period_after same sid given period entries ++ e ∷ [])
  period_after-push sid given period [] e = refl
  period_after-push sid given period (d ∷ entries) e =
      let next = given_after sid given (d ∷ []) in
      let gives : given_after sid given (d ∷ entries) ≡ given_after sid next entries =
      said-cons (λ x. change_by sid x.call x.reply) given d entries
      ∙ ap (λ g. given_after sid g entries) (sym (said-cons (λ x. change_by sid x.call x.reply) given d [])) in
      rw (gives, period_after-push sid next [] entries e, period_after-push sid next (period ++ d ∷ []) entries e)
      (either-period (changes_ceiling same sid given.spec d)
      (changes_ceiling same sid (given_after sid next entries).spec e)
      (period_after same sid next [] entries) (period_after same sid next (period ++ d ∷ []) entries) e)

-- what is charged in a period that goes on, or begins
charged-by : (sid : ℕ) (period : List Entry) (e : Entry) (begins : Bool)
    → charges_of (grants_since sid (if begins then [] else period ++ e ∷ []))
    ≡ (if begins then [] else charges_of (grants_since sid period) ++ charges_of (grants_by sid e.reply))
charged-by sid period e true = refl
charged-by sid period e false =
    ap charges_of (grants_since-push sid period e) ∙ map-append charge_of (grants_since sid period) (grants_by sid e.reply)

charged-more : (same : FlowSpec → FlowSpec → Bool) (sid : ℕ) (e : Entry) (life : Life)
    → charged_in same sid (with_since e life)
    ≡ charged_then same sid e (given_in sid life).spec (charged_in same sid life)
charged-more same sid e life =
    ap (λ xs. charges_of (grants_since sid xs)) (period_after-push same sid life.admission [] life.since e)
    ∙ charged-by sid (period_of same sid life) e (changes_ceiling same sid (given_in sid life).spec e)

-- what is charged to the reservation after some entries and one more
reservation_after-push : (c : Config) (sid : ℕ) (given : Admission) (r : List Charge) (before entries : List Entry)
    (e : Entry) → reservation_after c sid given r before (entries ++ e ∷ [])
    ≡ reservation_by c sid (given_after sid given entries).spec (before ++ entries)
    (reservation_after c sid given r before entries) e
reservation_after-push c sid given r before [] e = rw append-nil refl
reservation_after-push c sid given r before (d ∷ entries) e =
    let next = given_after sid given (d ∷ []) in
    let gives : given_after sid given (d ∷ entries) ≡ given_after sid next entries =
    said-cons (λ x. change_by sid x.call x.reply) given d entries
    ∙ ap (λ g. given_after sid g entries) (sym (said-cons (λ x. change_by sid x.call x.reply) given d [])) in
    let rest =
    reservation_after-push c sid next (reservation_by c sid given.spec before r d) (before ++ d ∷ []) entries e in
    rw gives (rw append_assoc at rest)

-- what is charged to the reservation does not depend on what is to the ceilings, or on the batches
reserved-free : (c : Config) (gs : List Grant) (f : LiveFlow) (batches : Batches) (sustained peak : List Charge)
    → (with_grants c gs (record f { batches = batches; sustained = sustained; peak = peak })).reserved
    ≡ (with_grants c gs f).reserved
reserved-free c [] f batches sustained peak = refl
reserved-free c (g ∷ gs) f batches sustained peak =
    reserved-free c gs (with_grant c g f) batches (sustained ++ charge_of g ∷ []) (peak ++ charge_of g ∷ [])

-- what a life has with one entry more
pub given_in-more : (sid : ℕ) (e : Entry) (life : Life)
    → given_in sid (with_since e life) ≡ or_else (change_by sid e.call e.reply) (given_in sid life)
given_in-more sid e life = given_after-push sid life.admission life.since e

-- the live flow of a life with one entry more
pub flow_in_life-more : (c : Config) (sid : ℕ) (e : Entry) (life : Life)
    → flow_in_life c sid (with_since e life) ≡ grown_by c e (flow_in_life c sid life)
flow_in_life-more c sid e life =
    let spec = ap (λ (a : Admission). a.spec) (given_in-more sid e life)
    ∙ given-spec (change_by sid e.call e.reply) (given_in sid life) in
    rw (
      spec,
      asked_in-push c sid life.since e,
      batches_in-push c sid life.since e,
      grants_since-push sid life.since e,
      charged-more has_ceiling_of sid e life,
      charged-more has_peak_of sid e life,
      reservation_after-push c sid life.admission [] [] life.since e,
      reserved-free c (grants_by sid e.reply) (flow_in_life c sid life) no_batches [] [],
    ) refl

grown-map : (c : Config) (sid : ℕ) (e : Entry) (o : Option Life)
    → option_map (flow_in_life c sid) (option_map (with_since e) o)
    ≡ option_map (grown_by c e) (option_map (flow_in_life c sid) o)
grown-map c sid e None = refl
grown-map c sid e (Some life) = ap (λ (f : LiveFlow). Some f) (flow_in_life-more c sid e life)

-- whether a life's flow rests with one entry more
pub rests_in-more : (sid : ℕ) (e : Entry) (life : Life)
    → rests_in sid (with_since e life).since ≡ or_else (rest_by sid e.call e.reply) (rests_in sid life.since)
rests_in-more sid e life = said-push (λ x. rest_by sid x.call x.reply) false life.since e

-- a placed flow after an entry, which may let it rest
abbrev pub rested_by : ℕ → Entry → Placed → Placed
rested_by sid e p = record p { rests = or_else (rest_by sid e.call e.reply) p.rests }

-- a placed flow of these
abbrev pub placed_with : ℕ → FlowSpec → Bool → Placement → Placed
placed_with sid spec rests p = record { sid = sid; spec = spec; placement = p; rests = rests }

placed-at : (sid : ℕ) (spec : FlowSpec) (rests more : Bool) (placement : Option Placement) (e : Entry)
    → more ≡ or_else (rest_by sid e.call e.reply) rests
    → option_map (placed_with sid spec more) placement
    ≡ option_map (rested_by sid e) (option_map (placed_with sid spec rests) placement)
placed-at sid spec rests more None e is = refl
placed-at sid spec rests more (Some p) e is = rw is refl

-- the placed flow of a life with one entry more, which gives it nothing else
placed-more : (sid : ℕ) (e : Entry) (life : Life) → change_by sid e.call e.reply ≡ None
    → placed_in_life sid (with_since e life) ≡ option_map (rested_by sid e) (placed_in_life sid life)
placed-more sid e life none =
    let same : given_in sid (with_since e life) ≡ given_in sid life =
    given_in-more sid e life ∙ ap (λ o. or_else o (given_in sid life)) none in
    rw same (placed-at sid (given_in sid life).spec (rests_in sid life.since) (rests_in sid (with_since e life).since)
    (given_in sid life).placement e (rests_in-more sid e life))

placed-map : (sid : ℕ) (e : Entry) (o : Option Life) → change_by sid e.call e.reply ≡ None
    → option_and_then (placed_in_life sid) (option_map (with_since e) o)
    ≡ option_map (rested_by sid e) (option_and_then (placed_in_life sid) o)
placed-map sid e None none = refl
placed-map sid e (Some life) none = placed-more sid e life none

module _ (c : Config) (h : List Entry) (e : Entry) where
  -- where an entry is no turn of a SID its live flow grows
  pub flow_at-stays : (sid : ℕ) → turn_by sid e.call e.reply ≡ None
      → flow_at c (h ++ e ∷ []) sid ≡ option_map (grown_by c e) (flow_at c h sid)
  flow_at-stays sid none =
      ap (option_map (flow_in_life c sid)) (life_of-stays sid h e none) ∙ grown-map c sid e (life_of sid h)

  -- where an entry is no turn of any SID each live flow grows
  pub flows_of-grown : ((sid : ℕ) → turn_by sid e.call e.reply ≡ None)
      → flows_of c (h ++ e ∷ []) ≡ map (grown_by c e) (flows_of c h)
  flows_of-grown none =
      filter_map-changed (flow_at c h) (flow_at c (h ++ e ∷ [])) (grown_by c e) sids (λ sid. flow_at-stays sid
      (none sid))

rests-same : (sid : ℕ) (e : Entry) (o : Option Placed) → rest_by sid e.call e.reply ≡ None
    → option_map (rested_by sid e) o ≡ o
rests-same sid e None none = refl
rests-same sid e (Some p) none = rw none refl

module _ (h : List Entry) (e : Entry) where
  -- where it gives nothing to a SID its placed flow rests or wakes
  pub placed_at-rested : (sid : ℕ) → turn_by sid e.call e.reply ≡ None → change_by sid e.call e.reply ≡ None
      → placed_at (h ++ e ∷ []) sid ≡ option_map (rested_by sid e) (placed_at h sid)
  placed_at-rested sid none unchanged =
      ap (option_and_then (placed_in_life sid)) (life_of-stays sid h e none) ∙ placed-map sid e (life_of sid h) unchanged

  -- or stays
  pub placed_at-stays : (sid : ℕ) → turn_by sid e.call e.reply ≡ None → change_by sid e.call e.reply ≡ None
      → rest_by sid e.call e.reply ≡ None → placed_at (h ++ e ∷ []) sid ≡ placed_at h sid
  placed_at-stays sid none unchanged unrested =
      placed_at-rested sid none unchanged ∙ rests-same sid e (placed_at h sid) unrested

  -- and the placements stay
  pub table_of-stays : ((sid : ℕ) → turn_by sid e.call e.reply ≡ None)
      → ((sid : ℕ) → change_by sid e.call e.reply ≡ None) → ((sid : ℕ) → rest_by sid e.call e.reply ≡ None)
      → table_of (h ++ e ∷ []) ≡ table_of h
  table_of-stays none unchanged unrested =
      filter_map-same (placed_at h) (placed_at (h ++ e ∷ [])) sids
      (λ sid. placed_at-stays sid (none sid) (unchanged sid) (unrested sid))

-- a flow of which nothing is new is the same
same_flow : (f : LiveFlow) (change : Option Admission) (replaced : Option ℕ) (added : ℕ) (batches : Batches)
    (grants : List Grant) (c : Config) → change ≡ None → replaced ≡ None → added ≡ 0 → batches ≡ f.batches
    → grants ≡ [] → record f {
      spec = option_map_or (λ a. a.spec) change f.spec;
      asked = option_map_or (λ bytes. granted f + bytes) replaced (f.asked + added);
      batches = batches;
      grants = f.grants ++ grants;
      sustained = if option_map_or (λ a. not (has_ceiling_of f.spec a.spec)) change false then []
          else f.sustained ++ charges_of grants;
      peak = if option_map_or (λ a. not (has_peak_of f.spec a.spec)) change false then []
          else f.peak ++ charges_of grants;
      reserved = if option_map_or (λ a. not (has_reserve_of f.spec a.spec)) change false then []
          else (with_grants c grants f).reserved;
    } ≡ f
same_flow f change replaced added batches grants c unchanged unreplaced none same nothing =
    let more : f.asked + added ≡ f.asked = omega arith in
    rw (
      unchanged,
      unreplaced,
      more,
      same,
      nothing,
      append-nil f.grants,
      append-nil f.sustained,
      append-nil f.peak,
    ) refl

map-same : {X : Type 0} (k : X → X) (xs : List X) → ((x : X) → k x ≡ x) → map k xs ≡ xs
map-same k [] same = refl
map-same k (x ∷ xs) same = rw (same x, map-same k xs same) refl

-- No live flow depends on a call with its reply
pub record LeavesFlows (c : Config) (call : Call) (reply : Reply) : Type 0 where
  pub turns : (sid : ℕ) → turn_by sid call reply ≡ None
  pub adds : (sid : ℕ) → added_by c sid call reply ≡ 0
  pub replaces : (sid : ℕ) → replaced_by c sid call reply ≡ None
  pub changes : (sid : ℕ) → change_by sid call reply ≡ None
  pub batches : (sid asked granted : ℕ) (b : Batches) → batches_by c sid call reply b asked granted ≡ b
  pub grants : (sid : ℕ) → grants_by sid reply ≡ []

-- such an entry changes no live flow
pub flows_of-quiet : (c : Config) (h : List Entry) (e : Entry) → LeavesFlows c e.call e.reply
    → flows_of c (h ++ e ∷ []) ≡ flows_of c h
flows_of-quiet c h e leaves = flows_of-grown c h e leaves.turns
    ∙ map-same (grown_by c e) (flows_of c h)
    (λ f. same_flow f (change_by f.sid e.call e.reply) (replaced_by c f.sid e.call e.reply)
    (added_by c f.sid e.call e.reply) (batches_by c f.sid e.call e.reply f.batches f.asked (granted f))
    (grants_by f.sid e.reply) c (leaves.changes f.sid) (leaves.replaces f.sid) (leaves.adds f.sid)
    (leaves.batches f.sid f.asked (granted f) f.batches) (leaves.grants f.sid))
