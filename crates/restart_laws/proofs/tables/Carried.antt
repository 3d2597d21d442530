-- The table of a state is like the one that has the state.
use Rattle.std.proofs.Common.{◌≡◌, refl, sym, ap, ◌∙◌, subst, ℕ, ◌/◌, ◌%◌, ◌<◌, Bool, true, false, ◌==◌, cond}
use Rattle.std.proofs.Common.{List, [], ◌∷◌, map, filter, find, Option, None, Some, option_map, arith}
use Rattle.std.specs.List.{AllByRecursion, cons_option}
use Rattle.std.proofs.Math.Nat.{mod-lt, mod-mod}
use Rattle.std.proofs.lemmas.Bool.Decides.{nat_tests}
use Rattle.std.proofs.lemmas.Nat.{div-mul-add, mod-mul-add}
use Rattle.minislots.specs.declared.config.Config.{Config}
use Rattle.sched_calls.specs.declared.state.FlowState.{FlowState}
use Rattle.sched_calls.specs.FlowSpec.{is_periodic, interval_frames}
use Rattle.sched_calls.specs.Sids.{AscendBy}
use Rattle.flow_book.specs.Flows.{LiveFlow, flow_of}
use Rattle.flow_book.specs.Book.{Ascend}
use Rattle.periodic.specs.Placement.{Placed}
use Rattle.periodic.specs.PlaceState.{place_state}
use Rattle.periodic.specs.Carried.{placed_at, placed_of, placed_in}
use Rattle.map_build.specs.Spots.{ArePeriodicOf}
use Rattle.sched_history.specs.ChannelState.{flow_state_in}
use Rattle.sched_history.proofs.situations.Places.{placed-aperiodic, placed-ascend}
use Rattle.restart_laws.proofs.Alike.{AlikePlaced, AlikeTables}

module _ {X : Type 0} (sid_of : X → ℕ) where
  -- what is found under the SIDs of some members
  abbrev pub AreFoundIn : List X → List X → Type 0
  AreFoundIn xs ys = AllByRecursion (λ y. find (λ z. sid_of z == sid_of y) xs ≡ Some y) ys

  found-behind : (x : X) (xs ys : List X) → AllByRecursion (λ y. sid_of x < sid_of y) ys → AreFoundIn xs ys
      → AreFoundIn (x ∷ xs) ys
  found-behind x xs [] above found = tt
  found-behind x xs (y ∷ ys) above found =
      let low : sid_of x < sid_of y = above.0 in
      let other : (sid_of x == sid_of y) ≡ false = grind (arith, nat_tests) in
      (rw other found.0, found-behind x xs ys above.1 found.1)

  -- in a list by SID each member is the one that is found under its SID
  pub found-each : (xs : List X) → AscendBy sid_of xs → AreFoundIn xs xs
  found-each [] up = tt
  found-each (x ∷ xs) up =
      let own : (sid_of x == sid_of x) ≡ true = grind (arith, nat_tests) in
      (rw own, found-behind x xs xs up.0 (found-each xs up.1))

module _ (c : Config) (some : 0 < c.frame) where
  -- the placed flow that a place stands for is like the one that has the place
  pub carried-placed : (p : Placed) (f : FlowState) → p.sid ≡ f.sid → p.spec ≡ f.spec
      → AlikePlaced c p (placed_at c f (place_state c p))
  carried-placed p f own has =
      let phase : ℕ = p.placement.reference / c.frame % interval_frames c p.spec in
      let offset : ℕ = p.placement.reference % c.frame in
      let within : offset < c.frame = mod-lt p.placement.reference some in
      record {
        sid = own;
        spec = has;
        starts = refl;
        phase = sym (ap (λ n. n % interval_frames c f.spec) (div-mul-add phase c.frame offset within)
            ∙ ap (λ spec. phase % interval_frames c spec) (sym has)
            ∙ mod-mod (p.placement.reference / c.frame) (interval_frames c p.spec));
        offset = sym (mod-mul-add phase c.frame offset within);
        rests = refl;
      }

  module _ (table : List Placed) where
    -- a placed flow of the table is found in it
    abbrev IsFound : Placed → Type 0
    IsFound p = find (λ q. q.sid == p.sid) table ≡ Some p

    -- a flow that is not periodic is not
    abbrev IsUnplaced : LiveFlow → Type 0
    IsUnplaced f = is_periodic f.spec ≡ false → find (λ q. q.sid == f.sid) table ≡ None

    -- what the table has of these flows
    abbrev AreCarried : List LiveFlow → Type 0
    AreCarried flows = (ps : List Placed)
        → map (λ p. p.sid) ps ≡ map (λ f. f.sid) (filter (λ f. is_periodic f.spec) flows)
        → map (λ p. p.spec) ps ≡ map (λ f. f.spec) (filter (λ f. is_periodic f.spec) flows)
        → AllByRecursion IsFound ps → AlikeTables c ps (placed_in c (map (flow_state_in c table) flows))

    first-same : {X : Type 0} (x y : X) (xs ys : List X) → x ∷ xs ≡ y ∷ ys → (x ≡ y) × (xs ≡ ys)
    first-same x y xs ys same = (cc, cc)

    here-placed : (f : LiveFlow) (o : Option Placed) → find (λ q. q.sid == f.sid) table ≡ o
        → placed_of c (flow_state_in c table f)
        ≡ option_map (λ p. placed_at c (flow_state_in c table f) (place_state c p)) o
    here-placed f None is = rw is refl
    here-placed f (Some p) is = rw is refl

    carried-first : (f : LiveFlow) (flows : List LiveFlow) (b : Bool) → is_periodic f.spec ≡ b → IsUnplaced f
        → AreCarried flows → (ps : List Placed)
        → map (λ p. p.sid) ps ≡ map (λ g. g.sid)
        (cond b (f ∷ filter (λ g. is_periodic g.spec) flows) (filter (λ g. is_periodic g.spec) flows))
        → map (λ p. p.spec) ps ≡ map (λ g. g.spec)
        (cond b (f ∷ filter (λ g. is_periodic g.spec) flows) (filter (λ g. is_periodic g.spec) flows))
        → AllByRecursion IsFound ps → AlikeTables c ps
        (cons_option (placed_of c (flow_state_in c table f)) (placed_in c (map (flow_state_in c table) flows)))
    carried-first f flows true is unplaced rest [] sids specs found = absurd cc
    carried-first f flows true is unplaced rest (p ∷ ps) sids specs found =
        let others : List LiveFlow = filter (λ g. is_periodic g.spec) flows in
        let own = first-same p.sid f.sid (map (λ (q : Placed). q.sid) ps) (map (λ (g : LiveFlow). g.sid) others) sids in
        let has =
        first-same p.spec f.spec (map (λ (q : Placed). q.spec) ps) (map (λ (g : LiveFlow). g.spec) others) specs in
        let here : find (λ q. q.sid == f.sid) table ≡ Some p =
        subst (λ n. find (λ q. q.sid == n) table ≡ Some p) own.0 found.0 in
        rw (here-placed f (Some p) here)
        (carried-placed p (flow_state_in c table f) own.0 has.0, rest ps own.1 has.1 found.1)
    carried-first f flows false is unplaced rest ps sids specs found =
        rw (here-placed f None (unplaced is)) (rest ps sids specs found)

    carried-each : (flows : List LiveFlow) → AllByRecursion IsUnplaced flows → AreCarried flows
    carried-each [] unplaced [] sids specs found = tt
    carried-each [] unplaced (p ∷ ps) sids specs found = absurd cc
    carried-each (f ∷ flows) unplaced ps sids specs found =
        carried-first f flows (is_periodic f.spec) refl unplaced.0 (carried-each flows unplaced.1) ps sids specs found

  unplaced-each : (all flows : List LiveFlow) (placed : List Placed) → Ascend all → ArePeriodicOf all placed
      → AllByRecursion (λ f. flow_of f.sid all ≡ Some f) flows → AllByRecursion (IsUnplaced placed) flows
  unplaced-each all [] placed up periodic found = tt
  unplaced-each all (f ∷ flows) placed up periodic found = (
    placed-aperiodic all placed up periodic f.sid f found.0,
    unplaced-each all flows placed up periodic found.1,
  )

  -- so the table that the states of flows stand for is like the one in which they have their places
  pub carried-table : (flows : List LiveFlow) (placed : List Placed) → Ascend flows → ArePeriodicOf flows placed
      → AlikeTables c placed (placed_in c (map (flow_state_in c placed) flows))
  carried-table flows placed up periodic =
      carried-each placed flows (unplaced-each flows flows placed up periodic (found-each (λ f. f.sid) flows up)) placed
      periodic.sids periodic.specs (found-each (λ p. p.sid) placed (placed-ascend flows placed up periodic))
