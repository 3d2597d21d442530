-- An entry without a MAP does nothing to a flow whose SID it does not name.
use Rattle.std.proofs.Common.{◌≡◌, ℕ, zero, suc, ◌+◌, ◌<◌, ◌==◌, ◌&&◌, Bool, true, false, List}
use Rattle.std.proofs.Common.{length, get_or, Option, None, Some, refl, sym, ap, ◌∙◌, subst, inl, inr}
use Rattle.std.proofs.Common.{◌++◌, if◌then◌else◌, arith}
use Rattle.std.specs.Prelude.{nat_lt, is_some}
use Rattle.std.specs.Option.{option_map, option_map_or}
use Rattle.std.proofs.lemmas.Bool.{ne_eqb, cases_Bool}
use Rattle.map_codec.specs.declared.element.Element.{Element}
use Rattle.minislots.specs.declared.config.Config.{Config}
use Rattle.sched_calls.specs.Amount.{requested}
use Rattle.sched_calls.specs.declared.call.Call.{Call}
use Rattle.sched_calls.specs.declared.call.Call.TheVariants as calls
use Rattle.sched_calls.specs.declared.reply.Reply.{Reply}
use Rattle.sched_calls.specs.declared.reply.Reply.TheVariants as replies
use Rattle.sched_calls.specs.declared.reply.Entry.{Entry}
use Rattle.sched_history.specs.Life.{Admission, turn_by, change_by, grant_by}
use Rattle.sched_history.specs.Time.{next_after}
use Rattle.sched_report.specs.declared.life.LifeTally.{LifeTally}
use Rattle.sched_report.specs.declared.service.Request.{Request}
use Rattle.sched_report.specs.Lives.{PastLife, with_entry}
use Rattle.sched_report.specs.Requests.{request_by, supersedes_by}
use Rattle.sched_report.specs.Live.{AreLive}
use Rattle.sched_report.specs.Told.{IsLifeOf, MayNote}
use Rattle.sched_report.specs.Named.{named_by, IsUnnamed, HasNoMap}
use Rattle.sched_report.proofs.Claims.{after-unnoted}
use Rattle.sched_report.proofs.LifeNotes.{ungranted, ungranted_unsolicited, goes_on-noted}
use Rattle.sched_report.proofs.LivesGoing.{with_entry-ended}

-- what stands under a test that fails
none_under : {X : Type 0} (b : Bool) (x : X) → b ≡ false → (if b then Some x else None) ≡ None
none_under b x fails = ap (λ b. if b then Some x else None) fails

-- what stands under a test that fails with another is not there
none_under_both : {X : Type 0} (a b : Bool) (x : X) → a ≡ false → (if a && b then Some x else None) ≡ None
none_under_both a b x fails = ap (λ a. if a && b then Some x else None) fails

module _ (c : Config) (sid : ℕ) where
  -- no SID is named, and no life begins or ends
  no_turn_by : (call : Call) (reply : Reply) → named_by call reply ≡ None → turn_by sid call reply ≡ None
  no_turn_by (calls.Admit other spec) (replies.Admitted placement) none = absurd (cc)
  no_turn_by (calls.Remove other) replies.Removed none = absurd (cc)
  no_turn_by call reply none = refl

  -- nor is anything asked
  no_request_by : (call : Call) (reply : Reply) → named_by call reply ≡ None → request_by c sid call reply ≡ None
  no_request_by (calls.Ask receiver other amount heard) replies.Taken none = absurd (cc)
  no_request_by (calls.Replace receiver other amount heard) replies.Taken none = absurd (cc)
  no_request_by call reply none = refl

  -- or superseded
  none_superseded : (call : Call) (reply : Reply) → named_by call reply ≡ None → supersedes_by sid call reply ≡ false
  none_superseded (calls.Replace receiver other amount heard) replies.Taken none = absurd (cc)
  none_superseded call reply none = refl

  -- or given
  no_change_by : (call : Call) (reply : Reply) → named_by call reply ≡ None → change_by sid call reply ≡ None
  no_change_by (calls.Change other spec) (replies.Changed placement) none = absurd (cc)
  no_change_by call reply none = refl

  -- an entry without a MAP that names no SID
  pub unnamed-none : (call : Call) (reply : Reply) → named_by call reply ≡ None → HasNoMap reply
      → IsUnnamed c sid call reply
  unnamed-none call reply none unbuilt = record {
    stays = no_turn_by call reply none;
    silent = no_request_by call reply none;
    supersedes_none = none_superseded call reply none;
    unchanged = no_change_by call reply none;
    ungranted = ungranted sid reply unbuilt;
    unsolicited = λ met spec. ungranted_unsolicited met spec sid reply unbuilt;
  }

  -- an entry that names another SID
  pub unnamed-other : (named : ℕ) (call : Call) (reply : Reply) → named_by call reply ≡ Some named
      → (named ≡ sid → ⊥) → IsUnnamed c sid call reply
  unnamed-other named (calls.Admit other spec) (replies.Admitted placement) is apart =
      let same : other ≡ named = cc in
      let fails : (other == sid) ≡ false = ne_eqb other sid (λ here. apart (sym same ∙ here)) in
      record {
        stays = none_under (other == sid) _ fails;
        silent = refl;
        supersedes_none = refl;
        unchanged = refl;
        ungranted = refl;
        unsolicited = λ met spec. refl;
      }
  unnamed-other named (calls.Remove other) replies.Removed is apart =
      let same : other ≡ named = cc in
      let fails : (other == sid) ≡ false = ne_eqb other sid (λ here. apart (sym same ∙ here)) in
      record {
        stays = none_under (other == sid) _ fails;
        silent = refl;
        supersedes_none = refl;
        unchanged = refl;
        ungranted = refl;
        unsolicited = λ met spec. refl;
      }
  unnamed-other named (calls.Ask receiver other amount heard) replies.Taken is apart =
      let same : other ≡ named = cc in
      let fails : (other == sid) ≡ false = ne_eqb other sid (λ here. apart (sym same ∙ here)) in
      record {
        stays = refl;
        silent = none_under_both (other == sid) (nat_lt 0 (requested c amount)) _ fails;
        supersedes_none = refl;
        unchanged = refl;
        ungranted = refl;
        unsolicited = λ met spec. refl;
      }
  unnamed-other named (calls.Replace receiver other amount heard) replies.Taken is apart =
      let same : other ≡ named = cc in
      let fails : (other == sid) ≡ false = ne_eqb other sid (λ here. apart (sym same ∙ here)) in
      record {
        stays = refl;
        silent = none_under_both (other == sid) (nat_lt 0 (requested c amount)) _ fails;
        supersedes_none = fails;
        unchanged = refl;
        ungranted = refl;
        unsolicited = λ met spec. refl;
      }
  unnamed-other named (calls.Change other spec) (replies.Changed placement) is apart =
      let same : other ≡ named = cc in
      let fails : (other == sid) ≡ false = ne_eqb other sid (λ here. apart (sym same ∙ here)) in
      record {
        stays = refl;
        silent = refl;
        supersedes_none = refl;
        unchanged = none_under (other == sid) _ fails;
        ungranted = refl;
        unsolicited = λ met spec. refl;
      }
  unnamed-other named call reply is apart = absurd (cc)

-- what stands under a test that fails beside another
none_beside : {X : Type 0} (b : Bool) (x : X) → (if b && false then Some x else None) ≡ None
none_beside true x = refl
none_beside false x = refl

-- an element without bytes is no data grant, nor is one of another SID
pub no_grant : (sid start b : ℕ) (e : Element) → (0 < b → e.sid ≡ sid → ⊥) → grant_by sid start (e, b) ≡ None
no_grant sid start zero e other = none_beside (e.sid == sid) (record { start = start + e.offset; bytes = 0 })
no_grant sid start (suc b) e other =
    ap (λ t. if t && nat_lt 0 (suc b) then Some (record { start = start + e.offset; bytes = suc b }) else None)
    (ne_eqb e.sid sid (other (omega arith)))

-- a life whose SID an entry does not name goes on as it was
goes_on-unnamed : (c : Config) (t : LifeTally) (life : PastLife) (slot : ℕ) (e : Entry) → IsLifeOf c t life
    → MayNote c life slot e → HasNoMap e.reply → (t.to ≡ None → IsUnnamed c t.sid e.call e.reply)
    → IsLifeOf c t (with_entry e life)
goes_on-unnamed c t life slot e is may unbuilt unnamed =
    elim (cases_Bool life.ended) [
      | inl ended ↦ subst (IsLifeOf c t) (sym (with_entry-ended e life ended)) is
      | inr alive ↦
          let goes_on : t.to ≡ None =
          is.to ∙ ap (λ b. if b then Some (next_after c (life.upto ++ life.since)) else None) alive in
          let none : IsUnnamed c life.sid e.call e.reply =
          subst (λ (sid : ℕ). IsUnnamed c sid e.call e.reply) is.sid (unnamed goes_on) in
          goes_on-noted c t life slot e is may alive (ap is_some none.stays) unbuilt t refl
          (sym (ap (λ (o : Option Admission).
          option_map_or (λ given. given) (option_map (λ given. given.spec) o) t.spec) none.unchanged)) refl refl refl
          (after-unnoted c t.service life.sid life.passed life.since e (may.passed alive) none.ungranted none.supersedes_none
          none.silent is.service)
    ]

-- nor does a life where none is named
pub goes_on-silent : (c : Config) (t : LifeTally) (life : PastLife) (slot : ℕ) (e : Entry)
    → named_by e.call e.reply ≡ None → HasNoMap e.reply → IsLifeOf c t life → MayNote c life slot e
    → IsLifeOf c t (with_entry e life)
goes_on-silent c t life slot e none unbuilt is may =
    goes_on-unnamed c t life slot e is may unbuilt (λ alive. unnamed-none c t.sid e.call e.reply none unbuilt)

module _ (places : List ℕ) (ts : List LifeTally) (are : AreLive places ts) (k : ℕ) (t : LifeTally)
    (below : k < length ts) where
  -- a life that goes on and does not stand at the place of a SID has another
  pub other_sid : (sid : ℕ) → (k ≡ get_or places sid 0 → ⊥) → (get_or ts k t).to ≡ None
      → sid ≡ (get_or ts k t).sid → ⊥
  other_sid sid apart alive same =
      apart (sym (ap (λ (sid : ℕ). get_or places sid 0) same ∙ are.each k t below alive))

  -- so it stays as it was where that SID is named
  pub goes_on-apart : (c : Config) (sid : ℕ) (life : PastLife) (slot : ℕ) (e : Entry)
      → named_by e.call e.reply ≡ Some sid → HasNoMap e.reply → (k ≡ get_or places sid 0 → ⊥)
      → IsLifeOf c (get_or ts k t) life → MayNote c life slot e → IsLifeOf c (get_or ts k t) (with_entry e life)
  goes_on-apart c sid life slot e named unbuilt apart is may =
      goes_on-unnamed c (get_or ts k t) life slot e is may unbuilt
      (λ alive. unnamed-other c (get_or ts k t).sid sid e.call e.reply named (other_sid sid apart alive))

  -- and asks nothing
  pub asks_not-apart : (c : Config) (sid : ℕ) (e : Entry) (r : Request) → named_by e.call e.reply ≡ Some sid
      → (k ≡ get_or places sid 0 → ⊥) → (get_or ts k t).to ≡ None
      → request_by c (get_or ts k t).sid e.call e.reply ≡ Some r → ⊥
  asks_not-apart c sid e r named apart alive asks =
      let none : request_by c (get_or ts k t).sid e.call e.reply ≡ None =
      (unnamed-other c (get_or ts k t).sid sid e.call e.reply named (other_sid sid apart alive)).silent in
      let both : Some r ≡ None = sym asks ∙ none in cc

-- where none is named nothing is asked
pub asks_not : (c : Config) (sid : ℕ) (e : Entry) (r : Request) → named_by e.call e.reply ≡ None
    → request_by c sid e.call e.reply ≡ Some r → ⊥
asks_not c sid e r none asks =
    let both : Some r ≡ None = sym asks ∙ no_request_by c sid e.call e.reply none in cc
