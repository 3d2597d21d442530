-- What is told of a life with one entry more.
use Rattle.std.proofs.Common.{◌≡◌, ℕ, ◌+◌, ◌-◌, ◌*◌, ◌≤◌, ◌^◌, Bool, true, false, not, List, [], ◌∷◌, ◌++◌, map, length}
use Rattle.std.proofs.Common.{take, drop}
use Rattle.std.proofs.Common.{Option, None, Some, refl, sym, ap, ◌∙◌, subst, if◌then◌else◌, append_assoc, arith}
use Rattle.std.specs.Prelude.{is_some}
use Rattle.std.specs.Option.{option_map_or}
use Rattle.std.proofs.lemmas.Bool.{le-ltb}
use Rattle.std.proofs.lemmas.List.{append-nil, length_push, take-append-drop, take-append-le, drop-append-le}
use Rattle.minislots.specs.declared.config.Config.{Config}
use Rattle.sched_calls.specs.declared.spec.FlowSpec.{FlowSpec}
use Rattle.flow_book.specs.Flows.{bytes_of}
use Rattle.map_build.specs.declared.met.Met.{Met}
use Rattle.sched_calls.specs.declared.frame_map.FrameMap.{FrameMap}
use Rattle.sched_calls.specs.declared.call.Call.{Call}
use Rattle.sched_calls.specs.declared.call.Call.TheVariants as calls
use Rattle.sched_calls.specs.declared.reply.Reply.{Reply}
use Rattle.sched_calls.specs.declared.reply.Reply.TheVariants as replies
use Rattle.sched_calls.specs.declared.reply.Entry.{Entry}
use Rattle.sched_history.specs.Life.{asked_in, grants_by, grants_of_map, grants_since}
use Rattle.sched_history.specs.Reserves.{met_after}
use Rattle.sched_history.specs.Time.{next_after}
use Rattle.sched_history.proofs.lists.Latests.{said-push}
use Rattle.sched_history.proofs.lives.FlowsAfter.{grants_since-push}
use Rattle.sched_report.specs.declared.life.Beginning.{Beginning}
use Rattle.sched_report.specs.declared.life.LifeTally.{LifeTally}
use Rattle.sched_report.specs.Served.{with_grants, IsServiceOf, IsServiceAfter, MayCount}
use Rattle.sched_report.specs.Lives.{PastLife, new_spec, spec_after, spec_of, is_turn, with_entry}
use Rattle.sched_report.specs.Named.{HasNoMap}
use Rattle.sched_report.specs.Requests.{claims_in}
use Rattle.sched_report.specs.Said.{unsolicited_of_map, unsolicited_by, unsolicited_after}
use Rattle.sched_report.specs.Told.{IsLifeOf, MayNote, MayGrantAll}
use Rattle.sched_report.proofs.Claims.{few_claims, asked-built, after-built}

-- a life of which no end is told has not ended
pub not_ended : (ended : Bool) (n : ℕ) (o : Option ℕ) → o ≡ (if ended then Some n else None) → is_some o ≡ false
    → ended ≡ false
not_ended true n o is none = absurd (let some : is_some o ≡ true = ap is_some is in cc)
not_ended false n o is none = refl

-- what is not there
pub none_of : {X : Type 0} (o : Option X) → ((x : X) → o ≡ Some x → ⊥) → o ≡ None
none_of None never = refl
none_of (Some x) never = absurd (never x refl)

-- an entry without a MAP has no data grants
pub ungranted : (sid : ℕ) (reply : Reply) → HasNoMap reply → grants_by sid reply ≡ []
ungranted sid (replies.Built m) unbuilt = absurd (unbuilt m refl)
ungranted sid (replies.Skipped n) unbuilt = refl
ungranted sid (replies.Admitted placement) unbuilt = refl
ungranted sid (replies.Changed placement) unbuilt = refl
ungranted sid replies.Removed unbuilt = refl
ungranted sid replies.Taken unbuilt = refl
ungranted sid replies.Noted unbuilt = refl
ungranted sid replies.Reserved unbuilt = refl
ungranted sid (replies.Flow asked granted outstanding) unbuilt = refl
ungranted sid (replies.Refused refusal) unbuilt = refl

-- nor unsolicited ones
pub ungranted_unsolicited : (met : List Met) (spec : FlowSpec) (sid : ℕ) (reply : Reply) → HasNoMap reply
    → unsolicited_by met spec sid reply ≡ 0
ungranted_unsolicited met spec sid (replies.Built m) unbuilt = absurd (unbuilt m refl)
ungranted_unsolicited met spec sid (replies.Skipped n) unbuilt = refl
ungranted_unsolicited met spec sid (replies.Admitted placement) unbuilt = refl
ungranted_unsolicited met spec sid (replies.Changed placement) unbuilt = refl
ungranted_unsolicited met spec sid replies.Removed unbuilt = refl
ungranted_unsolicited met spec sid replies.Taken unbuilt = refl
ungranted_unsolicited met spec sid replies.Noted unbuilt = refl
ungranted_unsolicited met spec sid replies.Reserved unbuilt = refl
ungranted_unsolicited met spec sid (replies.Flow asked granted outstanding) unbuilt = refl
ungranted_unsolicited met spec sid (replies.Refused refusal) unbuilt = refl

-- an entry with a MAP gives no parameters
built_spec : (sid : ℕ) (call : Call) (m : FrameMap) → new_spec sid call (replies.Built m) ≡ None
built_spec sid (calls.Change other spec) m = refl
built_spec sid call m = refl

-- the parameters with one entry more
pub spec_after-push : (sid : ℕ) (first : FlowSpec) (es : List Entry) (e : Entry)
    → spec_after sid first (es ++ e ∷ [])
    ≡ option_map_or (λ given. given) (new_spec sid e.call e.reply) (spec_after sid first es)
spec_after-push sid first es e = said-push (λ (e : Entry). new_spec sid e.call e.reply) first es e

-- the bytes of unsolicited grants with one entry more
module _ (c : Config) (sid : ℕ) (first : FlowSpec) (upto : List Entry) where
  -- those of one entry behind these of the life
  abbrev unsolicited_behind : Entry → List Entry → ℕ
  unsolicited_behind e before =
      unsolicited_by (met_after c (upto ++ before) e.reply) (spec_after sid first before) sid e.reply

  unsolicited_after-push : (before es : List Entry) (e : Entry)
      → unsolicited_after c sid first upto before (es ++ e ∷ [])
      ≡ unsolicited_after c sid first upto before es + unsolicited_behind e (before ++ es)
  unsolicited_after-push before [] e = omega (arith, ap (unsolicited_behind e) (append-nil before))
  unsolicited_after-push before (x ∷ es) e =
      omega (
        arith,
        ap (unsolicited_behind e) (append_assoc before (x ∷ []) es),
        unsolicited_after-push (before ++ x ∷ []) es e,
      )

module _ (c : Config) (t : LifeTally) (life : PastLife) (slot : ℕ) (e : Entry) (is : IsLifeOf c t life)
    (may : MayNote c life slot e) (alive : life.ended ≡ false) (stays : is_turn life.sid e ≡ false) where
  abbrev more : PastLife
  more = record life { since = life.since ++ e ∷ [] }

  within : life.passed ≤ length life.since
  within = may.passed alive

  with_entry-stays : with_entry e life ≡ more
  with_entry-stays =
      ap (λ b. if b then life else if is_turn life.sid e then record life { ended = true } else more) alive
      ∙ ap (λ b. if b then record life { ended = true } else more) stays

  -- the life goes on with what the entry has of requests, of parameters and of grants
  goes_on : (new : LifeTally) → new.sid ≡ t.sid
      → new.spec ≡ option_map_or (λ given. given) (new_spec life.sid e.call e.reply) t.spec
      → new.beginning ≡ t.beginning
      → new.to ≡ t.to
      → new.unsolicited ≡ t.unsolicited
      + unsolicited_by (met_after c (life.upto ++ life.since) e.reply) (spec_of life) life.sid e.reply
      → new.unsolicited ≤ t.unsolicited + 2 ^ 32 * 240
      → IsServiceAfter c new.service life.sid life.passed (life.since ++ e ∷ []) → IsLifeOf c new (with_entry e life)
  goes_on new sid spec begun to counted few service =
      let more_since : List Entry = life.since ++ e ∷ [] in
      let front : take life.passed more_since ≡ take life.passed life.since =
      take-append-le life.passed life.since (e ∷ []) within in
      let rest : drop life.passed more_since ≡ drop life.passed life.since ++ e ∷ [] =
      drop-append-le life.passed life.since (e ∷ []) within in
      subst (IsLifeOf c new) (sym with_entry-stays) (record {
        sid = sid ∙ is.sid;
        spec = spec
            ∙ ap (λ s. option_map_or (λ given. given) (new_spec life.sid e.call e.reply) s) is.spec
            ∙ sym (spec_after-push life.sid life.first life.since e);
        from = ap (λ (b : Beginning). b.from) begun ∙ is.from
            ∙ ap (λ (es : List Entry). next_after c (life.upto ++ es)) (sym front);
        to = to ∙ is.to
            ∙ ap (λ b. if b then Some (next_after c (life.upto ++ life.since)) else None) alive
            ∙ sym (ap (λ b. if b then Some (next_after c (life.upto ++ (life.since ++ e ∷ []))) else None) alive);
        service = service;
        before = ap (λ (b : Beginning). b.granted) begun ∙ is.before
            ∙ ap (λ (es : List Entry). bytes_of (grants_since life.sid es)) (sym front);
        carried = ap (λ (b : Beginning). b.carried) begun ∙ is.carried
            ∙ ap (λ (es : List Entry). asked_in c life.sid es - bytes_of (grants_since life.sid es)) (sym front);
        told = ap (λ (b : Beginning). b.is_live) begun ∙ is.told
            ∙ ap not (le-ltb (length life.since) life.passed within)
            ∙ sym (ap not (le-ltb (length more_since) life.passed (omega (arith, within, length_push life.since e))));
        few = omega (arith, may.few, length_push life.since e);
        unsolicited = omega (
          arith,
          counted,
          is.unsolicited,
          ap (λ (es : List Entry). unsolicited_after c life.sid life.first life.upto es (drop life.passed more_since))
              front,
          ap (unsolicited_after c life.sid life.first life.upto (take life.passed life.since)) rest,
          unsolicited_after-push c life.sid life.first life.upto (take life.passed life.since)
              (drop life.passed life.since) e,
          ap (unsolicited_behind c life.sid life.first life.upto e) (take-append-drop life.passed life.since),
        );
        bounded = omega (arith, few, is.bounded, length_push life.since e);
      })

  -- an entry without a MAP may be counted
  pub may_count : MayCount c life.sid life.since e
  may_count = record { few = may.few; fits = (may.within alive stays).1 }

  -- and with it the life goes on
  pub goes_on-noted : HasNoMap e.reply → (new : LifeTally) → new.sid ≡ t.sid
      → new.spec ≡ option_map_or (λ given. given) (new_spec life.sid e.call e.reply) t.spec
      → new.beginning ≡ t.beginning → new.to ≡ t.to → new.unsolicited ≡ t.unsolicited
      → IsServiceAfter c new.service life.sid life.passed (life.since ++ e ∷ []) → IsLifeOf c new (with_entry e life)
  goes_on-noted unbuilt new sid spec begun to same service =
      goes_on new sid spec begun to
      (omega (
        arith,
        same,
        ungranted_unsolicited (met_after c (life.upto ++ life.since) e.reply) (spec_of life) life.sid e.reply unbuilt,
      )) (omega (arith, same))
      service

  -- the data grants of a MAP may be counted
  pub may_grant_map : (m : FrameMap) → e.reply ≡ replies.Built m
      → MayGrantAll c t.service (grants_of_map life.sid m)
  may_grant_map m built =
      let same = asked-built c life.sid life.passed life.since e within m built in
      let pushed : grants_since life.sid (life.since ++ e ∷ [])
      ≡ grants_since life.sid life.since ++ grants_of_map life.sid m =
      grants_since-push life.sid life.since e
      ∙ ap (λ (r : Reply). grants_since life.sid life.since ++ grants_by life.sid r) built in
      record {
        claims = claims_in c life.sid life.passed life.since;
        bytes = asked_in c life.sid life.since;
        grants = grants_since life.sid life.since;
        is = is.service;
        lawful = may.lawful;
        few = omega (arith, few_claims c life.sid life.passed life.since, may.few);
        fits = omega (arith, (may.within alive stays).1, same);
        within = omega (arith, (may.within alive stays).0, same, ap bytes_of pushed);
      }

  -- and with them the life goes on
  pub goes_on-granted : (new : LifeTally) → new.sid ≡ t.sid → new.spec ≡ t.spec → new.beginning ≡ t.beginning
      → new.to ≡ t.to → (m : FrameMap) → e.reply ≡ replies.Built m
      → new.unsolicited ≡ t.unsolicited
      + unsolicited_of_map (met_after c (life.upto ++ life.since) e.reply) (spec_of life) life.sid m
      → new.unsolicited ≤ t.unsolicited + 2 ^ 32 * 240
      → IsServiceOf c new.service (map (with_grants (grants_of_map life.sid m)) (claims_in c life.sid life.passed life.since))
      (asked_in c life.sid life.since) (grants_since life.sid life.since ++ grants_of_map life.sid m)
      → IsLifeOf c new (with_entry e life)
  goes_on-granted new sid spec begun to m built counted few service =
      let none : new_spec life.sid e.call e.reply ≡ None =
      ap (λ (r : Reply). new_spec life.sid e.call r) built ∙ built_spec life.sid e.call m in
      goes_on new sid (spec ∙ sym (ap (λ o. option_map_or (λ given. given) o t.spec) none)) begun to
      (omega (
        arith,
        counted,
        ap (unsolicited_by (met_after c (life.upto ++ life.since) e.reply) (spec_of life) life.sid) built,
      )) few
      (after-built c life.sid life.passed life.since e within m built new.service service)
