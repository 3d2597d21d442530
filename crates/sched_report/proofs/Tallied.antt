-- What each part of a tally needs of an entry that may be counted.
use Rattle.std.proofs.Common.{◌≡◌, ◌<◌, ℕ, Bool, List, [], ◌∷◌, ◌++◌, length, take, drop, sym, ap, ◌∙◌, subst, arith}
use Rattle.std.proofs.lemmas.List.{take-append-drop, take-append-le, drop-append-le}
use Rattle.minislots.specs.declared.config.Config.{Config}
use Rattle.flow_book.specs.declared.standing.Standing.{Standing}
use Rattle.map_build.specs.declared.met.Met.{Met}
use Rattle.sched_calls.specs.declared.reply.Entry.{Entry}
use Rattle.sched_calls.specs.declared.reply.TheConstants.{MAX_WHOLE_HISTORY}
use Rattle.sched_history.specs.Facts.{waits_by}
use Rattle.sched_history.specs.History.{IsStep, IsLegal}
use Rattle.sched_history.specs.Reserves.{met_after, reserves_of}
use Rattle.frame_picture.specs.Frames.{TellsUnsolicited}
use Rattle.sched_report.specs.declared.life.LifeTally.{LifeTally}
use Rattle.sched_report.specs.declared.outlook.Outlook.{Outlook}
use Rattle.sched_report.specs.declared.tally.Tally.{Tally}
use Rattle.sched_report.specs.Counted.{IsCounted}
use Rattle.sched_report.specs.Extremes.{TellsProgress, IsWatched}
use Rattle.sched_report.specs.Lives.{lives_in}
use Rattle.sched_report.specs.Outlook.{IsOutlook}
use Rattle.sched_report.specs.Reported.{IsTally, MayCount}
use Rattle.sched_report.specs.ToldLives.{AreLives, MayFollow}
use Rattle.sched_report.specs.Waits.{AreWaits, MayCountWaits, MayCountBoth}

module _ (h : List Entry) (t : Tally) (o : Outlook) (left : ℕ) (e : Entry) (may : MayCount h t o left e) where
  -- the entries that were passed, and those that are told of
  abbrev front : List Entry
  front = take t.passed h

  abbrev rest : List Entry
  rest = drop t.passed h

  abbrev whole : front ++ rest ≡ h
  whole = take-append-drop t.passed h

  at_whole : (P : List Entry → Type 0) → P h → P (front ++ rest)
  at_whole P is = subst P (sym whole) is

  few : length (front ++ rest) < MAX_WHOLE_HISTORY
  few = omega (arith, may.short, ap (λ (es : List Entry). length es) whole)

  -- with the entry the same are passed, and it is told behind the others
  pub at_more : (P : List Entry → List Entry → Type 0) → P front (rest ++ e ∷ [])
      → P (take t.passed (h ++ e ∷ [])) (drop t.passed (h ++ e ∷ []))
  at_more P is =
      subst (λ (es : List Entry). P es (drop t.passed (h ++ e ∷ [])))
      (sym (take-append-le t.passed h (e ∷ []) may.tally.passed_few))
      (subst (P front) (sym (drop-append-le t.passed h (e ∷ []) may.tally.passed_few)) is)

  -- the totals count it
  pub is_counted : (flows : List Bool) (met : List Met) → flows ≡ t.flows.value → met ≡ o.met.items
      → IsCounted t.config front rest t.totals flows met e
  is_counted flows met same is = record {
    legal = at_whole (IsLegal t.config) may.tally.legal;
    step = at_whole (λ es. IsStep t.config es e.call e.reply) may.step;
    short = few;
    counted = may.tally.totals;
    told = at_whole (TellsUnsolicited flows) (subst (λ (fs : List Bool). TellsUnsolicited fs h) (sym same) may.tally.told);
    meets = is ∙ at_whole (λ es. o.met.items ≡ met_after t.config es e.reply) may.outlook.met;
  }

  -- the extremes watch it
  pub is_watched : (flows : List Bool) (met : List Met) (heard : List ℕ) → flows ≡ t.flows.value → met ≡ o.met.items
      → heard ≡ o.heard → IsWatched t.config front rest t.extremes flows met heard o.reserves left e
  is_watched flows met heard same is told = record {
    lawful = may.tally.lawful;
    legal = at_whole (IsLegal t.config) may.tally.legal;
    step = at_whole (λ es. IsStep t.config es e.call e.reply) may.step;
    short = few;
    watched = may.tally.extremes;
    told = at_whole (TellsUnsolicited flows) (subst (λ (fs : List Bool). TellsUnsolicited fs h) (sym same) may.tally.told);
    meets = is ∙ at_whole (λ es. o.met.items ≡ met_after t.config es e.reply) may.outlook.met;
    heard = at_whole (λ es. TellsProgress t.config es heard)
        (subst (TellsProgress t.config h) (sym told) may.outlook.heard);
    open_before = at_whole (λ es. o.reserves ≡ length (reserves_of t.config es)) may.outlook.reserves;
    open_after = at_whole (λ es. left ≡ length (reserves_of t.config (es ++ e ∷ []))) may.open_after;
  }

  -- the lives go on with it
  pub may_follow : (met : List Met) → met ≡ o.met.items → MayFollow t.config t.passed h t.lives.items t.next met e
  may_follow met is = record {
    lawful = may.tally.lawful;
    legal = may.tally.legal;
    step = may.step;
    short = may.short;
    next = may.tally.next;
    lives = may.tally.lives;
    meets = is ∙ may.outlook.met;
    passed_few = may.tally.passed_few;
  }

  may_wait : (s : Standing) (ts : List LifeTally) (counts sids : List ℕ) → ts ≡ t.lives.items
      → AreWaits s t.config t.passed h counts → sids ≡ waits_by s t.config h e.reply
      → MayCountWaits s t.config t.passed h ts counts sids e
  may_wait s ts counts sids same are waits = record {
    lawful = may.tally.lawful;
    legal = may.tally.legal;
    step = may.step;
    short = may.short;
    lives = subst (λ (ts : List LifeTally). AreLives t.config ts (lives_in t.passed h)) (sym same) may.tally.lives;
    counts = are;
    passed_few = may.tally.passed_few;
    waits = waits;
  }

  -- and it is counted how they waited
  pub may_wait_both : (ts : List LifeTally) → ts ≡ t.lives.items
      → MayCountBoth t.config t.passed h ts t.waited o.waiters e
  may_wait_both ts same = record {
    under = may_wait _ ts t.waited.under.items o.waiters.under.items same may.tally.waited.under may.outlook.waiters.under;
    held = may_wait _ ts t.waited.held.items o.waiters.held.items same may.tally.waited.held may.outlook.waiters.held;
  }

-- an entry that the auditor took may be counted
pub may_count : (k : Config) (h : List Entry) (t : Tally) (o : Outlook) (left : ℕ) (e : Entry) → t.config ≡ k → IsTally h t
    → IsStep k h e.call e.reply → length h < MAX_WHOLE_HISTORY → IsOutlook k h e.reply o
    → left ≡ length (reserves_of k (h ++ e ∷ [])) → MayCount h t o left e
may_count k h t o left e same is step short outlook after = record {
  tally = is;
  step = subst (λ (c : Config). IsStep c h e.call e.reply) (sym same) step;
  short = short;
  outlook = subst (λ (c : Config). IsOutlook c h e.reply o) (sym same) outlook;
  open_after = subst (λ (c : Config). left ≡ length (reserves_of c (h ++ e ∷ []))) (sym same) after;
}
