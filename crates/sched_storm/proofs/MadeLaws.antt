-- Calls that were made one after the other, and the lists that they lead to.
use Rattle.std.proofs.Common.{◌≡◌, ◌≤◌, ◌+◌, ℕ, Bool, true, false, not, cond, ◌==◌, length, List, [], ◌∷◌, ◌++◌, filter}
use Rattle.std.proofs.Common.{Option, Some, None, refl, sym, ap, ◌∙◌, append_assoc, append-nil, eq-eqb, arith}
use Rattle.std.proofs.Common.{length-append}
use Rattle.std.specs.Prelude.{IfSome}
use Rattle.std.specs.Option.{option_to_list}
use Rattle.std.proofs.lemmas.List.{map-append}
use Rattle.std.proofs.lemmas.List.Elements.{filter-append}
use mathlib.Core.List.{IsPrefix}
use Rattle.minislots.specs.declared.config.Config.{Config}
use Rattle.sched_calls.specs.declared.call.Call.{Call}
use Rattle.sched_calls.specs.declared.reply.Entry.{Entry}
use Rattle.sched_desk.specs.Closed.{entries_of}
use Rattle.sched_storm.specs.Made.{MadeCall, is_recorded, list_left, calls_made, calls_recorded, calls_in}
use Rattle.sched_storm.specs.Made.{left_out_count, GrowsByOthers, IsMadeAfter, Leads}

-- a front of a front
pub IsPrefix-trans : {X : Type 0} (xs ys zs : List X) → IsPrefix xs ys → IsPrefix ys zs → IsPrefix xs zs
IsPrefix-trans xs ys zs p q = (p.0 ++ q.0, sym (append_assoc xs p.0 q.0) ∙ ap (λ l. l ++ q.0) p.1 ∙ q.1)

module _ (made more : List MadeCall) where
  -- the calls of a list and of more behind it
  pub calls_made-append : calls_made (made ++ more) ≡ calls_made made ++ calls_made more
  calls_made-append = map-append (λ (m : MadeCall). m.call) made more

  -- and so with those that were recorded
  pub calls_recorded-append : calls_recorded (made ++ more) ≡ calls_recorded made ++ calls_recorded more
  calls_recorded-append =
      ap calls_made (filter-append is_recorded made more)
      ∙ map-append (λ (m : MadeCall). m.call) (filter is_recorded made) (filter is_recorded more)

  -- and with how many were not
  pub left_out_count-append : left_out_count (made ++ more) ≡ left_out_count made + left_out_count more
  left_out_count-append =
      let others = filter (λ (m : MadeCall). not (is_recorded m)) in
      ap length (filter-append (λ (m : MadeCall). not (is_recorded m)) made more)
      ∙ length-append (others made) (others more)

-- one call is one where it was not recorded
pub left_out_count-one : (m : MadeCall) → cond (is_recorded m) 0 1 ≡ left_out_count (m ∷ [])
left_out_count-one m = by (is_recorded m)
  where
    by : (b : Bool) → cond b 0 1 ≡ length (cond (not b) (m ∷ []) [])
    by true = refl
    by false = refl

-- no more are left out than were made
pub left_out_count-le : (made : List MadeCall) → left_out_count made ≤ length made
left_out_count-le [] = omega arith
left_out_count-le (m ∷ ms) = by (is_recorded m) (left_out_count-le ms)
  where
    others : List MadeCall
    others = filter (λ (x : MadeCall). not (is_recorded x)) ms

    by : (b : Bool) → left_out_count ms ≤ length ms → length (cond (not b) (m ∷ others) others) ≤ length (m ∷ ms)
    by true few = omega (arith, few)
    by false few = omega (arith, few)

-- the seat's entries of a list and then more
pub entries_of-append : (number : ℕ) (h more : List Entry)
    → entries_of number (h ++ more) ≡ entries_of number h ++ entries_of number more
entries_of-append number h more = filter-append (λ (e : Entry). e.stamp.seat == number) h more

module _ (number : ℕ) where
  -- nothing was added
  pub GrowsByOthers-same : (h : List Entry) → GrowsByOthers number h h
  GrowsByOthers-same h = record { begins = ([], append-nil h); same_own = refl }

  -- others added, and then again
  pub GrowsByOthers-trans : (from mid to : List Entry) → GrowsByOthers number from mid → GrowsByOthers number mid to
      → GrowsByOthers number from to
  GrowsByOthers-trans from mid to first then = record {
    begins = IsPrefix-trans from mid to first.begins then.begins;
    same_own = then.same_own ∙ first.same_own;
  }

  -- the calls of what an entry of this seat adds
  added_calls : (call : Call) (entered : List Entry) (added : Option Entry)
      → IfSome added (λ e. (e.stamp.seat ≡ number) × (e.call ≡ call))
      → calls_in (entries_of number (option_to_list added))
      ≡ calls_recorded (record { call = call; entered = entered; added = added } ∷ [])
  added_calls call entered None adds = refl
  added_calls call entered (Some e) adds =
      ap (λ b. calls_in (cond b (e ∷ []) [])) (eq-eqb e.stamp.seat number adds.0) ∙ ap (λ x. x ∷ []) adds.1

  module _ (c : Config) where
    -- after a call the seat's entries have it too, if it was recorded
    list_left-entries : (from : List Entry) (m : MadeCall) → IsMadeAfter c number from m
        → calls_in (entries_of number (list_left m)) ≡ calls_in (entries_of number from) ++ calls_recorded (m ∷ [])
    list_left-entries from m is =
        let added = option_to_list m.added in
        ap calls_in (entries_of-append number m.entered added)
        ∙ map-append (λ (e : Entry). e.call) (entries_of number m.entered) (entries_of number added)
        ∙ ap (λ l. calls_in l ++ calls_in (entries_of number added)) is.enters.same_own
        ∙ ap (λ l. calls_in (entries_of number from) ++ l) (added_calls m.call m.entered m.added is.adds)

    -- the seat's entries in the last list are those in the first, and the calls that were recorded
    pub Leads-entries : (from : List Entry) (made : List MadeCall) (h : List Entry) → Leads c number from made h
        → calls_in (entries_of number h) ≡ calls_in (entries_of number from) ++ calls_recorded made
    Leads-entries from [] h leads = ap calls_in leads.same_own ∙ sym (append-nil (calls_in (entries_of number from)))
    Leads-entries from (m ∷ ms) h leads =
        Leads-entries (list_left m) ms h leads.1
        ∙ ap (λ l. l ++ calls_recorded ms) (list_left-entries from m leads.0)
        ∙ append_assoc (calls_in (entries_of number from)) (calls_recorded (m ∷ [])) (calls_recorded ms)
        ∙ ap (λ l. calls_in (entries_of number from) ++ l) (sym (calls_recorded-append (m ∷ []) ms))

    -- what leads to a list leads to what others make of it
    pub Leads-longer : (from : List Entry) (made : List MadeCall) (h longer : List Entry)
        → GrowsByOthers number h longer → Leads c number from made h → Leads c number from made longer
    Leads-longer from [] h longer grows leads = GrowsByOthers-trans from h longer leads grows
    Leads-longer from (m ∷ ms) h longer grows leads =
        (leads.0, Leads-longer (list_left m) ms h longer grows leads.1)

    -- what leads from what others made of a list leads from that list
    Leads-from : (start from : List Entry) (made : List MadeCall) (h : List Entry) → GrowsByOthers number start from
        → Leads c number from made h → Leads c number start made h
    Leads-from start from [] h grows leads = GrowsByOthers-trans start from h grows leads
    Leads-from start from (m ∷ ms) h grows leads = (
      record {
        enters = GrowsByOthers-trans start from m.entered grows leads.0.enters;
        adds = leads.0.adds;
        leaves_out = leads.0.leaves_out;
      },
      leads.1,
    )

    -- some calls, and then more
    pub Leads-append : (from : List Entry) (made more : List MadeCall) (mid h : List Entry)
        → Leads c number from made mid → Leads c number mid more h → Leads c number from (made ++ more) h
    Leads-append from [] more mid h first then = Leads-from from mid more h first then
    Leads-append from (m ∷ ms) more mid h first then =
        (first.0, Leads-append (list_left m) ms more mid h first.1 then)
