-- One flow is added to a list.
use Rattle.std.proofs.Common.{◌≡◌, refl, sym, ap, ◌∙◌, ℕ, Bool, false, ◌==◌, inl, inr, arith}
use Rattle.std.proofs.Common.{List, ◌∷◌, map, find, take, drop, Option, Some, None, unwrap_or, option_map}
use Rattle.std.specs.Option.{option_or}
use Rattle.std.proofs.lemmas.Bool.{cases_eq}
use Rattle.std.proofs.lemmas.List.{take-append-drop}
use Rattle.std.proofs.lemmas.List.Folds.{find-append}
use Rattle.std.specs.List.{insert}
use Rattle.std.proofs.lemmas.Bool.Decides.{nat_tests}
use Rattle.minislots.specs.declared.config.Config.{Config}
use Rattle.flow_book.specs.declared.flow.Flow.{Flow}
use Rattle.flow_book.specs.Flows.{LiveFlow, flow_of}
use Rattle.flow_book.specs.Entry.{live, room_in, IsSoundFlow, IsSoundBook}
use Rattle.flow_book.specs.Book.{Room, KeepsRoom, room_of, with_flow}
use Rattle.sched_calls.proofs.Insertion.{all-put_in, ascends-put_in}
use Rattle.flow_book.proofs.Places.{find-map, flow_of-live}

-- with a sound flow of a new SID the flows are sound
pub sound-with_flow : (c : Config) (f : LiveFlow) (flows : List LiveFlow) → flow_of f.sid flows ≡ None
    → IsSoundFlow c f → IsSoundBook c flows → IsSoundBook c (with_flow f flows)
sound-with_flow c f flows none sound are = record {
  ascending = ascends-put_in (λ g. g.sid) f flows none are.ascending;
  each = all-put_in (λ g. g.sid) (IsSoundFlow c) f flows sound are.each;
}

find-head : {X : Type 0} (p : X → Bool) (x : X) (xs : List X) → p x ≡ false → find p (x ∷ xs) ≡ find p xs
find-head p x xs fails = rw fails

-- what one more member doesn't pass finds the same
pub find-insert : {X : Type 0} (p : X → Bool) (xs : List X) (k : ℕ) (x : X) → p x ≡ false
    → find p (insert xs k x) ≡ find p xs
find-insert p xs k x fails =
    find-append p (take k xs) (x ∷ drop k xs)
    ∙ ap (option_or (find p (take k xs))) (find-head p x (drop k xs) fails)
    ∙ sym (find-append p (take k xs) (drop k xs))
    ∙ ap (find p) (take-append-drop k xs)

none-option : (o : Option Flow) → option_map live o ≡ None → o ≡ None
none-option None none = refl
none-option (Some f) none = absurd (cc)

-- the room that is found
abbrev pub room-found : Option Room → ℕ
room-found o = unwrap_or (option_map (λ (r : Room). r.grants) o) 0

-- no flow has less room where one of a new SID is put in
pub room-insert : (e : Flow) (items : List Flow) (k : ℕ) → flow_of e.sid (map live items) ≡ None
    → KeepsRoom (map room_in items) (map room_in (insert items k e))
room-insert e items k none sid = elim (cases_eq e.sid sid) [
  | inl same ↦ (
      let absent : find (λ f. f.sid == e.sid) items ≡ None = none-option _ (sym (flow_of-live e.sid items) ∙ none) in
      let empty : room_of sid (map room_in items) ≡ 0 =
      rw (← same, find-map room_in (λ r. r.sid == e.sid) items, absent) in
      omega arith)
  | inr differ ↦ (
      let fails : (e.sid == sid) ≡ false = grind (arith, nat_tests) in
      let keeps : room_of sid (map room_in (insert items k e)) ≡ room_of sid (map room_in items) =
      ap room-found (find-map room_in (λ r. r.sid == sid) (insert items k e) ∙ ap (option_map room_in)
      (find-insert (λ f. f.sid == sid) items k e fails) ∙ sym (find-map room_in (λ r. r.sid == sid) items)) in
      omega arith)
]
