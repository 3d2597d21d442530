-- One flow of a list is changed.
use Rattle.std.proofs.Common.{◌≡◌, refl, sym, ap, ◌∙◌, ℕ, zero, suc, ◌<◌, ◌==◌, List, [], ◌∷◌, map, length, get_or}
use Rattle.std.proofs.Common.{set, Bool, true, false, if◌then◌else◌, arith}
use Rattle.std.specs.List.{AllByRecursion}
use Rattle.std.proofs.lemmas.Bool.Decides.{nat_tests}
use Rattle.std.proofs.lemmas.List.{map-set, length-map}
use Rattle.std.proofs.lemmas.List.Elements.{All-from_recursion}
use Rattle.minislots.specs.declared.config.Config.{Config}
use Rattle.sched_calls.proofs.Insertion.{all-set}
use Rattle.flow_book.specs.declared.flow.Flow.{Flow}
use Rattle.std.proofs.lemmas.List.Sums.{sum_by-append}
use Rattle.flow_book.specs.declared.flow.Grant.{Grant}
use Rattle.flow_book.specs.Flows.{LiveFlow}
use Rattle.flow_book.specs.Reserved.{is_under, with_grant}
use Rattle.flow_book.specs.Ceiling.{KeepsCeiling}
use Rattle.sched_calls.specs.FlowSpec.{reserved_of, reserved_burst_of}
use Rattle.flow_book.specs.Choice.{MayGrant}
use Rattle.flow_book.specs.Entry.{live, IsSoundFlow, IsSoundBook}
use Rattle.flow_book.specs.Book.{Ascend, Room, BookView, changed, with_asked, with_replaced}
use Rattle.flow_book.proofs.Charges.{reserved-more, reserved-same}
use Rattle.flow_book.proofs.Places.{StandsAt, all-found}

-- SIDs ascend where a flow takes the place of one with its SID
ascend-all : (a b : ℕ) (flows : List LiveFlow) → a ≡ b → AllByRecursion (λ g. b < g.sid) flows
    → AllByRecursion (λ g. a < g.sid) flows
ascend-all a b flows e all = rw e all

-- a flow in the place of another of the same SID leaves the order
pub ascend-set : (flows : List LiveFlow) (i : ℕ) (f d : LiveFlow) → i < length flows → f.sid ≡ (get_or flows i d).sid
    → Ascend flows → Ascend (set flows i f)
ascend-set [] i f d lt same up = absurd (omega arith)
ascend-set (g ∷ flows) zero f d lt same up = (ascend-all f.sid g.sid flows same up.0, up.1)
ascend-set (g ∷ flows) (suc i) f d lt same up =
    let above : g.sid < (get_or flows i d).sid = All-from_recursion (λ h. g.sid < h.sid) flows up.0 i d (omega arith) in
    (all-set (λ h. g.sid < h.sid) flows i f up.0 (omega arith), ascend-set flows i f d (omega arith) same up.1)

-- the flows stay sound where a sound flow takes the place of one with its SID
pub sound-set : (c : Config) (flows : List LiveFlow) (i : ℕ) (f d : LiveFlow) → i < length flows
    → f.sid ≡ (get_or flows i d).sid → IsSoundFlow c f → IsSoundBook c flows → IsSoundBook c (set flows i f)
sound-set c flows i f d lt same sound are = record {
  ascending = ascend-set flows i f d lt same are.ascending;
  each = all-set (IsSoundFlow c) flows i f are.each sound;
}

changed-one : (sid : ℕ) (change : LiveFlow → LiveFlow) (f : LiveFlow) → sid < f.sid
    → (if f.sid == sid then change f else f) ≡ f
changed-one sid change f above = grind (arith, nat_tests)

changed-this : (sid : ℕ) (change : LiveFlow → LiveFlow) (f : LiveFlow) → f.sid ≡ sid
    → (if f.sid == sid then change f else f) ≡ change f
changed-this sid change f here = grind (arith, nat_tests)

changed-before : (sid : ℕ) (change : LiveFlow → LiveFlow) (f : LiveFlow) → f.sid < sid
    → (if f.sid == sid then change f else f) ≡ f
changed-before sid change f below = grind (arith, nat_tests)

-- nothing changes among flows of higher SIDs
changed-above : (sid : ℕ) (change : LiveFlow → LiveFlow) (flows : List LiveFlow)
    → AllByRecursion (λ g. sid < g.sid) flows → changed sid change flows ≡ flows
changed-above sid change [] all = refl
changed-above sid change (f ∷ flows) all = rw (changed-one sid change f all.0, changed-above sid change flows all.1)

-- to put the changed flow in its place is to change the flow of that SID
pub changed-set : (sid : ℕ) (change : LiveFlow → LiveFlow) (flows : List LiveFlow) (i : ℕ) (d : LiveFlow)
    → Ascend flows → i < length flows → (get_or flows i d).sid ≡ sid
    → set flows i (change (get_or flows i d)) ≡ changed sid change flows
changed-set sid change [] i d up lt here = absurd (omega arith)
changed-set sid change (f ∷ flows) zero d up lt here =
    rw (changed-this sid change f here, changed-above sid change flows (ascend-all sid f.sid flows (sym here) up.0))
changed-set sid change (f ∷ flows) (suc i) d up lt here =
    let above : f.sid < (get_or flows i d).sid = All-from_recursion (λ h. f.sid < h.sid) flows up.0 i d (omega arith) in
    rw (changed-before sid change f (omega arith), changed-set sid change flows i d up.1 (omega arith) here)

-- a flow in its place is changed: the book then has these flows
pub placed-changed : (sid : ℕ) (change : LiveFlow → LiveFlow) (items : List Flow) (i : ℕ) (e f : Flow)
    → Ascend (map live items) → StandsAt sid items i f → live e ≡ change (live f)
    → map live (set items i e) ≡ changed sid change (map live items)
placed-changed sid change items i e f up is turned =
    let flows : List LiveFlow = map live items in
    let at : (get_or flows i (live f)).sid ≡ sid = ap (λ g. g.sid) (sym is.at) ∙ is.here in
    let new : live e ≡ change (get_or flows i (live f)) = turned ∙ ap change is.at in
    map-set live items i e ∙ ap (set flows i) new
    ∙ changed-set sid change flows i (live f) up (omega (arith, is.within, length-map items live)) at

-- and they are sound where the changed one is
pub placed-sound : (c : Config) (sid : ℕ) (items : List Flow) (i : ℕ) (e f : Flow) → IsSoundBook c (map live items)
    → StandsAt sid items i f → e.sid ≡ f.sid → IsSoundFlow c (live e)
    → IsSoundBook c (map live (set items i e))
placed-sound c sid items i e f are is same sound =
    let flows : List LiveFlow = map live items in
    let at : (live e).sid ≡ (get_or flows i (live f)).sid = same ∙ ap (λ g. g.sid) is.at in
    rw (map-set live items i e)
    (sound-set c flows i (live e) (live f) (omega (arith, is.within, length-map items live)) at sound are)

-- the flow in its place is sound
pub placed-is_sound : (c : Config) (sid : ℕ) (items : List Flow) (i : ℕ) (f : Flow) → IsSoundBook c (map live items)
    → StandsAt sid items i f → IsSoundFlow c (live f)
placed-is_sound c sid items i f are is =
    all-found (IsSoundFlow c) (λ g. g.sid == sid) (map live items) (live f) are.each is.found

-- to ask for more keeps a flow sound
pub asked-sound : (c : Config) (bytes heard : ℕ) (f : LiveFlow) → IsSoundFlow c f
    → IsSoundFlow c (with_asked bytes heard f)
asked-sound c bytes heard f is = record {
  within = omega (arith, is.within);
  kept = is.kept;
  peak_kept = is.peak_kept;
  reserved_kept = is.reserved_kept;
}

-- so does to ask for other bytes in the place of those outstanding
pub replaced-sound : (c : Config) (bytes heard : ℕ) (f : LiveFlow) → IsSoundFlow c f
    → IsSoundFlow c (with_replaced bytes heard f)
replaced-sound c bytes heard f is = record {
  within = omega arith;
  kept = is.kept;
  peak_kept = is.peak_kept;
  reserved_kept = is.reserved_kept;
}

-- a book of these flows and rooms
abbrev pub view-of : Config → List LiveFlow → List Room → BookView
view-of c flows rooms = record { config = c; flows = flows; rooms = rooms }

-- books of the same flows and rooms are the same
pub same-view : (c : Config) (fs gs : List LiveFlow) (rs ss : List Room) → fs ≡ gs → rs ≡ ss
    → view-of c fs rs ≡ view-of c gs ss
same-view c fs gs rs ss flows rooms = rw (flows, rooms)

-- a lawful grant keeps a flow sound
pub granted-sound : (c : Config) (start bytes room : ℕ) (f : LiveFlow) → IsSoundFlow c f
    → MayGrant c f start room bytes → IsSoundFlow c (with_grant c (record { start = start; bytes = bytes }) f)
granted-sound c start bytes room f is may =
    let g : Grant = record { start = start; bytes = bytes } in
    let all = sum_by-append (λ (g : Grant). g.bytes) f.grants (g ∷ []) in
    record {
      within = omega (arith, is.within, may.asked);
      kept = may.taken.ceiling.sustained;
      peak_kept = may.taken.ceiling.peak;
      reserved_kept = kept-by (is_under c start f) refl;
    }
  where
    kept-by : (b : Bool) → is_under c start f ≡ b → KeepsCeiling c (reserved_of f.spec) (reserved_burst_of f.spec)
        (with_grant c (record { start = start; bytes = bytes }) f).reserved
    kept-by true under =
        rw (reserved-more c f (record { start = start; bytes = bytes }) under)
        (may.taken.ceiling.reserved under)
    kept-by false over = rw (reserved-same c f (record { start = start; bytes = bytes }) over) is.reserved_kept
