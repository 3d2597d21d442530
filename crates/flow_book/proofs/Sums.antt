-- What flows keep beside their grants stays theirs.
use Rattle.std.proofs.Common.{◌≡◌, refl, sym, ap, ◌∙◌, subst, ℕ, zero, suc, ◌+◌, ◌<◌, ◌==◌, List, [], ◌∷◌, ◌++◌}
use Rattle.std.proofs.Common.{◌≤◌, Some, length, get_or, set, arith}
use Rattle.std.specs.List.{AllByRecursion, insert}
use Rattle.std.specs.Option.{IfSome}
use Rattle.std.proofs.lemmas.List.Elements.{All-from_recursion}
use Rattle.std.proofs.lemmas.List.Sums.{sum_by-append}
use Rattle.minislots.specs.declared.config.Config.{Config}
use Rattle.sched_calls.specs.declared.spec.FlowSpec.{FlowSpec}
use Rattle.flow_book.specs.declared.flow.Flow.{Flow}
use Rattle.flow_book.specs.declared.flow.Grant.{Grant}
use Rattle.flow_book.specs.Flows.{LiveFlow, HaveStartedBy, bytes_of, granted}
use Rattle.flow_book.specs.Reserved.{with_grant}
use Rattle.flow_book.specs.Book.{with_spec}
use Rattle.flow_book.specs.Choice.{last_start, last_slot, MayGrant, KeepsWith}
use Rattle.flow_book.specs.Entry.{live, asked_more, asked_instead, IsSoundFlow, KeepsSums, IsCopy, IsBook}
use Rattle.sched_calls.proofs.Insertion.{all-set}
use Rattle.flow_book.proofs.Changes.{placed-sound, placed-is_sound, asked-sound, replaced-sound, granted-sound}
use Rattle.flow_book.proofs.Places.{StandsAt, all-found}
use Rattle.flow_book.proofs.Started.{started-push}

-- one grant more is the last
pub last-more : (grants : List Grant) (g : Grant) → last_start (grants ++ g ∷ []) ≡ Some g.start
last-more [] g = refl
last-more (h ∷ []) g = refl
last-more (h ∷ k ∷ grants) g = last-more (k ∷ grants) g

-- the last of grants that have started has
pub last-started : (slot : ℕ) (grants : List Grant) → HaveStartedBy slot grants
    → IfSome (last_start grants) (λ m. m ≤ slot)
last-started slot [] all = tt
last-started slot (g ∷ []) all = all.0
last-started slot (g ∷ h ∷ grants) all = last-started slot (h ∷ grants) all.1

-- where all have started by one grant more none starts behind the last
pub last-behind : (grants : List Grant) (g : Grant) → HaveStartedBy g.start grants
    → HaveStartedBy (last_slot (grants ++ g ∷ [])) (grants ++ g ∷ [])
last-behind grants g all = rw (last-more grants g) (started-push g.start grants g all (omega arith))

-- one grant more
abbrev pub one_more : ℕ → ℕ → List Grant
one_more start n = record { start = start; bytes = n } ∷ []

-- its bytes are added
pub bytes-added : (grants : List Grant) (start n : ℕ) → bytes_of (grants ++ one_more start n) ≡ bytes_of grants + n
bytes-added grants start n = omega (arith, sum_by-append (λ (g : Grant). g.bytes) grants (one_more start n))

-- what holds of each and of one more holds where it is put in
pub all-insert : {X : Type 0} (P : X → Type 0) (xs : List X) (k : ℕ) (x : X) → AllByRecursion P xs → P x
    → AllByRecursion P (insert xs k x)
all-insert P [] zero x all here = (here, tt)
all-insert P [] (suc k) x all here = (here, tt)
all-insert P (y ∷ xs) zero x all here = (here, all)
all-insert P (y ∷ xs) (suc k) x all here = (all.0, all-insert P xs k x all.1 here)

-- the flow at the place of an SID keeps its sums
pub placed-sums : (c : Config) (sid : ℕ) (items : List Flow) (i : ℕ) (f : Flow) → IsBook c items
    → StandsAt sid items i f → KeepsSums c f
placed-sums c sid items i f are is = all-found (KeepsSums c) (λ g. g.sid == sid) items f are.sums is.fields

-- and so does a copy
pub copy-sums : (c : Config) (f g : Flow) → IsCopy f g → KeepsSums c f → KeepsSums c g
copy-sums c f g is keeps =
    let grants : g.grants.items ≡ f.grants.items = ap (λ (h : LiveFlow). h.grants) is.same in
    let spec : g.spec ≡ f.spec = ap (λ (h : LiveFlow). h.spec) is.same in
    let sid : g.sid ≡ f.sid = ap (λ (h : LiveFlow). h.sid) is.same in
    record {
      granted = is.granted ∙ keeps.granted ∙ ap bytes_of (sym grants);
      turn = rw (spec, grants, sid, is.turn) keeps.turn;
      last = rw grants keeps.last;
      charges = rw is.same keeps.charges;
      limits = rw (is.same, is.limits) keeps.limits;
      settled = rw (is.same, is.limits) keeps.settled;
    }

-- flows keep their sums where a copy of one takes its place
pub copied-set : (c : Config) (items : List Flow) (i : ℕ) (e d : Flow) → i < length items → IsCopy (get_or items i d) e
    → AllByRecursion (KeepsSums c) items → AllByRecursion (KeepsSums c) (set items i e)
copied-set c items i e d lt is all =
    all-set (KeepsSums c) items i e all
    (copy-sums c (get_or items i d) e is (All-from_recursion (KeepsSums c) items all i d lt))

-- a book stays one where a flow takes the place of that with its SID, sound and with its own sums
pub placed-book : (c : Config) (sid : ℕ) (items : List Flow) (i : ℕ) (e f : Flow) → IsBook c items
    → StandsAt sid items i f → e.sid ≡ f.sid → IsSoundFlow c (live e) → KeepsSums c e → IsBook c (set items i e)
placed-book c sid items i e f are is same sound keeps = record {
  sound = placed-sound c sid items i e f are.sound is same sound;
  sums = all-set (KeepsSums c) items i e are.sums keeps;
}

-- and so where that asked for more
pub asked-book : (c : Config) (sid bytes heard : ℕ) (items : List Flow) (i : ℕ) (f : Flow) → IsBook c items
    → StandsAt sid items i f → IsBook c (set items i (asked_more bytes heard f))
asked-book c sid bytes heard items i f are is =
    let sound = placed-is_sound c sid items i f are.sound is in
    let keeps = placed-sums c sid items i f are is in
    placed-book c sid items i (asked_more bytes heard f) f are is refl (asked-sound c bytes heard (live f) sound)
    (record {
      granted = keeps.granted;
      turn = keeps.turn;
      last = keeps.last;
      charges = record {
        sustained = keeps.charges.sustained;
        peak = keeps.charges.peak;
        reserved = keeps.charges.reserved;
      };
      limits = record {
        sustained = keeps.limits.sustained;
        peak = keeps.limits.peak;
        reserved = keeps.limits.reserved;
      };
      settled = record {
        sustained = keeps.settled.sustained;
        peak = keeps.settled.peak;
        reserved = keeps.settled.reserved;
      };
    })

-- and so where that asked for other bytes in the place of those outstanding
pub replaced-book : (c : Config) (sid bytes heard : ℕ) (items : List Flow) (i : ℕ) (f : Flow) → IsBook c items
    → StandsAt sid items i f → IsBook c (set items i (asked_instead bytes heard f))
replaced-book c sid bytes heard items i f are is =
    let sound = placed-is_sound c sid items i f are.sound is in
    let keeps = placed-sums c sid items i f are is in
    placed-book c sid items i (asked_instead bytes heard f) f are is refl (replaced-sound c bytes heard (live f) sound)
    (record {
      granted = keeps.granted;
      turn = keeps.turn;
      last = keeps.last;
      charges = record {
        sustained = keeps.charges.sustained;
        peak = keeps.charges.peak;
        reserved = keeps.charges.reserved;
      };
      limits = record {
        sustained = keeps.limits.sustained;
        peak = keeps.limits.peak;
        reserved = keeps.limits.reserved;
      };
      settled = record {
        sustained = keeps.settled.sustained;
        peak = keeps.settled.peak;
        reserved = keeps.settled.reserved;
      };
    })

-- and so where that has other parameters and keeps its sums
pub changed-book : (c : Config) (sid : ℕ) (spec : FlowSpec) (items : List Flow) (i : ℕ) (e f : Flow) → IsBook c items
    → StandsAt sid items i f → live e ≡ with_spec spec (live f) → KeepsSums c e → IsBook c (set items i e)
changed-book c sid spec items i e f are is changed keeps =
    let sound = placed-is_sound c sid items i f are.sound is in
    let within : granted (live e) ≤ e.asked =
    subst (λ (g : LiveFlow). granted g ≤ g.asked) (sym changed) sound.within in
    placed-book c sid items i e f are is (ap (λ (g : LiveFlow). g.sid) changed)
    (record {
      within = within;
      kept = keeps.limits.sustained.kept;
      peak_kept = keeps.limits.peak.kept;
      reserved_kept = keeps.limits.reserved.kept;
    }) keeps

-- and so where that is with a lawful grant more
pub granted-book : (c : Config) (sid start bytes room : ℕ) (items : List Flow) (i : ℕ) (e f : Flow) → IsBook c items
    → StandsAt sid items i f → live e ≡ with_grant c (record { start = start; bytes = bytes }) (live f)
    → MayGrant c (live f) start room bytes
    → (KeepsSums c f → KeepsWith c (live f) start bytes → KeepsSums c e) → IsBook c (set items i e)
granted-book c sid start bytes room items i e f are is more may sums =
    let sound = placed-is_sound c sid items i f are.sound is in
    placed-book c sid items i e f are is (ap (λ (g : LiveFlow). g.sid) more)
    (rw more (granted-sound c start bytes room (live f) sound may)) (sums (placed-sums c sid items i f are is) may.taken.ceiling)
