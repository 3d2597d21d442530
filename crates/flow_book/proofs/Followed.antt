-- The line of a book of which one flow changes, is put in or is taken out.
use Rattle.std.proofs.Common.{◌≡◌, refl, sym, ap, ◌∙◌, ℕ, zero, suc, ◌<◌, Bool, true, false, cond}
use Rattle.std.proofs.Common.{List, [], ◌∷◌, map, length, set, get_or, insert, remove, slice_get, option_map, Option, Some, None}
use Rattle.std.proofs.lemmas.Option.{slice_get_read, slice_get-map}
use Rattle.minislots.specs.declared.config.Config.{Config}
use Rattle.flow_book.specs.declared.flow.Flow.{Flow}
use Rattle.flow_book.specs.Flows.{LiveFlow}
use Rattle.flow_book.specs.Entry.{live, IsBook}
use Rattle.flow_book.specs.Shown.{waits, number_in_line}
use Rattle.flow_book.specs.Line.{numbers_of}
use Rattle.flow_book.specs.Numbers.{number_where, listed, DifferByOne, HasChanged}
use Rattle.flow_book.proofs.InLine.{small-of}
use Rattle.flow_book.proofs.NumbersOf.{numbers-more, differ-removed}
use Rattle.flow_book.proofs.Pendings.{one-at}
use Rattle.flow_book.proofs.Places.{StandsAt}

module _ (sid : ℕ) (items : List Flow) (place : ℕ) (f : Flow) (known : Bool) (before : Option ℕ)
    (stands : StandsAt sid items place f) (read : f ≡ get_or items place f)
    (told : known ≡ true → (g : Flow) → slice_get items place ≡ Some g → before ≡ number_where (live g)) where
  there : slice_get items place ≡ Some f
  there = slice_get_read items (length items) place f refl stands.within read

  -- a flow that is put in the place of another of its SID
  pub has-changed : (e : Flow) → e.sid ≡ f.sid → HasChanged place known before items (set items place e)
  has-changed e same = record {
    flow = f;
    after = e;
    at = there;
    sid = same;
    is = refl;
    number = λ yes'. told yes' f there;
  }

map-removed : (xs : List Flow) (k : ℕ) → map live (remove xs k) ≡ remove (map live xs) k
map-removed [] zero = refl
map-removed [] (suc k) = refl
map-removed (x ∷ xs) zero = refl
map-removed (x ∷ xs) (suc k) = ap (λ ys. live x ∷ ys) (map-removed xs k)

-- where a flow is taken out its number is
pub differ-out : (c : Config) (items : List Flow) (place : ℕ) (before : Option ℕ) → IsBook c items
    → place < length items → ((g : Flow) → slice_get items place ≡ Some g → before ≡ number_where (live g))
    → DifferByOne before None (map live items) (map live (remove items place))
differ-out c items place before book lt told =
    let f = one-at items place lt in
    rw (told f.0 f.1, map-removed items place)
    (differ-removed (map live items) book.sound.ascending (small-of c items book.sums) place (live f.0)
    (slice_get-map live items place ∙ ap (option_map live) f.1))

no-number : (b : Bool) (f : LiveFlow) → b ≡ false → cond b (Some (number_in_line f)) None ≡ None
no-number true f fails = absurd (cc)
no-number false f fails = refl

module _ (f : Flow) (fails : waits (live f) ≡ false) where
  none-more : (flows : List LiveFlow) → numbers_of (live f ∷ flows) ≡ numbers_of flows
  none-more flows =
      numbers-more (live f) flows ∙ ap (λ o. listed o (numbers_of flows)) (no-number (waits (live f)) (live f) fails)

  -- a flow that does not wait changes nothing where it is put in
  pub numbers-insert : (items : List Flow) (k : ℕ)
      → numbers_of (map live (insert items k f)) ≡ numbers_of (map live items)
  numbers-insert [] zero = none-more []
  numbers-insert [] (suc k) = none-more []
  numbers-insert (g ∷ items) zero = none-more (map live (g ∷ items))
  numbers-insert (g ∷ items) (suc k) =
      numbers-more (live g) (map live (insert items k f)) ∙ ap (listed (number_where (live g))) (numbers-insert items k)
      ∙ sym (numbers-more (live g) (map live items))
