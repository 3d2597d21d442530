-- The numbers in line of flows of which one changes, is put in or is taken out.
use Rattle.std.proofs.Common.{◌≡◌, ◌≢◌, refl, sym, ap, ◌∙◌, subst, ℕ, zero, suc, ◌<◌, ◌≤◌, ◌^◌, Bool, true, false, cond}
use Rattle.std.proofs.Common.{List, [], ◌∷◌, map, filter, length, set, get_or, remove, slice_get, option_map, Option, Some, None, arith}
use Rattle.std.specs.List.{AllByRecursion}
use Rattle.std.proofs.lemmas.Bool.{cond_both}
use Rattle.std.proofs.lemmas.List.{map-set}
use Rattle.std.proofs.lemmas.Option.{slice_get_within, slice_get_read, slice_get-map}
use Rattle.minislots.specs.declared.config.Config.{Config}
use Rattle.flow_book.specs.declared.flow.Flow.{Flow}
use Rattle.flow_book.specs.Flows.{LiveFlow, granted}
use Rattle.flow_book.specs.Entry.{live, IsBook, IsSoundFlow}
use Rattle.flow_book.specs.Book.{Ascend}
use Rattle.flow_book.specs.Shown.{waits, number_of, number_in_line, since}
use Rattle.flow_book.specs.Line.{numbers_of, sorted_into, sorted}
use Rattle.flow_book.specs.Numbers.{number_where, listed, IsApart, DifferByOne, HasChanged}
use Rattle.flow_book.proofs.InLine.{AreSmall, small-of}
use Rattle.flow_book.proofs.Lines.{IsNew, put_in-either}
use Rattle.flow_book.proofs.Queues.{all-remove, set-here}
use Rattle.flow_book.proofs.StillWaiting.{all-at}

listed-cond : (b : Bool) (f : LiveFlow) (fs : List LiveFlow)
    → map number_in_line (cond b (f ∷ fs) fs) ≡ listed (cond b (Some (number_in_line f)) None) (map number_in_line fs)
listed-cond true f fs = refl
listed-cond false f fs = refl

-- the number of a flow stands before those of the others
pub numbers-more : (f : LiveFlow) (flows : List LiveFlow)
    → numbers_of (f ∷ flows) ≡ listed (number_where f) (numbers_of flows)
numbers-more f flows = listed-cond (waits f) f (filter waits flows)

-- two of them may be put in either first
either-first : (line : List ℕ) (a b : Option ℕ) (ns : List ℕ)
    → sorted_into line (listed a (listed b ns)) ≡ sorted_into line (listed b (listed a ns))
either-first line None b ns = refl
either-first line (Some m) None ns = refl
either-first line (Some m) (Some n) ns = ap (λ l. sorted_into l ns) (put_in-either n m line)

same-listed : (line : List ℕ) (a : Option ℕ) (ms ns : List ℕ)
    → ((l : List ℕ) → sorted_into l ms ≡ sorted_into l ns) → sorted_into line (listed a ms) ≡ sorted_into line (listed a ns)
same-listed line None ms ns same = same line
same-listed line (Some m) ms ns same = same _

-- those of all flows are in order that of one and those of the others
pub numbers-but : (line : List ℕ) (flows : List LiveFlow) (k : ℕ) (f : LiveFlow) → slice_get flows k ≡ Some f
    → sorted_into line (numbers_of flows) ≡ sorted_into line (listed (number_where f) (numbers_of (remove flows k)))
numbers-but line [] k f at = absurd (cc)
numbers-but line (g ∷ flows) zero f at =
    let found : Some g ≡ Some f = at in
    let is : g ≡ f = cc in
    ap (sorted_into line) (numbers-more g flows)
    ∙ ap (λ h. sorted_into line (listed (number_where h) (numbers_of flows))) is
numbers-but line (g ∷ flows) (suc k) f at =
    let others = numbers_of (remove flows k) in
    ap (sorted_into line) (numbers-more g flows)
    ∙ same-listed line (number_where g) (numbers_of flows) (listed (number_where f) others)
    (λ l. numbers-but l flows k f at)
    ∙ either-first line (number_where g) (number_where f) others
    ∙ same-listed line (number_where f) (listed (number_where g) others) (numbers_of (g ∷ remove flows k))
    (λ l. ap (sorted_into l) (sym (numbers-more g (remove flows k))))

module _ {X : Type 0} where
  -- the others are left where one is put in another's place
  pub remove-set : (xs : List X) (k : ℕ) (x : X) → remove (set xs k x) k ≡ remove xs k
  remove-set [] zero x = refl
  remove-set [] (suc k) x = refl
  remove-set (y ∷ xs) zero x = refl
  remove-set (y ∷ xs) (suc k) x = ap (λ ys. y ∷ ys) (remove-set xs k x)

one-sid : (a b s t : ℕ) → s < 2 ^ 16 → t < 2 ^ 16 → number_of a s ≡ number_of b t → s ≡ t
one-sid a b s t small little same = omega (arith, same)

-- flows of different SIDs have different numbers
numbers-differ : (f g : LiveFlow) → f.sid < 2 ^ 16 → g.sid < 2 ^ 16 → g.sid ≢ f.sid
    → number_in_line g ≢ number_in_line f
numbers-differ f g small little differ = λ same.
    differ (one-sid (since g) (since f) g.sid f.sid little small same)

all-new : (f : LiveFlow) (flows : List LiveFlow) → f.sid < 2 ^ 16 → AreSmall flows
    → AllByRecursion (λ g. g.sid ≢ f.sid) flows → IsNew (number_in_line f) (numbers_of flows)
all-new f [] small little differ = tt
all-new f (g ∷ flows) small little differ =
    cond_both (waits g) (g ∷ filter waits flows) (filter waits flows)
    (λ fs. IsNew (number_in_line f) (map number_in_line fs))
    (λ yes'. (numbers-differ f g small little.0 differ.0, all-new f flows small little.1 differ.1))
    (λ no'. all-new f flows small little.1 differ.1)

apart-cond : (b : Bool) (n : ℕ) (ns : List ℕ) → IsNew n ns → IsApart (cond b (Some n) None) ns
apart-cond true n ns new = new
apart-cond false n ns new = tt

-- the number of a flow is none of those of flows of other SIDs
pub apart-of : (f : LiveFlow) (flows : List LiveFlow) → f.sid < 2 ^ 16 → AreSmall flows
    → AllByRecursion (λ g. g.sid ≢ f.sid) flows → IsApart (number_where f) (numbers_of flows)
apart-of f flows small little differ =
    apart-cond (waits f) (number_in_line f) (numbers_of flows) (all-new f flows small little differ)

all-above : (n : ℕ) (flows : List LiveFlow) → AllByRecursion (λ (g : LiveFlow). n < g.sid) flows
    → AllByRecursion (λ (g : LiveFlow). g.sid ≢ n) flows
all-above n [] above = tt
all-above n (g ∷ flows) above = ((λ same. absurd (omega (arith, above.0, same))), all-above n flows above.1)

-- where SIDs ascend the others have other SIDs
other-sids : (flows : List LiveFlow) (k : ℕ) (f : LiveFlow) → Ascend flows → slice_get flows k ≡ Some f
    → AllByRecursion (λ (g : LiveFlow). g.sid ≢ f.sid) (remove flows k)
other-sids [] k f up at = absurd (cc)
other-sids (g ∷ flows) zero f up at =
    let found : Some g ≡ Some f = at in
    let is : g ≡ f = cc in
    subst (λ (h : LiveFlow). AllByRecursion (λ (g : LiveFlow). g.sid ≢ h.sid) flows) is (all-above g.sid flows up.0)
other-sids (g ∷ flows) (suc k) f up at =
    let above : g.sid < f.sid = all-at (λ (h : LiveFlow). g.sid < h.sid) flows k f up.0 at in
    ((λ same. absurd (omega (arith, above, same))), other-sids flows k f up.1 at)

module _ (flows : List LiveFlow) (up : Ascend flows) (small : AreSmall flows) (k : ℕ) (f : LiveFlow)
    (at : slice_get flows k ≡ Some f) where
  small-one : f.sid < 2 ^ 16
  small-one = all-at (λ (g : LiveFlow). g.sid < 2 ^ 16) flows k f small at

  small-others : AreSmall (remove flows k)
  small-others = all-remove (λ (g : LiveFlow). g.sid < 2 ^ 16) flows k small

  -- where a flow is taken out its number is
  pub differ-removed : DifferByOne (number_where f) None flows (remove flows k)
  differ-removed = record {
    others = numbers_of (remove flows k);
    was = numbers-but [] flows k f at;
    is = refl;
    left = apart-of f (remove flows k) small-one small-others (other-sids flows k f up at);
    fresh = tt;
  }

  -- where a flow changes its number takes the place of that before
  pub differ-changed : (g : LiveFlow) → g.sid ≡ f.sid
      → DifferByOne (number_where f) (number_where g) flows (set flows k g)
  differ-changed g same =
      let others = remove flows k in
      let sids = other-sids flows k f up at in
      let there = set-here flows k g (slice_get_within flows k f at) in
      record {
        others = numbers_of others;
        was = numbers-but [] flows k f at;
        is = numbers-but [] (set flows k g) k g there
            ∙ ap (λ fs. sorted (listed (number_where g) (numbers_of fs))) (remove-set flows k g);
        left = apart-of f others small-one small-others sids;
        fresh = apart-of g others (omega (arith, same, small-one)) small-others
            (subst (λ n. AllByRecursion (λ (h : LiveFlow). h.sid ≢ n) others) (sym same) sids);
      }

module _ (c : Config) (items : List Flow) (book : IsBook c items) (place : ℕ) (f : Flow) where
  -- a flow of a book was granted no more than it asked
  pub granted-within : place < length items → f ≡ get_or items place f → granted (live f) ≤ f.asked
  granted-within lt read =
      let at = slice_get_read items (length items) place f refl lt read in
      let sound = all-at (IsSoundFlow c) (map live items) place (live f) book.sound.each
      (slice_get-map live items place ∙ ap (option_map live) at) in
      sound.within

-- where a flow of a book changes its number takes the place of that before
pub differ-at : (c : Config) (old new : List Flow) (place : ℕ) (known : Bool) (before : Option ℕ) (g : Flow)
    → IsBook c old → HasChanged place known before old new → known ≡ true → slice_get new place ≡ Some g
    → DifferByOne before (number_where (live g)) (map live old) (map live new)
differ-at c old new place known before g book changed yes' at =
    let f = changed.flow in
    let e = changed.after in
    let there : slice_get (map live old) place ≡ Some (live f) =
    slice_get-map live old place ∙ ap (option_map live) changed.at in
    let shown : map live new ≡ set (map live old) place (live e) =
    ap (map live) changed.is ∙ map-set live old place e in
    let here : Some g ≡ Some e =
    sym at ∙ ap (λ fs. slice_get fs place) changed.is ∙ set-here old place e (slice_get_within old place f changed.at) in
    let is : g ≡ e = cc in
    rw (shown, changed.number yes', is)
    (differ-changed (map live old) book.sound.ascending (small-of c old book.sums) place (live f) there (live e) changed.sid)
