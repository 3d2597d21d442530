-- Each step of an end keeps the rule that both ends are of one list.
use Rattle.std.proofs.Common.{◌≡◌, ◌≢◌, ℕ, List, [], ◌∷◌, ◌++◌, ◌+◌, length, set, fold, Option, Some, None, refl, sym}
use Rattle.std.proofs.Common.{ap, ◌∙◌, subst, ⊎_elim, inl, inr}
use mathlib.Core.Option.{some}
use lib.ListN.{get_elem?}
use Rattle.left_right.specs.Register.{Admits, TurnsAt, Forks, Merges}
use Rattle.atomic_table.proofs.Lists.{at_set, at_snoc}
use Rattle.logbook.specs.Pages.{Book, Named}
use Rattle.map_snapshot.specs.declared.printed.Printed.{Printed}
use Rattle.map_snapshot.specs.Maps.{Page, Coming, MayWait}
use Rattle.map_snapshot.specs.Rules.{word_of, IsNameOf, AllName}

-- the rule of the names of a page: each is that of its press
abbrev pub law : Page → List (Option Named) → Type 0
law s names = AllName (word_of s.press) names

-- an end comes to know the word, or nothing
all_set : (word : Named) (names : List (Option Named)) (seat : ℕ) (v : Option Named) → AllName word names
    → IsNameOf word v → AllName word (set names seat v)
all_set word names seat v all is i u e =
    ⊎_elim (λ (t : (i ≡ seat) × (v ≡ u)). subst (IsNameOf word) t.1 is)
    (λ (t : (i ≢ seat) × (get_elem? names i ≡ some u)). all i u t.1)
    (at_set names seat i v u e)

-- one end more, which knows the word, or nothing
all_snoc : (word : Named) (names : List (Option Named)) (v : Option Named) → AllName word names → IsNameOf word v
    → AllName word (names ++ v ∷ [])
all_snoc word names v all is i u e = ⊎_elim (all i u) (λ (t : v ≡ u). subst (IsNameOf word) t is)
    (at_snoc names v u i e)

-- a new end knows nothing
pub admits : Admits law None
admits s names all = all_snoc (word_of s.press) names None all (inl refl)

-- what a read finds is of the list that the reader knows
pub finds : (seat : ℕ) (v : Option Named) (s : Page)
    → TurnsAt law seat v s s (λ v x y w. IsNameOf (word_of y.press) v × (w ≡ v))
finds seat v s names all at = (v, all_set (word_of s.press) names seat v all (all seat v at), (all seat v at, refl))

-- the writer knows the word of what it shows
shows : (seat : ℕ) (v : Option Named) (s next : Page) → word_of next.press ≡ word_of s.press
    → TurnsAt law seat v s next (λ v x y w. w ≡ Some (word_of y.press))
shows seat v s next same names all at = (
  Some (word_of next.press),
  all_set (word_of next.press) names seat (Some (word_of next.press))
      (subst (λ word. AllName word names) (sym same) all) (inr refl),
  refl,
)

-- the writer tells what it knows
pub forks : (seat : ℕ) (v : Option Named) → Forks law seat v v v
forks seat v s names all at =
    let is = all seat v at in
    all_snoc (word_of s.press) (set names seat v) v (all_set (word_of s.press) names seat v all is) is

-- a reader takes in what it was told
pub merges : (seat : ℕ) (v : Option Named) (other : ℕ) (w : Option Named) → Merges law seat v other w w None
merges seat v other w s names all at apart there =
    let word = word_of s.press in
    let is : IsNameOf word w =
    ⊎_elim (λ (t : (other ≡ seat) × (w ≡ w)). absurd (apart t.0))
    (λ (t : (other ≢ seat) × (get_elem? names other ≡ some w)). all other w t.1)
    (at_set names seat other w w there) in
    all_set word (set names seat w) other None (all_set word names seat w all is) (inl refl)

-- what an addition makes of what both copies have: its map is the newest, and the word is that of its press
abbrev pub applied : Option Printed × Named → Coming → Option Printed × Named
applied s a = (Some a.printed, word_of a.press)

-- where what waits is of this press, its word stays
fold_keeps : (press : Book) (list : List (List ℕ)) (o : Option Printed) (ops : List Coming) → MayWait press list ops
    → (fold applied (o, word_of press) ops).1 ≡ word_of press
fold_keeps press list o ops may =
    let word_after : List Coming → Named = λ l. (fold applied (o, word_of press) l).1 in
    ⊎_elim (λ (none : ops ≡ []). ap word_after none)
    (λ (t : (a : Coming) × (ops ≡ a ∷ []) × (a.press ≡ press) × (a.printed.version ≡ length list + 1)). ap word_after
    t.1 ∙ ap word_of t.2)
    may

-- a publish shows a copy of the same list
pub publishes : (seat : ℕ) (v : Option Named) (s next : Page) (ops : List Coming) → MayWait s.press s.list ops
    → (next.printed, word_of next.press) ≡ fold applied (s.printed, word_of s.press) ops
    → TurnsAt law seat v s next (λ v x y w. w ≡ Some (word_of y.press))
publishes seat v s next ops may is = shows seat v s next
    (ap (λ t. t.1) is ∙ fold_keeps s.press s.list s.printed ops may)
