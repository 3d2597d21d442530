-- Reading the numbers of an array one after the other.
use Rattle.std.proofs.Common.{◌≡◌, ℕ, suc, ◌+◌, ◌<◌, ◌≤◌, ◌∙◌, length, get_or, drop, map, List, [], ◌∷◌, ◌++◌}
use Rattle.std.proofs.Common.{Option, Some, None, refl, sym, ap, append_assoc, append-nil}
use Rattle.std.proofs.Math.Numerals.{add-one}
use Rattle.std.proofs.Math.Seq.{drop-cons}
use Rattle.std.proofs.lemmas.List.{drop_all}
use Rattle.serde_json.specs.Data.{Data, item}
use Rattle.serde_json.specs.View.{items_of}
use Rattle.json_fields.specs.Fields.{◌>>=◌}
use Rattle.history_reading.specs.Replies.{number_below, numbers_of}

-- the numbers that were read, and then those that follow
abbrev pub numbers_then : List ℕ → Option (List ℕ) → Option (List ℕ)
numbers_then ns (Some rest) = Some (ns ++ rest)
numbers_then ns None = None

numbers_then-push : (ns : List ℕ) (n : ℕ) (rest : Option (List ℕ))
    → numbers_then ns (rest >>= (λ next. Some (n ∷ next))) ≡ numbers_then (ns ++ n ∷ []) rest
numbers_then-push ns n (Some rest) = ap (λ (l : List ℕ). Some l) (sym (append_assoc ns (n ∷ []) rest))
numbers_then-push ns n None = refl

-- what the values from the index on stand for, after the numbers before
abbrev pub numbers_left : {V : Type 0} → (V → Data) → ℕ → List V → List ℕ → ℕ → Option (List ℕ)
numbers_left shown limit values ns i = numbers_then ns (numbers_of limit (items_of (map shown (drop i values))))

module _ {V : Type 0} (shown : V → Data) (limit : ℕ) (values : List V) (ns : List ℕ) (i : ℕ) where
  items_here : (v : V) → i < length values → v ≡ get_or values i v
      → items_of (map shown (drop i values)) ≡ item (shown v) (items_of (map shown (drop (i + 1) values)))
  items_here v within is =
      let front : drop i values ≡ v ∷ drop (i + 1) values =
      rw (drop-cons values i v within, add-one) (ap (λ (x : V). x ∷ drop (suc i) values) (sym is)) in
      ap (λ (vs : List V). items_of (map shown vs)) front

  numbers_left-at : (v : V) → i < length values → v ≡ get_or values i v
      → numbers_left shown limit values ns i
      ≡ numbers_then ns (numbers_of limit (item (shown v) (items_of (map shown (drop (i + 1) values)))))
  numbers_left-at v within is = ap (λ ds. numbers_then ns (numbers_of limit ds)) (items_here v within is)

  -- the value at the index is no such number
  pub numbers_left-none : (v : V) → i < length values → v ≡ get_or values i v → number_below limit (shown v) ≡ None
      → numbers_left shown limit values ns i ≡ None
  unfolding numbers_of
  numbers_left-none v within is none = numbers_left-at v within is ∙ rw none refl

  -- the value at the index is the next number
  pub numbers_left-number : (v : V) (n : ℕ) → i < length values → v ≡ get_or values i v
      → number_below limit (shown v) ≡ Some n
      → numbers_left shown limit values ns i ≡ numbers_left shown limit values (ns ++ n ∷ []) (i + 1)
  unfolding numbers_of
  numbers_left-number v n within is some =
      numbers_left-at v within is
      ∙ rw some (numbers_then-push ns n (numbers_of limit (items_of (map shown (drop (i + 1) values)))))

  -- no value is left
  pub numbers_left-end : length values ≤ i → numbers_left shown limit values ns i ≡ Some ns
  unfolding numbers_of
  numbers_left-end past = ap (λ (vs : List V). numbers_then ns (numbers_of limit (items_of (map shown vs))))
      (drop_all i values past) ∙ ap (λ (l : List ℕ). Some l) (append-nil ns)
