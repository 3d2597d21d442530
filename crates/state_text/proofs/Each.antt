-- Reading the items of an array one after the other.
use Rattle.std.proofs.Common.{◌≡◌, ℕ, suc, ◌+◌, ◌<◌, ◌≤◌, ◌∙◌, length, get_or, drop, map, List, [], ◌∷◌, ◌++◌}
use Rattle.std.proofs.Common.{Option, Some, None, refl, sym, ap, append_assoc, append-nil}
use Rattle.std.proofs.Math.Numerals.{add-one}
use Rattle.std.proofs.Math.Seq.{drop-cons}
use Rattle.std.proofs.lemmas.List.{drop_all}
use Rattle.serde_json.specs.Data.{Data, item}
use Rattle.serde_json.specs.View.{items_of}
use Rattle.json_fields.specs.Fields.{◌>>=◌}
use Rattle.state_text.specs.Found.{each_in}

-- those that were read, and then those that follow
abbrev pub each_then : {X : Type 0} → List X → Option (List X) → Option (List X)
each_then xs (Some rest) = Some (xs ++ rest)
each_then xs None = None

each_then-push : {X : Type 0} (xs : List X) (x : X) (rest : Option (List X))
    → each_then xs (rest >>= (λ next. Some (x ∷ next))) ≡ each_then (xs ++ x ∷ []) rest
each_then-push {X} xs x (Some rest) = ap (λ (l : List X). Some l) (sym (append_assoc xs (x ∷ []) rest))
each_then-push xs x None = refl

-- what the values from the index on stand for, after those before
abbrev pub each_left : {X V : Type 0} → (V → Data) → (Data → Option X) → List V → List X → ℕ → Option (List X)
each_left shown f values xs i = each_then xs (each_in f (items_of (map shown (drop i values))))

module _ {X V : Type 0} (shown : V → Data) (f : Data → Option X) (values : List V) (xs : List X) (i : ℕ) where
  items_here : (v : V) → i < length values → v ≡ get_or values i v
      → items_of (map shown (drop i values)) ≡ item (shown v) (items_of (map shown (drop (i + 1) values)))
  items_here v within is =
      let front : drop i values ≡ v ∷ drop (i + 1) values =
      rw (drop-cons values i v within, add-one) (ap (λ (x : V). x ∷ drop (suc i) values) (sym is)) in
      ap (λ (vs : List V). items_of (map shown vs)) front

  each_left-at : (v : V) → i < length values → v ≡ get_or values i v
      → each_left shown f values xs i
      ≡ each_then xs (each_in f (item (shown v) (items_of (map shown (drop (i + 1) values)))))
  each_left-at v within is = ap (λ ds. each_then xs (each_in f ds)) (items_here v within is)

  -- the value at the index stands for nothing
  pub each_left-none : (v : V) → i < length values → v ≡ get_or values i v → f (shown v) ≡ None
      → each_left shown f values xs i ≡ None
  unfolding each_in
  each_left-none v within is none = each_left-at v within is ∙ rw none refl

  -- the value at the index stands for the next
  pub each_left-some : (v : V) (x : X) → i < length values → v ≡ get_or values i v → f (shown v) ≡ Some x
      → each_left shown f values xs i ≡ each_left shown f values (xs ++ x ∷ []) (i + 1)
  unfolding each_in
  each_left-some v x within is some =
      each_left-at v within is
      ∙ rw some (each_then-push xs x (each_in f (items_of (map shown (drop (i + 1) values)))))

  -- no value is left
  pub each_left-end : length values ≤ i → each_left shown f values xs i ≡ Some xs
  unfolding each_in
  each_left-end past = ap (λ (vs : List V). each_then xs (each_in f (items_of (map shown vs))))
      (drop_all i values past) ∙ ap (λ (l : List X). Some l) (append-nil xs)
