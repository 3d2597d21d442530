-- What is said of an information element, and of a list of them.
use Rattle.std.specs.Prelude.{◌≡◌, ℕ, suc, ◌+◌, ◌*◌, ◌/◌, ◌%◌, ◌^◌, ◌<◌, ◌≤◌, Bool, ◌==◌, List}
use Rattle.std.specs.Prelude.{[], ◌∷◌, length, take, slice_index, slice_index_or, count_by}
use Rattle.std.specs.Int.{w32, to_be_bytes, from_be_bytes}
use Rattle.map_codec.specs.declared.element.Element.{Element}
use Rattle.map_codec.specs.declared.element.iuc.TheConstants.{NULL, EXPANSION}

-- an element's 32 bits: 14 of SID, 4 of IUC, 14 of offset
abbrev pub word_of : Element → ℕ
word_of e = e.sid * 2 ^ 18 + e.iuc * 2 ^ 14 + e.offset

-- its four bytes
abbrev pub bytes_of : Element → List ℕ
bytes_of e = to_be_bytes w32 (word_of e)

-- the number in the four bytes from a place on
abbrev pub number_at : List ℕ → ℕ → ℕ
number_at bytes i =
    from_be_bytes w32
    (slice_index bytes i ∷ slice_index bytes (i + 1) ∷ slice_index bytes (i + 2) ∷ slice_index bytes (i + 3) ∷ [])

-- the element that 32 bits say
abbrev pub element_of : ℕ → Element
element_of word = record { sid = word / 2 ^ 18; iuc = word / 2 ^ 14 % 2 ^ 4; offset = word % 2 ^ 14 }

-- the elements that bytes hold, four bytes each; what is left over at the end is none
unfoldable pub elements_in : List ℕ → List Element
elements_in (a ∷ b ∷ c ∷ d ∷ rest) = element_of (from_be_bytes w32 (a ∷ b ∷ c ∷ d ∷ [])) ∷ elements_in rest
elements_in (a ∷ b ∷ c ∷ []) = []
elements_in (a ∷ b ∷ []) = []
elements_in (a ∷ []) = []
elements_in [] = []

-- an element whose fields fit their bits and that is no expansion
pub record IsInRange (e : Element) : Type 0 where
  pub sid : e.sid < 2 ^ 14
  pub iuc : e.iuc < EXPANSION
  pub offset : e.offset < 2 ^ 14

-- whether an element is a Null
abbrev pub is_null : Element → Bool
is_null e = e.iuc == NULL

-- how many Nulls there are
abbrev pub nulls : List Element → ℕ
nulls es = count_by is_null es

-- what a place past the end of a list is read as; no definition depends on it
abbrev pub no_element : Element
no_element = record { sid = 0; iuc = 0; offset = 0 }

-- the element at a place
abbrev pub element_at : List Element → ℕ → Element
element_at es i = slice_index_or es i no_element

-- the offsets do not descend up to and including the first Null: each element that only other
-- elements than Nulls stand before begins no sooner than the one before it
abbrev pub Ascends : List Element → Type 0
Ascends es =
    (i : ℕ) → suc i < length es → nulls (take (suc i) es) ≡ 0
    → (element_at es i).offset ≤ (element_at es (suc i)).offset
