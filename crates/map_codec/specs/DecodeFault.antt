-- Which fault a list of bytes has: tests of the whole list in their order, and the first that holds.
use Rattle.std.specs.Prelude.{◌≡◌, ℕ, zero, suc, ◌+◌, ◌*◌, ◌^◌, ◌<◌, ◌↔◌, Bool, ◌==◌, ◌&&◌}
use Rattle.std.specs.Prelude.{not, nat_lt, if◌then◌else◌, List, [], ◌∷◌, length, take}
use Rattle.std.specs.Prelude.{drop, slice_index, Option, Some, None, Result, Ok, Err}
use Rattle.std.specs.Option.{option_map, option_or}
use Rattle.map_codec.specs.declared.element.Element.{Element}
use Rattle.map_codec.specs.declared.element.iuc.TheConstants.{EXPANSION}
use Rattle.map_codec.specs.declared.fault.DecodeFault.{DecodeFault}
use Rattle.map_codec.specs.declared.fault.DecodeFault.TheVariants.{Short, TooMany, WrongLength, Expansion}
use Rattle.map_codec.specs.declared.fault.DecodeFault.TheVariants.{Descending, NoNull, SecondNull, Memory}
use Rattle.map_codec.specs.declared.wire_map.WireMap.{WireMap}
use Rattle.map_codec.specs.declared.wire_map.TheConstants.{HEADER_BYTES, ELEMENT_BYTES, MAX_ELEMENTS}
use Rattle.map_codec.specs.WireMap.{IsPayload}
use Rattle.map_codec.specs.Element.{is_null, nulls, element_at, elements_in}

-- the least number below n at which a test holds
unfoldable pub least : (ℕ → Bool) → ℕ → Option ℕ
least test zero = None
least test (suc n) = option_or (least test n) (if test n then Some n else None)

-- the first of the faults that stand
abbrev pub first_of : List (Option DecodeFault) → Option DecodeFault
first_of [] = None
first_of (o ∷ os) = option_or o (first_of os)

-- a fault, where a test holds
abbrev pub when : Bool → DecodeFault → Option DecodeFault
when test fault = if test then Some fault else None

-- the element at a place is an expansion
abbrev pub expands_at : List Element → ℕ → Bool
expands_at es i = (element_at es i).iuc == EXPANSION

-- the offset of the element before a place, 0 where there is none
abbrev pub offset_before : List Element → ℕ → ℕ
offset_before es zero = 0
offset_before es (suc i) = (element_at es i).offset

-- no Null stands before a place, and its offset is below the one before it
abbrev pub descends_at : List Element → ℕ → Bool
descends_at es i = (nulls (take i es) == 0) && nat_lt (element_at es i).offset (offset_before es i)

-- a Null stands at a place, and another before it
abbrev pub repeats_null_at : List Element → ℕ → Bool
repeats_null_at es i = is_null (element_at es i) && nat_lt 0 (nulls (take i es))

-- the number of elements that the third byte gives
abbrev pub count_in : List ℕ → ℕ
count_in bytes = slice_index bytes 2

-- the faults of a payload's length, in order
abbrev pub length_faults : List ℕ → List (Option DecodeFault)
length_faults bytes =
    when (nat_lt (length bytes) HEADER_BYTES) Short ∷ when (nat_lt MAX_ELEMENTS (count_in bytes)) TooMany
    ∷ when (not (length bytes == HEADER_BYTES + ELEMENT_BYTES * count_in bytes)) WrongLength ∷ []

-- the least expansion
abbrev pub expansion_fault : List Element → Option DecodeFault
expansion_fault es = option_map Expansion (least (expands_at es) (length es))

-- the least element up to the first Null, or to the end, that begins before the one before it
abbrev pub descending_fault : List Element → Option DecodeFault
descending_fault es = option_map Descending (least (descends_at es) (length es))

-- no Null, or the least Null after another
abbrev pub null_faults : List Element → List (Option DecodeFault)
null_faults es =
    when (nulls es == 0) NoNull ∷ option_map SecondNull (least (repeats_null_at es) (length es)) ∷ []

-- the first fault of a list of elements
unfoldable pub elements_fault : List Element → Option DecodeFault
elements_fault es = first_of (expansion_fault es ∷ descending_fault es ∷ null_faults es)

-- the first fault of a list of bytes
unfoldable pub fault_of : List ℕ → Option DecodeFault
fault_of bytes =
    option_or (first_of (length_faults bytes)) (elements_fault (elements_in (drop HEADER_BYTES bytes)))

-- nothing, or the fault
abbrev pub checked : Option DecodeFault → Result (Unit {0}) DecodeFault
checked None = Ok tt
checked (Some fault) = Err fault

-- a reading gives a MAP, or has no memory for it
abbrev pub Reads : WireMap → Result WireMap DecodeFault → Type 0
Reads m (Ok n) = n ≡ m
Reads m (Err e) = e ≡ Memory

-- the fault of the bytes; lack of memory is answered only where they have none
abbrev pub IsFaultOf : List ℕ → DecodeFault → Type 0
IsFaultOf bytes Memory = fault_of bytes ≡ None
IsFaultOf bytes fault = fault_of bytes ≡ Some fault

-- bytes have no fault exactly where they are a payload
abbrev pub IsExact : Type 0
IsExact =
    (bytes : List ℕ) → ((i : ℕ) → slice_index bytes i < 2 ^ 8)
    → ((fault_of bytes ≡ None) ↔ IsPayload bytes)
