-- What the tests of a payload answer.
use Rattle.std.proofs.Common.{◌≡◌, ℕ, ◌+◌, ◌*◌, Bool, true, false, not, ltb, eqb, List, []}
use Rattle.std.proofs.Common.{◌∷◌, length, drop, Option, Some, None, Ok, Err, refl, subst}
use Rattle.std.specs.Option.{option_map, option_or}
use Rattle.std.specs.List.{AllByRecursion}
use Rattle.map_codec.specs.declared.fault.DecodeFault.{DecodeFault}
use Rattle.map_codec.specs.declared.fault.DecodeFault.TheVariants.{Short, TooMany, WrongLength, Expansion}
use Rattle.map_codec.specs.declared.fault.DecodeFault.TheVariants.{Descending, NoNull, SecondNull, Memory}
use Rattle.map_codec.specs.Element.{elements_in, nulls}
use Rattle.map_codec.specs.DecodeFault.{first_of, when, count_in, length_faults, least, expands_at}
use Rattle.map_codec.specs.DecodeFault.{descends_at, repeats_null_at, expansion_fault, descending_fault}
use Rattle.map_codec.specs.DecodeFault.{null_faults, elements_fault, fault_of, checked, IsFaultOf}

-- lack of memory is not found in bytes
abbrev IsFound : Option DecodeFault → Type 0
IsFound (Some Memory) = ⊥
IsFound _ = Unit {0}

found_either : (o p : Option DecodeFault) → IsFound o → IsFound p → IsFound (option_or o p)
found_either None p first second = second
found_either (Some e) p first second = first

found_when : (test : Bool) (e : DecodeFault) → IsFound (Some e) → IsFound (when test e)
found_when true e found = found
found_when false e found = tt

found_at : (o : Option ℕ) (fault : ℕ → DecodeFault) → ((i : ℕ) → IsFound (Some (fault i)))
    → IsFound (option_map fault o)
found_at None fault found = tt
found_at (Some i) fault found = found i

found_first : (os : List (Option DecodeFault)) → AllByRecursion IsFound os → IsFound (first_of os)
found_first [] all = tt
found_first (o ∷ os) all = found_either o (first_of os) all.0 (found_first os all.1)

fault_of_is_found : (bytes : List ℕ) → IsFound (fault_of bytes)
unfolding fault_of elements_fault
fault_of_is_found bytes =
    let short = found_when (ltb (length bytes) 16) Short tt in
    let many = found_when (ltb 240 (count_in bytes)) TooMany tt in
    let wrong = found_when (not (eqb (length bytes) (16 + 4 * count_in bytes))) WrongLength tt in
    let lengths : AllByRecursion IsFound (length_faults bytes) = (short, (many, (wrong, tt))) in
    let es = elements_in (drop 16 bytes) in
    let faults = expansion_fault es ∷ descending_fault es ∷ null_faults es in
    let expansions = found_at (least (expands_at es) (length es)) Expansion (λ i. tt) in
    let descents = found_at (least (descends_at es) (length es)) Descending (λ i. tt) in
    let missing = found_when (eqb (nulls es) 0) NoNull tt in
    let second = found_at (least (repeats_null_at es) (length es)) SecondNull (λ i. tt) in
    let elements : AllByRecursion IsFound faults = (expansions, (descents, (missing, (second, tt)))) in
    found_either (first_of (length_faults bytes)) (first_of faults)
    (found_first (length_faults bytes) lengths) (found_first faults elements)

-- where the tests pass, none was found
pub none_from_checked : (o : Option DecodeFault) (u : Unit {0}) → Ok u ≡ checked o → o ≡ None
none_from_checked None u e = refl
none_from_checked (Some fault) u e = absurd cc

-- where they do not, the fault that is answered was found
pub fault_from_checked : (o : Option DecodeFault) (fault : DecodeFault) → Err fault ≡ checked o
    → o ≡ Some fault
fault_from_checked None fault e = absurd cc
fault_from_checked (Some other) fault e = cc

-- and it is that of the bytes
IsFaultOf-found : (bytes : List ℕ) (fault : DecodeFault) → fault_of bytes ≡ Some fault → IsFaultOf bytes fault
IsFaultOf-found bytes Short e = e
IsFaultOf-found bytes TooMany e = e
IsFaultOf-found bytes WrongLength e = e
IsFaultOf-found bytes (Expansion i) e = e
IsFaultOf-found bytes (Descending i) e = e
IsFaultOf-found bytes NoNull e = e
IsFaultOf-found bytes (SecondNull i) e = e
IsFaultOf-found bytes Memory e = absurd (subst IsFound e (fault_of_is_found bytes))

-- so the fault that is answered is that of the bytes
pub IsFaultOf-checked : (bytes : List ℕ) (fault : DecodeFault) → Err fault ≡ checked (fault_of bytes)
    → IsFaultOf bytes fault
IsFaultOf-checked bytes fault e = IsFaultOf-found bytes fault (fault_from_checked (fault_of bytes) fault e)
