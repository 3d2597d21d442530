-- Which fault keeps a MAP from having bytes: tests in their order, and the first that holds.
use Rattle.std.specs.Prelude.{ℕ, ◌^◌, Bool, ◌==◌, ◌&&◌, not, nat_lt, if◌then◌else◌, List, length}
use Rattle.std.specs.Prelude.{Option, Some, None, Result, Ok, Err}
use Rattle.std.specs.Option.{option_map, option_or}
use Rattle.map_codec.specs.declared.element.Element.{Element}
use Rattle.map_codec.specs.declared.element.iuc.TheConstants.{EXPANSION}
use Rattle.map_codec.specs.declared.map_fault.MapFault.{MapFault}
use Rattle.map_codec.specs.declared.map_fault.MapFault.TheVariants.{TooMany, OutOfRange, Descending, NoNull, SecondNull}
use Rattle.map_codec.specs.declared.wire_map.WireMap.{WireMap}
use Rattle.map_codec.specs.declared.wire_map.TheConstants.{MAX_ELEMENTS}
use Rattle.map_codec.specs.Element.{nulls, element_at}
use Rattle.map_codec.specs.DecodeFault.{least, descends_at, repeats_null_at}

-- whether the fields of an element fit their bits, and it is no expansion
abbrev pub is_in_range : Element → Bool
is_in_range e = nat_lt e.sid (2 ^ 14) && (nat_lt e.iuc EXPANSION && nat_lt e.offset (2 ^ 14))

-- the element at a place is not in range
abbrev pub is_out_at : List Element → ℕ → Bool
is_out_at es i = not (is_in_range (element_at es i))

-- the least element out of range
abbrev pub range_fault : List Element → Option MapFault
range_fault es = option_map OutOfRange (least (is_out_at es) (length es))

-- the least element up to the first Null, or to the end, that begins before the one before it
abbrev pub descent_fault : List Element → Option MapFault
descent_fault es = option_map Descending (least (descends_at es) (length es))

-- no Null, or the least Null after another
abbrev pub null_fault : List Element → Option MapFault
null_fault es =
    if nulls es == 0 then Some NoNull else option_map SecondNull (least (repeats_null_at es) (length es))

-- more elements than a payload may have
abbrev pub count_fault : List Element → Option MapFault
count_fault es = if nat_lt MAX_ELEMENTS (length es) then Some TooMany else None

-- the first fault of a MAP
unfoldable pub map_fault : WireMap → Option MapFault
map_fault m =
    option_or (count_fault m.elements) (option_or (range_fault m.elements)
    (option_or (descent_fault m.elements) (null_fault m.elements)))

-- nothing, or the fault
abbrev pub judged : Option MapFault → Result (Unit {0}) MapFault
judged None = Ok tt
judged (Some fault) = Err fault
