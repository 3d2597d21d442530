-- What the elements of a MAP allocate.
use Rattle.std.specs.Prelude.{ℕ, ◌+◌, ◌-◌, List, length, map, take, drop, position, unwrap_or}
use Rattle.std.specs.List.{range_with_len}
use Rattle.map_codec.specs.declared.element.Element.{Element}
use Rattle.map_codec.specs.Element.{is_null, element_at}
use Rattle.map_drawing.specs.declared.allocation.Allocation.{Allocation}

-- how many elements stand before the Null, which ends the allocations
abbrev pub front_length : List Element → ℕ
front_length es = unwrap_or (position is_null es) (length es)

-- the elements before the Null
abbrev pub front_of : List Element → List Element
front_of es = take (front_length es) es

-- the elements behind the Null: pending grants and acknowledgements, which allocate nothing
abbrev pub behind_of : List Element → List Element
behind_of es = drop (front_length es + 1) es

-- the offset of the Null: how many minislots the frame has
abbrev pub frame_slots : List Element → ℕ
frame_slots es = (element_at es (front_length es)).offset

-- the allocation of the element at a place: it ends where the next element begins
abbrev pub allocation_at : List Element → ℕ → Allocation
allocation_at es i =
    let e = element_at es i in
    record { sid = e.sid; iuc = e.iuc; offset = e.offset; length = (element_at es (i + 1)).offset - e.offset }

-- the allocations of a MAP, in their order
abbrev pub allocations_of : List Element → List Allocation
allocations_of es = map (allocation_at es) (range_with_len 0 (front_length es))
