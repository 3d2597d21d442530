-- Lists of published maps, and the newest of a list.
use Rattle.std.specs.Prelude.{◌≡◌, ◌⊎◌, ℕ, Bool, ◌+◌, ◌≤◌, List, [], ◌∷◌, ◌++◌, length, map, take, Option, Some, None}
use Rattle.logbook.specs.Pages.{Book}
use Rattle.map_snapshot.specs.declared.list.Entry.{Entry}
use Rattle.map_snapshot.specs.declared.list.Entry.TheVariants.{Published, End}
use Rattle.map_snapshot.specs.declared.printed.Printed.{Printed}
use Rattle.map_snapshot.specs.declared.printed.TheConstants.{MAX_BYTES}

-- the map: the first `len` of the bytes
abbrev pub map_in : Printed → List ℕ
map_in p = take p.len p.bytes

-- what stands last in a list of maps, with the list's length as its version. Its length is within its bytes
pub record IsLast (p : Printed) (list : List (List ℕ)) : Type 0 where
  pub before : List (List ℕ)
  pub list_is : list ≡ before ++ map_in p ∷ []
  pub version : p.version ≡ length list
  pub fits : p.len ≤ MAX_BYTES

-- the newest of a list of maps: none where the list is empty, else what stands last
abbrev pub IsNewest : Option Printed → List (List ℕ) → Type 0
IsNewest None list = list ≡ []
IsNewest (Some p) list = IsLast p list

-- the maps of a list, in their order
abbrev pub maps_in : List Entry → List (List ℕ)
maps_in [] = []
maps_in (Published m ∷ log) = m ∷ maps_in log
maps_in (End ∷ log) = maps_in log

-- the list has ended: its maps, and then its end
abbrev pub IsWhole : List Entry → Type 0
IsWhole log = log ≡ map Published (maps_in log) ++ End ∷ []

-- what a reader, or one who was told, knows: of which press, and the maps that it has published
pub record Known : Type 0 where
  pub press : Book
  pub list : List (List ℕ)

-- a press: which one it is, the maps that it has published, and what was appended and not yet published
pub record Printing : Type 0 where
  pub press : Book
  pub list : List (List ℕ)
  pub waiting : List Printed

-- one of the two copies: of which press it is, the map that it shows, the list as it was seen, and whether the map was
-- added to it
pub record Page : Type 0 where
  pub press : Book
  pub printed : Option Printed
  pub list : List (List ℕ)
  pub listed : Bool

-- a map that was appended, and to which press
pub record Coming : Type 0 where
  pub press : Book
  pub printed : Printed

-- the map that was appended
abbrev pub printed_of : Coming → Printed
printed_of a = a.printed

-- nothing was appended, or one map, which comes next in the list of this press
abbrev pub MayWait : Book → List (List ℕ) → List Coming → Type 0
MayWait press list waiting = (waiting ≡ []) ⊎
    ((a : Coming) × (waiting ≡ a ∷ []) × (a.press ≡ press) × (a.printed.version ≡ length list + 1))

-- what is known where nothing was published yet
abbrev pub unread : Book → Known
unread b = record { press = b; list = [] }
