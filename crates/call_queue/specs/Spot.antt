-- The rule of a tray's table: in which of five states the tray is, and what its word, its slot and its tokens' views
-- have then.
use Rattle.std.specs.Prelude.{◌≡◌, ◌⊎◌, ℕ, ◌<◌, List, [], ◌∷◌, length, Option, Some, None, slice_index}
use mathlib.Core.Option as place
use mathlib.Core.Option.{some, none}
use lib.ListN.{get_elem?}
use Rattle.atomic_table.specs.Table.{State}
use Rattle.call_queue.specs.declared.board.Doing.{Doing}
use Rattle.call_queue.specs.declared.board.Doing.TheVariants.{Nothing, Claims, Waits, Serves, Tells}
use Rattle.call_queue.specs.declared.board.TheConstants.{VACANT, CLAIMED, WAITING, TAKEN, ANSWERED, CALLED}
use Rattle.call_queue.specs.declared.board.View.{View}
use Rattle.call_queue.specs.declared.slip.Slip.{Slip}
use Rattle.call_queue.specs.declared.slip.Slip.TheVariants.{Left, Back}

-- the state of a tray: nothing lies there; a token has it to itself; what a token left lies there; another token has
-- taken that up; the answer to it lies there. Tokens are named by their numbers
pub data Spot (L : Type 0) : Type 0 where
  vacant : Spot L
  claimed : ℕ → Spot L
  waiting : ℕ → L → Spot L
  taken : ℕ → L → ℕ → Spot L
  answered : ℕ → L → Spot L

-- the word of a tray in this state
abbrev pub IsWord : {L : Type 0} → Spot L → ℕ → Type 0
IsWord vacant n = n ≡ VACANT
IsWord (claimed k) n = n ≡ CLAIMED
IsWord (waiting k l) n = (n ≡ WAITING) ⊎ (n ≡ CALLED)
IsWord (taken k l m) n = n ≡ TAKEN
IsWord (answered k l) n = n ≡ ANSWERED

-- this token has the tray to itself
abbrev pub HasClaimed : {L : Type 0} → ℕ → Spot L → Type 0
HasClaimed id vacant = ⊥
HasClaimed id (claimed k) = k ≡ id
HasClaimed id (waiting k l) = ⊥
HasClaimed id (taken k l m) = ⊥
HasClaimed id (answered k l) = ⊥

-- this token left that, and has not taken anything back
abbrev pub HasLeft : {L : Type 0} → ℕ → L → Spot L → Type 0
HasLeft id x vacant = ⊥
HasLeft id x (claimed k) = ⊥
HasLeft id x (waiting k l) = (k ≡ id) × (l ≡ x)
HasLeft id x (taken k l m) = (k ≡ id) × (l ≡ x)
HasLeft id x (answered k l) = (k ≡ id) × (l ≡ x)

-- this token has taken that up, and is to answer it
abbrev pub HasTaken : {L : Type 0} → ℕ → L → Spot L → Type 0
HasTaken id x vacant = ⊥
HasTaken id x (claimed k) = ⊥
HasTaken id x (waiting k l) = ⊥
HasTaken id x (taken k l m) = (m ≡ id) × (l ≡ x)
HasTaken id x (answered k l) = ⊥

-- what a token does is so in this state
abbrev pub Knows : {L : Type 0} → ℕ → Doing L → Spot L → Type 0
Knows id Nothing spot = Unit {0}
Knows id Claims spot = HasClaimed id spot
Knows id (Waits l) spot = HasLeft id l spot
Knows id (Serves l) spot = HasTaken id l spot
Knows id Tells spot = Unit {0}

-- the view of a token that does nothing
abbrev pub idle_view : {A L : Type 0} → A → View A L
idle_view about = record { about = about; doing = Nothing; missed = [] }

module _ {A L B : Type 0} (fits : A → L → Type 0) (answers : L → B → Type 0) (about : A) where
  -- the slot of a tray in this state: what was left fits, and what answers it does
  abbrev pub IsHome : Spot L → List (place.Option (Option (Slip L B))) → Type 0
  IsHome vacant homes = homes ≡ some None ∷ []
  IsHome (claimed k) homes = homes ≡ none ∷ []
  IsHome (waiting k l) homes = (homes ≡ some (Some (Left l)) ∷ []) × fits about l
  IsHome (taken k l m) homes = (homes ≡ none ∷ []) × fits about l
  IsHome (answered k l) homes = (b : B) × (homes ≡ some (Some (Back b)) ∷ []) × answers l b

  -- the table stands for this state
  pub record Stands (spot : Spot L) (s : State (Option (Slip L B)) (View A L)) : Type 0 where
    pub words : 0 < length s.words
    pub word : IsWord spot (slice_index s.words 0)
    pub home : IsHome spot s.homes
    pub views : (id : ℕ) (v : View A L) → get_elem? s.views id ≡ some v → (v.about ≡ about) × Knows id v.doing spot

  -- the rule: the table stands for some state
  abbrev pub Ruled : State (Option (Slip L B)) (View A L) → Type 0
  Ruled s = (spot : Spot L) × Stands spot s
