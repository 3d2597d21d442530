-- A tray and the tokens at it, as contracts see them.
use Rattle.std.specs.Prelude.{◌≡◌, ℕ, List, [], Option, Some, None}
use Rattle.atomic_table.specs.Seated.{TableId}
use Rattle.call_queue.specs.declared.board.Doing.{Doing}
use Rattle.call_queue.specs.declared.board.Doing.TheVariants.{Nothing, Claims, Waits, Serves, Tells}
use Rattle.call_queue.specs.declared.board.View.{View}

-- which tray it is, and what it was told at its opening
pub record AtTray (A : Type 0) : Type 0 where
  pub table : TableId
  pub about : A

-- a token at a tray, what was left, by the token itself or by the one that it is to answer, and what the token looked
-- for in the tray's word and did not find, the last first
pub record Standing (A L : Type 0) : Type 0 where
  pub tray : AtTray A
  pub left : Option L
  pub missed : List ℕ

-- what was left, for a token that does this
abbrev pub left_in : {L : Type 0} → Doing L → Option L
left_in Nothing = None
left_in Claims = None
left_in (Waits l) = Some l
left_in (Serves l) = Some l
left_in Tells = None

-- where a token with this view stands
abbrev pub standing_of : {A L : Type 0} → TableId → View A L → Standing A L
standing_of table v = record {
  tray = record { table = table; about = v.about };
  left = left_in v.doing;
  missed = v.missed;
}

-- a token has taken this up from this tray, and is to answer it
abbrev pub IsTaken : {A L : Type 0} → Standing A L → AtTray A → L → Type 0
IsTaken s tray l = s ≡ record { tray = tray; left = Some l; missed = [] }
