-- What each step at a tray makes of a token, and what it tells.
use Rattle.std.specs.Prelude.{◌≡◌, ◌≢◌, ℕ, [], ◌∷◌, Option, Some, None}
use Rattle.atomic_table.specs.Table.{Me, Step, rest}
use Rattle.call_queue.specs.declared.board.Doing.{Doing}
use Rattle.call_queue.specs.declared.board.Doing.TheVariants.{Nothing, Claims, Waits, Serves, Tells}
use Rattle.call_queue.specs.declared.board.TheConstants.{VACANT, WAITING, ANSWERED, CALLED}
use Rattle.call_queue.specs.declared.board.View.{View}
use Rattle.call_queue.specs.declared.slip.Slip.{Slip}
use Rattle.call_queue.specs.declared.slip.Slip.TheVariants.{Left, Back}

-- a view in which a token does this
abbrev pub doing_view : {A L : Type 0} → View A L → Doing L → View A L
doing_view v doing = record v { doing = doing }

-- a view in which a token has looked for this number in the word, and did not find it
abbrev pub missed_view : {A L : Type 0} → View A L → ℕ → View A L
missed_view v n = record v { missed = n ∷ v.missed }

-- a token at a tray, with the slot if it has it
abbrev pub Token : Type 0 → Type 0 → Type 0 → Type 0
Token A L B = Me (Option (Slip L B)) (View A L)

-- a step at a tray
abbrev pub TrayStep : Type 0 → Type 0 → Type 0
TrayStep L B = Step (Option (Slip L B))

module _ {A L B : Type 0} where
  -- nothing of the token changes
  abbrev pub Stays : TrayStep L B → Token A L B → ℕ → Token A L B → Type 0
  Stays s m found after = after ≡ m

  -- a token that found the tray vacant has it to itself, with the empty slot
  abbrev pub Claimed : TrayStep L B → Token A L B → ℕ → Token A L B → Type 0
  Claimed s m found after = (found ≡ VACANT → after ≡ (doing_view m.0 Claims, (0, None) ∷ m.1))
      × (found ≢ VACANT → after ≡ m)

  -- a token has left what it had in the slot
  abbrev pub PutsDown : TrayStep L B → Token A L B → ℕ → Token A L B → Type 0
  PutsDown s m found after = (l : L) → m.1 ≡ (0, Some (Left l)) ∷ [] → after ≡ (doing_view m.0 (Waits l), [])

  -- a token has given the slot back, and does nothing more
  abbrev pub Parts : TrayStep L B → Token A L B → ℕ → Token A L B → Type 0
  Parts s m found after = after ≡ (doing_view m.0 Nothing, rest m.1)

  -- a token has given the slot back, and told whoever left something that there is an answer, or that it is called up
  abbrev pub HasTold : TrayStep L B → Token A L B → ℕ → Token A L B → Type 0
  HasTold s m found after = (found ≡ ANSWERED → after ≡ (doing_view m.0 Tells, rest m.1))
      × (found ≡ CALLED → after ≡ (doing_view m.0 Tells, rest m.1))

  -- a token has called up whoever left something that nobody has taken up, if it is so
  abbrev pub CallsUp : TrayStep L B → Token A L B → ℕ → Token A L B → Type 0
  CallsUp s m found after = s.first ≡ WAITING → s.second ≡ CALLED → after ≡ (doing_view m.0 Tells, m.1)

  -- a token that found what it expected has what it left
  abbrev pub Withdraws : TrayStep L B → Token A L B → ℕ → Token A L B → Type 0
  Withdraws s m found after = (l : L) → m.0.doing ≡ Waits l
      → (found ≡ s.first → after ≡ (doing_view m.0 Claims, (0, Some (Left l)) ∷ m.1))
      × (found ≢ s.first → after ≡ (missed_view m.0 s.first, m.1))

  -- a token that found something left has taken it up. It fits
  abbrev pub TakesUp : (A → L → Type 0) → TrayStep L B → Token A L B → ℕ → Token A L B → Type 0
  TakesUp fits s m found after = (found ≡ WAITING → (l : L) × fits m.0.about l
      × (after ≡ (doing_view m.0 (Serves l), (0, Some (Left l)) ∷ m.1)))
      × (found ≢ WAITING → after ≡ (missed_view m.0 WAITING, m.1))

  -- a token that found an answer has it. It answers what the token left
  abbrev pub TakesBack : (L → B → Type 0) → TrayStep L B → Token A L B → ℕ → Token A L B → Type 0
  TakesBack answers s m found after = (l : L) → m.0.doing ≡ Waits l
      → (found ≡ ANSWERED → (b : B) × answers l b
      × (after ≡ (doing_view m.0 Claims, (0, Some (Back b)) ∷ m.1)))
      × (found ≢ ANSWERED → after ≡ (missed_view m.0 ANSWERED, m.1))
