-- Which of the flows that wait a MAP shows by pending grants, and what the others hold back.
use Rattle.std.specs.Prelude.{◌≡◌, ℕ, ◌+◌, ◌*◌, ◌^◌, min, Bool, true, false, not, ◌&&◌, ◌||◌, nat_lt, ◌==◌, List, [], ◌∷◌}
use Rattle.std.specs.Prelude.{map, filter, count_by, Contains, Option, None, Some}
use Rattle.std.specs.List.{AllByRecursion}
use Rattle.flow_book.specs.declared.shown.Hidden.{Hidden}
use Rattle.flow_book.specs.Batches.{since_of}
use Rattle.flow_book.specs.Flows.{LiveFlow, granted, outstanding}

-- a flow waits where it has bytes outstanding
abbrev pub waits : LiveFlow → Bool
waits f = nat_lt 0 (outstanding f)

-- the least minislot in which a request was heard of those of its batches that are not over
abbrev pub since : LiveFlow → ℕ
since f = since_of f.batches (granted f)

-- f comes before g in the order in which flows are shown: by since, then by SID
abbrev pub comes_before : LiveFlow → LiveFlow → Bool
comes_before f g = nat_lt (since f) (since g) || (since f == since g && nat_lt f.sid g.sid)

-- how many of the flows that wait come before this one
abbrev pub count_before : List LiveFlow → LiveFlow → ℕ
count_before flows f = count_by (λ g. waits g && comes_before g f) flows

-- a flow is one of the first so many that wait
abbrev pub is_shown : ℕ → List LiveFlow → LiveFlow → Bool
is_shown most flows f = waits f && nat_lt (count_before flows f) most

-- a flow waits, and is not one of them
abbrev pub is_hidden : ℕ → List LiveFlow → LiveFlow → Bool
is_hidden most flows f = waits f && not (nat_lt (count_before flows f) most)

-- the least of a number and these
abbrev pub least_with : ℕ → List ℕ → ℕ
least_with n [] = n
least_with n (m ∷ ms) = min m (least_with n ms)

-- the acknowledge time of a MAP: the least progress, held back by the since of each flow that is hidden
abbrev pub ack_of : ℕ → ℕ → List LiveFlow → ℕ
ack_of most progress flows = least_with progress (map since (filter (is_hidden most flows) flows))

-- of two pairs of a minislot and an SID the one with the lesser minislot, then SID, has the lesser number
abbrev pub number_of : ℕ → ℕ → ℕ
number_of since sid = since * 2 ^ 16 + sid

-- the number of a flow
abbrev pub number_in_line : LiveFlow → ℕ
number_in_line f = number_of (since f) f.sid

-- the first that is hidden, where one is: so many that wait come before it
abbrev pub IsFirstHidden : ℕ → List LiveFlow → Option Hidden → Type 0
IsFirstHidden most flows None = AllByRecursion (λ f. is_hidden most flows f ≡ false) flows
IsFirstHidden most flows (Some hidden) = (f : LiveFlow) × Contains flows f × (waits f ≡ true)
    × (count_before flows f ≡ most) × (hidden ≡ record { number = number_in_line f })
