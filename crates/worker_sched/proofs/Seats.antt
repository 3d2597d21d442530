-- Facts of each seat of a list, as one leaves it.
use Rattle.std.proofs.Common.{◌≡◌, ℕ, List, [], ◌∷◌, ◌++◌, map, Option, None, Some, IfSome, refl, sym, subst}
use Rattle.std.proofs.Common.{option_to_list}
use Rattle.ticket_lock.specs.Rule.{Every}
use Rattle.ticket_lock.specs.Standing.{Lock, Standing}
use Rattle.ticket_lock.specs.Calls.{Opens, new_standing}
use Rattle.ticket_lock.proofs.Logs.{Every-front}
use Rattle.ticket_lock.proofs.Gathered.{Every-back}

found_one : {X : Type 0} (P : X → Type 0) (found : Option X) → Every P (option_to_list found) → IfSome found P
found_one P None every = tt
found_one P (Some x) every = every.0

-- a fact of each is one of each that is left
pub Every-left : {X : Type 0} (P : X → Type 0) (all rest : List X) (found : Option X)
    → all ≡ rest ++ option_to_list found → Every P all → Every P rest
Every-left P all rest found is every =
    Every-front P rest (option_to_list found) (subst (Every P) is every)

-- and of the one that was taken
pub Every-taken : {X : Type 0} (P : X → Type 0) (all rest : List X) (found : Option X)
    → all ≡ rest ++ option_to_list found → Every P all → IfSome found P
Every-taken P all rest found is every =
    found_one P found (Every-back P rest (option_to_list found) (subst (Every P) is every))

Every-new : {H E : Type 0} (lock : Lock H E) (numbers : List ℕ)
    → Every (λ (s : Standing H E). s.lock ≡ lock) (map (new_standing lock) numbers)
Every-new lock [] = tt
Every-new lock (n ∷ ns) = (refl, Every-new lock ns)

-- the seats that a lock is opened with are its own
pub opens_own : {T H E : Type 0} (head : T → H) (entries : T → List E) (x : T) (count first : ℕ) (lock : Lock H E)
    (seats : List (Standing H E)) → Opens head entries x count first lock seats → Every (λ s. s.lock ≡ lock) seats
opens_own head entries x count first lock seats opens =
    subst (Every (λ s. s.lock ≡ lock)) (sym opens.seats_are) (Every-new lock _)
