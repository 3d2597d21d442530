-- The grants of all flows have started by a minislot, also after each change of a book.
use Rattle.std.proofs.Common.{◌≡◌, refl, ℕ, ◌≤◌, ◌==◌, Bool, true, false, cond, List, [], ◌∷◌, ◌++◌, Option, None, Some}
use Rattle.std.proofs.Common.{arith}
use Rattle.std.specs.Prelude.{IfSome}
use Rattle.std.specs.List.{AllByRecursion}
use Rattle.flow_book.specs.declared.flow.Grant.{Grant}
use Rattle.flow_book.specs.Flows.{LiveFlow, Charge, HaveStartedBy, AreMadeBy, flow_of}
use Rattle.flow_book.specs.Choice.{HasStartedBy}
use Rattle.flow_book.specs.Book.{changed}
use Rattle.flow_book.proofs.Order.{all-push}
use Rattle.flow_book.proofs.Places.{all-found}

-- grants that have started by a minislot have by a later one
pub started-later : (early later : ℕ) (grants : List Grant) → early ≤ later → HaveStartedBy early grants
    → HaveStartedBy later grants
started-later early later [] le all = tt
started-later early later (g ∷ grants) le all = (omega (arith, all.0), started-later early later grants le all.1)

-- those of all flows too
pub flows-later : (early later : ℕ) (flows : List LiveFlow) → early ≤ later
    → AllByRecursion (HasStartedBy early) flows → AllByRecursion (HasStartedBy later) flows
flows-later early later [] le all = tt
flows-later early later (f ∷ flows) le all =
    (started-later early later f.grants le all.0, flows-later early later flows le all.1)

started-option : (later sid : ℕ) (flows : List LiveFlow) (o : Option LiveFlow)
    → AllByRecursion (HasStartedBy later) flows
    → flow_of sid flows ≡ o → IfSome o (HasStartedBy later)
started-option later sid flows None all is = tt
started-option later sid flows (Some f) all is = all-found (HasStartedBy later) (λ g. g.sid == sid) flows f all is

-- and those of the flow of an SID
pub started-found : (later sid : ℕ) (flows : List LiveFlow) → AllByRecursion (HasStartedBy later) flows
    → IfSome (flow_of sid flows) (HasStartedBy later)
started-found later sid flows all = started-option later sid flows (flow_of sid flows) all refl

changed-one : (P : LiveFlow → Type 0) (b : Bool) (change : LiveFlow → LiveFlow) (f : LiveFlow) → P (change f) → P f
    → P (cond b (change f) f)
changed-one P true change f yes' no' = yes'
changed-one P false change f yes' no' = no'

-- what holds of each flow holds of each after a change that keeps it
pub all-changed : (P : LiveFlow → Type 0) (sid : ℕ) (change : LiveFlow → LiveFlow) (flows : List LiveFlow)
    → ((f : LiveFlow) → P f → P (change f)) → AllByRecursion P flows → AllByRecursion P (changed sid change flows)
all-changed P sid change [] keeps all = tt
all-changed P sid change (f ∷ flows) keeps all =
    (changed-one P (f.sid == sid) change f (keeps f all.0) all.0, all-changed P sid change flows keeps all.1)

-- grants with one more that has started have
pub started-push : (now : ℕ) (grants : List Grant) (g : Grant) → HaveStartedBy now grants → g.start ≤ now
    → HaveStartedBy now (grants ++ g ∷ [])
started-push now grants g all le = all-push (λ h. h.start ≤ now) grants g all le

-- grants with one more that starts now have started
pub started-more : (now n : ℕ) (grants : List Grant) → HaveStartedBy now grants
    → HaveStartedBy now (grants ++ record { start = now; bytes = n } ∷ [])
started-more now n grants all = started-push now grants (record { start = now; bytes = n }) all (omega arith)

-- charges with one more that is made are made
pub made-push : (now : ℕ) (charges : List Charge) (g : Charge) → AreMadeBy now charges → g.start ≤ now
    → AreMadeBy now (charges ++ g ∷ [])
made-push now charges g all le = all-push (λ h. h.start ≤ now) charges g all le

-- all with one more behind them are all, and the one more
all-front : {X : Type 0} (P : X → Type 0) (xs : List X) (x : X) → AllByRecursion P (xs ++ x ∷ [])
    → AllByRecursion P xs × P x
all-front P [] x all = (tt, all.0)
all-front P (y ∷ xs) x all = let rest = all-front P xs x all.1 in ((all.0, rest.0), rest.1)

-- grants that have all started, with one more, have started by its start at least
pub started-front : (slot : ℕ) (grants : List Grant) (g : Grant) → HaveStartedBy slot (grants ++ g ∷ [])
    → HaveStartedBy slot grants × (g.start ≤ slot)
started-front slot grants g all = all-front (λ h. h.start ≤ slot) grants g all

-- and so are charges
pub made-front : (slot : ℕ) (charges : List Charge) (g : Charge) → AreMadeBy slot (charges ++ g ∷ [])
    → AreMadeBy slot charges × (g.start ≤ slot)
made-front slot charges g all = all-front (λ h. h.start ≤ slot) charges g all
