-- The bytes of a live flow.
use Rattle.std.proofs.Common.{◌≡◌, refl, ℕ, ◌-◌, Bool, true, false, cond, List, [], ◌∷◌, find}
use Rattle.std.proofs.Common.{Option, None, Some, ap, arith}
use Rattle.std.specs.List.{AllByRecursion}
use Rattle.std.specs.Option.{IfSome}
use Rattle.sched_calls.specs.FlowSpec.{takes_requests}
use Rattle.flow_book.specs.Flows.{LiveFlow, outstanding}
use Rattle.sched_calls.specs.declared.reply.Reply.TheVariants.{Flow}
use Rattle.sched_history.specs.History.{flow_status}
use Rattle.sched_history.specs.Facts.{IsWithinAsked}

found-or : {X : Type 0} (P : X → Type 0) (b : Bool) (x : X) (rest : Option X) → P x → IfSome rest P
    → IfSome (cond b (Some x) rest) P
found-or P true x rest here others = here
found-or P false x rest here others = others

-- what holds of all holds of the one that is found
pub find-all : {X : Type 0} (P : X → Type 0) (test : X → Bool) (xs : List X) → AllByRecursion P xs
    → IfSome (find test xs) P
find-all P test [] all = tt
find-all P test (x ∷ xs) all = found-or P (test x) x (find test xs) all.0 (find-all P test xs all.1)

status-of : (f : LiveFlow) (takes : Bool) → takes_requests f.spec ≡ takes → IsWithinAsked f
    → flow_status f ≡ Flow (cond takes f.asked 0) (cond takes f.asked 0 - cond takes (outstanding f) 0)
    (cond takes (outstanding f) 0)
status-of f true is within = rw is (ap (λ n. Flow f.asked n (outstanding f)) (omega (arith, within)))
status-of f false is within = rw is refl

-- the three sums of a flow: zeros where it takes no requests
pub flow_status-sums : (o : Option LiveFlow) (asked left : ℕ) → IfSome o IsWithinAsked
    → IfSome o (λ f. asked ≡ cond (takes_requests f.spec) f.asked 0)
    → IfSome o (λ f. left ≡ cond (takes_requests f.spec) (outstanding f) 0)
    → IfSome o (λ f. flow_status f ≡ Flow asked (asked - left) left)
flow_status-sums None asked left within all some = tt
flow_status-sums (Some f) asked left within all some =
    rw (all, some) (status-of f (takes_requests f.spec) refl within)
