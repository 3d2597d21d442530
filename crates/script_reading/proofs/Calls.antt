-- Reading the calls of a script one after the other.
use Rattle.std.proofs.Common.{◌≡◌, ℕ, ◌+◌, List, [], ◌∷◌, ◌++◌, Some, None, Result, Ok, Err, refl, sym, ap, subst}
use Rattle.std.proofs.Common.{append_assoc, append-nil}
use Rattle.std.specs.Prelude.{◌≢◌}
use Rattle.std.specs.Result.{IsErrAnd}
use Rattle.serde_json.specs.Data.{Data, Items, no_items, item}
use Rattle.sched_calls.specs.declared.call.Call.{Call}
use Rattle.text_stream.specs.declared.fault.TextFault.{TextFault}
use Rattle.text_stream.specs.declared.fault.TextFault.TheVariants.{Shape, Memory}
use Rattle.call_reading.specs.Calls.{call_of}
use Rattle.text_stream.specs.Input.{Gives}
use Rattle.text_stream.specs.Outcome.{◌>>=◌}
use Rattle.script_reading.specs.Script.{calls_of}

-- the calls that were read, and then those that follow
abbrev pub following : List Call → Result (List Call) TextFault → Result (List Call) TextFault
following calls (Ok rest) = Ok (calls ++ rest)
following calls (Err fault) = Err fault

following-push : (calls : List Call) (call : Call) (rest : Result (List Call) TextFault)
    → following calls (rest >>= (λ next. Ok (call ∷ next))) ≡ following (calls ++ call ∷ []) rest
following-push calls call (Ok rest) = ap (λ (cs : List Call). Ok cs) (sym (append_assoc calls (call ∷ []) rest))
following-push calls call (Err fault) = refl

-- nothing follows
pub following-end : (calls : List Call) (n : ℕ) → following calls (calls_of n no_items) ≡ Ok calls
unfolding calls_of
following-end calls n = ap (λ (cs : List Call). Ok cs) (append-nil calls)

module _ (calls : List Call) (n : ℕ) (d : Data) (ds : Items) where
  -- what follows is no call
  pub following-fault : call_of d ≡ None
      → following calls (calls_of n (item d ds)) ≡ Err (Shape n)
  unfolding calls_of
  following-fault none = rw none refl

  -- what follows begins with this call
  pub following-call : (call : Call) → call_of d ≡ Some call
      → following calls (calls_of n (item d ds))
      ≡ following (calls ++ call ∷ []) (calls_of (n + 1) ds)
  unfolding calls_of
  following-call call some =
      rw some (following-push calls call (calls_of (n + 1) ds))

-- a fault that is passed on is the one that stands there, as it was where it was found
pub Gives-err : {X Y : Type 0} (view : X → Y) (result : Result X TextFault) (there : Result Y TextFault)
    (fault : TextFault) → IsErrAnd result (λ e. e ≡ fault)
    → (fault ≢ Memory → there ≡ Err fault) → Gives view result there
Gives-err view (Ok x) there fault is exact = absurd is
Gives-err view (Err e) there fault is exact = subst (λ f. f ≢ Memory → there ≡ Err f) (sym is) exact
