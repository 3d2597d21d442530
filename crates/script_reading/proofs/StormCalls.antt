-- Reading the scripts of a storm one after the other.
use Rattle.std.proofs.Common.{◌≡◌, ℕ, ◌+◌, ◌<◌, ◌≤◌, ◌∙◌, length, get_or, drop, true, false, ◌&&◌, List, [], ◌∷◌}
use Rattle.std.proofs.Common.{◌++◌, Some, None, Result, Ok, Err, refl, sym, ap, append_assoc, append-nil, arith}
use Rattle.std.specs.Prelude.{is_some, nat_lt}
use Rattle.std.proofs.lemmas.Bool.{lt-ltb, le-ltb}
use Rattle.std.specs.Global.{Vec}
use Rattle.std.proofs.lemmas.List.{drop_all, map-append}
use Rattle.serde_json.specs.Data.{Data, Items, no_items, item}
use Rattle.serde_json.specs.Find.{as_array}
use Rattle.serde_json.specs.View.{view, items_view}
use Rattle.serde_json.specs.declared.value.Value.{Value}
use Rattle.sched_calls.specs.declared.call.Call.{Call}
use Rattle.text_stream.specs.declared.fault.TextFault.{TextFault}
use Rattle.text_stream.specs.declared.fault.TextFault.TheVariants.{Shape}
use Rattle.call_reading.specs.Calls.{call_of}
use Rattle.text_stream.specs.Outcome.{◌>>=◌}
use Rattle.script_reading.specs.Script.{calls_of}
use Rattle.script_reading.specs.StormScript.{calls_each, are_arrays, are_scripts, scripts_of}
use Rattle.json_fields.specs.Listed.{count_of}
use Rattle.script_reading.proofs.Calls.{following, following-end, following-fault, following-call}
use Rattle.json_fields.proofs.Items.{items_view-here}

-- values are as many as their items
pub count_of-items : (values : List Value) → count_of (items_view values) ≡ length values
count_of-items [] = refl
count_of-items (v ∷ vs) = let e = count_of-items vs in omega (arith, e)

module _ (values : List Value) (i : ℕ) (v : Value) (within : i < length values) (is : v ≡ get_or values i v) where
  -- the value at the index is an array, or not
  pub are_arrays-step : is_some (as_array (view v)) ≡ true
      → are_arrays (items_view (drop i values)) ≡ are_arrays (items_view (drop (i + 1) values))
  are_arrays-step array = ap are_arrays (items_view-here values i v within is)
      ∙ ap (λ b. b && are_arrays (items_view (drop (i + 1) values))) array

  -- where one is no array not all are
  pub are_arrays-stop : is_some (as_array (view v)) ≡ false → are_arrays (items_view (drop i values)) ≡ false
  are_arrays-stop none = ap are_arrays (items_view-here values i v within is)
      ∙ ap (λ b. b && are_arrays (items_view (drop (i + 1) values))) none

-- what the values from the index on stand for, after the calls before
abbrev pub left_after : ℕ → List Value → List Call → ℕ → Result (List Call) TextFault
left_after before values calls i = following calls (calls_of (before + i + 1) (items_view (drop i values)))

module _ (before : ℕ) (values : List Value) (calls : List Call) (i : ℕ) where
  left_after-at : (v : Value) → i < length values → v ≡ get_or values i v
      → left_after before values calls i ≡ following calls
      (calls_of (before + i + 1) (item (view v) (items_view (drop (i + 1) values))))
  left_after-at v within is = ap (λ ds. following calls (calls_of (before + i + 1) ds))
      (items_view-here values i v within is)

  -- the value at the index is no call
  pub left_after-fault : (v : Value) → i < length values → v ≡ get_or values i v → call_of (view v) ≡ None
      → left_after before values calls i ≡ Err (Shape (before + i + 1))
  left_after-fault v within is none = left_after-at v within is
      ∙ following-fault calls (before + i + 1) (view v) (items_view (drop (i + 1) values)) none

  -- it is this call
  pub left_after-call : (v : Value) (call : Call) → i < length values → v ≡ get_or values i v
      → call_of (view v) ≡ Some call
      → left_after before values calls i ≡ left_after before values (calls ++ call ∷ []) (i + 1)
  left_after-call v call within is some =
      left_after-at v within is
      ∙ following-call calls (before + i + 1) (view v) (items_view (drop (i + 1) values)) call some
      ∙ ap (λ n. following (calls ++ call ∷ []) (calls_of n (items_view (drop (i + 1) values))))
      (let e : before + i + 1 + 1 ≡ before + (i + 1) + 1 = omega arith in e)

  -- no value is left
  pub left_after-end : length values ≤ i → left_after before values calls i ≡ Ok calls
  left_after-end past = ap (λ (vs : List Value). following calls (calls_of (before + i + 1) (items_view vs)))
      (drop_all i values past) ∙ following-end calls (before + i + 1)

-- the scripts that were read, and then those that follow
abbrev pub scripts_then : List (List Call) → Result (List (List Call)) TextFault → Result (List (List Call)) TextFault
scripts_then scripts (Ok rest) = Ok (scripts ++ rest)
scripts_then scripts (Err fault) = Err fault

scripts_then-push : (scripts : List (List Call)) (calls : List Call) (rest : Result (List (List Call)) TextFault)
    → scripts_then scripts (rest >>= (λ next. Ok (calls ∷ next))) ≡ scripts_then (scripts ++ calls ∷ []) rest
scripts_then-push scripts calls (Ok rest) = ap (λ (cs : List (List Call)). Ok cs)
    (sym (append_assoc scripts (calls ∷ []) rest))
scripts_then-push scripts calls (Err fault) = refl

module _ (scripts : List (List Call)) (before : ℕ) (d : Data) (ds : Items) where
  -- a script that is no array
  pub scripts_then-none : as_array d ≡ None → scripts_then scripts (scripts_of before (item d ds)) ≡ Err (Shape 0)
  unfolding scripts_of
  scripts_then-none none = rw none refl

  -- a script with a fault in its calls
  pub scripts_then-fault : (items : Items) (fault : TextFault) → as_array d ≡ Some items
      → calls_of (before + 1) items ≡ Err fault
      → scripts_then scripts (scripts_of before (item d ds)) ≡ Err fault
  unfolding scripts_of
  scripts_then-fault items fault some fails = rw some (rw fails refl)

  -- a script that is read, and those behind it
  pub scripts_then-script : (items : Items) (calls : List Call) → as_array d ≡ Some items
      → calls_of (before + 1) items ≡ Ok calls
      → scripts_then scripts (scripts_of before (item d ds))
      ≡ scripts_then (scripts ++ calls ∷ []) (scripts_of (before + length calls) ds)
  unfolding scripts_of
  scripts_then-script items calls some reads = rw some (rw reads
      (scripts_then-push scripts calls (scripts_of (before + length calls) ds)))

-- no script is left
pub scripts_then-end : (scripts : List (List Call)) (before : ℕ)
    → scripts_then scripts (scripts_of before no_items) ≡ Ok scripts
unfolding scripts_of
scripts_then-end scripts before = ap (λ (cs : List (List Call)). Ok cs) (append-nil scripts)

-- arrays that are not none and not too many are scripts
pub are_scripts-few : (ds : Items) → 0 < count_of ds → count_of ds ≤ 16 → are_arrays ds ≡ are_scripts ds
unfolding are_scripts
are_scripts-few ds some few =
    sym (
    ap (λ b. (b && nat_lt (count_of ds) 17) && are_arrays ds) (lt-ltb 0 (count_of ds) some)
    ∙ ap (λ b. b && are_arrays ds) (lt-ltb (count_of ds) 17 (omega (arith, few)))
    )

-- others are not
pub are_scripts-none : (values : List Value) → length values ≡ 0 → are_scripts (items_view values) ≡ false
unfolding are_scripts
are_scripts-none values none = ap (λ n. (nat_lt 0 n && nat_lt n 17) && are_arrays (items_view values))
    (count_of-items values ∙ none)

-- more than 16 are no scripts
pub are_scripts-many : (values : List Value) → 16 < length values → are_scripts (items_view values) ≡ false
unfolding are_scripts
are_scripts-many values many =
    ap (λ n. (nat_lt 0 n && nat_lt n 17) && are_arrays (items_view values)) (count_of-items values)
    ∙ ap (λ b. (b && nat_lt (length values) 17) && are_arrays (items_view values))
    (lt-ltb 0 (length values) (omega (arith, many)))
    ∙ ap (λ b. b && are_arrays (items_view values)) (le-ltb (length values) 17 (omega (arith, many)))

-- what arrays from the index on stand for, after the scripts before
abbrev pub left_scripts : List Value → List (List Call) → ℕ → ℕ → Result (List (List Call)) TextFault
left_scripts values scripts before i = scripts_then scripts (scripts_of before (items_view (drop i values)))

module _ (values : List Value) (scripts : List (List Call)) (before i : ℕ) where
  left_scripts-at : (v : Value) → i < length values → v ≡ get_or values i v
      → left_scripts values scripts before i ≡ scripts_then scripts
      (scripts_of before (item (view v) (items_view (drop (i + 1) values))))
  left_scripts-at v within is = ap (λ ds. scripts_then scripts (scripts_of before ds))
      (items_view-here values i v within is)

  -- of those left the next is no array
  pub left_scripts-none : (v : Value) → i < length values → v ≡ get_or values i v → as_array (view v) ≡ None
      → left_scripts values scripts before i ≡ Err (Shape 0)
  left_scripts-none v within is none = left_scripts-at v within is
      ∙ scripts_then-none scripts before (view v) (items_view (drop (i + 1) values)) none

  -- of those left the next has a fault in its calls
  pub left_scripts-fault : (v : Value) (items : Items) (fault : TextFault) → i < length values → v ≡ get_or values i v
      → as_array (view v) ≡ Some items
      → calls_of (before + 1) items ≡ Err fault → left_scripts values scripts before i ≡ Err fault
  left_scripts-fault v items fault within is some fails = left_scripts-at v within is
      ∙ scripts_then-fault scripts before (view v) (items_view (drop (i + 1) values)) items fault some fails

  -- of those left the next is read
  pub left_scripts-script : (v : Value) (items : Items) (calls : List Call) → i < length values → v ≡ get_or values i v
      → as_array (view v) ≡ Some items
      → calls_of (before + 1) items ≡ Ok calls → left_scripts values scripts before i
      ≡ left_scripts values (scripts ++ calls ∷ []) (before + length calls) (i + 1)
  left_scripts-script v items calls within is some reads = left_scripts-at v within is
      ∙ scripts_then-script scripts before (view v) (items_view (drop (i + 1) values)) items calls some reads

  -- none is left
  pub left_scripts-end : length values ≤ i → left_scripts values scripts before i ≡ Ok scripts
  left_scripts-end past = ap (λ (vs : List Value). scripts_then scripts (scripts_of before (items_view vs)))
      (drop_all i values past) ∙ scripts_then-end scripts before

-- one script more
pub calls_each-push : (scripts : List (Vec Call)) (calls : Vec Call)
    → calls_each (scripts ++ calls ∷ []) ≡ calls_each scripts ++ calls.items ∷ []
calls_each-push scripts calls = map-append (λ (v : Vec Call). v.items) scripts (calls ∷ [])
