-- A history has fewer entries than its text has bytes.
use Rattle.std.proofs.Common.{◌≡◌, ℕ, suc, ◌+◌, ◌<◌, ◌≤◌, Bool, true, false, cond, List, ◌∷◌, length, Option, Some}
use Rattle.std.proofs.Common.{None}
use Rattle.std.proofs.Common.{Result, Ok, Err, Ordering, Less, Equal, Greater, refl, subst, arith}
use Rattle.std.specs.Prelude.{IfOk, ok_or, option_and_then, codes}
use Rattle.std.specs.Ordering.{nat_cmp, match_ordering}
use Rattle.std.specs.Cmp.Lexicographic.{slice_cmp}
use Rattle.std.specs.Str.{is_utf8}
use Rattle.serde_json.specs.Data as tree
use Rattle.serde_json.specs.Data.{Data, Items, no_items, item, Members, no_members, member}
use Rattle.serde_json.specs.Find.{get, get_member, as_array}
use Rattle.serde_json.specs.Read.{read}
use Rattle.minislots.specs.declared.config.ConfigFault.{ConfigFault}
use Rattle.minislots.specs.Config.{first_wrong}
use Rattle.sched_calls.specs.declared.reply.TheConstants.{MAX_ENTRIES}
use Rattle.text_stream.specs.declared.input.TheConstants.{MAX_INPUT}
use Rattle.text_stream.specs.declared.fault.TextFault.{TextFault}
use Rattle.text_stream.specs.declared.fault.TextFault.TheVariants.{NotJson, Shape}
use Rattle.json_fields.specs.Fields.{config_of}
use Rattle.text_stream.specs.Input.{Gives}
use Rattle.text_stream.specs.Outcome.{◌>>=◌}
use Rattle.text_stream.specs.Input.{value_of}
use Rattle.text_stream.specs.Outcome.{unless_wrong}
use Rattle.json_fields.specs.Listed.{count_of}
use Rattle.history_reading.specs.Replies.{entry_of}
use Rattle.history_reading.specs.Recorded.{History, entries_of, history_of, history_in}
use Rattle.history_reading.proofs.Sizes.{size, items_size, members_size, AtMost, size-read}

some_size : (d : Data) → 0 < size d
some_size tree.null = omega arith
some_size (tree.boolean b) = omega arith
some_size (tree.number n) = omega arith
some_size (tree.string s) = omega arith
some_size (tree.array ds) = omega arith
some_size (tree.object ms) = omega arith

-- items are at most as many as their parts
count_of-size : (ds : Items) → count_of ds ≤ items_size ds
count_of-size no_items = omega arith
count_of-size (item d ds) = omega (arith, some_size d, count_of-size ds)

match_ordering-size : (o : Ordering) (a b c : Option Data) (n : ℕ) → AtMost size n a → AtMost size n b → AtMost size n c
    → AtMost size n (match_ordering o a b c)
match_ordering-size Less a b c n p q r = p
match_ordering-size Equal a b c n p q r = q
match_ordering-size Greater a b c n p q r = r

AtMost-later : (m n : ℕ) → m ≤ n → (o : Option Data) → AtMost size m o → AtMost size n o
AtMost-later m n le None x = tt
AtMost-later m n le (Some a) x = omega (arith, le, x)

-- what stands under a key is a part
get_member-size : (k : List ℕ) (ms : Members) → AtMost size (members_size ms) (get_member k ms)
get_member-size k no_members = tt
get_member-size k (member l e ms) =
    let rest = AtMost-later (members_size ms) (size e + members_size ms) (omega arith) (get_member k ms)
    (get_member-size k ms) in
    match_ordering-size (slice_cmp nat_cmp k l) (get_member k ms) (Some e) (get_member k ms) (size e + members_size ms)
    rest (omega arith) rest

-- the items of an array are fewer by one than its parts
as_array-size : (n : ℕ) (o : Option Data) → AtMost size n o
    → IfOk (ok_or (option_and_then as_array o) (Shape 0)) (λ ds. count_of ds + 1 ≤ n)
as_array-size n None h = tt
as_array-size n (Some tree.null) h = tt
as_array-size n (Some (tree.boolean b)) h = tt
as_array-size n (Some (tree.number x)) h = tt
as_array-size n (Some (tree.string s)) h = tt
as_array-size n (Some (tree.array ds)) h = omega (arith, h, count_of-size ds)
as_array-size n (Some (tree.object ms)) h = tt

one_more : (n : ℕ) (r : Result Items TextFault) → IfOk r (λ ds. count_of ds + 1 ≤ n)
    → IfOk r (λ ds. count_of ds + 2 ≤ suc n)
one_more n (Ok ds) h = omega (arith, h)
one_more n (Err fault) h = tt

-- and by two than those of the document
entries_at-size : (d : Data)
    → IfOk (ok_or (option_and_then as_array (get (codes "entries") d)) (Shape 0)) (λ ds. count_of ds + 2 ≤ size d)
entries_at-size tree.null = tt
entries_at-size (tree.boolean b) = tt
entries_at-size (tree.number x) = tt
entries_at-size (tree.string s) = tt
entries_at-size (tree.array ds) = tt
entries_at-size (tree.object ms) =
    one_more (members_size ms) (ok_or (option_and_then as_array (get_member (codes "entries") ms)) (Shape 0))
    (as_array-size (members_size ms) (get_member (codes "entries") ms) (get_member-size (codes "entries") ms))

-- what holds of each value that is made of a value of which this holds
pub holds-bind : {A B : Type 0} (P : A → Type 0) (Q : B → Type 0) (r : Result A TextFault) (f : A → Result B TextFault)
    → IfOk r P → ((x : A) → P x → IfOk (f x) Q) → IfOk (r >>= f) Q
holds-bind P Q (Ok x) f first next = next x first
holds-bind P Q (Err fault) f first next = tt

-- any value will do
pub any : {A : Type 0} (r : Result A TextFault) → IfOk r (λ _. Unit {0})
any (Ok x) = tt
any (Err fault) = tt

-- entries are as many as the items that they are read from
length-entries_of : (n : ℕ) (ds : Items) → IfOk (entries_of n ds) (λ entries. length entries ≡ count_of ds)
unfolding entries_of
length-entries_of n no_items = refl
length-entries_of n (item d ds) =
    holds-bind (λ _. Unit {0}) (λ entries. length entries ≡ count_of ds + 1) (ok_or (entry_of d) (Shape n))
    (λ entry. entries_of (n + 1) ds >>= (λ entries. Ok (entry ∷ entries)))
    (any (ok_or (entry_of d) (Shape n)))
    (λ entry _. holds-bind (λ entries. length entries ≡ count_of ds) (λ entries. length entries ≡ count_of ds + 1)
    (entries_of (n + 1) ds) (λ entries. Ok (entry ∷ entries)) (length-entries_of (n + 1) ds)
    (λ entries e. omega (arith, e)))

-- a history has at least two entries fewer than its document has parts
length-history_of : (d : Data) → IfOk (history_of d) (λ history. length history.entries + 2 ≤ size d)
unfolding history_of
length-history_of d =
    holds-bind (λ _. Unit {0}) (λ history. length history.entries + 2 ≤ size d)
    (ok_or (option_and_then config_of (get (codes "config") d)) (Shape 0)) _
    (any (ok_or (option_and_then config_of (get (codes "config") d)) (Shape 0))) (λ config _.
    holds-bind (λ ds. count_of ds + 2 ≤ size d) (λ history. length history.entries + 2 ≤ size d)
    (ok_or (option_and_then as_array (get (codes "entries") d)) (Shape 0)) _ (entries_at-size d) (λ ds few.
    holds-bind (λ entries. length entries ≡ count_of ds) (λ history. length history.entries + 2 ≤ size d)
    (entries_of 1 ds) _ (length-entries_of 1 ds) (λ entries e. omega (arith, e, few))))

parts_of : (utf8 : Bool) (o : Option Data) (n : ℕ) → ((d : Data) → o ≡ Some d → size d ≤ n)
    → IfOk (cond utf8 (ok_or o NotJson) (Err NotJson)) (λ d. size d ≤ n)
parts_of true (Some d) n h = h d refl
parts_of true None n h = tt
parts_of false o n h = tt

size-value_of : (bytes : List ℕ) → IfOk (value_of bytes) (λ d. size d ≤ length bytes + 1)
unfolding value_of
size-value_of bytes = parts_of (is_utf8 bytes) (read bytes) (length bytes + 1) (size-read bytes)

unless_wrong-few : (n : ℕ) (wrong : Option ConfigFault) (history : History) → length history.entries ≤ n
    → IfOk (unless_wrong wrong history) (λ h. length h.entries ≤ n)
unless_wrong-few n None history h = h
unless_wrong-few n (Some field) history h = tt

-- a history has fewer entries than its text has bytes
length-history_in : (bytes : List ℕ) → IfOk (history_in bytes) (λ history. length history.entries ≤ length bytes)
unfolding history_in
length-history_in bytes =
    holds-bind (λ d. size d ≤ length bytes + 1) (λ history. length history.entries ≤ length bytes) (value_of bytes) _
    (size-value_of bytes) (λ d parts.
    holds-bind (λ history. length history.entries + 2 ≤ size d) (λ history. length history.entries ≤ length bytes)
    (history_of d) _ (length-history_of d) (λ history few.
    unless_wrong-few (length bytes) (first_wrong history.config) history (omega (arith, parts, few))))

-- what was made of bytes that are not too many has no more entries than are audited
pub few_entries : {X : Type 0} (view : X → History) (result : Result X TextFault) (bytes : List ℕ)
    → length bytes ≤ MAX_INPUT → Gives view result (history_in bytes)
    → IfOk result (λ x. length (view x).entries ≤ MAX_ENTRIES)
few_entries view (Ok x) bytes short exact =
    let few = subst (λ (r : Result History TextFault). IfOk r (λ history. length history.entries ≤ length bytes)) exact
    (length-history_in bytes) in
    omega (arith, short, few)
few_entries view (Err fault) bytes short exact = tt
