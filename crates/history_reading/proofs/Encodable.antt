-- The MAP of each entry that is read is well formed.
use Rattle.std.proofs.Common.{◌≡◌, ℕ, ◌+◌, ◌^◌, Bool, true, false, cond, List, Option, Some, None, Result, Ok}
use Rattle.std.proofs.Common.{Err}
use Rattle.std.proofs.Common.{refl, subst}
use Rattle.std.specs.Prelude.{IfOk, IfSome, ok_or, option_and_then, codes, bytes_eq}
use Rattle.std.specs.List.{AllByRecursion}
use Rattle.std.specs.Result.{result_ok}
use Rattle.hex.specs.declared.error.FromHexError.{FromHexError}
use Rattle.hex.specs.Hex.{IsBytes, decode_of}
use Rattle.hex.proofs.HexLemmas.{decode_of-ok}
use Rattle.serde_json.specs.Data.{Data, Items, no_items, item}
use Rattle.serde_json.specs.Find.{get, as_array}
use Rattle.map_codec.specs.declared.wire_map.WireMap.{WireMap}
use Rattle.map_codec.specs.WireMap.{IsWellFormed}
use Rattle.minislots.specs.declared.config.ConfigFault.{ConfigFault}
use Rattle.minislots.specs.Config.{first_wrong}
use Rattle.sched_calls.specs.Reply.{IsEncodable}
use Rattle.sched_calls.specs.declared.reply.Reply.{Reply}
use Rattle.sched_calls.specs.declared.reply.Reply.TheVariants.{Removed, Taken, Noted, Reserved}
use Rattle.sched_calls.specs.declared.reply.Entry.{Entry}
use Rattle.text_stream.specs.declared.fault.TextFault.{TextFault}
use Rattle.text_stream.specs.declared.fault.TextFault.TheVariants.{Shape}
use Rattle.json_fields.specs.Fields.{◌>>=◌, u32_at, u64_at, text_at, config_of}
use Rattle.call_reading.specs.Calls.{call_of}
use Rattle.text_stream.specs.Input.{value_of}
use Rattle.text_stream.specs.Input.{Gives}
use Rattle.text_stream.specs.Outcome.{unless_wrong}
use Rattle.history_reading.specs.Refusals.{refusal_with}
use Rattle.history_reading.specs.Replies.{numbers_at, place_of, admitted_reply, changed_reply, map_of, map_at}
use Rattle.history_reading.specs.Replies.{map_reply, skipped_reply, flow_reply, u64_if, refused_reply, reply_of}
use Rattle.history_reading.specs.Replies.{entry_of}
use Rattle.history_reading.specs.Recorded.{History, entries_of, entry_in, history_of, history_in}
use Rattle.history_reading.proofs.FewEntries.{holds-bind, any as any_result}
use Rattle.history_reading.proofs.Payload.{spelling-map_of}

-- what is made of a value of which something holds
bind : {A B : Type 0} (P : A → Type 0) (Q : B → Type 0) (o : Option A) (f : A → Option B) → IfSome o P
    → ((x : A) → P x → IfSome (f x) Q) → IfSome (o >>= f) Q
bind P Q (Some x) f first next = next x first
bind P Q None f first next = tt

-- what is made of a value that may be any
then_any : {A B : Type 0} (Q : B → Type 0) (o : Option A) (f : A → Option B) → ((x : A) → IfSome (f x) Q)
    → IfSome (o >>= f) Q
then_any Q (Some x) f next = next x
then_any Q None f next = tt

either : (b : Bool) (x y : Option Reply) → IfSome x IsEncodable → IfSome y IsEncodable
    → IfSome (cond b x y) IsEncodable
either true x y p q = p
either false x y p q = q

formed_from : (o : Option WireMap) → ((m : WireMap) → o ≡ Some m → IsWellFormed m) → IfSome o IsWellFormed
formed_from (Some m) formed = formed m refl
formed_from None formed = tt

bytes_from : (r : Result (List ℕ) FromHexError) → ((bytes : List ℕ) → r ≡ Ok bytes → IsBytes bytes)
    → IfSome (result_ok r) IsBytes
bytes_from (Ok bytes) are = are bytes refl
bytes_from (Err e) are = tt

map_at-formed : (key : List ℕ) (d : Data) → IfSome (map_at key d) IsWellFormed
unfolding map_at
map_at-formed key d =
    then_any IsWellFormed (text_at key d) _ (λ text.
    bind IsBytes IsWellFormed (result_ok (decode_of text)) map_of
    (bytes_from (decode_of text) (λ bytes is. (decode_of-ok text bytes is).3))
    (λ bytes fits. formed_from (map_of bytes) (λ m is. (spelling-map_of bytes m fits is).0)))

map_reply-encodable : (d : Data) → IfSome (map_reply d) IsEncodable
unfolding map_reply
map_reply-encodable d =
    then_any IsEncodable (u64_at (codes "start") d) _ (λ start.
    then_any IsEncodable (u64_at (codes "ack") d) _ (λ ack.
    bind IsWellFormed IsEncodable (map_at (codes "hex") d) _ (map_at-formed (codes "hex") d) (λ wire formed.
    then_any IsEncodable (numbers_at (2 ^ 32) (codes "bytes") d) _ (λ bytes. formed))))

admitted_reply-encodable : (d : Data) → IfSome (admitted_reply d) IsEncodable
unfolding admitted_reply
admitted_reply-encodable d = then_any IsEncodable (place_of d) _ (λ place. tt)

changed_reply-encodable : (d : Data) → IfSome (changed_reply d) IsEncodable
unfolding changed_reply
changed_reply-encodable d = then_any IsEncodable (place_of d) _ (λ place. tt)

skipped_reply-encodable : (d : Data) → IfSome (skipped_reply d) IsEncodable
unfolding skipped_reply
skipped_reply-encodable d = then_any IsEncodable (u64_at (codes "next") d) _ (λ next. tt)

flow_reply-encodable : (d : Data) → IfSome (flow_reply d) IsEncodable
unfolding flow_reply
flow_reply-encodable d =
    then_any IsEncodable (u64_at (codes "asked") d) _ (λ asked.
    then_any IsEncodable (u64_at (codes "granted") d) _ (λ granted.
    then_any IsEncodable (u64_at (codes "outstanding") d) _ (λ outstanding. tt)))

refused_reply-encodable : (d : Data) → IfSome (refused_reply d) IsEncodable
unfolding refused_reply
refused_reply-encodable d =
    then_any IsEncodable (u64_at (codes "number") d) _ (λ number.
    then_any IsEncodable (u64_if (codes "value") d) _ (λ value.
    then_any IsEncodable (refusal_with number value) _ (λ refusal. tt)))

reply_of-encodable : (d : Data) → IfSome (reply_of d) IsEncodable
unfolding reply_of
reply_of-encodable d =
    then_any IsEncodable (text_at (codes "kind") d) _ (λ kind.
    either (bytes_eq kind (codes "admitted")) (admitted_reply d) _ (admitted_reply-encodable d)
    (either (bytes_eq kind (codes "removed")) (Some Removed) _ tt
    (either (bytes_eq kind (codes "taken")) (Some Taken) _ tt
    (either (bytes_eq kind (codes "noted")) (Some Noted) _ tt
    (either (bytes_eq kind (codes "map")) (map_reply d) _ (map_reply-encodable d)
    (either (bytes_eq kind (codes "skipped")) (skipped_reply d) _ (skipped_reply-encodable d)
    (either (bytes_eq kind (codes "flow")) (flow_reply d) _ (flow_reply-encodable d)
    (either (bytes_eq kind (codes "refused")) (refused_reply d) _ (refused_reply-encodable d)
    (either (bytes_eq kind (codes "reserved")) (Some Reserved) _ tt
    (either (bytes_eq kind (codes "changed")) (changed_reply d) None (changed_reply-encodable d) tt))))))))))

-- the MAP of an entry is well formed
abbrev HasBytes : Entry → Type 0
HasBytes e = IsEncodable e.reply

-- the MAP of an entry that was read has bytes
pub entry_of-encodable : (d : Data) → IfSome (entry_of d) HasBytes
unfolding entry_of
entry_of-encodable d =
    then_any HasBytes (u32_at (codes "seat") d) _ (λ seat.
    then_any HasBytes (u64_at (codes "ticket") d) _ (λ ticket.
    then_any HasBytes (get (codes "call") d >>= call_of) _ (λ call.
    bind IsEncodable HasBytes (get (codes "reply") d >>= reply_of) _
    (then_any IsEncodable (get (codes "reply") d) reply_of reply_of-encodable) (λ reply encodable. encodable))))

-- and so has that of an entry that is a text of its own
pub entry_in-encodable : (bytes : List ℕ) → IfSome (entry_in bytes) HasBytes
unfolding entry_in
entry_in-encodable bytes = then_any HasBytes (result_ok (value_of bytes)) entry_of entry_of-encodable

found : (o : Option Entry) (fault : TextFault) → IfSome o HasBytes → IfOk (ok_or o fault) HasBytes
found (Some e) fault h = h
found None fault h = tt

entries_of-encodable : (n : ℕ) (ds : Items) → IfOk (entries_of n ds) (AllByRecursion HasBytes)
unfolding entries_of
entries_of-encodable n no_items = tt
entries_of-encodable n (item d ds) =
    holds-bind HasBytes (AllByRecursion HasBytes) (ok_or (entry_of d) (Shape n)) _
    (found (entry_of d) (Shape n) (entry_of-encodable d)) (λ entry encodable.
    holds-bind (AllByRecursion HasBytes) (AllByRecursion HasBytes) (entries_of (n + 1) ds) _
    (entries_of-encodable (n + 1) ds) (λ entries others. (encodable, others)))

-- the MAP of each entry of a history is well formed
abbrev AllHaveBytes : History → Type 0
AllHaveBytes history = AllByRecursion HasBytes history.entries

history_of-encodable : (d : Data) → IfOk (history_of d) AllHaveBytes
unfolding history_of
history_of-encodable d =
    holds-bind (λ _. Unit {0}) AllHaveBytes (ok_or (option_and_then config_of (get (codes "config") d)) (Shape 0)) _
    (any_result (ok_or (option_and_then config_of (get (codes "config") d)) (Shape 0))) (λ config _.
    holds-bind (λ _. Unit {0}) AllHaveBytes (ok_or (option_and_then as_array (get (codes "entries") d)) (Shape 0)) _
    (any_result (ok_or (option_and_then as_array (get (codes "entries") d)) (Shape 0))) (λ ds _.
    holds-bind (AllByRecursion HasBytes) AllHaveBytes (entries_of 1 ds) _ (entries_of-encodable 1 ds)
    (λ entries encodable. encodable)))

unless_wrong-encodable : (wrong : Option ConfigFault) (history : History) → AllHaveBytes history
    → IfOk (unless_wrong wrong history) AllHaveBytes
unless_wrong-encodable None history h = h
unless_wrong-encodable (Some field) history h = tt

history_in-encodable : (bytes : List ℕ) → IfOk (history_in bytes) AllHaveBytes
unfolding history_in
history_in-encodable bytes =
    holds-bind (λ _. Unit {0}) AllHaveBytes (value_of bytes) _ (any_result (value_of bytes)) (λ d _.
    holds-bind AllHaveBytes AllHaveBytes (history_of d) _ (history_of-encodable d) (λ history encodable.
    unless_wrong-encodable (first_wrong history.config) history encodable))

-- what was made of a text has a MAP with bytes in each entry that has a MAP
pub encodable_entries : {X : Type 0} (view : X → History) (result : Result X TextFault) (bytes : List ℕ)
    → Gives view result (history_in bytes)
    → IfOk result (λ x. AllByRecursion (λ e. IsEncodable e.reply) (view x).entries)
encodable_entries view (Ok x) bytes exact =
    subst (λ (r : Result History TextFault). IfOk r AllHaveBytes) exact (history_in-encodable bytes)
encodable_entries view (Err fault) bytes exact = tt
