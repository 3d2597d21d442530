-- What the members of an object say as they are read one by one, and the call that they make.
use Rattle.std.proofs.Common.{◌≡◌, ℕ, ◌^◌, ◌||◌, Bool, true, false, cond, List, bytes_eq, Option, Some, None}
use Rattle.std.proofs.Common.{option_and_then, refl, sym, ap, ◌∙◌, is_some, true≢false}
use Rattle.std.proofs.lemmas.Slice.Eq.{bytes_eq-Decides}
use Rattle.std.specs.Borrow.{Bor}
use Rattle.std.specs.Prelude.{codes, if◌then◌else◌}
use Rattle.serde_json.specs.Data.{Data, number, unsigned, string, object, Members, put}
use Rattle.serde_json.specs.Find.{get_member, as_str}
use Rattle.sched_calls.specs.declared.spec.FlowSpec.{FlowSpec}
use Rattle.sched_calls.specs.declared.call.Call.{Call}
use Rattle.sched_calls.specs.declared.call.Call.TheVariants.{Admit, Header, Change}
use Rattle.json_fields.specs.Fields.{◌>>=◌, u8_at, u16_at, u32_at, u64_at, number_at, text_at, below}
use Rattle.json_fields.proofs.PlainValues.{found_at}
use Rattle.call_reading.specs.declared.found.Found.{Found}
use Rattle.call_reading.specs.Calls.{flow_of, admit_call, remove_call, amount_of, ask_call, heard_call, build_call}
use Rattle.call_reading.specs.Calls.{skip_call, status_call, usage_of, reserve_call, header_call, replace_call}
use Rattle.call_reading.specs.Calls.{change_call, rest_call, wake_call, call_of}
use Rattle.call_reading.specs.Seen.{whole_in, byte_in, seen_in, seen_with, seen_of, seen_admit, seen_remove}
use Rattle.call_reading.specs.Seen.{seen_amount, seen_ask, seen_heard, seen_build, seen_skip, seen_status, seen_usage}
use Rattle.call_reading.specs.Seen.{seen_reserve, seen_header, seen_replace, seen_change, seen_rest, seen_wake}
use Rattle.call_reading.specs.Seen.{seen_call}

then_made : {B : Type 0} (b : Bool) (x : Data) (o : Option Data) (f : Data → Option B)
    → (cond b (Some x) o >>= f) ≡ (if b then f x else (o >>= f))
then_made true x o f = refl
then_made false x o f = refl

is_there : (b : Bool) (x : Data) (o : Option Data) → is_some (cond b (Some x) o) ≡ (b || is_some o)
is_there true x o = refl
is_there false x o = refl

module _ (k : List ℕ) (d : Data) (ms : Members) where
  under : {B : Type 0} (name : List ℕ) (f : Data → Option B)
      → (get_member name (put k d ms) >>= f) ≡ (if bytes_eq k name then f d else (get_member name ms >>= f))
  under name f = ap (λ o. o >>= f) (found_at (bytes_eq k name) k name d ms refl)
      ∙ then_made (bytes_eq k name) d (get_member name ms) f

  stands : (name : List ℕ) → is_some (get_member name (put k d ms))
      ≡ (bytes_eq k name || is_some (get_member name ms))
  stands name = ap (λ o. is_some o) (found_at (bytes_eq k name) k name d ms refl)
      ∙ is_there (bytes_eq k name) d (get_member name ms)

  -- one member more
  pub seen_in-put : seen_in (put k d ms) ≡ seen_with k d (seen_in ms)
  seen_in-put = λ i. record {
    name = under (codes "call") as_str i;
    sid = under (codes "sid") whole_in i;
    receiver = under (codes "receiver") whole_in i;
    bytes = under (codes "bytes") whole_in i;
    heard = under (codes "heard") whole_in i;
    upto = under (codes "upto") whole_in i;
    time = under (codes "now") whole_in i;
    flow = under (codes "flow") flow_of i;
    usage = under (codes "usage") as_str i;
    slots = under (codes "slots") whole_in i;
    ucd_count = under (codes "ucd_count") byte_in i;
    ranging_start = under (codes "ranging_start") byte_in i;
    ranging_end = under (codes "ranging_end") byte_in i;
    data_start = under (codes "data_start") byte_in i;
    data_end = under (codes "data_end") byte_in i;
    has_bytes = stands (codes "bytes") i;
    has_slots = stands (codes "slots") i;
    opening = stands (codes "config") i;
  }

-- ---- a value under each key

module _ (k : List ℕ) (f : Found) where
  is_key : (name : List ℕ) → bytes_eq k name ≡ true → k ≡ name
  is_key name e = (bytes_eq-Decides k name).0 e

  -- the name of the call under the key `call`
  pub name_with : (s : Bor (List ℕ)) → bytes_eq k (codes "call") ≡ true
      → seen_of (record f { name = Some s }) ≡ seen_with k (string s.now) (seen_of f)
  name_with s e = let is : k ≡ codes "call" = is_key (codes "call") e in rw is refl

  -- a flow under the key `flow`
  pub flow_with : (d : Data) (flow : Option FlowSpec) → flow ≡ flow_of d → bytes_eq k (codes "flow") ≡ true
      → seen_of (record f { flow = flow }) ≡ seen_with k d (seen_of f)
  flow_with d flow made e = let is : k ≡ codes "flow" = is_key (codes "flow") e in rw is (rw made refl)

  -- a SID under the key `sid`
  pub sid_with : (n : ℕ) → bytes_eq k (codes "sid") ≡ true
      → seen_of (record f { sid = Some n }) ≡ seen_with k (number (unsigned n)) (seen_of f)
  sid_with n e = let is : k ≡ codes "sid" = is_key (codes "sid") e in rw is refl

  -- a receiver under the key `receiver`
  pub receiver_with : (n : ℕ) → bytes_eq k (codes "receiver") ≡ true
      → seen_of (record f { receiver = Some n }) ≡ seen_with k (number (unsigned n)) (seen_of f)
  receiver_with n e = let is : k ≡ codes "receiver" = is_key (codes "receiver") e in rw is refl

  -- a count of bytes under the key `bytes`
  pub bytes_with : (n : ℕ) → bytes_eq k (codes "bytes") ≡ true
      → seen_of (record f { bytes = Some n }) ≡ seen_with k (number (unsigned n)) (seen_of f)
  bytes_with n e = let is : k ≡ codes "bytes" = is_key (codes "bytes") e in rw is refl

  -- the minislot at which a request was heard under the key `heard`
  pub heard_with : (n : ℕ) → bytes_eq k (codes "heard") ≡ true
      → seen_of (record f { heard = Some n }) ≡ seen_with k (number (unsigned n)) (seen_of f)
  heard_with n e = let is : k ≡ codes "heard" = is_key (codes "heard") e in rw is refl

  -- the minislot before which all was heard under the key `upto`
  pub upto_with : (n : ℕ) → bytes_eq k (codes "upto") ≡ true
      → seen_of (record f { upto = Some n }) ≡ seen_with k (number (unsigned n)) (seen_of f)
  upto_with n e = let is : k ≡ codes "upto" = is_key (codes "upto") e in rw is refl

  -- the minislot of a call under the key `now`
  pub time_with : (n : ℕ) → bytes_eq k (codes "now") ≡ true
      → seen_of (record f { time = Some n }) ≡ seen_with k (number (unsigned n)) (seen_of f)
  time_with n e = let is : k ≡ codes "now" = is_key (codes "now") e in rw is refl

  -- a value under any other key
  pub other_with : (d : Data) → bytes_eq k (codes "call") ≡ false → bytes_eq k (codes "sid") ≡ false
      → bytes_eq k (codes "receiver") ≡ false → bytes_eq k (codes "bytes") ≡ false
      → bytes_eq k (codes "heard") ≡ false → bytes_eq k (codes "upto") ≡ false → bytes_eq k (codes "now") ≡ false
      → bytes_eq k (codes "flow") ≡ false → bytes_eq k (codes "usage") ≡ false → bytes_eq k (codes "slots") ≡ false
      → bytes_eq k (codes "ucd_count") ≡ false → bytes_eq k (codes "ranging_start") ≡ false
      → bytes_eq k (codes "ranging_end") ≡ false → bytes_eq k (codes "data_start") ≡ false
      → bytes_eq k (codes "data_end") ≡ false → bytes_eq k (codes "config") ≡ false
      → seen_of f ≡ seen_with k d (seen_of f)
  other_with d call sid receiver bytes heard upto time flow usage slots count first last start end config =
      rw (call, sid, receiver, bytes, heard, upto, time, flow) (
      rw (usage, slots, count, first, last, start, end, config) refl)

-- ---- the call

-- a call that the first is, the second is too
abbrev Gives : Option Call → Option Call → Type 0
Gives x y = (call : Call) → x ≡ Some call → y ≡ Some call

as_it_is : (x : Option Call) → Gives x x
as_it_is x call e = e

where_else : (b : Bool) {x xx y yy : Option Call} → Gives x xx → Gives y yy
    → Gives (if b then x else y) (if b then xx else yy)
where_else true f g call e = f call e
where_else false f g call e = g call e

named : (o : Option (List ℕ)) {f g : List ℕ → Option Call} → ((name : List ℕ) → Gives (f name) (g name))
    → Gives (o >>= f) (o >>= g)
named None h call e = absurd (true≢false (sym (ap (λ o. is_some o) e)))
named (Some name) h call e = h name call e

after : {B C : Type 0} (o : Option Data) (f : Data → Option B) (g : B → Option C)
    → ((o >>= f) >>= g) ≡ (o >>= (λ d. f d >>= g))
after None f g = refl
after (Some d) f g = refl

module _ (ms : Members) where
  admits : seen_admit (seen_in ms) ≡ admit_call (object ms)
  unfolding seen_admit admit_call u16_at number_at
  admits = λ i. option_and_then
      (λ sid. after (get_member (codes "flow") ms) flow_of (λ flow. Some (Admit sid flow)) i)
      (u16_at (codes "sid") (object ms))

  changes : seen_change (seen_in ms) ≡ change_call (object ms)
  unfolding seen_change change_call u16_at number_at
  changes = λ i. option_and_then
      (λ sid. after (get_member (codes "flow") ms) flow_of (λ flow. Some (Change sid flow)) i)
      (u16_at (codes "sid") (object ms))

  byte : (k : List ℕ) → u8_at k (object ms) ≡ (get_member k ms >>= byte_in)
  unfolding u8_at number_at
  byte k = after (get_member k ms) whole_in (below (2 ^ 8))

  heads : header_call (object ms) ≡ seen_header (seen_in ms)
  unfolding seen_header header_call
  heads = λ i. option_and_then
      (λ count. option_and_then
      (λ ranging_start. option_and_then
      (λ ranging_end. option_and_then
      (λ data_start. option_and_then
      (λ data_end. Some (Header (record {
        ucd_count = count;
        ranging_start = ranging_start;
        ranging_end = ranging_end;
        data_start = data_start;
        data_end = data_end;
      })))
      (byte (codes "data_end") i))
      (byte (codes "data_start") i))
      (byte (codes "ranging_end") i))
      (byte (codes "ranging_start") i))
      (byte (codes "ucd_count") i)

  -- the call that the members make is the one that the object stands for
  pub seen_call_is : Gives (seen_call (seen_in ms)) (call_of (object ms))
  unfolding seen_call seen_remove seen_amount seen_ask seen_heard seen_build seen_skip seen_status seen_usage
      seen_reserve seen_replace seen_rest seen_wake call_of remove_call amount_of ask_call heard_call build_call
      skip_call status_call usage_of reserve_call replace_call rest_call wake_call u8_at u16_at u32_at u64_at number_at
      text_at
  seen_call_is = named (text_at (codes "call") (object ms))
      (λ name. where_else (bytes_eq name (codes "admit")) (λ call e. sym admits ∙ e)
      (where_else (bytes_eq name (codes "remove")) (as_it_is (remove_call (object ms)))
      (where_else (bytes_eq name (codes "ask")) (as_it_is (ask_call (object ms)))
      (where_else (bytes_eq name (codes "heard")) (as_it_is (heard_call (object ms)))
      (where_else (bytes_eq name (codes "build")) (as_it_is (build_call (object ms)))
      (where_else (bytes_eq name (codes "skip")) (as_it_is (skip_call (object ms)))
      (where_else (bytes_eq name (codes "status")) (as_it_is (status_call (object ms)))
      (where_else (bytes_eq name (codes "reserve")) (as_it_is (reserve_call (object ms)))
      (where_else (bytes_eq name (codes "header")) (λ call e. heads ∙ e)
      (where_else (bytes_eq name (codes "replace")) (as_it_is (replace_call (object ms)))
      (where_else (bytes_eq name (codes "change")) (λ call e. sym changes ∙ e)
      (where_else (bytes_eq name (codes "rest")) (as_it_is (rest_call (object ms)))
      (where_else (bytes_eq name (codes "wake")) (as_it_is (wake_call (object ms)))
      (λ call e. absurd (true≢false (sym (ap (λ o. is_some o) e)))))))))))))))))

  none_of : (o : Option Data) → false ≡ is_some o → o ≡ None
  none_of None e = refl
  none_of (Some d) e = absurd (true≢false (sym e))

  -- where they open nothing, there is no configuration
  pub none_opens : false ≡ (seen_in ms).opening → get_member (codes "config") ms ≡ None
  none_opens e = none_of (get_member (codes "config") ms) e

  -- where none opens, there is no configuration
  pub no_configuration : (f : Found) → seen_of f ≡ seen_in ms → get_member (codes "config") ms ≡ None
  no_configuration f e = none_of (get_member (codes "config") ms) (ap (λ s. s.opening) e)
