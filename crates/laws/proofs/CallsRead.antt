-- The numbers of a call that was read fit the types of their fields.
use Rattle.std.proofs.Common.{◌≡◌, ℕ, ◌^◌, ◌<◌, Bool, true, false, cond, nat_lt, List, length, Option, Some, None}
use Rattle.std.proofs.Common.{refl, arith}
use Rattle.std.specs.Prelude.{IfSome, codes, bytes_eq, is_some}
use Rattle.std.specs.Result.{result_ok}
use Rattle.std.proofs.lemmas.Bool.Decides.{nat_tests}
use Rattle.serde_json.specs.Data.{Data}
use Rattle.serde_json.specs.Find.{get}
use Rattle.sched_calls.specs.declared.opportunity.Usage.{Usage}
use Rattle.sched_calls.specs.declared.opportunity.Usage.TheVariants.{Initial, InitialTo, Station}
use Rattle.sched_calls.specs.declared.opportunity.Usage.TheVariants.{Request, Quiet, DataTo}
use Rattle.sched_calls.specs.declared.call.Call.TheVariants.{Reserve}
use Rattle.sched_calls.specs.declared.reply.Entry.{Entry}
use Rattle.json_fields.specs.Fields.{◌>>=◌, below, number_at, u8_at, u16_at, u32_at, u64_at, text_at, or_number, u8_or}
use Rattle.json_fields.specs.Fields.{u32_or}
use Rattle.call_reading.specs.Calls.{unsolicited_of, polled_of, best_effort_of, flow_of, admit_call, remove_call}
use Rattle.call_reading.specs.Calls.{amount_of, ask_call, heard_call, build_call, skip_call, status_call}
use Rattle.call_reading.specs.Calls.{usage_to, usage_of, reserve_call, header_call, replace_call, change_call}
use Rattle.call_reading.specs.Calls.{rest_call, wake_call, call_of}
use Rattle.text_stream.specs.Input.{value_of}
use Rattle.text_stream.specs.declared.TheConstants.{MAX_LINE}
use Rattle.history_writing.specs.Fits.{FlowFits, AmountFits, CallFits}
use Rattle.history_reading.specs.Replies.{reply_of, entry_of}
use Rattle.history_reading.specs.Recorded.{entry_in}
use Rattle.journal_entries.specs.Standing.{entry_in_line}

-- what is made of a value of which something holds
bind : {A B : Type 0} (P : A → Type 0) (Q : B → Type 0) (o : Option A) (f : A → Option B) → IfSome o P
    → ((x : A) → P x → IfSome (f x) Q) → IfSome (o >>= f) Q
bind P Q (Some x) f first next = next x first
bind P Q None f first next = tt

-- what is made of a value that may be any
then_any : {A B : Type 0} (Q : B → Type 0) (o : Option A) (f : A → Option B) → ((x : A) → IfSome (f x) Q)
    → IfSome (o >>= f) Q
then_any Q (Some x) f next = next x
then_any Q None f next = tt

either : {A : Type 0} (P : A → Type 0) (b : Bool) (x y : Option A) → IfSome x P → IfSome y P → IfSome (cond b x y) P
either P true x y p q = p
either P false x y p q = q

-- the number is below the limit
abbrev IsBelow : ℕ → ℕ → Type 0
IsBelow limit n = n < limit

below-if : (limit n : ℕ) (b : Bool) → nat_lt n limit ≡ b → IfSome (cond b (Some n) None) (IsBelow limit)
below-if limit n true is = grind (arith, nat_tests)
below-if limit n false is = tt

below-limit : (limit : ℕ) (o : Option ℕ) → IfSome (o >>= below limit) (IsBelow limit)
below-limit limit (Some n) = below-if limit n (nat_lt n limit) refl
below-limit limit None = tt

u8_at-below : (key : List ℕ) (d : Data) → IfSome (u8_at key d) (IsBelow (2 ^ 8))
unfolding u8_at
u8_at-below key d = below-limit (2 ^ 8) (number_at key d)

u16_at-below : (key : List ℕ) (d : Data) → IfSome (u16_at key d) (IsBelow (2 ^ 16))
unfolding u16_at
u16_at-below key d = below-limit (2 ^ 16) (number_at key d)

u32_at-below : (key : List ℕ) (d : Data) → IfSome (u32_at key d) (IsBelow (2 ^ 32))
unfolding u32_at
u32_at-below key d = below-limit (2 ^ 32) (number_at key d)

u64_at-below : (key : List ℕ) (d : Data) → IfSome (u64_at key d) (IsBelow (2 ^ 64))
unfolding u64_at
u64_at-below key d = below-limit (2 ^ 64) (number_at key d)

or-below : (limit missing : ℕ) (found : Option Data) (there : Option ℕ) → missing < limit
    → IfSome there (IsBelow limit) → IfSome (or_number missing found there) (IsBelow limit)
or-below limit missing None there least small = least
or-below limit missing (Some found) there least small = small

u8_or-below : (key : List ℕ) (d : Data) → IfSome (u8_or 1 key d) (IsBelow (2 ^ 8))
unfolding u8_or
u8_or-below key d = or-below (2 ^ 8) 1 (get key d) (u8_at key d) (omega arith) (u8_at-below key d)

u32_or-below : (key : List ℕ) (d : Data) → IfSome (u32_or 0 key d) (IsBelow (2 ^ 32))
unfolding u32_or
u32_or-below key d = or-below (2 ^ 32) 0 (get key d) (u32_at key d) (omega arith) (u32_at-below key d)

unsolicited-fits : (d : Data) → IfSome (unsolicited_of d) FlowFits
unfolding unsolicited_of
unsolicited-fits d =
    bind _ _ (u32_at (codes "size") d) _ (u32_at-below (codes "size") d) (λ size a.
    bind _ _ (u32_at (codes "interval_us") d) _ (u32_at-below (codes "interval_us") d) (λ interval b.
    bind _ _ (u32_at (codes "jitter_us") d) _ (u32_at-below (codes "jitter_us") d) (λ jitter e.
    bind _ _ (u8_or 1 (codes "grants") d) _ (u8_or-below (codes "grants") d) (λ grants f. (a, b, e, f)))))

polled-fits : (d : Data) → IfSome (polled_of d) FlowFits
unfolding polled_of
polled-fits d =
    bind _ _ (u32_at (codes "interval_us") d) _ (u32_at-below (codes "interval_us") d) (λ interval a.
    bind _ _ (u32_at (codes "jitter_us") d) _ (u32_at-below (codes "jitter_us") d) (λ jitter b.
    bind _ _ (u32_at (codes "rate") d) _ (u32_at-below (codes "rate") d) (λ rate e.
    bind _ _ (u32_at (codes "burst") d) _ (u32_at-below (codes "burst") d) (λ burst f.
    bind _ _ (u32_or 0 (codes "peak") d) _ (u32_or-below (codes "peak") d) (λ peak g. (a, b, e, f, g))))))

best_effort-fits : (d : Data) → IfSome (best_effort_of d) FlowFits
unfolding best_effort_of
best_effort-fits d =
    bind _ _ (u8_at (codes "priority") d) _ (u8_at-below (codes "priority") d) (λ priority a.
    bind _ _ (u32_at (codes "rate") d) _ (u32_at-below (codes "rate") d) (λ rate b.
    bind _ _ (u32_at (codes "burst") d) _ (u32_at-below (codes "burst") d) (λ burst e.
    bind _ _ (u32_or 0 (codes "peak") d) _ (u32_or-below (codes "peak") d) (λ peak f.
    bind _ _ (u32_or 0 (codes "reserved") d) _ (u32_or-below (codes "reserved") d) (λ reserved g.
    bind _ _ (u32_or 0 (codes "reserved_burst") d) _ (u32_or-below (codes "reserved_burst") d) (λ reserved-burst h.
    (a, b, e, f, g, h)))))))

flow-fits : (d : Data) → IfSome (flow_of d) FlowFits
unfolding flow_of
flow-fits d =
    then_any FlowFits (text_at (codes "kind") d) _ (λ kind.
    either FlowFits (bytes_eq kind (codes "unsolicited")) (unsolicited_of d) _ (unsolicited-fits d)
    (either FlowFits (bytes_eq kind (codes "polled")) (polled_of d) _ (polled-fits d)
    (either FlowFits (bytes_eq kind (codes "best_effort")) (best_effort_of d) None (best_effort-fits d) tt)))

admit-fits : (d : Data) → IfSome (admit_call d) CallFits
unfolding admit_call
admit-fits d =
    bind _ _ (u16_at (codes "sid") d) _ (u16_at-below (codes "sid") d) (λ sid small.
    then_any CallFits (get (codes "flow") d) _ (λ found.
    bind FlowFits CallFits (flow_of found) _ (flow-fits found) (λ flow fits. (small, fits))))

remove-fits : (d : Data) → IfSome (remove_call d) CallFits
unfolding remove_call
remove-fits d = bind _ _ (u16_at (codes "sid") d) _ (u16_at-below (codes "sid") d) (λ sid small. small)

amount-fits : (d : Data) → IfSome (amount_of d) AmountFits
unfolding amount_of
amount-fits d =
    either AmountFits (is_some (get (codes "slots") d)) _ _
    (either AmountFits (is_some (get (codes "bytes") d)) None _ tt
    (bind _ AmountFits (u32_at (codes "slots") d) _ (u32_at-below (codes "slots") d) (λ slots small. small)))
    (bind _ AmountFits (u32_at (codes "bytes") d) _ (u32_at-below (codes "bytes") d) (λ bytes small. small))

ask-fits : (d : Data) → IfSome (ask_call d) CallFits
unfolding ask_call
ask-fits d =
    bind _ CallFits (u8_at (codes "receiver") d) _ (u8_at-below (codes "receiver") d) (λ receiver a.
    bind _ CallFits (u16_at (codes "sid") d) _ (u16_at-below (codes "sid") d) (λ sid b.
    bind AmountFits CallFits (amount_of d) _ (amount-fits d) (λ amount e.
    bind _ CallFits (u64_at (codes "heard") d) _ (u64_at-below (codes "heard") d) (λ heard f. (a, b, e, f)))))

heard-fits : (d : Data) → IfSome (heard_call d) CallFits
unfolding heard_call
heard-fits d =
    bind _ _ (u8_at (codes "receiver") d) _ (u8_at-below (codes "receiver") d) (λ receiver a.
    bind _ _ (u64_at (codes "upto") d) _ (u64_at-below (codes "upto") d) (λ upto b. (a, b)))

build-fits : (d : Data) → IfSome (build_call d) CallFits
unfolding build_call
build-fits d = bind _ _ (u64_at (codes "now") d) _ (u64_at-below (codes "now") d) (λ now small. small)

skip-fits : (d : Data) → IfSome (skip_call d) CallFits
unfolding skip_call
skip-fits d = bind _ _ (u64_at (codes "now") d) _ (u64_at-below (codes "now") d) (λ now small. small)

status-fits : (d : Data) → IfSome (status_call d) CallFits
unfolding status_call
status-fits d = bind _ _ (u16_at (codes "sid") d) _ (u16_at-below (codes "sid") d) (λ sid small. small)

-- the SID of a usage fits, where it has one
abbrev UsageFits : Usage → Type 0
UsageFits Initial = Unit {0}
UsageFits (InitialTo sid) = sid < 2 ^ 16
UsageFits (Station sid) = sid < 2 ^ 16
UsageFits (Request sid) = sid < 2 ^ 16
UsageFits Quiet = Unit {0}
UsageFits (DataTo sid) = sid < 2 ^ 16

usage_to-fits : (usage : List ℕ) (sid : ℕ) → sid < 2 ^ 16 → IfSome (usage_to usage sid) UsageFits
usage_to-fits usage sid small =
    either UsageFits (bytes_eq usage (codes "initial_to")) (Some (InitialTo sid)) _ small
    (either UsageFits (bytes_eq usage (codes "station")) (Some (Station sid)) _ small
    (either UsageFits (bytes_eq usage (codes "request")) (Some (Request sid)) _ small
    (either UsageFits (bytes_eq usage (codes "data")) (Some (DataTo sid)) None small tt)))

usage-fits : (d : Data) → IfSome (usage_of d) UsageFits
unfolding usage_of
usage-fits d =
    then_any UsageFits (text_at (codes "usage") d) _ (λ usage.
    either UsageFits (bytes_eq usage (codes "initial")) (Some Initial) _ tt
    (either UsageFits (bytes_eq usage (codes "quiet")) (Some Quiet) _ tt
    (bind _ UsageFits (u16_at (codes "sid") d) _ (u16_at-below (codes "sid") d) (usage_to-fits usage))))

reserved-fits : (usage : Usage) (slots : ℕ) → UsageFits usage → slots < 2 ^ 32 → CallFits (Reserve usage slots)
reserved-fits Initial slots fits small = small
reserved-fits (InitialTo sid) slots fits small = (fits, small)
reserved-fits (Station sid) slots fits small = (fits, small)
reserved-fits (Request sid) slots fits small = (fits, small)
reserved-fits Quiet slots fits small = small
reserved-fits (DataTo sid) slots fits small = (fits, small)

reserve-fits : (d : Data) → IfSome (reserve_call d) CallFits
unfolding reserve_call
reserve-fits d =
    bind UsageFits CallFits (usage_of d) _ (usage-fits d) (λ usage fits.
    bind _ CallFits (u32_at (codes "slots") d) _ (u32_at-below (codes "slots") d) (λ slots small.
    reserved-fits usage slots fits small))

header-fits : (d : Data) → IfSome (header_call d) CallFits
unfolding header_call
header-fits d =
    bind _ _ (u8_at (codes "ucd_count") d) _ (u8_at-below (codes "ucd_count") d) (λ count a.
    bind _ _ (u8_at (codes "ranging_start") d) _ (u8_at-below (codes "ranging_start") d) (λ first b.
    bind _ _ (u8_at (codes "ranging_end") d) _ (u8_at-below (codes "ranging_end") d) (λ last e.
    bind _ _ (u8_at (codes "data_start") d) _ (u8_at-below (codes "data_start") d) (λ from f.
    bind _ _ (u8_at (codes "data_end") d) _ (u8_at-below (codes "data_end") d) (λ to g. (a, b, e, f, g))))))

replace-fits : (d : Data) → IfSome (replace_call d) CallFits
unfolding replace_call
replace-fits d =
    bind _ CallFits (u8_at (codes "receiver") d) _ (u8_at-below (codes "receiver") d) (λ receiver a.
    bind _ CallFits (u16_at (codes "sid") d) _ (u16_at-below (codes "sid") d) (λ sid b.
    bind AmountFits CallFits (amount_of d) _ (amount-fits d) (λ amount e.
    bind _ CallFits (u64_at (codes "heard") d) _ (u64_at-below (codes "heard") d) (λ heard f. (a, b, e, f)))))

change-fits : (d : Data) → IfSome (change_call d) CallFits
unfolding change_call
change-fits d =
    bind _ _ (u16_at (codes "sid") d) _ (u16_at-below (codes "sid") d) (λ sid small.
    then_any CallFits (get (codes "flow") d) _ (λ found.
    bind FlowFits CallFits (flow_of found) _ (flow-fits found) (λ flow fits. (small, fits))))

rest-fits : (d : Data) → IfSome (rest_call d) CallFits
unfolding rest_call
rest-fits d = bind _ _ (u16_at (codes "sid") d) _ (u16_at-below (codes "sid") d) (λ sid small. small)

wake-fits : (d : Data) → IfSome (wake_call d) CallFits
unfolding wake_call
wake-fits d = bind _ _ (u16_at (codes "sid") d) _ (u16_at-below (codes "sid") d) (λ sid small. small)

-- the numbers of a call that was read fit
pub call_of-fits : (d : Data) → IfSome (call_of d) CallFits
unfolding call_of
call_of-fits d =
    then_any CallFits (text_at (codes "call") d) _ (λ name.
    either CallFits (bytes_eq name (codes "admit")) (admit_call d) _ (admit-fits d)
    (either CallFits (bytes_eq name (codes "remove")) (remove_call d) _ (remove-fits d)
    (either CallFits (bytes_eq name (codes "ask")) (ask_call d) _ (ask-fits d)
    (either CallFits (bytes_eq name (codes "heard")) (heard_call d) _ (heard-fits d)
    (either CallFits (bytes_eq name (codes "build")) (build_call d) _ (build-fits d)
    (either CallFits (bytes_eq name (codes "skip")) (skip_call d) _ (skip-fits d)
    (either CallFits (bytes_eq name (codes "status")) (status_call d) _ (status-fits d)
    (either CallFits (bytes_eq name (codes "reserve")) (reserve_call d) _ (reserve-fits d)
    (either CallFits (bytes_eq name (codes "header")) (header_call d) _ (header-fits d)
    (either CallFits (bytes_eq name (codes "replace")) (replace_call d) _ (replace-fits d)
    (either CallFits (bytes_eq name (codes "change")) (change_call d) _ (change-fits d)
    (either CallFits (bytes_eq name (codes "rest")) (rest_call d) _ (rest-fits d)
    (either CallFits (bytes_eq name (codes "wake")) (wake_call d) None (wake-fits d) tt)))))))))))))

-- the numbers of an entry's call fit
abbrev HasFittingCall : Entry → Type 0
HasFittingCall e = CallFits e.call

entry_of-fits : (d : Data) → IfSome (entry_of d) HasFittingCall
unfolding entry_of
entry_of-fits d =
    then_any HasFittingCall (u32_at (codes "seat") d) _ (λ seat.
    then_any HasFittingCall (u64_at (codes "ticket") d) _ (λ ticket.
    bind CallFits HasFittingCall (get (codes "call") d >>= call_of) _
    (then_any CallFits (get (codes "call") d) call_of call_of-fits) (λ call fits.
    then_any HasFittingCall (get (codes "reply") d >>= reply_of) _ (λ reply. fits))))

entry_in-fits : (line : List ℕ) → IfSome (entry_in line) HasFittingCall
unfolding entry_in
entry_in-fits line = then_any HasFittingCall (result_ok (value_of line)) entry_of entry_of-fits

-- so do those of the entry that a line stands for
pub entry_in_line-fits : (line : List ℕ) → IfSome (entry_in_line line) (λ e. CallFits e.call)
entry_in_line-fits line =
    either HasFittingCall (nat_lt MAX_LINE (length line)) None (entry_in line) tt (entry_in-fits line)
