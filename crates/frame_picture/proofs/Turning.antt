-- Which flows are unsolicited after one more entry.
use Rattle.std.proofs.Common.{◌≡◌, ℕ, ◌<◌, ◌==◌, Bool, true, false, List, [], ◌∷◌, ◌++◌, length, get_or, set}
use Rattle.std.proofs.Common.{Option, None, Some, refl, sym, ap, ◌∙◌, inl, inr}
use Rattle.std.specs.Option.{option_map}
use Rattle.std.proofs.lemmas.List.{get_or-set_same, get_or-set_other}
use Rattle.std.proofs.lemmas.Bool.{cases_eq, eq-eqb, ne_eqb}
use Rattle.std.specs.Prelude.{if◌then◌else◌}
use Rattle.sched_calls.specs.declared.spec.FlowSpec.{FlowSpec}
use Rattle.sched_calls.specs.declared.call.Call.{Call}
use Rattle.sched_calls.specs.declared.call.Call.TheVariants as calls
use Rattle.sched_calls.specs.declared.reply.Reply.{Reply}
use Rattle.sched_calls.specs.declared.reply.Reply.TheVariants as replies
use Rattle.sched_calls.specs.declared.reply.Entry.{Entry}
use Rattle.sched_history.specs.Life.{Life, Begins, Ends, Turn, turn_by, life_of}
use Rattle.sched_history.proofs.lives.LivesAfter.{with_since, life_of-stays, life_of-begins, life_of-ends}
use Rattle.frame_picture.specs.Frames.{is_unsolicited, is_unsolicited_life, is_unsolicited_after, TellsUnsolicited}
use Rattle.frame_picture.specs.Turns.{turn_of}

-- what is known of a SID after a turn of one
abbrev pub changed_by : Option (ℕ × Bool) → ℕ → Bool → Bool
changed_by None sid before = before
changed_by (Some turn) sid before = if turn.0 == sid then turn.1 else before

-- what is known of a life after a turn of it
abbrev pub turned_by : Option Turn → Bool → Bool
turned_by None before = before
turned_by (Some (Begins admission)) before = is_unsolicited admission.spec
turned_by (Some Ends) before = false

-- a life that goes on is of the same flow
same_flow : (e : Entry) (o : Option Life) → is_unsolicited_life (option_map (with_since e) o) ≡ is_unsolicited_life o
same_flow e None = refl
same_flow e (Some life) = refl

-- what is known of a SID after an entry, by its turn
known_by : (sid : ℕ) (h : List Entry) (e : Entry) (turn : Option Turn) → turn_by sid e.call e.reply ≡ turn
    → is_unsolicited_after (h ++ e ∷ []) sid ≡ turned_by turn (is_unsolicited_after h sid)
known_by sid h e None is = ap is_unsolicited_life (life_of-stays sid h e is) ∙ same_flow e (life_of sid h)
known_by sid h e (Some (Begins admission)) is = ap is_unsolicited_life (life_of-begins sid h e admission is)
known_by sid h e (Some Ends) is = ap is_unsolicited_life (life_of-ends sid h e is)

turned_if : (b : Bool) (turn : Turn) (before : Bool)
    → turned_by (if b then Some turn else None) before ≡ (if b then turned_by (Some turn) before else before)
turned_if true turn before = refl
turned_if false turn before = refl

turned_admit : (sid other : ℕ) (spec : FlowSpec) (reply : Reply) (before : Bool)
    → turned_by (turn_by sid (calls.Admit other spec) reply) before
    ≡ changed_by (turn_of (calls.Admit other spec) reply) sid before
turned_admit sid other spec (replies.Admitted placement) before =
    turned_if (other == sid) (Begins (record { spec = spec; placement = placement })) before
turned_admit sid other spec (replies.Changed placement) before = refl
turned_admit sid other spec replies.Removed before = refl
turned_admit sid other spec replies.Taken before = refl
turned_admit sid other spec replies.Noted before = refl
turned_admit sid other spec replies.Reserved before = refl
turned_admit sid other spec (replies.Built m) before = refl
turned_admit sid other spec (replies.Skipped next) before = refl
turned_admit sid other spec (replies.Flow asked granted outstanding) before = refl
turned_admit sid other spec (replies.Refused refusal) before = refl

turned_remove : (sid other : ℕ) (reply : Reply) (before : Bool)
    → turned_by (turn_by sid (calls.Remove other) reply) before
    ≡ changed_by (turn_of (calls.Remove other) reply) sid before
turned_remove sid other (replies.Admitted placement) before = refl
turned_remove sid other (replies.Changed placement) before = refl
turned_remove sid other replies.Removed before = turned_if (other == sid) Ends before
turned_remove sid other replies.Taken before = refl
turned_remove sid other replies.Noted before = refl
turned_remove sid other replies.Reserved before = refl
turned_remove sid other (replies.Built m) before = refl
turned_remove sid other (replies.Skipped next) before = refl
turned_remove sid other (replies.Flow asked granted outstanding) before = refl
turned_remove sid other (replies.Refused refusal) before = refl

-- the turns of all SIDs are those of one
turned : (sid : ℕ) (call : Call) (reply : Reply) (before : Bool)
    → turned_by (turn_by sid call reply) before ≡ changed_by (turn_of call reply) sid before
turned sid (calls.Admit other spec) reply before = turned_admit sid other spec reply before
turned sid (calls.Remove other) reply before = turned_remove sid other reply before
turned sid (calls.Ask receiver other amount heard) reply before = refl
turned sid (calls.Heard receiver upto) reply before = refl
turned sid (calls.Build now) reply before = refl
turned sid (calls.Skip now) reply before = refl
turned sid (calls.Status other) reply before = refl
turned sid (calls.Reserve usage slots) reply before = refl
turned sid (calls.Header header) reply before = refl
turned sid (calls.Replace receiver other amount heard) reply before = refl
turned sid (calls.Change other spec) reply before = refl
turned sid (calls.Rest other) reply before = refl
turned sid (calls.Wake other) reply before = refl

-- what is known of a SID after an entry
pub known_after : (sid : ℕ) (h : List Entry) (e : Entry)
    → is_unsolicited_after (h ++ e ∷ []) sid ≡ changed_by (turn_of e.call e.reply) sid (is_unsolicited_after h sid)
known_after sid h e =
    known_by sid h e (turn_by sid e.call e.reply) refl ∙ turned sid e.call e.reply (is_unsolicited_after h sid)

-- where an entry is no turn, the same is told
pub tells_still : (flows : List Bool) (h : List Entry) (e : Entry) → turn_of e.call e.reply ≡ None
    → TellsUnsolicited flows h → TellsUnsolicited flows (h ++ e ∷ [])
tells_still flows h e none tells sid below =
    tells sid below
    ∙ sym (known_after sid h e ∙ ap (λ (t : Option (ℕ × Bool)). changed_by t sid (is_unsolicited_after h sid)) none)

-- where it is one, another is told of its SID
pub tells_other : (flows : List Bool) (h : List Entry) (e : Entry) (other : ℕ) (unsolicited : Bool)
    → turn_of e.call e.reply ≡ Some (other, unsolicited) → other < length flows
    → TellsUnsolicited flows h → TellsUnsolicited (set flows other unsolicited) (h ++ e ∷ [])
tells_other flows h e other unsolicited turn inside tells sid below =
    let known : is_unsolicited_after (h ++ e ∷ []) sid
    ≡ (if other == sid then unsolicited else is_unsolicited_after h sid) =
    known_after sid h e ∙ ap (λ (t : Option (ℕ × Bool)). changed_by t sid (is_unsolicited_after h sid)) turn in
    elim (cases_eq other sid) [
      | inl same ↦
          let now : get_or (set flows other unsolicited) sid false ≡ unsolicited =
          ap (λ (k : ℕ). get_or (set flows other unsolicited) k false) (sym same)
          ∙ get_or-set_same flows other unsolicited false inside in
          now ∙ sym (known ∙ ap (λ (b : Bool). if b then unsolicited else is_unsolicited_after h sid)
          (eq-eqb other sid same))
      | inr apart ↦
          get_or-set_other flows other sid unsolicited false (λ (is : sid ≡ other). apart (sym is)) ∙ tells sid below
          ∙ sym (known ∙ ap (λ (b : Bool). if b then unsolicited else is_unsolicited_after h sid)
          (ne_eqb other sid apart))
    ]
