-- What a holder's turn added, from what the desk noted and what the lock tells at the leave.
use Rattle.std.proofs.Common.{◌≡◌, ◌+◌, ◌%◌, ◌^◌, ℕ, Bool, true, false, List, [], ◌∷◌, ◌++◌, map, cond, not, length}
use Rattle.std.proofs.Common.{Result, Ok, Err}
use Rattle.std.proofs.Common.{refl, sym, ap, ◌∙◌, subst, ⊎_elim, eq-eqb}
use Rattle.std.specs.Global.{Vec}
use Rattle.std.proofs.lemmas.List.{append-nil, append_assoc, map-append, append_cancel_left}
use Rattle.std.proofs.lemmas.Option.{same_Some}
use mathlib.Core.List.{cons≢nil}
use Rattle.logbook.specs.Pages.{Book}
use Rattle.minislots.specs.declared.config.Config.{Config}
use Rattle.minislots.specs.declared.stamp.Stamp.{Stamp}
use Rattle.sched_calls.specs.declared.call.Call.{Call}
use Rattle.sched_calls.specs.declared.reply.Entry.{Entry}
use Rattle.sched_calls.specs.declared.reply.Reply.{Reply}
use Rattle.sched_calls.specs.declared.reply.Unrecorded.{Unrecorded}
use Rattle.sched_history.specs.declared.scheduler.handing_over.HandedOver.{HandedOver}
use Rattle.sched_history.specs.History.{IsLegal}
use Rattle.ticket_lock.specs.declared.board.Logged.{Logged}
use Rattle.ticket_lock.specs.Rule.{entry_of, IsOrdered}
use Rattle.ticket_lock.specs.Standing.{Lock, Standing, head_of, opening_of, seats_of, seen, own, made_by, stamp_of}
use Rattle.ticket_lock.specs.Plays.{IsAdded}
use Rattle.ticket_lock.specs.Calls.{Leaves}
use Rattle.sched_desk.specs.declared.event.Event.{Event}
use Rattle.sched_desk.specs.declared.event.Event.TheVariants.{Recorded, Marked}
use Rattle.sched_desk.specs.Events.{author_of, history_in, handed_in, kept_in, nothing_yet, parted_after}
use Rattle.sched_desk.specs.Portions.{Portion, portion_of, portions_of, portions_in}
use Rattle.sched_desk.specs.Desk.{DeskState, FixedDesk, fixed_of, events_of, history_of, machine_of, machine_seen}
use Rattle.sched_desk.specs.Desk.{history_seen, own_entries, own_portions, HasPress, IsDeskLock, SeesLegal}
use Rattle.sched_desk.specs.Calls.{IsEntered, HasCalled, added_by, entry_by, AnswersHeld}
use Rattle.sched_desk.specs.Handing.{HasHandedOver, Gives, marked_by, is_given, mark_by, portion_by, MarksHeld}
use Rattle.sched_desk.specs.Handing.{HandsOverHeld}
use Rattle.sched_desk.specs.Handing.{ForgetsHeld}
use Rattle.sched_desk.proofs.Events.{history_in-append, handed_in-recorded, handed_in-marked}
use Rattle.sched_desk.proofs.Own.{made_by-added, made_by-mark, history_in-added, history_in-mark, own_entries-more}
use Rattle.sched_desk.proofs.Own.{portions_of-append}

-- an entry with this stamp's seat and ticket was added, alone
abbrev IsOneAdded : {E : Type 0} → (E → Stamp) → ℕ → ℕ → List (Logged E) → Type 0
IsOneAdded {E} stamp number ticket more = (e : E) × (more ≡ record { entry = e; ticket = ticket } ∷ [])
    × (stamp e ≡ record { seat = number; ticket = ticket % 2 ^ 64 })

module _ {E : Type 0} (stamp : E → Stamp) (number ticket : ℕ) (opening : List E) (log more : List (Logged E))
    (added : IsAdded stamp number ticket more) where
  -- the entries added are what the list has more
  entries_added : (new : List E) → (opening ++ map entry_of log) ++ new ≡ opening ++ map entry_of (log ++ more)
      → map entry_of more ≡ new
  entries_added new is = append_cancel_left (opening ++ map entry_of log) (map entry_of more) new
      (append_assoc opening (map entry_of log) (map entry_of more)
      ∙ ap (λ (l : List E). opening ++ l) (sym (map-append entry_of log more))
      ∙ sym is)

  -- nothing was added where the list has nothing more
  pub added_nothing : opening ++ map entry_of log ≡ opening ++ map entry_of (log ++ more) → more ≡ []
  added_nothing is = ⊎_elim
      (λ (none_more : more ≡ []). none_more)
      (λ (one : IsOneAdded stamp number ticket more).
      absurd (cons≢nil
      (ap (map entry_of) (sym one.1) ∙ entries_added [] (append-nil (opening ++ map entry_of log) ∙ is))))
      added

  -- and one entry where it has one more, with the holder's whole ticket
  pub added_one : (e : E) → (opening ++ map entry_of log) ++ e ∷ [] ≡ opening ++ map entry_of (log ++ more)
      → more ≡ record { entry = e; ticket = ticket } ∷ []
  added_one e is = ⊎_elim
      (λ (none_more : more ≡ []). absurd (cons≢nil (sym (entries_added (e ∷ []) is) ∙ ap (map entry_of) none_more)))
      (λ (one : IsOneAdded stamp number ticket more).
      one.1
      ∙ ap (λ (l : List E). map (λ y. record { entry = y; ticket = ticket }) l)
      (ap (map entry_of) (sym one.1) ∙ entries_added (e ∷ []) is))
      added

-- a call hands nothing over
handed_in-added : (s : Standing FixedDesk Event) (call : Call) (answer : Result Reply Unrecorded) (xs : List Event)
    → handed_in (xs ++ map entry_of (added_by s call answer)) ≡ handed_in xs
handed_in-added s call (Ok reply) xs =
    handed_in-recorded xs (record { stamp = stamp_of s; call = call; reply = reply })
handed_in-added s call (Err unrecorded) xs = ap handed_in (append-nil xs)

portions_of-added : (s : Standing FixedDesk Event) (call : Call) (answer : Result Reply Unrecorded) (number : ℕ)
    (xs : List Event)
    → portions_of number (portions_in (xs ++ map entry_of (added_by s call answer)))
    ≡ portions_of number (portions_in xs)
portions_of-added s call (Ok reply) number xs =
    portions_of-append number xs (Recorded (record { stamp = stamp_of s; call = call; reply = reply }) ∷ [])
    ∙ append-nil (portions_of number (portions_in xs))
portions_of-added s call (Err unrecorded) number xs =
    ap (λ (l : List Event). portions_of number (portions_in l)) (append-nil xs)

-- a mark hands over all
handed_in-mark : (s : Standing FixedDesk Event) (made : Bool)
    → handed_in (seen s ++ map entry_of (mark_by s made)) ≡ cond made (length (history_seen s)) (handed_in (seen s))
handed_in-mark s true = handed_in-marked (seen s) (stamp_of s)
handed_in-mark s false = ap handed_in (append-nil (seen s))

portions_of-mark : (s : Standing FixedDesk Event) (made : Bool)
    → portions_of s.number (portions_in (seen s ++ map entry_of (mark_by s made)))
    ≡ own_portions s ++ portion_by s made
portions_of-mark s true =
    portions_of-append s.number (seen s) (Marked (stamp_of s) ∷ [])
    ∙ ap (λ b. own_portions s ++ cond b (portion_of s.number (parted_after nothing_yet (seen s)) ∷ []) [])
    (eq-eqb s.number s.number refl)
portions_of-mark s false =
    ap (λ (l : List Event). portions_of s.number (portions_in l)) (append-nil (seen s))
    ∙ sym (append-nil (own_portions s))

module _ (c : Config) (s : Standing FixedDesk Event) (x : DeskState) (w : Standing FixedDesk Event)
    (desk : IsDeskLock c s.lock)
    (left : Leaves author_of fixed_of events_of s x w) where
  -- the desk that the holder entered
  abbrev pub entered : DeskState
  entered = record { config = c; press = desk.press; keeps = desk.keeps; events = seen s }

  -- the list given back, as the log past the opening
  seen_by : events_of x ≡ opening_of s.lock ++ map entry_of (s.log ++ left.more)
  seen_by = left.entries_are ∙ ap seen left.left

  -- what was added is what the answer says
  added_is : (call : Call) (answer : Result Reply Unrecorded) → HasCalled entered (stamp_of s) call x answer
      → left.more ≡ added_by s call answer
  added_is call (Ok reply) told = added_one author_of s.number s.ticket (opening_of s.lock) s.log left.more left.added
      (Recorded (record { stamp = stamp_of s; call = call; reply = reply }))
      (sym (ap events_of told.recorded) ∙ seen_by)
  added_is call (Err unrecorded) told =
      added_nothing author_of s.number s.ticket (opening_of s.lock) s.log left.more left.added
      (sym (ap events_of told.same) ∙ seen_by)

  -- or the mark
  mark_is : (made : Bool) → x ≡ marked_by entered (stamp_of s) made → left.more ≡ mark_by s made
  mark_is true marked = added_one author_of s.number s.ticket (opening_of s.lock) s.log left.more left.added
      (Marked (stamp_of s)) (sym (ap events_of marked) ∙ seen_by)
  mark_is false marked = added_nothing author_of s.number s.ticket (opening_of s.lock) s.log left.more left.added
      (sym (ap events_of marked) ∙ seen_by)

  -- the configuration stays
  config_called : (call : Call) (answer : Result Reply Unrecorded) → HasCalled entered (stamp_of s) call x answer
      → x.config ≡ c
  config_called call (Ok reply) told = ap (λ (d : DeskState). d.config) told.recorded
  config_called call (Err unrecorded) told = ap (λ (d : DeskState). d.config) told.same

  config_marked : (made : Bool) → x ≡ marked_by entered (stamp_of s) made → x.config ≡ c
  config_marked true marked = ap (λ (d : DeskState). d.config) marked
  config_marked false marked = ap (λ (d : DeskState). d.config) marked

  module _ (more : List (Logged Event)) (more_is : left.more ≡ more) where
    left_is : w ≡ record s { log = s.log ++ more; ticket = 0; turns = s.turns + 1 }
    left_is = left.left
        ∙ ap (λ (l : List (Logged Event)). record s { log = s.log ++ l; ticket = 0; turns = s.turns + 1 }) more_is

    -- what the seat has seen afterwards
    seen_is : seen w ≡ seen s ++ map entry_of more
    seen_is = ap seen left_is
        ∙ ap (λ (l : List Event). opening_of s.lock ++ l) (map-append entry_of s.log more)
        ∙ sym (append_assoc (opening_of s.lock) (map entry_of s.log) (map entry_of more))

    history_more : history_seen w ≡ history_seen s ++ history_in (map entry_of more)
    history_more = ap history_in seen_is ∙ history_in-append (seen s) (map entry_of more)

    own_more : made_by author_of s.number more ≡ more → own_entries w ≡ own_entries s ++ history_in (map entry_of more)
    own_more is =
        own_entries-more s w more (ap (own author_of) left_is)
        ∙ ap (λ (l : List (Logged Event)). own_entries s ++ history_in (map entry_of l)) is

    number_is : w.number ≡ s.number
    number_is = ap (λ (z : Standing FixedDesk Event). z.number) left_is

    portions_more : own_portions w ≡ portions_of s.number (portions_in (seen s ++ map entry_of more))
    portions_more = λ i. portions_of (number_is i) (portions_in (seen_is i))

    sees : x.config ≡ c → IsLegal x.config (history_of x) → SeesLegal c w (s.ticket + 1)
    sees config legal =
        let lock : w.lock ≡ s.lock = ap (λ (z : Standing FixedDesk Event). z.lock) left.left in record {
          in_order = (
            ap (λ (l : List Event). history_in (l ++ map entry_of w.log)) (ap opening_of lock ∙ desk.opening_is),
            subst (λ (y : ℕ × ℕ). IsOrdered author_of y.0 y.1 w.log (s.ticket + 1))
                (λ i. (desk.first_is i, seats_of (sym lock i))) left.ordered,
          );
          legal = subst (λ (y : Config × List Entry). IsLegal y.0 y.1)
              (λ i. (config i, history_in (left.entries_are i))) legal;
        }

  -- the holder's call was answered
  pub answers : (call : Call) (answer : Result Reply Unrecorded) → HasCalled entered (stamp_of s) call x answer
      → AnswersHeld c s call w answer
  answers call answer told =
      let more = added_by s call answer in
      let is = added_is call answer told in record {
        left = left_is more is;
        history_is = history_more more is
            ∙ ap (λ (l : List Entry). history_seen s ++ l) (history_in-added s call answer);
        own_is = own_more more is (made_by-added s call answer)
            ∙ ap (λ (l : List Entry). own_entries s ++ l) (history_in-added s call answer);
        handed_is = ap handed_in (seen_is more is) ∙ handed_in-added s call answer (seen s);
        portions_are = portions_more more is ∙ portions_of-added s call answer s.number (seen s);
        sees = sees more is (config_called call answer told) told.legal;
        step = told.step;
        encodable = told.encodable;
        full = told.full;
        whole = told.whole;
        memory = told.memory;
      }

  -- the holder made a mark, or none
  pub marks : (made : Bool) → IsLegal x.config (history_of x) → x ≡ marked_by entered (stamp_of s) made
      → MarksHeld c s made w
  marks made legal marked =
      let more = mark_by s made in
      let is = mark_is made marked in record {
        left = left_is more is;
        history_is = history_more more is
            ∙ ap (λ (l : List Entry). history_seen s ++ l) (history_in-mark s made)
            ∙ append-nil (history_seen s);
        own_is = own_more more is (made_by-mark s made)
            ∙ ap (λ (l : List Entry). own_entries s ++ l) (history_in-mark s made)
            ∙ append-nil (own_entries s);
        handed_is = ap handed_in (seen_is more is) ∙ handed_in-mark s made;
        portions_are = portions_more more is ∙ portions_of-mark s made;
        sees = sees more is (config_marked made marked) legal;
      }

module _ (c : Config) (lock : Lock FixedDesk Event) (s : Standing FixedDesk Event) (d : DeskState)
    (round : IsDeskLock c lock) (of_lock : s.lock ≡ lock) (entered_is : IsEntered s d) where
  -- the lock of the holder's seat is one round a desk
  abbrev desk_round : IsDeskLock c s.lock
  desk_round = subst (IsDeskLock c) (sym of_lock) round

  fixed_is : fixed_of d ≡ record { config = c; press = desk_round.press; keeps = desk_round.keeps }
  fixed_is = same_Some (fixed_of d) (record { config = c; press = desk_round.press; keeps = desk_round.keeps })
      (entered_is.head_is ∙ desk_round.head_is)

  -- the desk is the one entered
  here : d ≡ record { config = c; press = desk_round.press; keeps = desk_round.keeps; events = seen s }
  here = λ i. record {
    config = (fixed_is i).config;
    press = (fixed_is i).press;
    keeps = (fixed_is i).keeps;
    events = entered_is.entries_are i;
  }

  -- its scheduler is what its holder has seen
  pub scheduler_entered : machine_of d ≡ machine_seen c s
  scheduler_entered = ap machine_of here

  module _ (w : Standing FixedDesk Event) (x : DeskState) (stamp : Stamp) (stamped : stamp ≡ stamp_of s)
      (left : Leaves author_of fixed_of events_of s x w) where
    -- the call of a holder at the desk that it entered, which has given back what the call left
    pub answers_entered : (call : Call) (answer : Result Reply Unrecorded) → HasCalled d stamp call x answer
        → AnswersHeld c s call w answer
    answers_entered call answer told = answers c s x w desk_round left call answer
        (subst (λ (y : DeskState × Stamp). HasCalled y.0 y.1 call x answer) (λ i. (here i, stamped i)) told)

    -- a holder that changed nothing
    pub leaves_entered : x ≡ d → IsLegal x.config (history_of x) → MarksHeld c s false w
    leaves_entered same legal = marks c s x w desk_round left false legal (same ∙ here)

    module _ (keeps : Bool) (press : Book) (has : HasPress c press keeps lock) where
      keeps_is : d.keeps ≡ keeps
      keeps_is = ap (λ (f : FixedDesk). f.keeps)
          (same_Some (fixed_of d) (record { config = c; press = press; keeps = keeps })
          (entered_is.head_is ∙ ap head_of of_lock ∙ has))

      -- the hand-over of a holder
      pub hands_over_entered : (room : Vec Entry) (answer : Result HandedOver (Vec Entry))
          → HasHandedOver d stamp room x answer → IsLegal x.config (history_of x)
          → HandsOverHeld c s keeps room w answer
      hands_over_entered room answer told legal = record {
        gives = subst (λ (y : Config × Bool × List Event). Gives y.0 y.1 y.2 room answer)
            (λ i. ((fixed_is i).config, keeps_is i, entered_is.entries_are i)) told.gives;
        marks = marks c s x w desk_round left (is_given answer) legal
            (subst (λ (y : DeskState × Stamp). x ≡ marked_by y.0 y.1 (is_given answer)) (λ i. (here i, stamped i))
            told.marked);
      }

      -- what a holder let go of
      pub forgets_entered : (done : Bool) → done ≡ not d.keeps → x ≡ marked_by d stamp done
          → IsLegal x.config (history_of x) → ForgetsHeld c s keeps w done
      forgets_entered done exact marked legal = record {
        exact = exact ∙ ap not keeps_is;
        marks = marks c s x w desk_round left done legal
            (subst (λ (y : DeskState × Stamp). x ≡ marked_by y.0 y.1 done) (λ i. (here i, stamped i)) marked);
      }
