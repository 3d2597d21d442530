-- What follows where the scheduler and the notes of a desk agree.
use Rattle.std.proofs.Common.{◌≡◌, ◌≤◌, ◌↔◌, ◌+◌, ℕ, Bool, true, false, List, [], ◌∷◌, ◌++◌, map, length, slice_get}
use Rattle.std.proofs.Common.{Option, Some}
use Rattle.std.proofs.Common.{None, Result, Ok, Err, IfOk, IfErr, OnOk, OnErr, IsOk, IsErrOf, true≢false, refl, sym, ap}
use Rattle.std.proofs.Common.{◌∙◌, subst}
use Rattle.std.specs.Prelude.{option_map, vec_capacity}
use Rattle.std.specs.Global.{Vec}
use Rattle.std.specs.List.{AllByRecursion}
use Rattle.std.proofs.lemmas.Option.{slice_get-map}
use Rattle.minislots.specs.declared.config.Config.{Config}
use Rattle.minislots.specs.declared.stamp.Stamp.{Stamp}
use Rattle.sched_calls.specs.declared.call.Call.{Call}
use Rattle.sched_calls.specs.declared.reply.Entry.{Entry}
use Rattle.sched_calls.specs.declared.reply.Reply.{Reply}
use Rattle.sched_calls.specs.declared.reply.Unrecorded.{Unrecorded}
use Rattle.sched_calls.specs.declared.reply.Unrecorded.TheVariants.{HistoryFull, Memory}
use Rattle.sched_history.specs.declared.scheduler.handing_over.HandedOver.{HandedOver}
use Rattle.sched_history.specs.History.{IsStep, IsLegal}
use Rattle.sched_history.specs.Machine.{Machine, kept_of, is_full, MayLackMemory}
use Rattle.sched_calls.specs.Reply.{IsEncodable}
use Rattle.sched_desk.specs.declared.event.Event.{Event}
use Rattle.sched_desk.specs.declared.event.Event.TheVariants.{Recorded, Marked}
use Rattle.sched_desk.specs.Calls.{grown, HasAnswered, HasCalled}
use Rattle.sched_desk.specs.Desk.{Recording, Docketed, DeskState, Agrees, desk_of, machine_of, history_of}
use Rattle.sched_desk.specs.Events.{author_of, maker_of, history_in, handed_in, kept_in, machine_in}
use Rattle.sched_desk.specs.Handing.{HasHandedOver, marked_by, is_given}
use Rattle.sched_desk.proofs.Events.{kept_of-machine, machine_in-recorded, machine_in-marked, handed_in-recorded}

stamp_of_some : (o : Option Entry)
    → option_map author_of (option_map Recorded o) ≡ option_map maker_of o
stamp_of_some (Some e) = refl
stamp_of_some None = refl

-- the stamp of a kept event is that of its entry
pub stamp-kept : (l : List Entry) (i : ℕ)
    → option_map author_of (slice_get (map Recorded l) i) ≡ option_map maker_of (slice_get l i)
stamp-kept l i =
    ap (option_map author_of) (slice_get-map Recorded l i) ∙ stamp_of_some (slice_get l i)

module _ (r : Recording) (noted : Docketed) (agrees : Agrees r noted) where
  -- what is kept is that of the events
  pub kept-agreed : kept_of r.machine ≡ kept_in noted.events
  kept-agreed = ap kept_of agrees.machine_is ∙ kept_of-machine r.machine.config noted.events

  -- and the scheduler is that of the desk
  pub machine-agreed : machine_of (desk_of r noted) ≡ r.machine
  machine-agreed = sym agrees.machine_is

  module _ (stamp : Stamp) (call : Call) (x : Recording) where
    abbrev noting : Reply → Docketed
    noting reply = record noted {
      events = noted.events ++ Recorded (record { stamp = stamp; call = call; reply = reply }) ∷ [];
    }

    grown_is : (reply : Reply) → x.machine ≡ grown r.machine stamp call reply
        → x.machine ≡ machine_in r.machine.config (noting reply).events
    grown_is reply recorded =
        recorded ∙ ap (λ (m : Machine). grown m stamp call reply) agrees.machine_is
        ∙ sym (machine_in-recorded r.machine.config noted.events (record { stamp = stamp; call = call; reply = reply }))

    -- after a call that was recorded and noted they agree
    pub agrees-recorded : (reply : Reply) → x.machine ≡ grown r.machine stamp call reply → Agrees x (noting reply)
    agrees-recorded reply recorded =
        let config = ap (λ (m : Machine). m.config) (grown_is reply recorded) in record {
          machine_is = grown_is reply recorded
              ∙ ap (λ (c : Config). machine_in c (noting reply).events) (sym config);
          whole = λ keeps.
              handed_in-recorded noted.events (record { stamp = stamp; call = call; reply = reply })
              ∙ agrees.whole keeps;
        }

    -- after one that was not recorded too
    pub agrees-same : x.machine ≡ r.machine → Agrees x noted
    agrees-same same = record {
      machine_is = same ∙ agrees.machine_is ∙ ap (λ (m : Machine). machine_in m.config noted.events) (sym same);
      whole = agrees.whole;
    }

    module _ (press : x.press ≡ r.press) where
      desk_recorded : (reply : Reply) → x.machine ≡ grown r.machine stamp call reply
          → desk_of x (noting reply) ≡ record (desk_of r noted) { events = (noting reply).events }
      desk_recorded reply recorded = λ i. record {
        config = (recorded i).config;
        press = press i;
        keeps = noted.keeps;
        events = (noting reply).events;
      }

      desk_same : x.machine ≡ r.machine → desk_of x noted ≡ desk_of r noted
      desk_same same = λ i. desk_of (record { machine = same i; press = press i }) noted

      -- what the scheduler tells of a call that was recorded, the desk tells
      pub called-ok : (reply : Reply) → HasAnswered r.machine stamp call x.machine (Ok reply)
          → HasCalled (desk_of r noted) stamp call (desk_of x (noting reply)) (Ok reply)
      called-ok reply told =
          let here = subst (λ (m : Machine). HasAnswered m stamp call x.machine (Ok reply)) agrees.machine_is told in
          let after = agrees-recorded reply told.recorded in record {
            recorded = desk_recorded reply told.recorded;
            same = tt;
            step = here.step;
            encodable = here.encodable;
            full = here.full;
            whole = here.whole;
            memory = here.memory;
            legal = subst (λ (m : Machine). IsLegal x.machine.config m.history) after.machine_is told.legal;
          }

      -- and of one that was not
      pub called-err : (unrecorded : Unrecorded) → HasAnswered r.machine stamp call x.machine (Err unrecorded)
          → HasCalled (desk_of r noted) stamp call (desk_of x noted) (Err unrecorded)
      called-err unrecorded told =
          let here = subst (λ (m : Machine). HasAnswered m stamp call x.machine (Err unrecorded)) agrees.machine_is
          told in
          let after = agrees-same told.same in record {
            recorded = tt;
            same = desk_same told.same;
            step = tt;
            encodable = tt;
            full = here.full;
            whole = here.whole;
            memory = here.memory;
            legal = subst (λ (m : Machine). IsLegal x.machine.config m.history) after.machine_is told.legal;
          }

  module _ (stamp : Stamp) (x : Recording) (press : x.press ≡ r.press) where
    abbrev marking : Docketed
    marking = record noted { events = noted.events ++ Marked stamp ∷ [] }

    module _ (handed : x.machine ≡ record r.machine { handed = length r.machine.history }) where
      marked_is : x.machine ≡ machine_in r.machine.config marking.events
      marked_is =
          handed
          ∙ ap (λ (m : Machine). record m { handed = length m.history }) agrees.machine_is
          ∙ sym (machine_in-marked r.machine.config noted.events stamp)

      -- after what is kept was handed over, under a mark, they agree
      pub agrees-marked : noted.keeps ≡ false → Agrees x marking
      agrees-marked free = record {
        machine_is = marked_is
            ∙ ap (λ (m : Machine). machine_in m.config marking.events) (sym handed);
        whole = λ keeps. absurd (true≢false (sym keeps ∙ free));
      }

      -- their desk is the one before, with that mark
      pub desk_marked : desk_of x marking ≡ marked_by (desk_of r noted) stamp true
      desk_marked = λ i. record {
        config = (handed i).config;
        press = press i;
        keeps = noted.keeps;
        events = marking.events;
      }

      -- what was legal is legal
      pub legal-marked : IsLegal r.machine.config r.machine.history
          → IsLegal x.machine.config (history_in marking.events)
      legal-marked lawful = subst (λ (y : Config × List Entry). IsLegal y.0 y.1)
          (λ i. ((sym handed i).config, ((sym handed ∙ marked_is) i).history)) lawful

      -- what the scheduler hands over, the desk does
      pub gave : (given : HandedOver) (room : Vec Entry) → noted.keeps ≡ false
          → given.entries.items ≡ kept_of r.machine → given.first ≡ r.machine.handed
          → AllByRecursion (λ e. IsEncodable e.reply) given.entries.items
          → (IsOk {T = HandedOver} {E = Vec Entry} (Ok given)
          ↔ ((room.items ≡ []) × (r.machine.config.calls ≤ vec_capacity room)))
          → HasHandedOver (desk_of r noted) stamp room (desk_of x marking) (Ok given)
      gave given room free entries first encodable exact = record {
        gives = record {
          entries = entries ∙ kept-agreed;
          first = first ∙ ap (λ (m : Machine). m.handed) agrees.machine_is;
          encodable = encodable;
          exact = ((λ is. (free, (exact.0 is).0, (exact.0 is).1)), (λ all. exact.1 (all.1, all.2)));
          back = tt;
        };
        marked = desk_marked;
      }
