-- How far a run on the channel has come.
use Rattle.std.proofs.Common.{◌≡◌, ℕ, ◌+◌, ◌≤◌, List, [], ◌∷◌, ◌++◌, length, take, Option, None, Some, refl, sym, ap}
use Rattle.std.proofs.Common.{ap₂}
use Rattle.std.proofs.Common.{◌∙◌, ◌<◌, get_or, subst, append-nil}
use Rattle.std.specs.List.{flat_map}
use Rattle.std.specs.Io.KnownBytes.{Appends, append_known}
use Rattle.std.proofs.KnownBytes.{Appends-trans}
use Rattle.std.proofs.lemmas.List.{take_all}
use Rattle.std.proofs.lemmas.List.Concat.{flat_map-append}
use Rattle.minislots.specs.declared.config.Config.{Config}
use Rattle.sched_calls.specs.declared.frame_map.FrameMap.{FrameMap}
use Rattle.sched_calls.specs.declared.call.Call.{Call}
use Rattle.sched_history.specs.Machine.{Machine}
use Rattle.sched_calls.specs.Reply.{Answer}
use Rattle.sched_lines.specs.Framed.{map_in}
use Rattle.sched_history.specs.Answer.{MakesCall, MakesCalls}
use Rattle.sched_history.proofs.runs.Made.{MakesCalls-push, MakesCalls-legal}
use Rattle.text_stream.proofs.Written.{Appends-out}
use Rattle.sched_history.proofs.runs.Leaving.{MakesCalls-count}
use Rattle.pcap_command.specs.declared.output.WireOutput.{WireOutput}
use Rattle.pcap_command.specs.declared.output.WireOutput.TheVariants.{Lines, Capture}
use Rattle.pcap_command.specs.Capture.{packet_of, listed, maps_of, capture_head, wire_text}
use Rattle.pcap_command.specs.Items.{head_of, packet_or, item_of}
use Rattle.pcap_command.specs.Ran.{PutsOnWire}

-- from one state of the scheduler and the writer these calls led to others, and what each answer adds was written
pub record Runs (item : Answer → List ℕ) (old new : Machine) (calls : List Call)
    (before after : Option (List ℕ)) : Type 0 where
  -- the answers, in the order of their calls
  pub answers : List Answer
  -- they are those that the scheduler gives
  pub makes : MakesCalls old new calls answers
  -- and what they add was written
  pub written : Appends before after (flat_map item answers)

-- one call more, and what its answer adds
pub Runs-push : (item : Answer → List ℕ) (old mid new : Machine) (calls : List Call) (i : ℕ) (d : Call)
    (answer : Answer) (before between after : Option (List ℕ)) → i < length calls
    → Runs item old mid (take i calls) before between → MakesCall mid new i (get_or calls i d) answer
    → Appends between after (item answer)
    → Runs item old new (take (i + 1) calls) before after
Runs-push item old mid new calls i d answer before between after below runs one more = record {
  answers = runs.answers ++ answer ∷ [];
  makes = MakesCalls-push old mid new calls i d runs.answers answer below runs.makes one;
  written = rw (flat_map-append, append-nil)
      (Appends-trans before between after (flat_map item runs.answers) (item answer) runs.written more);
}

-- what waited is written
pub Runs-written : (item : Answer → List ℕ) (old new : Machine) (calls : List Call)
    (before between after : Option (List ℕ)) (waiting : List ℕ)
    → Runs item old new calls before (append_known between waiting) → Appends between after waiting
    → Runs item old new calls before after
Runs-written item old new calls before between after waiting runs out = record {
  answers = runs.answers;
  makes = runs.makes;
  written = Appends-out before between after waiting (flat_map item runs.answers) runs.written out;
}

-- the packet of what is there
packet_is : (c : Config) (address : List ℕ) (m : Option FrameMap)
    → packet_or c address m ≡ flat_map (packet_of c address) (listed m)
packet_is c address None = refl
packet_is c address (Some m) = sym (append-nil (packet_of c address m))

-- the packets of all MAPs, answer by answer
pub packets_are : (c : Config) (address : List ℕ) (answers : List Answer)
    → flat_map (item_of Capture c address) answers ≡ flat_map (packet_of c address) (maps_of answers)
unfolding maps_of
packets_are c address [] = refl
packets_are c address (answer ∷ answers) =
    ap₂ (λ x y. x ++ y) (packet_is c address (map_in answer)) (packets_are c address answers)
    ∙ sym (flat_map-append (packet_of c address) (listed (map_in answer)) (maps_of answers))

-- what is written, answer by answer
text_is : (output : WireOutput) (c : Config) (address : List ℕ) (answers : List Answer)
    → head_of output ++ flat_map (item_of output c address) answers ≡ wire_text output c address answers
text_is Lines c address answers = refl
text_is Capture c address answers = ap (λ l. capture_head ++ l) (packets_are c address answers)

-- behind nothing that waits
pub from_none : (a b : Option (List ℕ)) (text : List ℕ) → Appends (append_known a []) b text → Appends a b text
from_none None b text h = tt
from_none (Some xs) None text h = absurd h
from_none (Some xs) (Some ys) text h = h ∙ ap (λ l. l ++ text) (append-nil xs)

-- all calls, with what they put on the channel
pub whole-run : (output : WireOutput) (c : Config) (address : List ℕ) (old new : Machine) (calls : List Call) (n : ℕ)
    (before between after : Option (List ℕ)) (unrecorded : ℕ) → c ≡ old.config → length calls ≤ n
    → Appends (append_known before []) between (head_of output)
    → Runs (item_of output c address) old new (take n calls) between after
    → unrecorded + length new.history ≡ length calls
    → PutsOnWire output address old.config calls before after unrecorded
whole-run output c address old new calls n before between after unrecorded same all front runs count =
    let makes : MakesCalls old new calls runs.answers = rw (take_all n calls all) at runs.makes in
    let text = flat_map (item_of output c address) runs.answers in
    let joined : Appends before after (head_of output ++ text)
    = from_none before after (head_of output ++ text)
    (Appends-trans (append_known before []) between after (head_of output) text front runs.written) in
    record {
      answers = runs.answers;
      each = makes.each;
      legal = MakesCalls-legal old new calls runs.answers makes;
      written = subst (λ d. Appends before after (wire_text output d address runs.answers)) same
          (subst (Appends before after) (text_is output c address runs.answers) joined);
      count = MakesCalls-count old new calls runs.answers unrecorded makes count;
    }
