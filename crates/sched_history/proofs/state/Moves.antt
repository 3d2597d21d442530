-- The fields that stand for what a call leaves.
use Rattle.std.proofs.Common.{◌≡◌, ℕ, zero, suc, ◌+◌, ◌≤◌, ◌<◌, true, false, List, [], ◌∷◌, ◌++◌, length, set, take}
use Rattle.std.proofs.Common.{None, Some, refl, sym, ap, ◌∙◌, arith}
use Rattle.std.proofs.lemmas.List.{length-set}
use Rattle.sched_calls.specs.declared.spec.FlowSpec.{FlowSpec}
use Rattle.flow_book.specs.Flows.{LiveFlow}
use Rattle.flow_book.specs.Book.{BookView, with_flow, new_flow, without, changed, with_asked, with_replaced}
use Rattle.sched_calls.specs.declared.placement.Placement.{Placement}
use Rattle.periodic.specs.Table.{TableView, placed_at, with_placed, without as without_placed, with_rest}
use Rattle.sched_calls.specs.declared.frame_map.FrameMap.{FrameMap}
use Rattle.sched_calls.specs.declared.opportunity.Header.{Header}
use Rattle.sched_calls.specs.declared.opportunity.Usage.{Usage}
use Rattle.sched_calls.specs.declared.amount.Amount.{Amount}
use Rattle.sched_calls.specs.Amount.{requested}
use Rattle.sched_history.specs.declared.scheduler.state.State.{State}
use Rattle.sched_history.specs.declared.scheduler.reserves.Reserve.{Reserve as Waiting}
use Rattle.sched_history.specs.declared.scheduler.settling.Settling.{Settling}
use Rattle.sched_calls.specs.declared.call.Call.{Call}
use Rattle.sched_calls.specs.declared.call.Call.TheVariants as calls
use Rattle.sched_calls.specs.declared.reply.Reply.{Reply}
use Rattle.sched_calls.specs.declared.reply.Reply.TheVariants as replies
use Rattle.sched_history.specs.Reserves.{new_reserve, reserves_past}
use Rattle.sched_history.specs.Settling.{settling_with}
use Rattle.sched_history.specs.Situation.{Situation, flows_by, settles_in, spots_next, after}
use Rattle.sched_history.specs.State.{IsStateAfter, IsQuiet}

-- another number in one of the first places of a list
take-set : (n : ℕ) (xs : List ℕ) (i y : ℕ) → take n (set xs i y) ≡ set (take n xs) i y
take-set zero xs i y = refl
take-set (suc n) [] i y = refl
take-set (suc n) (x ∷ xs) zero y = refl
take-set (suc n) (x ∷ xs) (suc i) y = ap (λ ys. x ∷ ys) (take-set n xs i y)

module _ (s : State) (x : Situation) (is_after : IsStateAfter s x) where
  counted : (n : ℕ) → IsStateAfter s (record x { entries = n })
  counted n = record {
    lawful = is_after.lawful;
    book_config = is_after.book_config;
    table_config = is_after.table_config;
    flows = is_after.flows;
    placed = is_after.placed;
    next = is_after.next;
    places = is_after.places;
    progress = is_after.progress;
    reserves = is_after.reserves;
    header = is_after.header;
    settling = is_after.settling;
    last_ack = is_after.last_ack;
  }

  -- after a call that changes nothing
  pub IsStateAfter-quiet : (call : Call) (reply : Reply) → IsQuiet s.config call reply
      → IsStateAfter s (after s.config x call reply)
  IsStateAfter-quiet call reply quiet = rw (quiet x) (counted (x.entries + 1))

  -- after a request
  pub IsStateAfter-asked : (receiver sid : ℕ) (amount : Amount) (heard : ℕ) (book : BookView)
      → book ≡ record s.book { flows = changed sid (with_asked (requested s.config amount) heard) s.book.flows }
      → IsStateAfter (record s { book = book })
      (after s.config x (calls.Ask receiver sid amount heard) replies.Taken)
  IsStateAfter-asked receiver sid amount heard book asked = record {
    lawful = is_after.lawful;
    book_config = ap (λ b. b.config) asked ∙ is_after.book_config;
    table_config = is_after.table_config;
    flows = ap (λ b. b.flows) asked ∙ ap (changed sid (with_asked (requested s.config amount) heard)) is_after.flows;
    placed = is_after.placed;
    next = is_after.next;
    places = is_after.places;
    progress = is_after.progress;
    reserves = is_after.reserves;
    header = is_after.header;
    settling = is_after.settling;
    last_ack = is_after.last_ack;
  }

  -- after a request that replaces others
  pub IsStateAfter-replaced : (receiver sid : ℕ) (amount : Amount) (heard : ℕ) (book : BookView)
      → book ≡ record s.book { flows = changed sid (with_replaced (requested s.config amount) heard) s.book.flows }
      → IsStateAfter (record s { book = book })
      (after s.config x (calls.Replace receiver sid amount heard) replies.Taken)
  IsStateAfter-replaced receiver sid amount heard book replaced = record {
    lawful = is_after.lawful;
    book_config = ap (λ b. b.config) replaced ∙ is_after.book_config;
    table_config = is_after.table_config;
    flows = ap (λ b. b.flows) replaced
        ∙ ap (changed sid (with_replaced (requested s.config amount) heard)) is_after.flows;
    placed = is_after.placed;
    next = is_after.next;
    places = is_after.places;
    progress = is_after.progress;
    reserves = is_after.reserves;
    header = is_after.header;
    settling = is_after.settling;
    last_ack = is_after.last_ack;
  }

  -- after a rest
  pub IsStateAfter-rested : (sid : ℕ) (table : TableView)
      → table ≡ record s.table { placed = with_rest sid true s.table.placed }
      → IsStateAfter (record s { table = table }) (after s.config x (calls.Rest sid) replies.Noted)
  IsStateAfter-rested sid table is = record {
    lawful = is_after.lawful;
    book_config = is_after.book_config;
    table_config = ap (λ t. t.config) is ∙ is_after.table_config;
    flows = is_after.flows;
    placed = ap (λ t. t.placed) is ∙ ap (with_rest sid true) is_after.placed;
    next = is_after.next;
    places = is_after.places;
    progress = is_after.progress;
    reserves = is_after.reserves;
    header = is_after.header;
    settling = is_after.settling;
    last_ack = is_after.last_ack;
  }

  -- after a wake
  pub IsStateAfter-woken : (sid : ℕ) (table : TableView)
      → table ≡ record s.table { placed = with_rest sid false s.table.placed }
      → IsStateAfter (record s { table = table }) (after s.config x (calls.Wake sid) replies.Noted)
  IsStateAfter-woken sid table is = record {
    lawful = is_after.lawful;
    book_config = is_after.book_config;
    table_config = ap (λ t. t.config) is ∙ is_after.table_config;
    flows = is_after.flows;
    placed = ap (λ t. t.placed) is ∙ ap (with_rest sid false) is_after.placed;
    next = is_after.next;
    places = is_after.places;
    progress = is_after.progress;
    reserves = is_after.reserves;
    header = is_after.header;
    settling = is_after.settling;
    last_ack = is_after.last_ack;
  }

  -- Where flows and placements change alone
  module _ (s' : State) (same : s' ≡ record s { book = s'.book; table = s'.table })
      (book_config : s'.book.config ≡ s.book.config) (table_config : s'.table.config ≡ s.table.config) where
    -- after a removal
    pub IsStateAfter-removed : (sid : ℕ) → s'.book.flows ≡ without sid s.book.flows
        → s'.table.placed ≡ without_placed sid s.table.placed
        → IsStateAfter s' (after s.config x (calls.Remove sid) replies.Removed)
    IsStateAfter-removed sid flows placed =
        let t : State = record s { book = s'.book; table = s'.table } in
        let left : IsStateAfter t (after s.config x (calls.Remove sid) replies.Removed) = record {
          lawful = is_after.lawful;
          book_config = book_config ∙ is_after.book_config;
          table_config = table_config ∙ is_after.table_config;
          flows = flows ∙ ap (without sid) is_after.flows;
          placed = placed ∙ ap (without_placed sid) is_after.placed;
          next = is_after.next;
          places = is_after.places;
          progress = is_after.progress;
          reserves = is_after.reserves;
          header = is_after.header;
          settling = is_after.settling;
          last_ack = is_after.last_ack;
        } in
        rw same left

    -- after an admission with a place
    pub IsStateAfter-placed : (sid : ℕ) (spec : FlowSpec) (p : Placement)
        → s'.book.flows ≡ with_flow (new_flow sid spec) s.book.flows
        → s'.table.placed ≡ with_placed (placed_at sid spec p) s.table.placed
        → IsStateAfter s' (after s.config x (calls.Admit sid spec) (replies.Admitted (Some p)))
    IsStateAfter-placed sid spec p flows placed =
        let t : State = record s { book = s'.book; table = s'.table } in
        let left : IsStateAfter t (after s.config x (calls.Admit sid spec) (replies.Admitted (Some p))) = record {
          lawful = is_after.lawful;
          book_config = book_config ∙ is_after.book_config;
          table_config = table_config ∙ is_after.table_config;
          flows = flows ∙ ap (with_flow (new_flow sid spec)) is_after.flows;
          placed = placed ∙ ap (with_placed (placed_at sid spec p)) is_after.placed;
          next = is_after.next;
          places = is_after.places;
          progress = is_after.progress;
          reserves = is_after.reserves;
          header = is_after.header;
          settling = is_after.settling;
          last_ack = is_after.last_ack;
        } in
        rw same left

  -- after an admission without a place
  pub IsStateAfter-admitted : (sid : ℕ) (spec : FlowSpec) (book : BookView)
      → book.config ≡ s.book.config → book.flows ≡ with_flow (new_flow sid spec) s.book.flows
      → IsStateAfter (record s { book = book }) (after s.config x (calls.Admit sid spec) (replies.Admitted None))
  IsStateAfter-admitted sid spec book config flows = record {
    lawful = is_after.lawful;
    book_config = config ∙ is_after.book_config;
    table_config = is_after.table_config;
    flows = flows ∙ ap (with_flow (new_flow sid spec)) is_after.flows;
    placed = is_after.placed;
    next = is_after.next;
    places = is_after.places;
    progress = is_after.progress;
    reserves = is_after.reserves;
    header = is_after.header;
    settling = is_after.settling;
    last_ack = is_after.last_ack;
  }

  -- after a note of a receiver
  pub IsStateAfter-heard : (receiver upto : ℕ)
      → IsStateAfter (record s { progress = set s.progress receiver upto })
      (after s.config x (calls.Heard receiver upto) replies.Noted)
  IsStateAfter-heard receiver upto = record {
    lawful = is_after.lawful;
    book_config = is_after.book_config;
    table_config = is_after.table_config;
    flows = is_after.flows;
    placed = is_after.placed;
    next = is_after.next;
    places = length-set s.progress receiver upto ∙ is_after.places;
    progress = take-set s.config.receivers s.progress receiver upto ∙ ap (λ ns. set ns receiver upto) is_after.progress;
    reserves = is_after.reserves;
    header = is_after.header;
    settling = is_after.settling;
    last_ack = is_after.last_ack;
  }

  -- after a skip
  pub IsStateAfter-skipped : (now next : ℕ) → IsStateAfter (record s { next = next })
      (after s.config x (calls.Skip now) (replies.Skipped next))
  IsStateAfter-skipped now next = record {
    lawful = is_after.lawful;
    book_config = is_after.book_config;
    table_config = is_after.table_config;
    flows = is_after.flows;
    placed = is_after.placed;
    next = refl;
    places = is_after.places;
    progress = is_after.progress;
    reserves = is_after.reserves;
    header = is_after.header;
    settling = is_after.settling;
    last_ack = is_after.last_ack;
  }

  -- after a MAP of the next frame, where the flows and the Reserves are those that it leaves
  pub IsStateAfter-built : (now : ℕ) (m : FrameMap) (book : BookView) (reserves : List Waiting) (settling : Settling)
      → book.config ≡ s.config → book.flows ≡ flows_by s.config (calls.Build now) (replies.Built m) x.flows
      → reserves ≡ reserves_past s.config (settles_in s.config x) (spots_next s.config x) m.wire.elements x.reserves
      → m.start ≡ s.next → settling ≡ settling_with m.wire.ucd_count s.next s.settling
      → IsStateAfter
      (record s {
        book = book;
        next = s.next + s.config.frame;
        reserves = reserves;
        settling = settling;
        last_ack = m.ack;
      })
      (after s.config x (calls.Build now) (replies.Built m))
  IsStateAfter-built now m book reserves settling book_config flows left starts follows = record {
    lawful = is_after.lawful;
    book_config = book_config;
    table_config = is_after.table_config;
    flows = flows;
    placed = is_after.placed;
    next = ap (λ n. n + s.config.frame) is_after.next;
    places = is_after.places;
    progress = is_after.progress;
    reserves = left;
    header = is_after.header;
    settling = follows ∙ ap (λ n. settling_with m.wire.ucd_count n s.settling) (sym starts)
        ∙ ap (settling_with m.wire.ucd_count m.start) is_after.settling;
    last_ack = refl;
  }

  -- after a Reserve
  pub IsStateAfter-reserved : (usage : Usage) (slots : ℕ) → IsStateAfter
      (record s { reserves = s.reserves ++ new_reserve (record { usage = usage; slots = slots }) ∷ [] })
      (after s.config x (calls.Reserve usage slots) replies.Reserved)
  IsStateAfter-reserved usage slots = record {
    lawful = is_after.lawful;
    book_config = is_after.book_config;
    table_config = is_after.table_config;
    flows = is_after.flows;
    placed = is_after.placed;
    next = is_after.next;
    places = is_after.places;
    progress = is_after.progress;
    reserves = ap (λ rs. rs ++ new_reserve (record { usage = usage; slots = slots }) ∷ []) is_after.reserves;
    header = is_after.header;
    settling = is_after.settling;
    last_ack = is_after.last_ack;
  }

  -- after a header
  pub IsStateAfter-headed : (header : Header) → IsStateAfter (record s { header = header })
      (after s.config x (calls.Header header) replies.Noted)
  IsStateAfter-headed header = record {
    lawful = is_after.lawful;
    book_config = is_after.book_config;
    table_config = is_after.table_config;
    flows = is_after.flows;
    placed = is_after.placed;
    next = is_after.next;
    places = is_after.places;
    progress = is_after.progress;
    reserves = is_after.reserves;
    header = refl;
    settling = is_after.settling;
    last_ack = is_after.last_ack;
  }
