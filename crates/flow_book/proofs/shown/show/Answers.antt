-- Where no more wait than are shown they are shown, and else those with the least numbers in line.
use Rattle.std.proofs.Common.{ℕ, Bool, ◌≡◌, ◌∙◌, ap, sym, nat_le, ◌≤◌, ◌<◌, true, false, None, Some, take, length, map, arith}
use Rattle.std.proofs.lemmas.Bool.Decides.{nat_tests}
use Rattle.std.proofs.lemmas.List.{length-take}
use Rattle.flow_book.specs.declared.shown.Hidden.{Hidden}
use Rattle.flow_book.specs.Entry.{live}
use Rattle.flow_book.specs.Line.{sorted, sid_of}
use Rattle.flow_book.specs.Pending.{waiting_in}
use Rattle.flow_book.proofs.InLine.{ack-is, small-of}
use Rattle.flow_book.proofs.Pendings.{few-sids, few-hidden, waiting-line, kept-long, many-sids, many-hidden}
use Rattle.flow_book.proofs.shown.show.Goals as goal

few-of : (n most : ℕ) (b : Bool) → b ≡ nat_le n most → b ≡ true → n ≤ most
few-of n most b is yes' = let le : nat_le n most ≡ true = sym is ∙ yes' in grind (arith, nat_tests)

many-of : (n most : ℕ) (b : Bool) → b ≡ nat_le n most → b ≡ false → most < n
many-of n most b is no' = let more : nat_le n most ≡ false = sym is ∙ no' in grind (arith, nat_tests)

pub returns-then-wait_few-clause-pending : goal.returns-then-wait_few-clause-pending
returns-then-wait_few-clause-pending c = λ c' items book is same.
    let ws = waiting_in c.args.queue.now c.args.served.now in
    let few = few-of (length ws) c.args.most c.wait_few.result c.wait_few.ensures c.if-wait_few.true in
    c.in_ok-pending.ensures
    ∙ few-sids c' c.args.flows.now items book same c.args.queue.now c.args.served.now is c.args.most few

pub returns-then-wait_few-clause-ack : goal.returns-then-wait_few-clause-ack
returns-then-wait_few-clause-ack c = λ c' items book is same.
    let ws = waiting_in c.args.queue.now c.args.served.now in
    let few = few-of (length ws) c.args.most c.wait_few.result c.wait_few.ensures c.if-wait_few.true in
    ack-is c.args.most (map live items) book.sound.ascending (small-of c' items book.sums) None c.args.progress
    (few-hidden c' c.args.flows.now items book same c.args.queue.now c.args.served.now is c.args.most few)

pub least_of-requires : goal.least_of-requires
least_of-requires c = λ known.
    let q = c.requires.queue in
    c.keep_line.ensures q.0 q.1 q.3 q.5 q.6 known
    ∙ sym (waiting-line q.0 c.args.flows.now q.1 q.2 q.4 c.args.queue.now c.args.served.now q.3).numbers

pub slice_bounds-sids_of-end : goal.slice_bounds-sids_of-end
slice_bounds-sids_of-end c =
    let q = c.requires.queue in
    let ws = waiting_in c.args.queue.now c.args.served.now in
    let many = many-of (length ws) c.args.most c.wait_few.result c.wait_few.ensures c.if-wait_few.false in
    omega (
      arith,
      kept-long q.0 c.args.flows.now q.1 q.2 q.4 c.args.queue.now c.args.served.now q.3 c.args.most many
          c.in_ok-first.first.items c.in_ok-first.ensures,
      ap length c.deref.ensures.value,
      length-take c.args.most c.deref.result.now,
    )

pub index-requires : goal.index-requires
index-requires c =
    let q = c.requires.queue in
    let ws = waiting_in c.args.queue.now c.args.served.now in
    let many = many-of (length ws) c.args.most c.wait_few.result c.wait_few.ensures c.if-wait_few.false in
    omega (
      arith,
      kept-long q.0 c.args.flows.now q.1 q.2 q.4 c.args.queue.now c.args.served.now q.3 c.args.most many
          c.in_ok-first.first.items c.in_ok-first.ensures,
      c.in_ok-first.first.ok.0,
    )

pub returns-clause-pending : goal.returns-clause-pending
returns-clause-pending c = λ c' items book is same.
    let ws = waiting_in c.args.queue.now c.args.served.now in
    let many = many-of (length ws) c.args.most c.wait_few.result c.wait_few.ensures c.if-wait_few.false in
    c.in_ok-pending-2.ensures ∙ ap (λ ns. sorted (map sid_of (take c.args.most ns))) c.deref.ensures.value
    ∙ many-sids c' c.args.flows.now items book same c.args.queue.now c.args.served.now is c.args.most many
    c.in_ok-first.first.items c.in_ok-first.ensures

pub returns-clause-ack : goal.returns-clause-ack
returns-clause-ack c = λ c' items book is same.
    let ws = waiting_in c.args.queue.now c.args.served.now in
    let many = many-of (length ws) c.args.most c.wait_few.result c.wait_few.ensures c.if-wait_few.false in
    let hidden : Hidden = record { number = c.index.result.now } in
    c.held_back-ack.ensures
    ∙ ack-is c.args.most (map live items) book.sound.ascending (small-of c' items book.sums) (Some hidden)
    c.args.progress
    (many-hidden c' c.args.flows.now items book same c.args.queue.now c.args.served.now is c.args.most many
    c.in_ok-first.first.items c.in_ok-first.ensures hidden c.index.ensures)
