-- The flow is put in behind those of lower SIDs, beside which it stands lawfully.
use Rattle.std.proofs.Common.{◌≡◌, refl, sym, ap, ◌∙◌, ℕ, true, arith}
use Rattle.minislots.specs.declared.config.Config.{Config}
use Rattle.minislots.specs.Config.{IsLawful}
use Rattle.periodic.specs.Table.{TableView, with_placed, with_rest, placed_at as set_at}
use Rattle.periodic.specs.Carried.{placed_at}
use Rattle.periodic.proofs.Carried.{is-behind, reference-fits}
use Rattle.periodic.proofs.InOrder.{found-with}
use Rattle.periodic.proofs.Rests.{rest-with}
use Rattle.periodic.proofs.table.Table.carry_at.Goals as goal

frame-of : (inside : Config) (t : TableView) (read wide : ℕ) → wide ≡ read → read ≡ inside.frame → inside ≡ t.config
    → wide ≡ t.config.frame
frame-of inside t read wide same value is = same ∙ value ∙ ap (λ (c : Config). c.frame) is

pub overflow_mul-reference : goal.overflow_mul-reference
overflow_mul-reference c =
    let t = c.args.self.now in
    let f = placed_at t.config c.args.flow.now c.args.place.now in
    let lawful : IsLawful t.config = rw (← c.self.view_is) c.frame.ensures.lawful in
    let is = is-behind t f lawful c.requires.sound in
    let frame : c.from.result ≡ t.config.frame = frame-of c.self.inside.config t c.frame.result c.from.result
    c.from.ensures c.frame.ensures.value (ap (λ (v : TableView). v.config) c.self.view_is) in
    let fits = reference-fits t.config c.args.flow.now.spec c.args.place.now lawful is.own.periodic is.own.no_fault
    c.requires.lies in
    rw frame (omega (arith, fits))

pub overflow_add-reference : goal.overflow_add-reference
overflow_add-reference c =
    let t = c.args.self.now in
    let f = placed_at t.config c.args.flow.now c.args.place.now in
    let lawful : IsLawful t.config = rw (← c.self.view_is) c.frame.ensures.lawful in
    let is = is-behind t f lawful c.requires.sound in
    let frame : c.from.result ≡ t.config.frame = frame-of c.self.inside.config t c.frame.result c.from.result
    c.from.ensures c.frame.ensures.value (ap (λ (v : TableView). v.config) c.self.view_is) in
    let fits = reference-fits t.config c.args.flow.now.spec c.args.place.now lawful is.own.periodic is.own.no_fault
    c.requires.lies in
    rw frame (omega (arith, fits))

pub add-requires-clause-sid_positive : goal.add-requires-clause-sid_positive
add-requires-clause-sid_positive c =
    let t = c.args.self.now in
    let f = placed_at t.config c.args.flow.now c.args.place.now in
    let lawful : IsLawful t.config = rw (← c.self.view_is) c.frame.ensures.lawful in
    let is = is-behind t f lawful c.requires.sound in
    is.own.sid_positive

pub add-requires-clause-sid_most : goal.add-requires-clause-sid_most
add-requires-clause-sid_most c =
    let t = c.args.self.now in
    let f = placed_at t.config c.args.flow.now c.args.place.now in
    let lawful : IsLawful t.config = rw (← c.self.view_is) c.frame.ensures.lawful in
    let is = is-behind t f lawful c.requires.sound in
    is.own.sid_most

pub add-requires-clause-is_new : goal.add-requires-clause-is_new
add-requires-clause-is_new c =
    let t = c.args.self.now in
    let f = placed_at t.config c.args.flow.now c.args.place.now in
    let lawful : IsLawful t.config = rw (← c.self.view_is) c.frame.ensures.lawful in
    let is = is-behind t f lawful c.requires.sound in
    is.absent

pub add-requires-clause-no_fault : goal.add-requires-clause-no_fault
add-requires-clause-no_fault c =
    let t = c.args.self.now in
    let f = placed_at t.config c.args.flow.now c.args.place.now in
    let lawful : IsLawful t.config = rw (← c.self.view_is) c.frame.ensures.lawful in
    let is = is-behind t f lawful c.requires.sound in
    is.own.no_fault

pub add-requires-clause-lawful : goal.add-requires-clause-lawful
add-requires-clause-lawful c =
    let t = c.args.self.now in
    let f = placed_at t.config c.args.flow.now c.args.place.now in
    let lawful : IsLawful t.config = rw (← c.self.view_is) c.frame.ensures.lawful in
    let is = is-behind t f lawful c.requires.sound in
    let frame : c.from.result ≡ t.config.frame = frame-of c.self.inside.config t c.frame.result c.from.result
    c.from.ensures c.frame.ensures.value (ap (λ (v : TableView). v.config) c.self.view_is) in
    (f.placement.reference, rw (frame, c.as_slice.ensures) is.stands)

pub rest-requires-clause-placed : goal.rest-requires-clause-placed
rest-requires-clause-placed c =
    let t = c.args.self.now in
    let f = placed_at t.config c.args.flow.now c.args.place.now in
    let lawful : IsLawful t.config = rw (← c.self.view_is) c.frame.ensures.lawful in
    let is = is-behind t f lawful c.requires.sound in
    let frame : c.from.result ≡ t.config.frame = frame-of c.self.inside.config t c.frame.result c.from.result
    c.from.ensures c.frame.ensures.value (ap (λ (v : TableView). v.config) c.self.view_is) in
    let placed : c.add.new.self.placed ≡ with_placed (set_at c.args.flow.now.sid c.args.flow.now.spec f.placement) t.placed =
    c.in_ok-add.ensures.placed
    ∙ ap (λ p. with_placed (set_at c.args.flow.now.sid c.args.flow.now.spec p) t.placed)
    (rw (frame, c.as_slice.ensures) at c.in_ok-add.ensures.placement) in
    let one = set_at c.args.flow.now.sid c.args.flow.now.spec f.placement in
    rw (placed, found-with c.args.flow.now.sid one t.placed refl is.others) refl

pub rest-requires-clause-room : goal.rest-requires-clause-room
rest-requires-clause-room c =
    let t = c.args.self.now in
    let f = placed_at t.config c.args.flow.now c.args.place.now in
    let lawful : IsLawful t.config = rw (← c.self.view_is) c.frame.ensures.lawful in
    let is = is-behind t f lawful c.requires.sound in
    let frame : c.from.result ≡ t.config.frame = frame-of c.self.inside.config t c.frame.result c.from.result
    c.from.ensures c.frame.ensures.value (ap (λ (v : TableView). v.config) c.self.view_is) in
    let placed : c.add.new.self.placed ≡ with_placed (set_at c.args.flow.now.sid c.args.flow.now.spec f.placement) t.placed =
    c.in_ok-add.ensures.placed
    ∙ ap (λ p. with_placed (set_at c.args.flow.now.sid c.args.flow.now.spec p) t.placed)
    (rw (frame, c.as_slice.ensures) at c.in_ok-add.ensures.placement) in
    let one = set_at c.args.flow.now.sid c.args.flow.now.spec f.placement in
    rw (placed, found-with c.args.flow.now.sid one t.placed refl is.others, c.in_ok-add.ensures.config)
    (is.own.polled c.if-place.true)

pub returns-then-place-clause-placed : goal.returns-then-place-clause-placed
returns-then-place-clause-placed c =
    let t = c.args.self.now in
    let f = placed_at t.config c.args.flow.now c.args.place.now in
    let lawful : IsLawful t.config = rw (← c.self.view_is) c.frame.ensures.lawful in
    let is = is-behind t f lawful c.requires.sound in
    let frame : c.from.result ≡ t.config.frame = frame-of c.self.inside.config t c.frame.result c.from.result
    c.from.ensures c.frame.ensures.value (ap (λ (v : TableView). v.config) c.self.view_is) in
    let placed : c.add.new.self.placed ≡ with_placed (set_at c.args.flow.now.sid c.args.flow.now.spec f.placement) t.placed =
    c.in_ok-add.ensures.placed
    ∙ ap (λ p. with_placed (set_at c.args.flow.now.sid c.args.flow.now.spec p) t.placed)
    (rw (frame, c.as_slice.ensures) at c.in_ok-add.ensures.placement) in
    let one = set_at c.args.flow.now.sid c.args.flow.now.spec f.placement in
    ap (λ (v : TableView). v.placed) c.rest.ensures ∙ ap (with_rest c.args.flow.now.sid true) placed
    ∙ rest-with c.args.flow.now.sid true one t.placed refl is.others
    ∙ ap (λ b. with_placed (record f { rests = b }) t.placed) (sym c.if-place.true) ∙ is.behind

pub returns-else-place-clause-placed : goal.returns-else-place-clause-placed
returns-else-place-clause-placed c =
    let t = c.args.self.now in
    let f = placed_at t.config c.args.flow.now c.args.place.now in
    let lawful : IsLawful t.config = rw (← c.self.view_is) c.frame.ensures.lawful in
    let is = is-behind t f lawful c.requires.sound in
    let frame : c.from.result ≡ t.config.frame = frame-of c.self.inside.config t c.frame.result c.from.result
    c.from.ensures c.frame.ensures.value (ap (λ (v : TableView). v.config) c.self.view_is) in
    let placed : c.add.new.self.placed ≡ with_placed (set_at c.args.flow.now.sid c.args.flow.now.spec f.placement) t.placed =
    c.in_ok-add.ensures.placed
    ∙ ap (λ p. with_placed (set_at c.args.flow.now.sid c.args.flow.now.spec p) t.placed)
    (rw (frame, c.as_slice.ensures) at c.in_ok-add.ensures.placement) in
    let one = set_at c.args.flow.now.sid c.args.flow.now.spec f.placement in
    placed ∙ ap (λ b. with_placed (record f { rests = b }) t.placed) (sym c.if-place.false) ∙ is.behind
