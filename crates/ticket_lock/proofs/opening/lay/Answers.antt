-- The table is opened under its rule.
use Rattle.std.proofs.Common.{rules, ◌++◌, ◌∷◌, [], Some, ap, ◌∙◌}
use Rattle.ticket_lock.proofs.Opened.{opens_with}
use Rattle.ticket_lock.proofs.opening.lay.Goals as goal

pub new-requires : goal.new-requires
new-requires g c = opens_with g.T.Journal.head g.T.Journal.entries g.T.Journal.stamp
    (record { value = c.of.result; seats = c.args.seats; first = c.args.first }) c.args.value
    _ c.push_reserved.new.self.items (search rules) (c.opening_words-words.ensures.words c.args.seats) (search rules)
    (c.push_reserved.ensures.items ∙ ap (λ l. l ++ Some c.args.value ∷ []) c.in-Ok.ensures.items)
