-- The header of the next MAP after one more entry.
use Rattle.std.proofs.Common.{◌≡◌, List, [], ◌∷◌, ◌++◌, Option, None, Some, refl, ap, ◌∙◌}
use Rattle.std.specs.Option.{option_map, option_map_or}
use Rattle.minislots.specs.declared.config.Config.{Config}
use Rattle.sched_calls.specs.declared.opportunity.Header.{Header}
use Rattle.sched_calls.specs.Header.{header_of}
use Rattle.sched_calls.specs.declared.reply.Entry.{Entry}
use Rattle.sched_history.specs.Latest.{Found, latest}
use Rattle.sched_history.specs.Reserves.{header_by, header_after}
use Rattle.sched_history.proofs.lists.Latests.{with_after, latest-says, latest-silent}

said-more : (e : Entry) (found : Option (Found Entry Header)) (first : Header)
    → option_map_or (λ found. found.said) (option_map (with_after e) found) first
    ≡ option_map_or (λ found. found.said) found first
said-more e None first = refl
said-more e (Some found) first = refl

module _ (c : Config) (h : List Entry) (e : Entry) where
  -- an entry that sets none leaves it
  pub header_after-same : header_by e.call e.reply ≡ None → header_after c (h ++ e ∷ []) ≡ header_after c h
  header_after-same none =
      ap (λ found. option_map_or (λ found. found.said) found (header_of c))
      (latest-silent (λ x. header_by x.call x.reply) h e none)
      ∙ said-more e (latest (λ x. header_by x.call x.reply) h) (header_of c)

  -- after an entry that sets one it is that one
  pub header_after-set : (header : Header) → header_by e.call e.reply ≡ Some header
      → header_after c (h ++ e ∷ []) ≡ header
  header_after-set header sets =
      ap (λ found. option_map_or (λ found. found.said) found (header_of c))
      (latest-says (λ x. header_by x.call x.reply) h e header sets)
