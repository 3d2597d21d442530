-- The numbers are the items of the array, up to its bracket.
use Rattle.std.proofs.Common.{◌≡◌, ◌∷◌, ◌++◌, ◌^◌, ◌<◌, ℕ, [], refl, sym, ap, subst, slice_index, arith}
use Rattle.json.specs.Token.{Token}
use Rattle.json.specs.Json.{after_end_array, value}
use Rattle.byte_tokens.specs.Listed.{number_tokens}
use Rattle.json_fields.specs.Listed.{StandEach}
use Rattle.json_fields.proofs.Items.{ItemsLeft-none, items_over}
use Rattle.history_reading.proofs.Spelled.{IsBelow, numbers_follow}
use Rattle.history_reading.proofs.recorded.quick_numbers.read_u32s.Goals as goal

pub returns-then-take_end_array-clause-are : goal.returns-then-take_end_array-clause-are
returns-then-take_end_array-clause-are c =
    let ts = c.args.reader.now in
    let ended : ts ≡ Token.end_array ∷ c.take_end_array.new.self = c.if-take_end_array.ensures in (
      [],
      items_over (value c.args.depth) ts ts c.take_end_array.new.self []
          (ItemsLeft-none (value c.args.depth) ts [] refl) (ap after_end_array ended),
      subst (StandEach (IsBelow (2 ^ 32)) []) (sym c.new.ensures.items) tt,
    )

pub returns-clause-are : goal.returns-clause-are
returns-clause-are c =
    let ts = c.args.reader.now in
    let r = c.take_u32s.new.self in
    let ns = c.in-Some.numbers.items in
    let is : ts ≡ number_tokens ns ++ Token.end_array ∷ r = grind arith in
    let fits : (i : ℕ) → slice_index ns i < 2 ^ 32 =
    subst (λ l. (i : ℕ) → slice_index l i < 2 ^ 32) c.deref.ensures.value c.tell_fit.ensures in
    numbers_follow c.args.depth ts ts r [] [] ns (ItemsLeft-none (value c.args.depth) ts [] refl) tt fits is
