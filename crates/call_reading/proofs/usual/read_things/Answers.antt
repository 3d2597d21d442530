-- Each turn takes a thing from the items that are left.
use Rattle.std.proofs.Common.{◌≡◌, ◌<◌, [], ◌∷◌, ◌++◌, length, Some, sym, ap, refl, arith, subst, add-one}
use Rattle.json.specs.Token.{Token}
use Rattle.json.specs.Json.{after_end_array, value}
use Rattle.serde_json.specs.Read.{of_json, converted}
use Rattle.json_fields.specs.Listed.{StandEach}
use Rattle.json_fields.proofs.Items.{ItemsLeft-none, ItemsLeft-more, items_over}
use Rattle.json_fields.proofs.Things.{StandEach-push}
use Rattle.call_reading.proofs.Quick.{goes_on}
use Rattle.call_reading.proofs.usual.read_things.Goals as goal

pub items-init : goal.items-init
items-init g c = (
  [],
  ItemsLeft-none (value c.args.depth) c.args.reader.now [] refl,
  subst (StandEach g.X.FromTokens.stands_for []) (sym c.new-things.ensures.items) tt,
  omega arith,
)

pub items-preserved : goal.items-preserved
items-preserved g c =
    let f = g.X.FromTokens.stands_for in
    let l = c.items in
    let ds = l.invariant.0 in
    let same : c.take_end_array.new.self ≡ l.reader = grind arith in
    let r = c.read.new.reader in
    let turn = c.in_ok-thing.ensures.is in
    let reads : converted of_json (value c.args.depth l.reader) ≡ Some (turn.0, r) = rw (← same) turn.1 in
    let shorter : length r < length l.reader = rw (← same) c.in_ok-thing.ensures.shorter in
    let all = ds ++ turn.0 ∷ [] in (
      all,
      ItemsLeft-more (value c.args.depth) c.args.reader.now l.reader r ds l.invariant.1 all turn.0
          (goes_on c.args.depth l.reader turn.0 r reads) reads shorter refl,
      subst (StandEach f all) (sym c.in_ok-push.ensures.items)
          (StandEach-push f ds l.things.items turn.0 c.in_ok-thing.thing l.invariant.2 turn.2),
      omega (arith, l.invariant.3),
    )

pub returns : goal.returns
returns g c =
    let l = c.items in
    let ended : l.reader ≡ Token.end_array ∷ c.take_end_array.new.self = grind arith in
    let end : after_end_array l.reader ≡ Some c.take_end_array.new.self = ap after_end_array ended in
    let count = ap length ended in
    record {
      are = (
        l.invariant.0,
        items_over (value c.args.depth) c.args.reader.now l.reader c.take_end_array.new.self l.invariant.0 l.invariant.1
            end,
        l.invariant.2,
      );
      shorter = omega (arith, l.invariant.3, count, add-one (length c.take_end_array.new.self));
    }
