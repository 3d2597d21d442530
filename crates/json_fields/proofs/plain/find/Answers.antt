-- The member that is looked at is the last of those that are left.
use Rattle.std.proofs.Common.{◌≡◌, ◌-◌, ◌+◌, [], ◌∷◌, ◌++◌, take, Bool, true, false, cond, Some, sym, ap, ◌∙◌, arith}
use Rattle.std.proofs.lemmas.List.{take_more}
use Rattle.std.specs.Str.{bytes_eq}
use Rattle.serde_json.specs.Find.{get_member}
use Rattle.json_fields.specs.Plain.{data_of, members_of}
use Rattle.json_fields.proofs.PlainValues.{get_member-push}
use Rattle.json_fields.proofs.plain.find.Goals as goal

pub returns-then-eq : goal.returns-then-eq
returns-then-eq c =
    let list = c.args.list.now.items in
    let i = c.loop-left.left - 1 in
    let m = c.index-member.result.now in
    let key = c.args.key.now in
    let one : c.loop-left.left ≡ i + 1 = omega arith in
    let last : take c.loop-left.left list ≡ take i list ++ m ∷ [] = ap (λ k. take k list) one
    ∙ take_more list i m (omega arith) ∙ ap (λ x. take i list ++ x ∷ []) (sym c.index-member.ensures) in
    let same : bytes_eq m.0.now key ≡ true = grind arith in
    sym (c.loop-left.invariant.0 ∙ ap (λ ms. get_member key (members_of ms)) last ∙ get_member-push key (take i list) m
    ∙ ap (λ (b : Bool). cond b (Some (data_of m.1)) (get_member key (members_of (take i list)))) same)

pub loop-left-preserved : goal.loop-left-preserved
loop-left-preserved c =
    let list = c.args.list.now.items in
    let i = c.loop-left.left - 1 in
    let m = c.index-member.result.now in
    let key = c.args.key.now in
    let one : c.loop-left.left ≡ i + 1 = omega arith in
    let last : take c.loop-left.left list ≡ take i list ++ m ∷ [] = ap (λ k. take k list) one
    ∙ take_more list i m (omega arith) ∙ ap (λ x. take i list ++ x ∷ []) (sym c.index-member.ensures) in
    let other : bytes_eq m.0.now key ≡ false = grind arith in (
      c.loop-left.invariant.0 ∙ ap (λ ms. get_member key (members_of ms)) last ∙ get_member-push key (take i list) m
          ∙ ap (λ (b : Bool). cond b (Some (data_of m.1)) (get_member key (members_of (take i list)))) other,
      omega arith,
    )
