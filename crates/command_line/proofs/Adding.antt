-- A command as it is made, and with a setting, an argument or a subcommand more.
use Rattle.std.proofs.Common.{◌≡◌, ◌∙◌, ◌++◌, ◌∷◌, [], ◌||◌, ℕ, Bool, List, ap, refl, false, map}
use Rattle.clap.specs.Words.{AddsArg, AddsSubcommand, App, Rule, Shape, app_of, new_app, shape_of, rule_of}
use Rattle.clap.specs.declared.builder.arg.Arg.{Arg}
use Rattle.clap.specs.declared.builder.command.Command.{Command}
use Rattle.clap.specs.declared.builder.command.Command.TheOpen.{Command-F}
use Rattle.clap.specs.declared.builder.command.Command.TheViews.{out-Command as fields_of}
use Rattle.command_line.specs.Taken.{IsCommand, IsOption, ids_of, words_of}

map_push : {A B : Type 0} (f : A → B) (xs : List A) (x : A) → map f (xs ++ x ∷ []) ≡ map f xs ++ f x ∷ []
map_push f [] x = refl
map_push f (y ∷ ys) x = ap (λ l. f y ∷ l) (map_push f ys x)

-- what of a command's fields counts here
abbrev pub shown_in : Command-F Command → (List ℕ × List Rule) × (List Shape × Bool)
shown_in fields = (
  (fields.name.now, map rule_of fields.args.items),
  (map shape_of fields.subcommands.items, fields.has_globals),
)

pub IsCommand-new : {made : Command} {name : List ℕ} → app_of made ≡ new_app name
    → (fields_of made).has_globals ≡ false → IsCommand made name [] []
IsCommand-new {made} {name} new plain = record {
  named = ap (λ (a : App). a.top.name) new;
  arguments = ap (λ (a : App). ids_of a.top.rules) new;
  subcommands = ap (λ (a : App). map words_of a.subs) new;
  local = plain;
}

pub IsCommand-same : {old new : Command} {name : List ℕ} {ids : List (List ℕ)} {subs : List (List ℕ × List (List ℕ))}
    → IsCommand old name ids subs → shown_in (fields_of new) ≡ shown_in (fields_of old) → IsCommand new name ids subs
IsCommand-same {old} {new} {name} {ids} {subs} was same = record {
  named = ap (λ (s : (List ℕ × List Rule) × (List Shape × Bool)). s.0.0) same ∙ was.named;
  arguments = ap (λ (s : (List ℕ × List Rule) × (List Shape × Bool)). ids_of s.0.1) same ∙ was.arguments;
  subcommands = ap (λ (s : (List ℕ × List Rule) × (List Shape × Bool)). map words_of s.1.0) same ∙ was.subcommands;
  local = ap (λ (s : (List ℕ × List Rule) × (List Shape × Bool)). s.1.1) same ∙ was.local;
}

-- a command with one argument more, which does not count for its subcommands, has its id behind the others
pub IsCommand-arg : {old new : Command} {arg : Arg} {name id : List ℕ} {ids : List (List ℕ)}
    {subs : List (List ℕ × List (List ℕ))} → IsCommand old name ids subs → AddsArg old arg new → IsOption arg id
    → IsCommand new name (ids ++ id ∷ []) subs
IsCommand-arg {old} {new} {arg} {name} {id} {ids} {subs} was adds is =
    let same = adds.shape is.local in
    record {
      named = ap (λ (a : App). a.top.name) same ∙ was.named;
      arguments = ap (λ (a : App). ids_of a.top.rules) same
          ∙ map_push (λ (r : Rule). r.id) (app_of old).top.rules (rule_of arg)
          ∙ ap (λ l. l ++ arg.id.now ∷ []) was.arguments ∙ ap (λ i. ids ++ i ∷ []) is.named;
      subcommands = ap (λ (a : App). map words_of a.subs) same ∙ was.subcommands;
      local = adds.globals ∙ ap (λ b. b || arg.global) was.local ∙ is.local;
    }

-- a command with one subcommand more has its words behind those of the others
pub IsCommand-sub : {old sub new : Command} {name sub_name : List ℕ} {ids sub_ids : List (List ℕ)}
    {subs none : List (List ℕ × List (List ℕ))} → IsCommand old name ids subs → AddsSubcommand old sub new
    → IsCommand sub sub_name sub_ids none → IsCommand new name ids (subs ++ (sub_name, sub_ids) ∷ [])
IsCommand-sub {old} {sub} {new} {name} {sub_name} {ids} {sub_ids} {subs} {none} was adds is =
    let same = adds.shape is.local in
    record {
      named = ap (λ (a : App). a.top.name) same ∙ was.named;
      arguments = ap (λ (a : App). ids_of a.top.rules) same ∙ was.arguments;
      subcommands = ap (λ (a : App). map words_of a.subs) same ∙ map_push words_of (app_of old).subs (shape_of sub)
          ∙ ap (λ l. l ++ words_of (shape_of sub) ∷ []) was.subcommands
          ∙ ap (λ n. subs ++ (n, ids_of (shape_of sub).rules) ∷ []) is.named
          ∙ ap (λ l. subs ++ (sub_name, l) ∷ []) is.arguments;
      local = adds.globals ∙ ap (λ b. b || (fields_of sub).has_globals) was.local ∙ is.local;
    }
