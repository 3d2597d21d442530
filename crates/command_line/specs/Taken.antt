-- The words that a command takes.
use Rattle.std.specs.Prelude.{◌≡◌, ℕ, List, map, false}
use Rattle.clap.specs.Words.{Rule, Shape, app_of}
use Rattle.clap.specs.declared.builder.arg.Arg.{Arg}
use Rattle.clap.specs.declared.builder.command.Command.{Command}
use Rattle.clap.specs.declared.builder.command.Command.TheViews.{out-Command as fields_of}

-- the ids of some arguments, in their order
abbrev pub ids_of : List Rule → List (List ℕ)
ids_of rules = map (λ (r : Rule). r.id) rules

-- a command's name, and the ids of its arguments
abbrev pub words_of : Shape → List ℕ × List (List ℕ)
words_of s = (s.name, ids_of s.rules)

-- an argument of this id, which does not count for a subcommand too
pub record IsOption (a : Arg) (id : List ℕ) : Type 0 where
  pub named : a.id.now ≡ id
  pub local : a.global ≡ false

-- a command of this name, with arguments of these ids and with subcommands of these names and ids, all in this order;
-- no argument counts for a subcommand too
pub record IsCommand (c : Command) (name : List ℕ) (ids : List (List ℕ)) (subs : List (List ℕ × List (List ℕ)))
    : Type 0 where
  pub named : (app_of c).top.name ≡ name
  pub arguments : ids_of (app_of c).top.rules ≡ ids
  pub subcommands : map words_of (app_of c).subs ≡ subs
  pub local : (fields_of c).has_globals ≡ false
