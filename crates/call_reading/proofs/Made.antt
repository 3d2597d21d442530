-- The members of an object as they are read, and the call that they make.
use Rattle.std.proofs.Common.{◌≡◌, ℕ, ◌-◌, ◌<◌, List, ◌∷◌, length, false, codes, Some, None, refl, sym, ap, ◌∙◌}
use Rattle.std.proofs.Common.{◌^◌, Option, IfSome, decimal, subst, arith}
use Rattle.json.specs.Token.{Token}
use Rattle.json.specs.Json.{read_key, value}
use Rattle.json.proofs.Grammar.{read_key-shorter}
use Rattle.serde_json.specs.Data.{Data, Members, no_members, object, put, string, number, unsigned}
use Rattle.serde_json.specs.Find.{get}
use Rattle.serde_json.specs.Read.{of_json, converted}
use Rattle.sched_calls.specs.declared.call.Call.{Call}
use Rattle.json_fields.proofs.PlainValues.{member_read, members_over, object_read, string_read, unsigned_read}
use Rattle.serde_json.proofs.Numbers.{number_of-decimal}
use Rattle.call_reading.specs.Calls.{call_of}
use Rattle.call_reading.specs.Field.{NotesMember}
use Rattle.call_reading.specs.Seen.{Seen, nothing, seen_in, seen_with, seen_call, seen_ask, seen_heard, seen_build}
use Rattle.call_reading.specs.Seen.{seen_remove, seen_status}
use Rattle.call_reading.specs.Made.{SaysMembers, SayBefore, MakesCall}
use Rattle.call_reading.proofs.Seen.{seen_in-put, seen_call_is, none_opens}

module _ (depth : ℕ) (start : List Token) where
  -- before the first member
  pub none_said : SayBefore depth start start nothing
  none_said = (length start, omega arith, (no_members, refl, refl), omega arith)

  -- one member more
  pub one_more : (ts r : List Token) (s after : Seen) → SayBefore depth start ts s → NotesMember depth ts r s after
      → SayBefore depth start r after
  one_more ts r s after said turn =
      let p = value depth in
      let n = said.0 in
      let so_far = said.2 in
      let k = turn.0 in
      let behind = turn.1 in
      let d = turn.2 in
      let fewer = read_key-shorter ts (Some k) behind turn.3 in
      let shorter = turn.5 in (
        n - 1,
        omega (arith, said.1),
        (
          put k d so_far.0,
          so_far.1 ∙ member_read p n so_far.0 ts r k behind d (omega (arith, said.1)) turn.3 turn.4,
          turn.6 ∙ ap (seen_with k d) so_far.2 ∙ sym (seen_in-put k d so_far.0),
        ),
        omega (arith, said.3),
      )

  -- the brace behind them
  pub all_said : (ts r : List Token) (s : Seen) → SayBefore depth start ts s → read_key ts ≡ Some (None, r)
      → (ms : Members) × SaysMembers depth start r ms × (s ≡ seen_in ms)
  all_said ts r s said over =
      let so_far = said.2 in
      let shorter = read_key-shorter ts None r over in (
        so_far.0,
        (
          so_far.1 ∙ members_over (value depth) said.0 so_far.0 ts r said.1 over,
          omega (arith, said.3),
        ),
        so_far.2,
      )

  -- the call of members that say so
  pub call_said : (r : List Token) (ms : Members) (s : Seen) (call : Call) → SaysMembers depth start r ms
      → s ≡ seen_in ms → seen_call s ≡ Some call → false ≡ s.opening → MakesCall depth start r call
  call_said r ms s call says is made none =
      (ms, says, ap seen_call (sym is) ∙ made, none ∙ ap (λ s. s.opening) is)

  -- the call that they make at their end
  pub call_ends : (ts r : List Token) (s : Seen) (call : Call) → SayBefore depth start ts s
      → read_key ts ≡ Some (None, r) → seen_call s ≡ Some call → false ≡ s.opening → MakesCall depth start r call
  call_ends ts r s call said over made none =
      let all = all_said ts r s said over in call_said r all.0 s call all.1 all.2 made none

-- a name under its key
pub name_noted : (depth : ℕ) (ts behind r : List Token) (s : Seen) (name : List ℕ)
    → read_key ts ≡ Some (Some (codes "call"), behind) → behind ≡ Token.string name ∷ r
    → NotesMember depth ts r s (seen_with (codes "call") (string name) s)
name_noted depth ts behind r s name key is = (
  codes "call",
  behind,
  string name,
  key,
  string_read depth behind r name is,
  subst (λ l. length r < length l) (sym is) (omega arith),
  refl,
)

-- a whole number under a key
pub number_noted : (depth : ℕ) (ts behind r : List Token) (s : Seen) (k : List ℕ) (n : ℕ)
    → ts ≡ Token.key k ∷ behind → n < 2 ^ 64 → behind ≡ Token.number (decimal n) ∷ r
    → NotesMember depth ts r s (seen_with k (number (unsigned n)) s)
number_noted depth ts behind r s k n key fits is = (
  k,
  behind,
  number (unsigned n),
  ap read_key key,
  unsigned_read depth behind r (decimal n) n is (number_of-decimal n fits),
  subst (λ l. length r < length l) (sym is) (omega arith),
  refl,
)

-- what follows from what is said of a value is said of it too
pub some_too : {P Q : Call → Type 0} (o : Option Call) → ((call : Call) → P call → Q call) → IfSome o P → IfSome o Q
some_too None follows said = said
some_too (Some call) follows said = follows call said

-- an object whose members make a call stands for it
pub call_is : (depth : ℕ) (ts s r : List Token) (call : Call) → 0 < depth → ts ≡ Token.begin_object ∷ s
    → MakesCall (depth - 1) s r call
    → (d : Data) × (converted of_json (value depth ts) ≡ Some (d, r)) × (call_of d ≡ Some call)
    × (get (codes "config") d ≡ None)
call_is depth ts s r call some is made = (
  object made.0,
  object_read depth ts r s made.0 some is made.1.0,
  seen_call_is made.0 call made.2,
  none_opens made.0 made.3,
)

module _ (s : Seen) where
  -- a question for a flow's bytes, by its name
  pub status_named : s.name ≡ Some (codes "status") → seen_call s ≡ seen_status s
  unfolding seen_call
  status_named is = rw is refl

  -- a removal, by its name
  pub remove_named : s.name ≡ Some (codes "remove") → seen_call s ≡ seen_remove s
  unfolding seen_call
  remove_named is = rw is refl

  -- a receiver's progress, by its name
  pub heard_named : s.name ≡ Some (codes "heard") → seen_call s ≡ seen_heard s
  unfolding seen_call
  heard_named is = rw is refl

  -- a build, by its name
  pub build_named : s.name ≡ Some (codes "build") → seen_call s ≡ seen_build s
  unfolding seen_call
  build_named is = rw is refl

  -- a request, by its name
  pub ask_named : s.name ≡ Some (codes "ask") → seen_call s ≡ seen_ask s
  unfolding seen_call
  ask_named is = rw is refl
