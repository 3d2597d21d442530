-- How many bytes the compact text of a value has at most.
use Rattle.std.proofs.Common.{◌≡◌, ℕ, ◌+◌, ◌*◌, ◌≤◌, Bool, true, false, not, ◌&&◌, cond, nat_lt, List, [], ◌∷◌, ◌++◌}
use Rattle.std.proofs.Common.{length, inl, inr, refl, arith, length-append}
use Rattle.std.specs.Prelude.{if◌then◌else◌}
use Rattle.std.proofs.lemmas.Bool.{and_parts, cases_Bool}
use Rattle.std.proofs.lemmas.Fmt.{length-decimal-le}
use Rattle.json.specs.Print.{escape_letter, escape_byte, escape, quoted}
use Rattle.serde_json.specs.Data.{Num, unsigned, negative, float, Data, null, boolean, number, string, array, object}
use Rattle.serde_json.specs.Data.{Items, no_items, item, Members, no_members, member}
use Rattle.serde_json.specs.Written.{comma_if, compact_text, items_text, members_text}
use Rattle.state_text.proofs.Readable.{IsReadable, AreReadable, MembersReadable}

-- a byte stands in a string as it is
abbrev prints_itself : ℕ → Bool
prints_itself x = not (nat_lt 0 (escape_letter x)) && not (nat_lt x 32)

-- so does each of these
abbrev print_themselves : List ℕ → Bool
print_themselves [] = true
print_themselves (x ∷ s) = prints_itself x && print_themselves s

-- the room for a text: its bytes where each stands there as it is, and else six for each, and its quotes
abbrev pub quoted_room : List ℕ → ℕ
quoted_room s = if print_themselves s then length s + 2 else 6 * length s + 2

-- it is never more than that
pub quoted_room-most : (s : List ℕ) → quoted_room s ≤ 6 * length s + 2
quoted_room-most s = elim (cases_Bool (print_themselves s)) [
  | inl plain ↦ rw plain (omega arith)
  | inr other ↦ rw other (omega arith)
]

-- the room for a value: 20 digits for a number of 64 bits
abbrev mutual
  pub room : Data → ℕ
  room null = 4
  room (boolean b) = 5
  room (number n) = 20
  room (string s) = quoted_room s
  room (array ds) = items_room ds + 2
  room (object ms) = members_room ms + 2

  -- each item with a comma
  pub items_room : Items → ℕ
  items_room no_items = 0
  items_room (item d ds) = room d + 1 + items_room ds

  -- each member with a colon and a comma
  pub members_room : Members → ℕ
  members_room no_members = 0
  members_room (member k d ms) = quoted_room k + 2 + room d + members_room ms

not_true : (b : Bool) → not b ≡ true → b ≡ false
not_true true is = absurd cc
not_true false is = refl

either : (b : Bool) (s t : List ℕ) → length s ≤ 6 → length t ≤ 6 → length (cond b s t) ≤ 6
either true s t p q = p
either false s t p q = q

length-escape_byte : (x : ℕ) → length (escape_byte x) ≤ 6
unfolding escape_byte
length-escape_byte x = either (nat_lt 0 (escape_letter x)) _ _ (omega arith)
    (either (nat_lt x 32) _ _ (omega arith) (omega arith))

length-escape : (s : List ℕ) → length (escape s) ≤ 6 * length s
length-escape [] = omega arith
length-escape (x ∷ s) =
    omega (arith, length-append (escape_byte x) (escape s), length-escape_byte x, length-escape s)

length-itself : (x : ℕ) → prints_itself x ≡ true → length (escape_byte x) ≡ 1
unfolding escape_byte
length-itself x plain =
    let parts = and_parts (not (nat_lt 0 (escape_letter x))) (not (nat_lt x 32)) plain in
    rw (not_true (nat_lt 0 (escape_letter x)) parts.0, not_true (nat_lt x 32) parts.1) refl

length-themselves : (s : List ℕ) → print_themselves s ≡ true → length (escape s) ≡ length s
length-themselves [] plain = refl
length-themselves (x ∷ s) plain =
    let parts = and_parts (prints_itself x) (print_themselves s) plain in
    omega (
      arith,
      length-append (escape_byte x) (escape s),
      length-itself x parts.0,
      length-themselves s parts.1,
    )

length-quoted : (s : List ℕ) → length (quoted s) ≤ quoted_room s
length-quoted s = elim (cases_Bool (print_themselves s)) [
  | inl plain ↦
      rw plain (omega (arith, length-append (escape s) (34 ∷ []), length-themselves s plain))
  | inr other ↦ rw other (omega (arith, length-append (escape s) (34 ∷ []), length-escape s))
]

length-number : (n : Num) → IsReadable (number n) → length (compact_text (number n)) ≤ 20
length-number (unsigned n) h = length-decimal-le 20 n (omega arith) (omega (arith, h)) h
length-number (negative z) h = absurd h
length-number (float x) h = absurd h

length-comma : (later : Bool) → length (comma_if later) ≤ 1
length-comma true = omega arith
length-comma false = omega arith

mutual
  -- the text has room
  pub length-compact : (d : Data) → IsReadable d → length (compact_text d) ≤ room d
  length-compact null h = omega arith
  length-compact (boolean true) h = omega arith
  length-compact (boolean false) h = omega arith
  length-compact (number n) h = length-number n h
  length-compact (string s) h = length-quoted s
  length-compact (array ds) h = omega (arith, length-items false ds h)
  length-compact (object ms) h = omega (arith, length-members false ms h.1)

  length-items : (later : Bool) (ds : Items) → AreReadable ds → length (items_text later ds) ≤ items_room ds + 1
  length-items later no_items h = omega arith
  length-items later (item d ds) h = omega (
    arith,
    length-append (comma_if later) (compact_text d ++ items_text true ds),
    length-append (compact_text d) (items_text true ds),
    length-comma later,
    length-compact d h.0,
    length-items true ds h.1,
  )

  length-members : (later : Bool) (ms : Members) → MembersReadable ms
      → length (members_text later ms) ≤ members_room ms + 1
  length-members later no_members h = omega arith
  length-members later (member k d ms) h =
      let rest = compact_text d ++ members_text true ms in
      omega (
        arith,
        length-append (comma_if later) (quoted k ++ 58 ∷ rest),
        length-append (quoted k) (58 ∷ rest),
        length-append (compact_text d) (members_text true ms),
        length-comma later,
        length-quoted k,
        length-compact d h.1,
        length-members true ms h.2,
      )
