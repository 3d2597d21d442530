-- The bytes that were looked at, and what is behind them.
use Rattle.std.proofs.Common.{◌≡◌, ℕ, ◌+◌, ◌-◌, ◌<◌, ◌≤◌, min, List, [], ◌++◌, length, take, drop}
use Rattle.std.proofs.Common.{Option, None, Some, Result}
use Rattle.std.proofs.Common.{refl, sym, ap, subst, ◌∙◌, append_assoc, arith, inl, inr}
use Rattle.std.specs.Prelude.{◌⊎◌}
use Rattle.std.specs.Io.KnownBytes.{Consumes, IsAtEnd, Keeps, ReadConsumes, prepend_known}
use Rattle.std.proofs.lemmas.List.{append-nil, drop-drop, drop_at, length-take-le, take-append-le, take_rest, take_min}
use Rattle.std.proofs.lemmas.List.{length-append, length-take, length-drop}
use Rattle.check_lines.specs.declared.front.TheConstants.{FRONT}
use Rattle.check_lines.specs.Front.{IsFront}

-- where nothing is at hand all is behind
pub prepend-none : (known : Option (List ℕ)) → prepend_known [] known ≡ known
prepend-none None = refl
prepend-none (Some text) = refl

-- a read behind the bytes at hand, which it joins
pub Keeps-read : (a b : Option (List ℕ)) (hand read : List ℕ) → Consumes a b read
    → Keeps (prepend_known hand a) (prepend_known (hand ++ read) b)
Keeps-read None b hand read consumed = tt
Keeps-read (Some text) None hand read consumed = absurd consumed
Keeps-read (Some text) (Some rest) hand read consumed =
    append_assoc hand read rest ∙ ap (λ (l : List ℕ). hand ++ l) (sym consumed)

-- a read that failed
pub Keeps-behind : (a b : Option (List ℕ)) (hand : List ℕ) → Keeps a b
    → Keeps (prepend_known hand a) (prepend_known hand b)
Keeps-behind None b hand keeps = tt
Keeps-behind (Some text) None hand keeps = absurd keeps
Keeps-behind (Some text) (Some rest) hand keeps = ap (λ (l : List ℕ). hand ++ l) keeps

-- bytes at hand that were given are no more at hand
pub drop-given : (bytes : List ℕ) (given n : ℕ) (buf left : List ℕ) → drop given bytes ≡ take n buf ++ left
    → n ≤ length buf → drop (given + n) bytes ≡ left
drop-given bytes given n buf left parts fits =
    sym (drop-drop n given bytes) ∙ ap (drop n) parts ∙ drop_at (take n buf) left n (length-take-le n buf fits)

-- and they were what was to be read first
pub Consumes-given : (known : Option (List ℕ)) (hand given left : List ℕ) → hand ≡ given ++ left
    → Consumes (prepend_known hand known) (prepend_known left known) given
Consumes-given None hand given left parts = tt
Consumes-given (Some text) hand given left parts =
    ap (λ (l : List ℕ). l ++ text) parts ∙ append_assoc given left text

-- the first bytes at hand are the first of what is to be read
pub IsFront-looked : (known : Option (List ℕ)) (hand : List ℕ) → (FRONT ≤ length hand) ⊎ IsAtEnd known
    → IsFront (prepend_known hand known) (take FRONT hand)
IsFront-looked None hand looked = tt
IsFront-looked (Some text) hand (inl many) = sym (take-append-le FRONT hand text many)
IsFront-looked (Some text) hand (inr ended) =
    sym (ap (λ (l : List ℕ). take FRONT (hand ++ l)) ended ∙ ap (take FRONT) (append-nil hand))

-- as many bytes as are looked at, shown
pub first-shown : (shown bytes : List ℕ) (given n : ℕ) → shown ≡ bytes
    → n ≡ min (length (take (length shown - given) (drop given shown))) FRONT
    → take n (take (length shown - given) (drop given shown)) ≡ take FRONT (drop given bytes)
first-shown shown bytes given n same count =
    let hand = drop given shown in
    let whole : take (length shown - given) hand ≡ hand = take_rest shown given in
    let whole_length = ap length whole in
    let len : n ≡ min FRONT (length hand) = omega (arith, count, whole_length) in
    ap (take n) whole ∙ ap (λ (m : ℕ). take m hand) len ∙ take_min FRONT hand
    ∙ ap (λ (l : List ℕ). take FRONT (drop given l)) same

-- a read where nothing is at hand
pub ReadConsumes-behind : {E : Type 0} (a b : Option (List ℕ)) (hand : List ℕ) (r : Result ℕ E) (buf : List ℕ)
    → hand ≡ [] → ReadConsumes a b r buf → ReadConsumes (prepend_known hand a) (prepend_known hand b) r buf
ReadConsumes-behind a b hand r buf none reads =
    let behind = subst (λ (y : Option (List ℕ)). ReadConsumes a y r buf) (sym (prepend-none b)) reads in
    let both = subst (λ (x : Option (List ℕ)). ReadConsumes x (prepend_known [] b) r buf) (sym (prepend-none a))
    behind in
    subst (λ (h : List ℕ). ReadConsumes (prepend_known h a) (prepend_known h b) r buf) (sym none) both

module _ (shown : List ℕ) (given n : ℕ) (buf left : List ℕ)
    (parts : take (length shown - given) (drop given shown) ≡ take n buf ++ left) (fits : n ≤ length buf) where
  -- what is given was at hand
  pub given-fits : given ≤ length shown → given + n ≤ length shown
  given-fits within =
      let whole = ap length (take_rest shown given) in
      let all = ap length parts in
      let sum = length-append (take n buf) left in
      let front = length-take-le n buf fits in
      let rest = length-drop given shown in
      omega (arith, whole, all, sum, front, rest, within)

  -- and is consumed
  pub Consumes-front : (known : Option (List ℕ)) (bytes : List ℕ) → shown ≡ bytes
      → Consumes (prepend_known (drop given bytes) known) (prepend_known (drop (given + n) bytes) known) (take n buf)
  Consumes-front known bytes same =
      let hand : drop given bytes ≡ take n buf ++ left =
      ap (λ (l : List ℕ). drop given l) (sym same) ∙ sym (take_rest shown given) ∙ parts in
      let behind = drop-given bytes given n buf left hand fits in
      subst (λ (l : List ℕ). Consumes (prepend_known (drop given bytes) known) (prepend_known l known) (take n buf))
      (sym behind) (Consumes-given known (drop given bytes) (take n buf) left hand)

  -- where bytes are at hand some are given
  pub some-given : given < length shown → n ≡ 0 → left ≡ [] → ⊥
  some-given below zero none =
      let whole = ap length (take_rest shown given) in
      let all = ap length parts in
      let sum = length-append (take n buf) left in
      let front = length-take n buf in
      let rest = length-drop given shown in
      let end = ap length none in
      omega (arith, whole, all, sum, front, rest, end, below, zero)
