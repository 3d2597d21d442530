-- What is written piece by piece is what the pieces make together.
use Rattle.std.proofs.Common.{◌≡◌, ℕ, ◌+◌, ◌-◌, List, [], ◌++◌, Option, None, Some, length, take, drop, sym, ap, ◌∙◌}
use Rattle.std.proofs.Common.{Result, Ok, Err, append_assoc, append-nil, arith}
use Rattle.std.proofs.lemmas.Bool.{true≢false}
use Rattle.std.specs.Prelude.{IsOk, OnOk, MatchResult}
use Rattle.std.proofs.Math.Seq.{take-add}
use Rattle.std.proofs.lemmas.List.{take_all, length-drop}
use Rattle.std.specs.Io.KnownBytes.{Appends, append_known}
use Rattle.text_stream.specs.declared.fault.TextFault.{TextFault}
use Rattle.std.proofs.KnownBytes.{Appends-trans}

-- a front, and so many bytes behind it
pub Appends-part : (a b c : Option (List ℕ)) (bytes : List ℕ) (at n : ℕ) → Appends a b (take at bytes)
    → Appends b c (take n (take (length bytes - at) (drop at bytes)))
    → Appends a c (take (at + n) bytes)
Appends-part a b c bytes at n front more =
    rw take-add (Appends-trans a b c (take at bytes) (take n (drop at bytes)) front
    (rw (take_all (length bytes - at) (drop at bytes) (omega (arith, length-drop at bytes))) at more))

-- what follows from a fact that holds where there is a value
pub where_ok : {A E P Q : Type 0} (r : Result A E) → (P → Q) → OnOk r P → OnOk r Q
where_ok (Ok x) follows holds = follows holds
where_ok (Err e) follows holds = tt

-- what follows from what was written and from no failed write, where a text is written behind that
pub where_written : {A P Q F G : Type 0} (Ends : TextFault → Type 0) (r : Result A TextFault) → (P → Q) → (F → G)
    → MatchResult r (λ _. P × F) Ends → MatchResult r (λ _. Q × G) Ends
where_written Ends (Ok x) follows stays holds = (follows holds.0, stays holds.1)
where_written Ends (Err e) follows stays holds = holds

-- a fact that holds where there is a value, of which there is one
pub holds_at : {A E P : Type 0} (r : Result A E) → IsOk r → OnOk r P → P
holds_at (Ok x) is holds = holds
holds_at (Err e) is holds = absurd (true≢false (sym is))

-- a line behind those that wait
pub Appends-waits : (a : Option (List ℕ)) (waiting new line : List ℕ) → new ≡ waiting ++ line
    → Appends (append_known a waiting) (append_known a new) line
Appends-waits None waiting new line is = tt
Appends-waits (Some xs) waiting new line is = ap (λ l. xs ++ l) is ∙ sym (append_assoc xs waiting line)

-- a line that waits behind those that were written
pub Appends-behind : (a b : Option (List ℕ)) (waiting new line : List ℕ) → Appends a b waiting → new ≡ line
    → Appends (append_known a waiting) (append_known b new) line
Appends-behind None b waiting new line out is = tt
Appends-behind (Some xs) None waiting new line out is = absurd out
Appends-behind (Some xs) (Some ys) waiting new line out is = ap (λ l. ys ++ l) is ∙ ap (λ l. l ++ line) out

-- a line that was written behind those that waited
pub Appends-past : (a b c : Option (List ℕ)) (waiting new line : List ℕ) → Appends a b waiting → Appends b c line
    → new ≡ [] → Appends (append_known a waiting) (append_known c new) line
Appends-past None b c waiting new line out more none = tt
Appends-past (Some xs) None c waiting new line out more none = absurd out
Appends-past (Some xs) (Some ys) None waiting new line out more none = absurd more
Appends-past (Some xs) (Some ys) (Some zs) waiting new line out more none =
    ap (λ l. zs ++ l) none ∙ append-nil zs ∙ more ∙ ap (λ l. l ++ line) out

-- what waited was written in the end
pub Appends-out : (a b c : Option (List ℕ)) (waiting text : List ℕ) → Appends a (append_known b waiting) text
    → Appends b c waiting → Appends a c text
Appends-out None b c waiting text behind out = tt
Appends-out (Some xs) None c waiting text behind out = absurd behind
Appends-out (Some xs) (Some ys) None waiting text behind out = absurd out
Appends-out (Some xs) (Some ys) (Some zs) waiting text behind out = out ∙ behind
