-- Known bytes that grow.
use Rattle.std.proofs.Common.{◌≡◌, ℕ, ◌+◌, ◌-◌, List, [], ◌++◌, Option, None, Some, length, take, drop, refl, ap, ◌∙◌}
use Rattle.std.proofs.Common.{append_assoc, append-nil, arith, sym, Result, Ok, Err}
use Rattle.std.specs.Prelude.{OnErr}
use Rattle.journal_file.specs.LineFile.{AppendsFront}
use Rattle.std.specs.Io.KnownBytes.{append_known}
use Rattle.std.proofs.Math.Seq.{take-add}
use Rattle.std.proofs.lemmas.List.{take_all, length-drop}

-- bytes, and then others behind them
pub append_known-more : (known : Option (List ℕ)) (xs ys : List ℕ)
    → append_known (append_known known xs) ys ≡ append_known known (xs ++ ys)
append_known-more None xs ys = refl
append_known-more (Some text) xs ys = ap Some (append_assoc text xs ys)

-- nothing more
pub append_known-none : (known : Option (List ℕ)) → append_known known [] ≡ known
append_known-none None = refl
append_known-none (Some text) = ap Some (append-nil text)

-- so many bytes more of a text
pub append_known_part : (a b c : Option (List ℕ)) (bytes : List ℕ) (at n : ℕ) → b ≡ append_known a (take at bytes)
    → c ≡ append_known b (take n (take (length bytes - at) (drop at bytes))) → c ≡ append_known a (take (at + n) bytes)
append_known_part a b c bytes at n front more =
    let all : take (length bytes - at) (drop at bytes) ≡ drop at bytes =
    take_all (length bytes - at) (drop at bytes) (omega (arith, length-drop at bytes)) in
    more ∙ ap (λ xs. append_known b (take n xs)) all ∙ ap (λ known. append_known known (take n (drop at bytes))) front
    ∙ append_known-more a (take at bytes) (take n (drop at bytes))
    ∙ ap (append_known a) (sym (take-add at n bytes))

-- all of the bytes were appended, whatever came of the call behind that
pub through : {T E : Type 0} (r : Result T E) (old new : Option (List ℕ)) (bytes : List ℕ)
    → new ≡ append_known old bytes → AppendsFront old new bytes r
through (Ok x) old new bytes is = is
through (Err e) old new bytes is =
    (length bytes, is ∙ ap (append_known old) (sym (take_all (length bytes) bytes (omega arith))))

-- what holds anyway holds where there is a fault
pub on_err : {T E : Type 0} {P : Type 0} (r : Result T E) → P → OnErr r P
on_err (Ok x) holds = tt
on_err (Err e) holds = holds
