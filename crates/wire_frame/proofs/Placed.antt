-- Pieces that are written one behind the other.
use Rattle.std.proofs.Common.{◌≡◌, ℕ, ◌+◌, List, ◌++◌, length, take, drop, sym, ap, ap₂, subst, ◌∙◌, arith}
use Rattle.std.proofs.Common.{take_at, drop_at, drop-drop, append_assoc, length-append}
use Rattle.std.specs.Int.{w16, to_be_bytes}
use Rattle.wire_frame.specs.MapFrame.{all_modems, map_type, message}

-- one piece more behind those in front of what was there
pub placed : (front bytes old now new : List ℕ) (at end : ℕ) → length front ≡ at → end ≡ at + length bytes
    → now ≡ front ++ drop at old → new ≡ (take at now ++ bytes) ++ drop end now
    → new ≡ (front ++ bytes) ++ drop end old
placed front bytes old now new at end long e is made =
    let first : take at now ≡ front = ap (take at) is ∙ take_at front (drop at old) at long in
    let rest : drop at now ≡ drop at old = ap (drop at) is ∙ drop_at front (drop at old) at long in
    let beyond : drop end now ≡ drop end old
    = ap (λ n. drop n now) e ∙ sym (drop-drop (length bytes) at now) ∙ ap (drop (length bytes)) rest
    ∙ drop-drop (length bytes) at old ∙ ap (λ n. drop n old) (sym e) in
    made ∙ ap₂ (λ x y. (x ++ bytes) ++ y) first beyond

-- the middle of three pieces
pub middle : (front body rest : List ℕ) (at n : ℕ) → length front ≡ at → length body ≡ n
    → take n (drop at ((front ++ body) ++ rest)) ≡ body
middle front body rest at n p q =
    ap (λ x. take n (drop at x)) (append_assoc front body rest) ∙ ap (take n) (drop_at front (body ++ rest) at p)
    ∙ take_at body rest n q

-- five pieces behind a front are a front and five pieces
pub in_message : (f a b c d e : List ℕ) → ((((f ++ a) ++ b) ++ c) ++ d) ++ e ≡ f ++ ((((a ++ b) ++ c) ++ d) ++ e)
in_message f a b c d e = simp append_assoc

-- the length of a message
pub length-message : (address payload : List ℕ) → length address ≡ 6
    → length (message address payload) ≡ 20 + length payload
length-message address payload h =
    let start = all_modems ++ address in
    let len = to_be_bytes w16 (length map_type + length payload) in
    let a : length start ≡ 12 = omega (arith, h) in
    let b : length (start ++ len) ≡ 14 = length-append start len ∙ omega arith in
    let d : length ((start ++ len) ++ map_type) ≡ 20 = length-append (start ++ len) map_type ∙ omega arith in
    length-append ((start ++ len) ++ map_type) payload ∙ omega arith

-- the same, for what ends behind the piece
pub placed_at : (front bytes old now new : List ℕ) (at end : ℕ) → length front ≡ at → end ≡ at + length bytes
    → now ≡ front ++ drop at old → new ≡ (take at now ++ bytes) ++ drop (at + length bytes) now
    → new ≡ (front ++ bytes) ++ drop end old
placed_at front bytes old now new at end long e is made =
    placed front bytes old now new at end long e is
    (subst (λ n. new ≡ (take at now ++ bytes) ++ drop n now) (sym e) made)
