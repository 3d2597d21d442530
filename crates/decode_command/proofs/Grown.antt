-- A text that grew by pieces, one behind another, grew by all of them.
use Rattle.std.proofs.Common.{◌≡◌, ℕ, List, ◌++◌, ap, ◌∙◌, append_assoc}

-- by two
pub grown_twice : (start one two a b : List ℕ) → one ≡ start ++ a → two ≡ one ++ b → two ≡ start ++ (a ++ b)
grown_twice start one two a b first second = second ∙ ap (λ t. t ++ b) first ∙ append_assoc start a b

-- by three
pub grown : (start one two three a b x : List ℕ) → one ≡ start ++ a → two ≡ one ++ b → three ≡ two ++ x
    → three ≡ start ++ (a ++ b ++ x)
grown start one two three a b x first second third =
    third ∙ ap (λ t. t ++ x) (grown_twice start one two a b first second) ∙ append_assoc start (a ++ b) x
