-- Bytes that are read one piece after the other, and the value that they are the text of.
use Rattle.std.proofs.Common.{◌≡◌, ℕ, Bool, true, false, cond, List, [], ◌++◌, Option, Some, None, Ok, Err, refl, sym}
use Rattle.std.proofs.Common.{ap, ◌∙◌, append_assoc}
use Rattle.std.specs.Prelude.{IsUtf8, ok_or}
use Rattle.std.specs.Str.{is_utf8}
use Rattle.std.proofs.lemmas.Str.{is_utf8-from_IsUtf8, IsUtf8-from_is_utf8}
use Rattle.std.specs.Io.KnownBytes.{Consumes}
use Rattle.serde_json.specs.Data.{Data}
use Rattle.serde_json.specs.Read.{read}
use Rattle.text_stream.specs.declared.fault.TextFault.TheVariants.{NotJson}
use Rattle.text_stream.specs.Input.{value_of}

-- bytes are consumed, and then more bytes
pub Consumes-append : (a b c : Option (List ℕ)) (xs ys : List ℕ) → Consumes a b xs → Consumes b c ys
    → Consumes a c (xs ++ ys)
Consumes-append None b c xs ys p q = tt
Consumes-append (Some a) None c xs ys p q = absurd p
Consumes-append (Some a) (Some b) None xs ys p q = absurd q
Consumes-append (Some a) (Some b) (Some c) xs ys p q = p ∙ ap (λ (zs : List ℕ). xs ++ zs) q ∙ sym (append_assoc xs ys c)

-- no bytes are consumed
pub Consumes-none : (a : Option (List ℕ)) → Consumes a a []
Consumes-none None = tt
Consumes-none (Some a) = refl

-- bytes that are the text of a value stand for it
pub value_of-Ok : (bytes : List ℕ) (d : Data) → IsUtf8 bytes → read bytes ≡ Some d → value_of bytes ≡ Ok d
unfolding value_of
value_of-Ok bytes d utf8 reads = rw (is_utf8-from_IsUtf8 bytes utf8) (rw reads refl)

not_json : (utf8 : Bool) (read : Option Data) → (utf8 ≡ true → read ≡ None)
    → cond utf8 (ok_or read NotJson) (Err NotJson) ≡ Err NotJson
not_json true read none = rw (none refl) refl
not_json false read none = refl

-- other bytes stand for none
pub value_of-Err : (bytes : List ℕ) → (IsUtf8 bytes → read bytes ≡ None) → value_of bytes ≡ Err NotJson
unfolding value_of
value_of-Err bytes none = not_json (is_utf8 bytes) (read bytes) (λ utf8. none (IsUtf8-from_is_utf8 bytes utf8))
