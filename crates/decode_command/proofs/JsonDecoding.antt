-- How far the decoding of lines into JSON has come: one line more, and the end.
use Rattle.std.proofs.Common.{◌≡◌, ℕ, ◌+◌, ◌-◌, ◌^◌, ◌≤◌, Bool, true, false, ◌&&◌, List, [], ◌∷◌, ◌++◌, length}
use Rattle.std.proofs.Common.{Option, inl, inr, refl, ap, sym, ◌∙◌, append_assoc, append-nil, arith}
use Rattle.std.proofs.KnownBytes.{Appends-nil, Appends-trans}
use Rattle.std.proofs.lemmas.List.{length-append}
use Rattle.std.specs.Io.KnownBytes.{Appends}
use Rattle.text_stream.specs.declared.fault.TextFault.{TextFault}
use Rattle.text_stream.specs.declared.fault.TextFault.TheVariants.{Input, TooLong, NotJson, Shape, Config, Memory}
use Rattle.text_stream.specs.declared.fault.TextFault.TheVariants.{Output}
use Rattle.text_stream.specs.declared.run_fault.RunFault.TheVariants.{Text}
use Rattle.text_stream.specs.Lines.{TakesLines}
use Rattle.text_stream.specs.Told.{AtHand, untold, HasEnded, StopsLine}
use Rattle.decode_command.specs.declared.form.JsonForm.{JsonForm}
use Rattle.decode_command.specs.declared.decoded.Decoded.{Decoded}
use Rattle.decode_command.specs.JsonLines.{BecomesJson, BecomeEachJson, json_line, json_lines, is_line_well}
use Rattle.decode_command.specs.JsonLines.{are_lines_well, PutsLine, DecodesJson, DecodedJson, DecodesJsonFront}
use Rattle.decode_command.specs.JsonLines.{ComesTooMuchJson, StopsJson}
use Rattle.decode_command.proofs.Outcomes.{TakesLines-trans, TakesLines-none, TakesLines-ended, left_at_end}
use Rattle.decode_command.proofs.Outcomes.{takes_left}

-- one line more, with what becomes of it
become-push : (form : JsonForm) (lines : List (List ℕ)) (os : List (Option Decoded)) (line : List ℕ)
    (o : Option Decoded) → BecomeEachJson form lines os → BecomesJson form line o
    → BecomeEachJson form (lines ++ line ∷ []) (os ++ o ∷ [])
become-push form [] [] line o each one = (one, tt)
become-push form [] (p ∷ os) line o each one = absurd each
become-push form (l ∷ lines) [] line o each one = absurd each
become-push form (l ∷ lines) (p ∷ os) line o each one = (each.0, become-push form lines os line o each.1 one)

-- what is written of one line more, which has this number
written-push : (n m : ℕ) (os : List (Option Decoded)) (o : Option Decoded) → m ≡ n + length os
    → json_lines n (os ++ o ∷ []) ≡ json_lines n os ++ json_line m o
written-push n m [] o is =
    let same : n ≡ m = omega (arith, is) in
    append-nil (json_line n o) ∙ ap (λ k. json_line k o) same
written-push n m (p ∷ os) o is =
    ap (λ l. json_line n p ++ l) (written-push (n + 1) m os o (omega (arith, is)))
    ∙ sym (append_assoc (json_line n p) (json_lines (n + 1) os) (json_line m o))

and_true : (b : Bool) → (true && b) ≡ (b && true)
and_true true = refl
and_true false = refl

and_assoc : (a b c : Bool) → (a && (b && c)) ≡ ((a && b) && c)
and_assoc true b c = refl
and_assoc false b c = refl

-- whether none is wrong, with one line more
well-push : (os : List (Option Decoded)) (o : Option Decoded)
    → (are_lines_well os && is_line_well o) ≡ are_lines_well (os ++ o ∷ [])
well-push [] o = and_true (is_line_well o)
well-push (p ∷ os) o =
    sym (and_assoc (is_line_well p) (are_lines_well os) (is_line_well o))
    ∙ ap (λ b. is_line_well p && b) (well-push os o)

-- so many lines were decoded
pub record Telling (form : JsonForm) (unread left before after : Option (List ℕ)) (is : Bool) (n : ℕ) : Type 0 where
  pub decoded : DecodesJson form unread left before after is
  pub many : length decoded.lines ≡ n
  pub same : length decoded.outcomes ≡ n

module _ (form : JsonForm) (unread before : Option (List ℕ)) where
  -- none was
  pub Telling-none : (hand : AtHand) → hand.bytes ≡ [] → Telling form unread (untold hand unread) before before true 0
  Telling-none hand none = record {
    decoded = record {
      lines = [];
      outcomes = [];
      become = tt;
      read = TakesLines-none unread hand.bytes none;
      written = Appends-nil before;
      well = refl;
    };
    many = refl;
    same = refl;
  }

  -- and none is, where there is no memory
  pub front-none : DecodesJsonFront form unread before before
  front-none =
      let none = Telling-none (record { bytes = []; line = [] }) refl in
      record { left = untold (record { bytes = []; line = [] }) unread; is = true; decoded = none.decoded }

  -- one more was
  pub Telling-push : (left left2 after after2 : Option (List ℕ)) (is more : Bool) (n : ℕ) (line text : List ℕ)
      → Telling form unread left before after is n → TakesLines left (line ∷ []) left2
      → PutsLine form (n + 1) line more text → Appends after after2 text
      → Telling form unread left2 before after2 (is && more) (n + 1)
  Telling-push left left2 after after2 is more n line text t takes puts writes =
      let p = t.decoded in
      let o = puts.outcome in
      record {
        decoded = record {
          lines = p.lines ++ line ∷ [];
          outcomes = p.outcomes ++ o ∷ [];
          become = become-push form p.lines p.outcomes line o p.become puts.becomes;
          read = TakesLines-trans unread left left2 p.lines (line ∷ []) p.read takes;
          written = rw (written-push 1 (n + 1) p.outcomes o (omega (arith, t.same)), ← puts.text)
              (Appends-trans before after after2 (json_lines 1 p.outcomes) text p.written writes);
          well = ap (λ b. b && more) p.well ∙ ap (λ b. are_lines_well p.outcomes && b) puts.well
              ∙ well-push p.outcomes o;
        };
        many = omega (arith, t.many, length-append p.lines (line ∷ []));
        same = omega (arith, t.same, length-append p.outcomes (o ∷ []));
      }

  -- all were
  pub Telling-all : (left : Option (List ℕ)) (hand : AtHand) (rest after : Option (List ℕ)) (is : Bool) (n : ℕ)
      → Telling form unread left before after is n → HasEnded left (untold hand rest)
      → DecodedJson form unread rest before after is
  Telling-all left hand rest after is n t ended =
      let p = t.decoded in
      let read = TakesLines-ended unread left (untold hand rest) p.lines p.read ended in
      record {
        decoded = record {
          lines = p.lines;
          outcomes = p.outcomes;
          become = p.become;
          read = takes_left unread hand.bytes rest p.lines read ended.1;
          written = p.written;
          well = p.well;
        };
        ended = left_at_end hand.bytes rest ended.1;
      }

  -- some were
  pub Telling-front : (left after : Option (List ℕ)) (is : Bool) (n : ℕ) → Telling form unread left before after is n
      → DecodesJsonFront form unread before after
  Telling-front left after is n t = record { left = left; is = is; decoded = t.decoded }

  -- no line more is told
  pub Telling-stops : (left rest after : Option (List ℕ)) (is : Bool) (n : ℕ) (fault : TextFault)
      → Telling form unread left before after is n → StopsLine left rest fault
      → StopsJson form unread rest before after (Text fault)
  Telling-stops left rest after is n Input t stops =
      record { front = record { left = left; is = is; decoded = t.decoded }; none = stops }
  Telling-stops left rest after is n TooLong t stops =
      inl (record { front = record { left = left; is = is; decoded = t.decoded }; none = stops.0 }, stops.1)
  Telling-stops left rest after is n NotJson t stops = absurd stops
  Telling-stops left rest after is n (Shape k) t stops = absurd stops
  Telling-stops left rest after is n (Config field) t stops = absurd stops
  Telling-stops left rest after is n Memory t stops = absurd stops
  Telling-stops left rest after is n Output t stops = absurd stops

  -- so many were that no number counts one more
  pub Telling-much : (left rest after : Option (List ℕ)) (is : Bool) (n : ℕ)
      → Telling form unread left before after is n → 2 ^ 64 - 1 ≤ n → ComesTooMuchJson form unread rest before after
  Telling-much left rest after is n t many =
      inr (record { left = left; is = is; decoded = t.decoded }, omega (arith, many, t.many))
