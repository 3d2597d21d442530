-- How far the decoding of lines has come: one line more, and the end.
use Rattle.std.proofs.Common.{◌≡◌, ℕ, ◌+◌, ◌-◌, ◌^◌, ◌≤◌, Bool, true, false, List, [], ◌∷◌, ◌++◌, length}
use Rattle.std.proofs.Common.{Option, inl, inr, refl, arith}
use Rattle.std.proofs.KnownBytes.{Appends-nil, Appends-trans}
use Rattle.std.proofs.lemmas.List.{length-append}
use Rattle.std.specs.Io.KnownBytes.{Appends}
use Rattle.text_stream.specs.declared.fault.TextFault.{TextFault}
use Rattle.text_stream.specs.declared.fault.TextFault.TheVariants.{Input, TooLong, NotJson, Shape, Config, Memory}
use Rattle.text_stream.specs.declared.fault.TextFault.TheVariants.{Output}
use Rattle.text_stream.specs.declared.run_fault.RunFault.TheVariants.{Text}
use Rattle.text_stream.specs.Lines.{TakesLines}
use Rattle.text_stream.specs.Told.{AtHand, untold, HasEnded, StopsLine}
use Rattle.decode_command.specs.Line.{Becomes}
use Rattle.decode_command.specs.Lines.{shown_of, separated, said_from}
use Rattle.decode_command.specs.Lines.{Start, DecodesLines, DecodedLines, DecodesFront}
use Rattle.decode_command.specs.Line.{outcome_of, shown_one, said_one}
use Rattle.decode_command.specs.Lines.{ComesTooMuch, StopsDecoding, stays_first}
use Rattle.decode_command.specs.Lines.{stays_well}
use Rattle.decode_command.proofs.Outcomes.{is_nil, TakesLines-trans, TakesLines-none, TakesLines-ended, left_at_end}
use Rattle.decode_command.proofs.Outcomes.{takes_left, BecomeEach-push, shown-push, first-push, well-push}
use Rattle.decode_command.proofs.Outcomes.{said-push}

-- so many lines were decoded
pub record Decoding (s : Start) (left written said : Option (List ℕ)) (has_failed is_first is_well : Bool) (n : ℕ)
    : Type 0 where
  pub decoded : DecodesLines s left written said has_failed is_well
  pub many : length decoded.lines ≡ n
  pub same : length decoded.outcomes ≡ n
  pub first : is_first ≡ is_nil (shown_of decoded.outcomes)

-- none was
pub Decoding-none : (s : Start) (hand : AtHand) (has_failed : Bool) → hand.bytes ≡ []
    → Decoding s (untold hand s.unread) s.written s.said has_failed true true 0
Decoding-none s hand has_failed none = record {
  decoded = record {
    lines = [];
    outcomes = [];
    become = tt;
    read = TakesLines-none s.unread hand.bytes none;
    shown = Appends-nil s.written;
    says = λ heard. Appends-nil s.said;
    well = refl;
  };
  many = refl;
  same = refl;
  first = refl;
}

-- and none is, where there is no memory
pub DecodesFront-none : (s : Start) (has_failed : Bool) → DecodesFront s s.written s.said has_failed
DecodesFront-none s has_failed =
    let none = Decoding-none s (record { bytes = []; line = [] }) has_failed refl in
    record { left = untold (record { bytes = []; line = [] }) s.unread; is_well = true; decoded = none.decoded }

-- one more was
pub Decoding-push : (s : Start) (left left2 written written2 said said2 : Option (List ℕ))
    (has_failed has_failed2 is_first is_well : Bool) (n : ℕ) (line told : List ℕ) (found : Option Bool)
    → Decoding s left written said has_failed is_first is_well n → TakesLines left (line ∷ []) left2
    → Becomes s.form s.columns line (outcome_of found told)
    → Appends written written2 (shown_one is_first (outcome_of found told))
    → (has_failed2 ≡ false → (has_failed ≡ false) × Appends said said2 (said_one (n + 1) (outcome_of found told)))
    → Decoding s left2 written2 said2 has_failed2 (stays_first is_first found) (stays_well is_well found) (n + 1)
Decoding-push s left left2 written written2 said said2 has_failed has_failed2 is_first is_well n line told found d takes
    becomes shows says =
    let p = d.decoded in
    let o = outcome_of found told in
    record {
      decoded = record {
        lines = p.lines ++ line ∷ [];
        outcomes = p.outcomes ++ o ∷ [];
        become = BecomeEach-push s.form s.columns p.lines p.outcomes line o p.become becomes;
        read = TakesLines-trans s.unread left left2 p.lines (line ∷ []) p.read takes;
        shown = rw (shown-push p.outcomes o is_first d.first)
            (Appends-trans s.written written written2 (separated (shown_of p.outcomes)) (shown_one is_first o) p.shown
            shows);
        says = λ heard. let now = says heard in
            rw (said-push 1 (n + 1) p.outcomes o (omega (arith, d.same)))
            (Appends-trans s.said said said2 (said_from 1 p.outcomes) (said_one (n + 1) o) (p.says now.0) now.1);
        well = well-push p.outcomes found told is_well p.well;
      };
      many = omega (arith, d.many, length-append p.lines (line ∷ []));
      same = omega (arith, d.same, length-append p.outcomes (o ∷ []));
      first = first-push p.outcomes found told is_first d.first;
    }

-- all were
pub Decoding-all : (s : Start) (left : Option (List ℕ)) (hand : AtHand) (rest written said : Option (List ℕ))
    (has_failed is_first is_well : Bool) (n : ℕ) → Decoding s left written said has_failed is_first is_well n
    → HasEnded left (untold hand rest) → DecodedLines s rest written said has_failed is_well
Decoding-all s left hand rest written said has_failed is_first is_well n d ended =
    let p = d.decoded in
    let read = TakesLines-ended s.unread left (untold hand rest) p.lines p.read ended in
    record {
      decoded = record {
        lines = p.lines;
        outcomes = p.outcomes;
        become = p.become;
        read = takes_left s.unread hand.bytes rest p.lines read ended.1;
        shown = p.shown;
        says = p.says;
        well = p.well;
      };
      ended = left_at_end hand.bytes rest ended.1;
    }

-- some were
pub Decoding-front : (s : Start) (left written said : Option (List ℕ)) (has_failed is_first is_well : Bool) (n : ℕ)
    → Decoding s left written said has_failed is_first is_well n → DecodesFront s written said has_failed
Decoding-front s left written said has_failed is_first is_well n d =
    record { left = left; is_well = is_well; decoded = d.decoded }

-- no line more is told
pub Decoding-stops : (s : Start) (left rest written said : Option (List ℕ)) (has_failed is_first is_well : Bool) (n : ℕ)
    (fault : TextFault) → Decoding s left written said has_failed is_first is_well n → StopsLine left rest fault
    → StopsDecoding s rest written said has_failed (Text fault)
Decoding-stops s left rest written said has_failed is_first is_well n Input d stops =
    record { front = record { left = left; is_well = is_well; decoded = d.decoded }; none = stops }
Decoding-stops s left rest written said has_failed is_first is_well n TooLong d stops = inl (
  record { front = record { left = left; is_well = is_well; decoded = d.decoded }; none = stops.0 },
  stops.1,
)
Decoding-stops s left rest written said has_failed is_first is_well n NotJson d stops = absurd stops
Decoding-stops s left rest written said has_failed is_first is_well n (Shape k) d stops = absurd stops
Decoding-stops s left rest written said has_failed is_first is_well n (Config field) d stops = absurd stops
Decoding-stops s left rest written said has_failed is_first is_well n Memory d stops = absurd stops
Decoding-stops s left rest written said has_failed is_first is_well n Output d stops = absurd stops

-- so many were that no number counts one more
pub Decoding-much : (s : Start) (left rest written said : Option (List ℕ)) (has_failed is_first is_well : Bool) (n : ℕ)
    → Decoding s left written said has_failed is_first is_well n → 2 ^ 64 - 1 ≤ n
    → ComesTooMuch s rest written said has_failed
Decoding-much s left rest written said has_failed is_first is_well n d many = inr (
  record { left = left; is_well = is_well; decoded = d.decoded },
  omega (arith, many, d.many),
)
