-- What was heard of the lines behind an opening.
use Rattle.std.proofs.Common.{◌≡◌, ℕ, ◌+◌, ◌-◌, ◌^◌, ◌<◌, ◌≤◌, List, [], ◌∷◌, ◌++◌, length, map, take}
use Rattle.std.proofs.Common.{Option, None, Some, Result, Ok, Err, refl, sym, ap, ap₂, subst, ◌∙◌, inl, inr}
use Rattle.std.proofs.Common.{append_assoc, arith, length-append}
use Rattle.std.specs.Prelude.{◌⊎◌, if◌then◌else◌}
use Rattle.std.proofs.lemmas.Bool.{cases_lt}
use Rattle.std.proofs.lemmas.List.{append-nil, map-append, take_all, take-append-le}
use Rattle.std.proofs.lemmas.List.Elements.{filter-append}
use Rattle.sched_calls.specs.declared.call.Call.{Call}
use Rattle.text_stream.specs.declared.Told.{Told}
use Rattle.text_stream.specs.Told.{AtHand, HasEnded, TellsNext}
use Rattle.live_command.specs.declared.fault.LineFault.{LineFault}
use Rattle.live_command.specs.Spoken.{heard_of}
use Rattle.live_command.proofs.Talking.{TakesLines-none, TakesLines-trans, TakesLines-front, TakesLines-all}
use Rattle.check_lines.specs.declared.live.TheConstants.{MOST}
use Rattle.check_lines.specs.declared.live.Conversation.{Conversation}
use Rattle.check_lines.specs.declared.told_line.ToldLine.{ToldLine}
use Rattle.check_lines.specs.Bad.{BadLine, bad_of, bad_heard, bad_lines, is_call_heard, call_lines}
use Rattle.check_lines.specs.Live.{Counts, HearsEach, HearsBad, Hears, HearsSoFar, HearsAll}
use Rattle.check_lines.specs.Opening.{HasTooManyLines}
use Rattle.check_lines.proofs.Openings.{TakesLines-ended}

-- what is bad among lines and one more
bad_lines-push : (n k : ℕ) (lines : List (List ℕ)) (line : List ℕ) → k ≡ n + length lines + 1
    → bad_lines n (lines ++ line ∷ []) ≡ bad_lines n lines ++ bad_heard k (heard_of line)
bad_lines-push n k [] line number =
    let same : n + 1 ≡ k = omega (arith, number) in
    append-nil (bad_heard (n + 1) (heard_of line)) ∙ ap (λ (m : ℕ). bad_heard m (heard_of line)) same
bad_lines-push n k (x ∷ lines) line number =
    let rest = bad_lines-push (n + 1) k lines line (omega (arith, number)) in
    ap (λ (l : List BadLine). bad_heard (n + 1) (heard_of x) ++ l) rest
    ∙ sym (append_assoc (bad_heard (n + 1) (heard_of x)) (bad_lines (n + 1) lines) (bad_heard k (heard_of line)))

-- the line, where it is a call
abbrev call_of_one : Option (Result Call LineFault) → List ℕ → List (List ℕ)
call_of_one heard line = if is_call_heard heard then line ∷ [] else []

call_lines-push : (lines : List (List ℕ)) (line : List ℕ)
    → call_lines (lines ++ line ∷ []) ≡ call_lines lines ++ call_of_one (heard_of line) line
call_lines-push lines line = filter-append (λ (l : List ℕ). is_call_heard (heard_of l)) lines (line ∷ [])

one_heard : (n : ℕ) (heard : Option (Result Call LineFault)) (line : List ℕ) (rest : List (List ℕ))
    → length (if is_call_heard heard then line ∷ rest else rest) + length (bad_heard n heard) ≤ length rest + 1
one_heard n None line rest = omega arith
one_heard n (Some (Ok call)) line rest = omega arith
one_heard n (Some (Err fault)) line rest = omega arith

-- each line is a call, or bad, or neither
counts-few : (n : ℕ) (lines : List (List ℕ)) → length (call_lines lines) + length (bad_lines n lines) ≤ length lines
counts-few n [] = omega arith
counts-few n (line ∷ lines) =
    let one = one_heard (n + 1) (heard_of line) line (call_lines lines) in
    let rest = counts-few (n + 1) lines in
    let sum = length-append (bad_heard (n + 1) (heard_of line)) (bad_lines (n + 1) lines) in
    omega (arith, one, rest, sum)

-- what is told where one bad line more was heard
told-push : (k : ℕ) (fault : LineFault) (bads : List BadLine) (old new : Conversation)
    → old.bad ≡ length bads → map bad_of old.told.items ≡ take MOST bads → HearsBad k fault old new
    → (old.bad < MOST) ⊎ (MOST ≤ old.bad)
    → map bad_of new.told.items ≡ take MOST (bads ++ (record { number = k; fault = fault }) ∷ [])
told-push k fault bads old new count told hears (inl few) =
    let bad : BadLine = record { number = k; fault = fault } in
    let more : length (bads ++ bad ∷ []) ≡ length bads + 1 = length-append bads (bad ∷ []) in
    let short : length bads ≤ MOST = omega (arith, few, count) in
    let one_more : length (bads ++ bad ∷ []) ≤ MOST = omega (arith, few, count, more) in
    let line = hears.told_is few in
    ap (λ (l : List ToldLine). map bad_of l) line.2 ∙ map-append bad_of old.told.items (line.0 ∷ [])
    ∙ ap₂ (λ (a : List BadLine) (b : BadLine). a ++ b ∷ []) (told ∙ take_all MOST bads short) line.1
    ∙ sym (take_all MOST (bads ++ bad ∷ []) one_more)
told-push k fault bads old new count told hears (inr many) =
    let bad : BadLine = record { number = k; fault = fault } in
    let full : MOST ≤ length bads = omega (arith, many, count) in
    let same : take MOST (bads ++ bad ∷ []) ≡ take MOST bads = take-append-le MOST bads (bad ∷ []) full in
    ap (λ (l : List ToldLine). map bad_of l) (hears.untold many) ∙ told ∙ sym same

-- one line more was heard
Counts-push : (k : ℕ) (heard : Option (Result Call LineFault)) (line : List ℕ) (calls : List (List ℕ))
    (bads : List BadLine) (old new : Conversation) → Counts calls bads old → Hears k heard old new
    → Counts (calls ++ call_of_one heard line) (bads ++ bad_heard k heard) new
Counts-push k None line calls bads old new counts hears =
    rw (hears, append-nil calls, append-nil bads) counts
Counts-push k (Some (Ok call)) line calls bads old new counts hears =
    let more : length (calls ++ line ∷ []) ≡ length calls + 1 = length-append calls (line ∷ []) in
    rw (hears, append-nil bads) (record {
      calls_are = omega (arith, more, counts.calls_are);
      bad_is = counts.bad_is;
      told_are = counts.told_are;
    })
Counts-push k (Some (Err fault)) line calls bads old new counts hears =
    let bad : BadLine = record { number = k; fault = fault } in
    let more : length (bads ++ bad ∷ []) ≡ length bads + 1 = length-append bads (bad ∷ []) in
    record {
      calls_are = hears.calls_are ∙ counts.calls_are ∙ ap length (sym (append-nil calls));
      bad_is = hears.bad_is ∙ ap (λ (n : ℕ). n + 1) counts.bad_is ∙ sym more;
      told_are = told-push k fault bads old new counts.bad_is counts.told_are hears (cases_lt old.bad MOST);
    }

HearsEach-push : (passed k : ℕ) (lines : List (List ℕ)) (line : List ℕ) (old new : Conversation)
    → k ≡ passed + length lines + 1 → HearsEach passed lines old → Hears k (heard_of line) old new
    → HearsEach passed (lines ++ line ∷ []) new
HearsEach-push passed k lines line old new number hears one =
    let both = Counts-push k (heard_of line) line (call_lines lines) (bad_lines passed lines) old new hears one in
    let calls : Counts (call_lines (lines ++ line ∷ [])) (bad_lines passed lines ++ bad_heard k (heard_of line)) new =
    subst (λ (l : List (List ℕ)). Counts l (bad_lines passed lines ++ bad_heard k (heard_of line)) new)
    (sym (call_lines-push lines line)) both in
    subst (λ (l : List BadLine). Counts (call_lines (lines ++ line ∷ [])) l new)
    (sym (bad_lines-push passed k lines line number)) calls

-- nothing was heard yet
pub HearsSoFar-none : (passed : ℕ) (unread : Option (List ℕ)) (talk : Conversation) → talk.calls ≡ 0 → talk.bad ≡ 0
    → talk.told.items ≡ [] → HearsSoFar passed passed unread unread talk
HearsSoFar-none passed unread talk calls bad told = record {
  lines = [];
  read = TakesLines-none unread;
  number_is = omega arith;
  hears = record { calls_are = calls; bad_is = bad; told_are = ap (λ (l : List ToldLine). map bad_of l) told };
}

module _ (passed number : ℕ) (unread mid : Option (List ℕ)) (talk : Conversation)
    (so_far : HearsSoFar passed number unread mid talk) where
  -- one line more
  pub HearsSoFar-push : (left : Option (List ℕ)) (hand : AtHand) (told : Told) (new : Conversation)
      → (next : TellsNext mid left hand told) → Hears (number + 1) (heard_of next.line) talk new
      → HearsSoFar passed (number + 1) unread left new
  HearsSoFar-push left hand told new next hears = record {
    lines = so_far.lines ++ next.line ∷ [];
    read = TakesLines-trans unread mid left so_far.lines (next.line ∷ []) so_far.read next.taken;
    number_is = omega (arith, so_far.number_is, length-append so_far.lines (next.line ∷ []));
    hears = HearsEach-push passed (number + 1) so_far.lines next.line talk new
        (omega (arith, so_far.number_is)) so_far.hears hears;
  }

  -- the end
  pub HearsAll-ended : (left : Option (List ℕ)) → HasEnded mid left → HearsAll passed unread left talk
  HearsAll-ended left ended =
      let read = TakesLines-ended unread mid left so_far.lines so_far.read ended in
      record {
        lines = so_far.lines;
        read = TakesLines-all unread left so_far.lines read ended.1;
        ended = ended.1;
        hears = so_far.hears;
      }

  -- too many
  pub HearsSoFar-many : 2 ^ 64 - 1 ≤ number → HasTooManyLines passed unread
  HearsSoFar-many most = record {
    lines = so_far.lines;
    read = TakesLines-front unread mid so_far.lines so_far.read;
    many = omega (arith, most, so_far.number_is);
  }

  -- no more calls and bad lines than lines
  pub few_heard : talk.calls + talk.bad ≤ number
  few_heard =
      let few = counts-few passed so_far.lines in
      omega (arith, few, so_far.number_is, so_far.hears.calls_are, so_far.hears.bad_is)
