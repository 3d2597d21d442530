-- How far the lines of a journal have come, and what they stand for.
use Rattle.std.proofs.Common.{◌≡◌, ℕ, ◌+◌, ◌<◌, ◌≤◌, List, [], ◌∷◌, ◌++◌, length}
use Rattle.std.proofs.Common.{Option, None, Some, refl, sym, ap, ◌∙◌, subst}
use Rattle.std.proofs.Common.{append_assoc, arith, length-append, inl, inr}
use Rattle.std.specs.Prelude.{MatchOption}
use Rattle.std.specs.List.{AllByRecursion, slice_get}
use Rattle.std.specs.Io.KnownBytes.{Consumes, IsAtEnd, prepend_known}
use Rattle.std.proofs.KnownBytes.{Consumes-trans}
use Rattle.std.proofs.lemmas.Bool.{lt-ltb, le-ltb}
use Rattle.std.proofs.lemmas.List.{append-nil, length-map, map-append}
use Rattle.std.proofs.Math.Seq.{take-append_seam}
use Rattle.std.proofs.lemmas.List.Concat.{flat_map-append}
use Rattle.minislots.specs.declared.config.Config.{Config}
use Rattle.sched_calls.specs.declared.reply.Entry.{Entry}
use Rattle.sched_calls.specs.declared.reply.TheConstants.{MAX_WHOLE_HISTORY}
use Rattle.sched_history.specs.History.{IsStep, IsLegal}
use Rattle.sched_history.specs.Machine.{Past}
use Rattle.text_stream.specs.declared.TheConstants.{MAX_LINE, NEWLINE}
use Rattle.text_stream.specs.Lines.{IsWithinLine}
use Rattle.text_stream.specs.declared.Told.TheVariants.{Line, Long}
use Rattle.text_stream.specs.Told.{AtHand, untold, TellsWhole, IsTorn, StopsLine}
use Rattle.history_reading.specs.Recorded.{entry_in}
use Rattle.journal_entries.specs.Standing.{StandFor, in_line, opening_in, config_in_line, entry_in_line, ended_lines}
use Rattle.journal_entries.specs.Taking.{TakesEntry, MeetsIllegal, StopsTaking}
use Rattle.text_stream.specs.declared.fault.TextFault.{TextFault}
use Rattle.text_stream.specs.declared.fault.TextFault.TheVariants.{Input, TooLong, NotJson, Shape}
use Rattle.text_stream.specs.declared.fault.TextFault.TheVariants.{Config as BadConfig, Memory}
use Rattle.text_stream.specs.declared.fault.TextFault.TheVariants.{Output}
use Rattle.journal_entries.specs.Journal.{Came, CameAll, StandSoFar, FindsLegal}
use Rattle.journal_entries.specs.Journal.{FindsIllegalIn, FindsNoEntryIn, HasNoOpening}
use Rattle.journal_entries.specs.Journal.{HasTooMany, StopsJournal}

-- one line more
ended_lines-push : (lines : List (List ℕ)) (line : List ℕ)
    → ended_lines (lines ++ line ∷ []) ≡ ended_lines lines ++ (line ++ NEWLINE ∷ [])
ended_lines-push lines line =
    flat_map-append (λ line. line ++ NEWLINE ∷ []) lines (line ∷ [])
    ∙ ap (λ (rest : List ℕ). ended_lines lines ++ rest) (append-nil (line ++ NEWLINE ∷ []))

all-push : (lines : List (List ℕ)) (line : List ℕ) → AllByRecursion IsWithinLine lines → IsWithinLine line
    → AllByRecursion IsWithinLine (lines ++ line ∷ [])
all-push [] line all one = (one, tt)
all-push (l ∷ lines) line all one = (all.0, all-push lines line all.1 one)

-- bytes at hand stand behind those that were taken
Consumes-hand : (before remaining : Option (List ℕ)) (hand taken : List ℕ)
    → Consumes before (prepend_known hand remaining) taken → Consumes before remaining (taken ++ hand)
Consumes-hand None remaining hand taken all = tt
Consumes-hand (Some text) None hand taken all = absurd all
Consumes-hand (Some text) (Some rest) hand taken all = all ∙ sym (append_assoc taken hand rest)

none-behind : (hand rest : List ℕ) → hand ++ rest ≡ [] → rest ≡ []
none-behind [] rest none = none
none-behind (b ∷ hand) rest none = absurd cc

-- at the end nothing is at hand, and nothing is left
Consumes-end : (before remaining : Option (List ℕ)) (hand taken : List ℕ)
    → Consumes before (prepend_known hand remaining) taken → IsAtEnd (prepend_known hand remaining)
    → Consumes before remaining taken
Consumes-end None remaining hand taken all ended = tt
Consumes-end (Some text) None hand taken all ended = absurd all
Consumes-end (Some text) (Some rest) hand taken all ended =
    all ∙ ap (λ (l : List ℕ). taken ++ l) (ended ∙ sym (none-behind hand rest ended))

IsAtEnd-hand : (remaining : Option (List ℕ)) (hand : List ℕ) → IsAtEnd (prepend_known hand remaining)
    → IsAtEnd remaining
IsAtEnd-hand None hand ended = tt
IsAtEnd-hand (Some rest) hand ended = none-behind hand rest ended

module _ (before mid now : Option (List ℕ)) (lines : List (List ℕ)) (came : Came before mid lines []) where
  all_lines : Consumes before mid (ended_lines lines)
  all_lines = rw (append-nil (ended_lines lines)) at came.consumed

  -- bytes behind the lines
  Came-behind : (bytes : List ℕ) → Consumes mid now bytes → Came before now lines bytes
  Came-behind bytes more = record {
    consumed = Consumes-trans before mid now (ended_lines lines) bytes all_lines more;
    within = came.within;
  }

  -- one line more, which a newline ends
  Came-push : (line : List ℕ) → IsWithinLine line → Consumes mid now (line ++ NEWLINE ∷ [])
      → Came before now (lines ++ line ∷ []) []
  Came-push line within more =
      let all = Consumes-trans before mid now (ended_lines lines) (line ++ NEWLINE ∷ []) all_lines more in
      record {
        consumed = rw (append-nil (ended_lines (lines ++ line ∷ [])), ended_lines-push lines line) all;
        within = all-push lines line came.within within;
      }

-- what is at hand stands behind the lines
Came-hand : (before remaining : Option (List ℕ)) (hand : List ℕ) (lines : List (List ℕ))
    → Came before (prepend_known hand remaining) lines [] → Came before remaining lines hand
Came-hand before remaining hand lines came = record {
  consumed = Consumes-hand before remaining hand (ended_lines lines)
      (rw (append-nil (ended_lines lines)) at came.consumed);
  within = came.within;
}

-- at the end of the input
CameAll-torn : (before mid remaining : Option (List ℕ)) (hand : List ℕ) (lines : List (List ℕ)) (n : ℕ)
    → Came before mid lines [] → (torn : IsTorn mid (prepend_known hand remaining) n)
    → CameAll before remaining lines torn.bytes
CameAll-torn before mid remaining hand lines n came torn =
    let all = Came-behind before mid (prepend_known hand remaining) lines came torn.bytes torn.taken in
    record {
      came = record {
        consumed = Consumes-end before remaining hand (ended_lines lines ++ torn.bytes) all.consumed torn.ended;
        within = all.within;
      };
      ended = IsAtEnd-hand remaining hand torn.ended;
      is_torn = torn.within;
    }

-- a line that stands for one entry more
pub StandFor-push : (lines : List (List ℕ)) (c : Config) (es : List Entry) (line : List ℕ) (e : Entry)
    → StandFor lines c es → entry_in_line line ≡ Some e → StandFor (lines ++ line ∷ []) c (es ++ e ∷ [])
StandFor-push lines c es line e stand is = record {
  opening = stand.opening;
  others = stand.others ++ line ∷ [];
  lines_are = ap (λ (l : List (List ℕ)). l ++ line ∷ []) stand.lines_are;
  config_is = stand.config_is;
  entries_are = map-append entry_in_line stand.others (line ∷ [])
      ∙ rw (is, stand.entries_are) (sym (map-append Some es (e ∷ [])));
}

-- as many lines stand for entries as there are entries, behind the first
StandFor-length : (lines : List (List ℕ)) (c : Config) (es : List Entry) → StandFor lines c es
    → length lines ≡ length es + 1
StandFor-length lines c es stand =
    let others : length stand.others ≡ length es =
    sym (length-map stand.others entry_in_line) ∙ ap length stand.entries_are ∙ length-map es Some in
    let all = ap length stand.lines_are in
    omega (arith, others, all)

-- a line that is too long stands for nothing
pub none-long : {A : Type 0} (stands : List ℕ → Option A) (line : List ℕ) → MAX_LINE < length line
    → in_line stands line ≡ None
none-long stands line long = rw (lt-ltb MAX_LINE (length line) long) refl

-- a line that is not too long stands for what its bytes are
pub in_line-short : {A : Type 0} (stands : List ℕ → Option A) (line : List ℕ) → length line ≤ MAX_LINE
    → in_line stands line ≡ stands line
in_line-short stands line short = rw (le-ltb MAX_LINE (length line) short) refl

-- the entry behind all others is the last
pub slice_get-last : (es : List Entry) (e : Entry) → slice_get (es ++ e ∷ []) (length es) ≡ Some e
slice_get-last [] e = refl
slice_get-last (x ∷ es) e = slice_get-last es e

module _ (before mid remaining : Option (List ℕ)) (hand : List ℕ) (c : Config) (es : List Entry)
    (so_far : StandSoFar before mid c es) where
  -- all lines were judged
  pub FindsLegal-torn : (n : ℕ) → IsTorn mid (prepend_known hand remaining) n → FindsLegal before remaining c es n
  FindsLegal-torn n torn = record {
    lines = so_far.lines;
    behind = torn.bytes;
    came = CameAll-torn before mid remaining hand so_far.lines n so_far.came torn;
    stand = so_far.stand;
    legal = so_far.legal;
    torn_is = torn.count_is;
  }

  module _ (line : List ℕ) (within : IsWithinLine line)
      (taken : Consumes mid (prepend_known hand remaining) (line ++ NEWLINE ∷ [])) where
    -- one line more came, and nothing behind it
    pub came_line : Came before (prepend_known hand remaining) (so_far.lines ++ line ∷ []) []
    came_line = Came-push before mid (prepend_known hand remaining) so_far.lines so_far.came line within taken

    -- one line more came, and behind it the bytes at hand
    pub came_hand : Came before remaining (so_far.lines ++ line ∷ []) hand
    came_hand = Came-hand before remaining hand (so_far.lines ++ line ∷ []) came_line

    -- a line that stands for one entry more
    pub StandSoFar-push : (e : Entry) → entry_in_line line ≡ Some e → IsLegal c (es ++ e ∷ [])
        → StandSoFar before (prepend_known hand remaining) c (es ++ e ∷ [])
    StandSoFar-push e is legal = record {
      lines = so_far.lines ++ line ∷ [];
      came = came_line;
      stand = StandFor-push so_far.lines c es line e so_far.stand is;
      legal = legal;
    }

    -- a line that stands for no entry
    pub FindsNoEntry-line : entry_in_line line ≡ None → FindsNoEntryIn before remaining c es (length es + 1)
    FindsNoEntry-line none = record {
      lines = so_far.lines;
      line = line;
      behind = hand;
      came = came_hand;
      stand = so_far.stand;
      legal = so_far.legal;
      none = none;
      number = sym (StandFor-length so_far.lines c es so_far.stand);
    }

    -- a line that stands for an entry that may not follow
    pub FindsIllegal-line : (e : Entry) → entry_in_line line ≡ Some e → (IsStep c es e.call e.reply → ⊥)
        → FindsIllegalIn before remaining c (es ++ e ∷ []) (length es)
    FindsIllegal-line e is no_step =
        let front = sym (take-append_seam es (e ∷ [])) in
        record {
          lines = so_far.lines ++ line ∷ [];
          behind = hand;
          came = came_hand;
          stand = StandFor-push so_far.lines c es line e so_far.stand is;
          last = length-append es (e ∷ []);
          first = record {
            entry = e;
            stands = slice_get-last es e;
            legal_before = subst (IsLegal c) front so_far.legal;
            no_step = subst (λ (h : List Entry). IsStep c h e.call e.reply → ⊥) front no_step;
          };
        }

    -- a line that stands for one entry above as many as a whole history may have
    pub HasTooMany-line : (e : Entry) → entry_in_line line ≡ Some e → MAX_WHOLE_HISTORY ≤ length es
        → HasTooMany before remaining
    HasTooMany-line e is full = record {
      lines = so_far.lines ++ line ∷ [];
      behind = hand;
      came = came_hand;
      config = c;
      entries = es ++ e ∷ [];
      stand = StandFor-push so_far.lines c es line e so_far.stand is;
      many = let more = length-append es (e ∷ []) in omega (arith, more, full);
    }

-- no line is told: a read failed, or a line has no end
pub StopsJournal-line : (before mid remaining : Option (List ℕ)) (c : Config) (es : List Entry)
    → StandSoFar before mid c es → (fault : TextFault) → StopsLine mid remaining fault
    → StopsJournal before remaining fault
StopsJournal-line before mid remaining c es so_far Input stops = tt
StopsJournal-line before mid remaining c es so_far TooLong stops = inr (record {
  lines = so_far.lines;
  line = stops.0.bytes;
  came = Came-behind before mid remaining so_far.lines so_far.came stops.0.bytes stops.0.consumed;
  within = stops.0.within;
  long = stops.1;
})
StopsJournal-line before mid remaining c es so_far NotJson stops = absurd stops
StopsJournal-line before mid remaining c es so_far (Shape n) stops = absurd stops
StopsJournal-line before mid remaining c es so_far (BadConfig field) stops = absurd stops
StopsJournal-line before mid remaining c es so_far Memory stops = tt
StopsJournal-line before mid remaining c es so_far Output stops = absurd stops

-- the first line
pub StandSoFar-opening : (before after : Option (List ℕ)) (line : List ℕ) (c : Config) → IsWithinLine line
    → Consumes before after (line ++ NEWLINE ∷ []) → config_in_line line ≡ Some c → StandSoFar before after c []
StandSoFar-opening before after line c within taken is = record {
  lines = line ∷ [];
  came = record {
    consumed = rw (append-nil (ended_lines (line ∷ [])), append-nil (line ++ NEWLINE ∷ [])) taken;
    within = (within, tt);
  };
  stand = record { opening = line; others = []; lines_are = refl; config_is = is; entries_are = refl };
  legal = tt;
}

module _ (before remaining : Option (List ℕ)) (hand : List ℕ) where
  -- a first line that is no configuration
  pub HasOtherOpening-line : (line : List ℕ) → IsWithinLine line
      → Consumes before (prepend_known hand remaining) (line ++ NEWLINE ∷ []) → config_in_line line ≡ None
      → HasNoOpening before remaining
  HasOtherOpening-line line within taken none = inr (record {
    line = line;
    behind = hand;
    came = record {
      consumed = Consumes-hand before remaining hand (ended_lines (line ∷ []))
          (rw (append-nil (line ++ NEWLINE ∷ [])) taken);
      within = (within, tt);
    };
    none = none;
  })

  -- no whole line at all
  pub HasNoLine-torn : (n : ℕ) → IsTorn before (prepend_known hand remaining) n → HasNoOpening before remaining
  HasNoLine-torn n torn = inl (record {
    behind = torn.bytes;
    came = record {
      came = record {
        consumed = Consumes-end before remaining hand torn.bytes torn.taken torn.ended;
        within = tt;
      };
      ended = IsAtEnd-hand remaining hand torn.ended;
      is_torn = torn.within;
    };
  })

-- the first line has no end
pub StopsJournal-opening : (before remaining : Option (List ℕ)) (fault : TextFault) → StopsLine before remaining fault
    → StopsJournal before remaining fault
StopsJournal-opening before remaining Input stops = tt
StopsJournal-opening before remaining TooLong stops = inr (record {
  lines = [];
  line = stops.0.bytes;
  came = record { consumed = stops.0.consumed; within = tt };
  within = stops.0.within;
  long = stops.1;
})
StopsJournal-opening before remaining NotJson stops = absurd stops
StopsJournal-opening before remaining (Shape n) stops = absurd stops
StopsJournal-opening before remaining (BadConfig field) stops = absurd stops
StopsJournal-opening before remaining Memory stops = tt
StopsJournal-opening before remaining Output stops = absurd stops

-- what the first line stands for
pub opened-line : (before remaining : Option (List ℕ)) (hand : AtHand) (shown : List ℕ) (o : Option Config)
    → TellsWhole before (untold hand remaining) hand Line → shown ≡ hand.line → o ≡ opening_in shown
    → MatchOption o (HasNoOpening before remaining) (λ c. StandSoFar before (untold hand remaining) c [])
opened-line before remaining hand shown None told same is =
    HasOtherOpening-line before remaining hand.bytes told.line told.within told.taken
    (in_line-short opening_in told.line told.is.1 ∙ ap opening_in (sym (same ∙ told.is.0)) ∙ sym is)
opened-line before remaining hand shown (Some c) told same is =
    StandSoFar-opening before (untold hand remaining) told.line c told.within told.taken
    (in_line-short opening_in told.line told.is.1 ∙ ap opening_in (sym (same ∙ told.is.0)) ∙ sym is)

-- a first line that is too long stands for no configuration
pub HasOtherOpening-long : (before remaining : Option (List ℕ)) (hand : AtHand)
    → TellsWhole before (untold hand remaining) hand Long → HasNoOpening before remaining
HasOtherOpening-long before remaining hand told =
    HasOtherOpening-line before remaining hand.bytes told.line told.within told.taken
    (none-long opening_in told.line told.is)

-- what comes of a line behind the first
module _ (before mid remaining : Option (List ℕ)) (hand : AtHand) (c : Config) (past : Past) (same : past.config ≡ c)
    (so_far : StandSoFar before mid c past.history) where
  -- one that is too long stands for no entry
  pub FindsNoEntry-long : TellsWhole mid (untold hand remaining) hand Long
      → FindsNoEntryIn before remaining c past.history (length past.history + 1)
  FindsNoEntry-long told =
      FindsNoEntry-line before mid remaining hand.bytes c past.history so_far told.line told.within told.taken
      (none-long entry_in told.line told.is)

  module _ (shown : List ℕ) (told : TellsWhole mid (untold hand remaining) hand Line) (is : shown ≡ hand.line) where
    at_line : {o : Option Entry} → entry_in_line shown ≡ o → entry_in_line told.line ≡ o
    at_line stands = ap entry_in_line (sym (is ∙ told.is.0)) ∙ stands

    -- one that stands for an entry that may follow goes on with the history
    pub StandSoFar-entry : (new : Past) (entry : Entry) → TakesEntry past new shown entry
        → StandSoFar before (untold hand remaining) c new.history
    StandSoFar-entry new entry takes =
        let all = ap (λ (p : Past). p.history) takes.taken in
        let config = ap (λ (p : Past). p.config) takes.taken ∙ same in
        let legal : IsLegal c (past.history ++ entry ∷ []) = rw (config, all) at takes.legal in
        subst (StandSoFar before (untold hand remaining) c) (sym all)
        (StandSoFar-push before mid remaining hand.bytes c past.history so_far told.line told.within told.taken
        entry (at_line takes.is) legal)

    -- one whose entry may not follow is the first that may not
    pub FindsIllegal-entry : (new : Past) (n : ℕ) → (meets : MeetsIllegal past new shown) → n ≡ length new.history
        → FindsIllegalIn before remaining c (past.history ++ meets.entry ∷ []) n
    FindsIllegal-entry new n meets count =
        let no_step : IsStep c past.history meets.entry.call meets.entry.reply → ⊥ = rw same at meets.no_step in
        subst (FindsIllegalIn before remaining c (past.history ++ meets.entry ∷ []))
        (sym (count ∙ ap (λ (p : Past). length p.history) meets.same))
        (FindsIllegal-line before mid remaining hand.bytes c past.history so_far told.line told.within told.taken
        meets.entry (at_line meets.is) no_step)

    -- one that stands for no entry is the first that does not
    pub FindsNoEntry-none : (new : Past) (n : ℕ) → entry_in_line shown ≡ None → new ≡ past → n ≡ length new.history
        → FindsNoEntryIn before remaining c past.history (n + 1)
    FindsNoEntry-none new n none stays count =
        subst (λ n. FindsNoEntryIn before remaining c past.history (n + 1))
        (sym (count ∙ ap (λ (p : Past). length p.history) stays))
        (FindsNoEntry-line before mid remaining hand.bytes c past.history so_far told.line told.within told.taken
        (at_line none))

    -- one that is not judged stops the journal, with the same fault
    pub StopsJournal-taking : (fault : TextFault) → StopsTaking past shown fault → StopsJournal before remaining fault
    StopsJournal-taking Input stops = absurd stops
    StopsJournal-taking TooLong stops =
        inl (HasTooMany-line before mid remaining hand.bytes c past.history so_far told.line told.within told.taken
        stops.0 (at_line stops.1) stops.2)
    StopsJournal-taking NotJson stops = absurd stops
    StopsJournal-taking (Shape n) stops = absurd stops
    StopsJournal-taking (BadConfig field) stops = absurd stops
    StopsJournal-taking Memory stops = tt
    StopsJournal-taking Output stops = absurd stops
