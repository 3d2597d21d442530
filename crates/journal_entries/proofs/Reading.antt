-- An entry that stands behind a legal history, where it may follow, where it may not, and where there are too many.
use Rattle.std.proofs.Common.{◌≡◌, ℕ, ◌+◌, ◌≤◌, List, [], ◌∷◌, ◌++◌, length, Option, None, Some, sym, ap, ◌∙◌, subst}
use Rattle.std.proofs.Common.{arith, length-append}
use Rattle.std.proofs.Math.Seq.{take-append_seam}
use Rattle.minislots.specs.declared.config.Config.{Config}
use Rattle.sched_calls.specs.declared.reply.Entry.{Entry}
use Rattle.sched_calls.specs.declared.reply.TheConstants.{MAX_WHOLE_HISTORY}
use Rattle.sched_history.specs.History.{IsStep, IsLegal}
use Rattle.text_stream.specs.declared.Told.TheVariants.{Line, Long}
use Rattle.text_stream.specs.Told.{AtHand, untold, TellsWhole}
use Rattle.history_reading.specs.Recorded.{entry_in}
use Rattle.journal_entries.specs.Standing.{entry_in_line}
use Rattle.journal_entries.specs.Journal.{StandSoFar, FindsIllegalIn, FindsNoEntryIn, HasTooMany}
use Rattle.journal_entries.specs.Unjudged.{StandWith}
use Rattle.journal_entries.proofs.Lines.{StandFor-push, came_line, came_hand, slice_get-last, none-long, in_line-short}
use Rattle.journal_entries.proofs.Lines.{FindsNoEntry-line}

module _ (before mid left : Option (List ℕ)) (c : Config) (es : List Entry) (e : Entry)
    (stands : StandWith before mid left c es e) where
  -- one that may follow goes on with the history
  pub StandSoFar-with : IsLegal c (es ++ e ∷ []) → StandSoFar before mid c (es ++ e ∷ [])
  StandSoFar-with legal = record { lines = stands.lines; came = stands.came; stand = stands.stand; legal = legal }

  -- one that may not is the first that may not
  pub FindsIllegal-with : IsLegal c es → (IsStep c es e.call e.reply → ⊥)
      → FindsIllegalIn before left c (es ++ e ∷ []) (length es)
  FindsIllegal-with legal no_step =
      let front = sym (take-append_seam es (e ∷ [])) in
      record {
        lines = stands.lines;
        behind = stands.behind;
        came = stands.at_hand;
        stand = stands.stand;
        last = length-append es (e ∷ []);
        first = record {
          entry = e;
          stands = slice_get-last es e;
          legal_before = subst (IsLegal c) front legal;
          no_step = subst (λ (h : List Entry). IsStep c h e.call e.reply → ⊥) front no_step;
        };
      }

  -- one above as many as a whole history may have is one too many
  pub HasTooMany-with : MAX_WHOLE_HISTORY ≤ length es → HasTooMany before left
  HasTooMany-with full = record {
    lines = stands.lines;
    behind = stands.behind;
    came = stands.at_hand;
    config = c;
    entries = es ++ e ∷ [];
    stand = stands.stand;
    many = let more = length-append es (e ∷ []) in omega (arith, more, full);
  }

-- what is read of a line behind the first
module _ (before mid remaining : Option (List ℕ)) (hand : AtHand) (c : Config) (es : List Entry)
    (so_far : StandSoFar before mid c es) where
  -- one that is too long stands for no entry
  pub FindsNoEntry-read_long : TellsWhole mid (untold hand remaining) hand Long
      → FindsNoEntryIn before remaining c es (length es + 1)
  FindsNoEntry-read_long told =
      FindsNoEntry-line before mid remaining hand.bytes c es so_far told.line told.within told.taken
      (none-long entry_in told.line told.is)

  module _ (shown : List ℕ) (told : TellsWhole mid (untold hand remaining) hand Line) (is : shown ≡ hand.line) where
    read_line : entry_in_line told.line ≡ entry_in shown
    read_line = in_line-short entry_in told.line told.is.1 ∙ ap entry_in (sym (is ∙ told.is.0))

    -- one that stands for an entry
    pub StandWith-read : (e : Entry) → Some e ≡ entry_in shown
        → StandWith before (untold hand remaining) remaining c es e
    StandWith-read e stands = record {
      lines = so_far.lines ++ told.line ∷ [];
      behind = hand.bytes;
      came = came_line before mid remaining hand.bytes c es so_far told.line told.within told.taken;
      at_hand = came_hand before mid remaining hand.bytes c es so_far told.line told.within told.taken;
      stand = StandFor-push so_far.lines c es told.line e so_far.stand (read_line ∙ sym stands);
    }

    -- one that stands for none
    pub FindsNoEntry-read : None ≡ entry_in shown → FindsNoEntryIn before remaining c es (length es + 1)
    FindsNoEntry-read none =
        FindsNoEntry-line before mid remaining hand.bytes c es so_far told.line told.within told.taken
        (read_line ∙ sym none)
