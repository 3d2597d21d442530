-- Each line of a history that a scheduler may have can be read.
use Rattle.std.proofs.Common.{◌+◌, ◌≤◌, List, [], ◌∷◌, ◌++◌, length, arith, length-append}
use Rattle.std.specs.List.{AllByRecursion}
use Rattle.std.proofs.lemmas.List.{length_push}
use Rattle.serde_json.specs.Written.{compact_text}
use Rattle.minislots.specs.declared.config.Config.{Config}
use Rattle.minislots.specs.Config.{IsLawful}
use Rattle.flow_book.proofs.Order.{all-push}
use Rattle.map_build.specs.EachAfter.{EachAfter}
use Rattle.map_build.proofs.EachAfterLaws.{EachAfter-push}
use Rattle.sched_calls.specs.declared.reply.Entry.{Entry}
use Rattle.sched_calls.specs.declared.reply.TheConstants.{MAX_WHOLE_HISTORY}
use Rattle.sched_history.specs.History.{IsStep, IsLegal}
use Rattle.text_stream.specs.declared.TheConstants.{MAX_LINE}
use Rattle.history_writing.specs.Fits.{CallFits, ConfigFits, EntryFits}
use Rattle.history_writing.specs.HistoryText.{entry_data}
use Rattle.laws.proofs.HistoryReadable.{entry_readable}
use Rattle.history_writing.specs.Journal.{opening_data, opening_line, entry_line}
use Rattle.laws.specs.LawfulHistory.{IsCallOfTypes}
use Rattle.laws.specs.JournalAgain.{HasReadableLine, IsHistoryReadable}
use Rattle.segment_line.proofs.TextRoom.{length-compact}
use Rattle.segment_line.proofs.ConfigRoom.{room-config}
use Rattle.laws.proofs.EntryRoom.{IsShort, room-entry}
use Rattle.laws.proofs.LegalFits.{reply-good}
use Rattle.laws.proofs.LinesAgain.{opening_readable}

line-short : (e : Entry) → EntryFits e → IsShort e.reply → length (entry_line e) ≤ MAX_LINE + 1
unfolding entry_line
line-short e fits short = omega (
  arith,
  length-append (compact_text (entry_data e)) (10 ∷ []),
  length-compact (entry_data e) (entry_readable e fits),
  room-entry e short,
)

-- the line of a configuration is none too long
pub opening-short : (c : Config) → ConfigFits c → length (opening_line c) ≤ MAX_LINE + 1
unfolding opening_line opening_data
opening-short c fits = omega (
  arith,
  length-append (compact_text (opening_data c)) (10 ∷ []),
  length-compact (opening_data c) (opening_readable c fits),
  room-config c,
)

-- the lines of entries that follow a legal history
pub readable-behind : (c : Config) (before es : List Entry) → IsLawful c → ConfigFits c → IsLegal c before
    → EachAfter (λ h e. IsStep c h e.call e.reply) before es → AllByRecursion (λ e. CallFits e.call) before
    → AllByRecursion IsCallOfTypes es → length before + length es ≤ MAX_WHOLE_HISTORY
    → AllByRecursion HasReadableLine es
readable-behind c before [] lawful fits legal each calls types few = tt
readable-behind c before (e ∷ es) lawful fits legal each calls types few =
    let good = reply-good c lawful fits before legal calls (omega arith) e.call e.reply each.0 in
    let entry : EntryFits e =
    record { seat = types.0.seat; ticket = types.0.ticket; call = types.0.call; reply = good.fits } in (
      record { fits = entry; short = line-short e entry good.short },
      readable-behind c (before ++ e ∷ []) es lawful fits
          (EachAfter-push (λ h e. IsStep c h e.call e.reply) [] before e legal each.0) each.1
          (all-push (λ (e : Entry). CallFits e.call) before e calls types.0.call) types.1
          (omega (arith, few, length_push before e)),
    )

-- the lines of a whole history
pub history_readable : IsHistoryReadable
history_readable c es is types = record {
  opening = opening-short c is.config_fits;
  entries = readable-behind c [] es is.lawful is.config_fits tt is.legal tt types (omega (arith, is.few));
}
