-- A journal that was cut behind its first line stands for the first of its entries.
use Rattle.std.proofs.Common.{◌≡◌, ℕ, ◌+◌, ◌-◌, List, [], ◌++◌, length, take, sym, ap, ◌∙◌, arith, append_assoc}
use Rattle.std.specs.Prelude.{flat_map}
use Rattle.std.proofs.Math.Seq.{take-append-add}
use Rattle.sched_history.specs.History.{IsStep}
use Rattle.sched_history.proofs.steps.LegalHistories.{EachAfter-take}
use Rattle.history_writing.specs.Journal.{opening_line, entry_line}
use Rattle.journal_file.proofs.Growing.{are_part}
use Rattle.laws.specs.CutJournal.{IsCutJournal}
use Rattle.laws.proofs.TornLines.{all-take, torn_within}
use Rattle.laws.proofs.LinesAgain.{journal_text-read}
use Rattle.laws.proofs.ReadableLines.{history_readable}

-- the first bytes of a journal, its first line among them, stand for the first of its entries
pub journal_text-cut : IsCutJournal
journal_text-cut c es k is types past =
    let opening = opening_line c in
    let n = k - length opening in
    let sum : k ≡ length opening + n = omega (arith, past) in
    let cut = are_part es n in
    let front = take cut.count es in
    let all = history_readable c es is types in
    let read = journal_text-read c front is.config_fits is.lawful
    (record { opening = all.opening; entries = all-take _ cut.count es all.entries }) in
    record {
      count = cut.count;
      lines = read.0;
      torn = cut.torn;
      bytes_are = ap (λ (m : ℕ). take m (opening ++ flat_map entry_line es)) sum
          ∙ take-append-add opening (flat_map entry_line es) n
          ∙ ap (λ (t : List ℕ). opening ++ t) cut.text_is
          ∙ sym (append_assoc opening (flat_map entry_line front) cut.torn)
          ∙ ap (λ (t : List ℕ). t ++ cut.torn) read.1.text;
      text = read.1;
      torn_within = torn_within cut.torn cut.torn_is;
      legal = EachAfter-take (λ before e. IsStep c before e.call e.reply) [] es cut.count is.legal;
    }
