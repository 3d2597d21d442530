-- Before any entry nothing is told; each entry is told of, or it is the first that may not follow.
use Rattle.std.proofs.Common.{◌≡◌, ◌+◌, ◌++◌, ◌∷◌, [], Bool, false, List, ℕ, Option, Result, Ok, Err, length, take}
use Rattle.std.proofs.Common.{codes, refl, sym, ap, ◌∙◌, subst, arith, suc}
use Rattle.std.proofs.lemmas.List.{take_all}
use Rattle.std.proofs.Math.Seq.{take-suc}
use Rattle.std.specs.Prelude.{max}
use Rattle.std.specs.Io.KnownBytes.{Appends}
use Rattle.std.specs.Result.{MatchResult, IfOk}
use Rattle.std.proofs.KnownBytes.{Appends-trans}
use Rattle.std.proofs.lemmas.Option.{slice_get_read}
use Rattle.text_stream.specs.declared.fault.TextFault.{TextFault}
use Rattle.minislots.specs.declared.config.Config.{Config}
use Rattle.sched_calls.specs.declared.reply.Entry.{Entry}
use Rattle.sched_history.specs.History.{IsStep, IsLegal}
use Rattle.sched_history.specs.Audit.{IsFirstIllegal}
use Rattle.sched_lines.specs.Line.{number_line}
use Rattle.report_command.specs.HistorySeries.{IsHistoryTold}
use Rattle.report_command.specs.Series.{Serial, IsTellerOf, TellsEnded, TellsParts}
use Rattle.sched_history.specs.declared.fault.JudgeFault.{JudgeFault}
use Rattle.sched_history.specs.declared.fault.JudgeFault.TheVariants.{Illegal}
use Rattle.report_command.specs.declared.parts.Untold.{Untold}
use Rattle.report_command.specs.declared.parts.Untold.TheVariants.{Judged}
use Rattle.report_command.specs.Parts.{IsUntold}
use Rattle.report_command.proofs.Growing.{opens, entered, ended, Appends-none}
use Rattle.report_command.proofs.history_series.tell_history.Goals as goal

pub loop-index-init : goal.loop-index-init
loop-index-init g c = record {
  tells = (
    [],
    subst (λ (s : Serial). IsTellerOf c.args.form s []) (sym c.in-Ok.ensures)
        (opens c.args.form c.args.config.now c.args.every),
    Appends-none (g.W.Sink.contents c.args.writer.now),
  );
  config = ap (λ (s : Serial). s.told.config) c.in-Ok.ensures;
  every = ap (λ (s : Serial). s.every) c.in-Ok.ensures;
  history = ap (λ (s : Serial). s.told.history) c.in-Ok.ensures;
  legal = tt;
  writer = refl;
}

-- what is so where nothing failed, and the answer is this
is-told : (P : Bool → Type 0) (A : Type 0) (Q : TextFault → Type 0) (r : Result Bool TextFault) (b : Bool)
    → MatchResult r (λ _. A) Q → IfOk r (λ x. x ≡ b) → (A → P b) → IfOk r P
is-told P A Q (Ok x) b wrote is so = subst P (sym is) (so wrote)
is-told P A Q (Err e) b wrote is so = tt

-- an entry was not told of since it is illegal
untold-illegal : (s : Serial) (e : Entry) (before after : Option (List ℕ)) (old new : Bool) (u : Untold)
    → (fault : JudgeFault) → u ≡ Judged fault → fault ≡ Illegal → IsUntold s e before after old new u
    → IsUntold s e before after old new (Judged Illegal)
untold-illegal s e before after old new u fault is illegal untold =
    subst (λ (f : JudgeFault). IsUntold s e before after old new (Judged f)) illegal
    (subst (IsUntold s e before after old new) is untold)

-- what is so of what was taken is so of these entries
moved : (P : Config → ℕ → List Entry → Type 0) (s : Serial) (k : Config) (every : ℕ) (h : List Entry)
    → s.told.config ≡ k → s.every ≡ every → s.told.history ≡ h → P s.told.config s.every s.told.history → P k every h
moved P s k every h config same history so =
    subst (λ (k : Config). P k every h) config
    (subst (λ n. P s.told.config n h) same (subst (λ (h : List Entry). P s.told.config s.every h) history so))

pub returns-in-Err-Judged-Illegal-clause-told : goal.returns-in-Err-Judged-Illegal-clause-told
returns-in-Err-Judged-Illegal-clause-told g c =
    let at = c.loop-index.invariant in
    let s = c.loop-index.series in
    let form = c.args.form in
    let k = c.args.config.now in
    let h = c.args.entries.now in
    let i = c.loop-index.index in
    let e = c.index-entries-index.result in
    let from = g.W.Sink.contents c.args.writer.now in
    let mid = g.W.Sink.contents c.loop-index.writer in
    let to = g.W.Sink.contents c.put_illegal.new.writer in
    let line = number_line (codes "illegal") i in
    let text = at.tells.0 in
    let fault = untold-illegal s e mid (g.W.Sink.contents c.tell_entry.new.writer) _ _ c.in-Err-Judged-Illegal.field-0
    c.in-Err-Judged-Illegal.field-0-0 c.in-Err-Judged-Illegal.field-0-is
    (rw c.in-Err-Judged-Illegal.field-0-is at c.in-Err-Judged-Illegal.field-0-0-is)
    c.in-Err-Judged-Illegal.ensures.err in
    let first : IsFirstIllegal k h i = record {
      entry = e;
      stands = slice_get_read h (length h) i e refl (omega arith) c.index-entries-index.is;
      legal_before = at.legal;
      no_step = moved (λ k n h. IsStep k h e.call e.reply → ⊥) s k (max c.args.every 1) (take i h) at.config at.every
          at.history fault.0;
    } in
    let over : TellsEnded form k (max c.args.every 1) (take i h) text =
    moved (λ k n h. TellsEnded form k n h text) s k (max c.args.every 1) (take i h) at.config at.every at.history
    (ended form s text at.tells.1) in
    is-told (IsHistoryTold form k (max c.args.every 1) h from to) _ _ c.put_illegal.result false
    c.put_illegal.ensures.written c.put_illegal.ensures.legal (λ wrote. (
      i,
      first,
      text,
      over,
      Appends-trans from mid to text line at.tells.2
          (subst (λ (m : Option (List ℕ)). Appends m to line) fault.1 wrote.0),
    ))

pub loop-index-preserved : goal.loop-index-preserved
loop-index-preserved g c =
    let at = c.loop-index.invariant in
    let s = c.loop-index.series in
    let new = c.tell_entry.new.series in
    let k = c.args.config.now in
    let h = c.args.entries.now in
    let i = c.loop-index.index in
    let e = c.index-entries-index.result in
    let told = c.in-Ok-tell_entry.ensures.ok in
    let one-more : i + 1 ≡ suc i = omega arith in
    let next : take (i + 1) h ≡ take i h ++ e ∷ [] =
    ap (λ n. take n h) one-more ∙ take-suc h i e (omega (arith, c.loop-index-test.true))
    ∙ ap (λ v. take i h ++ v ∷ []) (sym c.index-entries-index.is) in
    let history : new.told.history ≡ take (i + 1) h =
    ap (λ (s : Serial). s.told.history) told.entered ∙ (entered s e).2
    ∙ ap (λ (h : List Entry). h ++ e ∷ []) at.history ∙ sym next in
    record {
      tells = (
        at.tells.0 ++ told.more,
        told.tells at.tells.0 at.tells.1,
        Appends-trans (g.W.Sink.contents c.args.writer.now) (g.W.Sink.contents c.loop-index.writer)
            (g.W.Sink.contents c.tell_entry.new.writer) at.tells.0 told.more at.tells.2 told.written,
      );
      config = c.tell_entry.ensures.config ∙ at.config;
      every = c.tell_entry.ensures.every ∙ at.every;
      history = history;
      legal = moved (λ k n h. IsLegal k h) new k (max c.args.every 1) (take (i + 1) h)
          (c.tell_entry.ensures.config ∙ at.config) (c.tell_entry.ensures.every ∙ at.every) history
          c.tell_entry.ensures.legal;
      writer = c.in-Ok-tell_entry.ensures.unfailed ∙ at.writer;
    }

pub returns-in-Ok-tell_last-clause-told : goal.returns-in-Ok-tell_last-clause-told
returns-in-Ok-tell_last-clause-told g c =
    let at = c.loop-index.invariant in
    let s = c.loop-index.series in
    let form = c.args.form in
    let k = c.args.config.now in
    let h = c.args.entries.now in
    let rest = c.in-Ok-tell_last.ensures.ok in
    let all : take c.loop-index.index h ≡ h =
    take_all c.loop-index.index h (omega (arith, c.loop-index-test.false, c.loop-index.auto.index-end)) in (
      subst (IsLegal k) all at.legal,
      at.tells.0 ++ rest.last,
      moved (λ k n h. TellsParts form k n h (at.tells.0 ++ rest.last)) s k (max c.args.every 1) h at.config at.every
          (at.history ∙ all) (rest.tells at.tells.0 at.tells.1),
      Appends-trans (g.W.Sink.contents c.args.writer.now) (g.W.Sink.contents c.loop-index.writer)
          (g.W.Sink.contents c.tell_last.new.writer) at.tells.0 rest.last at.tells.2 rest.written,
    )
