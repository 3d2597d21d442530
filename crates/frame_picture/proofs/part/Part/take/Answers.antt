-- An entry before the first frame that is drawn, up to the last one, or behind it.
use Rattle.std.proofs.Common.{◌≡◌, ℕ, ◌+◌, List, [], ◌∷◌, ◌++◌, sym, ap, ◌∙◌, subst, arith}
use Rattle.minislots.specs.declared.config.Config.{Config}
use Rattle.map_build.specs.declared.met.Met.{Met}
use Rattle.sched_history.specs.Reserves.{met_after}
use Rattle.frame_picture.specs.Meeting.{met_lists}
use Rattle.frame_picture.specs.Part.{Keeps}
use Rattle.frame_picture.proofs.FrameLists.{frames_of-≤}
use Rattle.frame_picture.proofs.Meetings.{met_lists-push}
use Rattle.frame_picture.proofs.Parts.{keeps-ahead, keeps-inside, keeps-past}
use Rattle.frame_picture.proofs.Taken.{taken-config, taken-grown, taken-legal, taken-most}
use Rattle.frame_picture.proofs.part.Part.take.Goals as goal

pub overflow_add-self : goal.overflow_add-self
overflow_add-self c =
    let old = c.args.self.now in
    omega (
      arith,
      c.requires.known.keeps.count,
      frames_of-≤ old.auditor.history,
      c.in_ok-met.ensures.short,
      c.count_map.ensures.most,
    )

pub returns-then-came-self-clause-ok : goal.returns-then-came-self-clause-ok
returns-then-came-self-clause-ok c =
    let old = c.args.self.now in
    let known = c.requires.known in
    let taken = c.in_ok-met.ensures.taken in
    let e = c.args.entry in
    let grown = taken-grown old.config old.auditor c.judge_met.new.auditor e known.config taken in
    record {
      config = taken-config old.config old.auditor c.judge_met.new.auditor e known.config taken;
      legal = taken-legal old.config old.auditor c.judge_met.new.auditor e known.config taken c.in_ok-met.ensures.legal;
      most = taken-most old.config old.auditor c.judge_met.new.auditor e known.config taken c.in_ok-met.ensures.short;
      keeps = subst (Keeps old.config old.span c.go_along.new.along (old.total + c.count_map.result)
          (met_lists old.met.items) old.kept.items) (sym grown)
          (keeps-ahead old.config old.span old.along old.total (met_lists old.met.items) old.kept.items
          old.auditor.history e known.keeps (old.total + c.count_map.result)
          (ap (λ (n : ℕ). old.total + n) c.count_map.ensures.value) c.go_along.new.along c.if-came-self.true
          (rw c.scale_of.ensures.value at c.go_along.ensures));
    }

pub returns-then-came-self-2-clause-ok : goal.returns-then-came-self-2-clause-ok
returns-then-came-self-2-clause-ok c =
    let old = c.args.self.now in
    let known = c.requires.known in
    let taken = c.in_ok-met.ensures.taken in
    let e = c.args.entry in
    let grown = taken-grown old.config old.auditor c.judge_met.new.auditor e known.config taken in
    let found : met_lists c.keep.new.found.items
    ≡ met_lists old.met.items ++ met_after old.config old.auditor.history e.reply ∷ [] =
    ap met_lists c.in_ok-keep.ensures.met ∙ met_lists-push old.met.items c.in_ok-met.met
    ∙ ap (λ (m : List Met). met_lists old.met.items ++ m ∷ [])
    (c.in_ok-met.ensures.met ∙ ap (λ (k : Config). met_after k old.auditor.history e.reply) known.config) in
    record {
      config = taken-config old.config old.auditor c.judge_met.new.auditor e known.config taken;
      legal = taken-legal old.config old.auditor c.judge_met.new.auditor e known.config taken c.in_ok-met.ensures.legal;
      most = taken-most old.config old.auditor c.judge_met.new.auditor e known.config taken c.in_ok-met.ensures.short;
      keeps = subst (Keeps old.config old.span old.along (old.total + c.count_map.result)
          (met_lists c.keep.new.found.items) c.keep.new.kept.items) (sym grown)
          (keeps-inside old.config old.span old.along old.total (met_lists old.met.items) old.kept.items
          old.auditor.history e known.keeps (old.total + c.count_map.result)
          (ap (λ (n : ℕ). old.total + n) c.count_map.ensures.value) c.keep.new.kept.items
          (met_lists c.keep.new.found.items) (omega (arith, c.if-came-self.false)) c.if-came-self-2.true
          c.in_ok-keep.ensures.ok c.in_ok-keep.ensures.few c.requires.whole found);
    }

pub returns-clause-ok : goal.returns-clause-ok
returns-clause-ok c =
    let old = c.args.self.now in
    let known = c.requires.known in
    let taken = c.in_ok-met.ensures.taken in
    let e = c.args.entry in
    let grown = taken-grown old.config old.auditor c.judge_met.new.auditor e known.config taken in
    record {
      config = taken-config old.config old.auditor c.judge_met.new.auditor e known.config taken;
      legal = taken-legal old.config old.auditor c.judge_met.new.auditor e known.config taken c.in_ok-met.ensures.legal;
      most = taken-most old.config old.auditor c.judge_met.new.auditor e known.config taken c.in_ok-met.ensures.short;
      keeps = subst (Keeps old.config old.span old.along (old.total + c.count_map.result)
          (met_lists old.met.items) old.kept.items) (sym grown)
          (keeps-past old.config old.span old.along old.total (met_lists old.met.items) old.kept.items
          old.auditor.history e known.keeps (old.total + c.count_map.result)
          (ap (λ (n : ℕ). old.total + n) c.count_map.ensures.value) (omega (arith, c.if-came-self.false))
          (omega (arith, c.if-came-self-2.false)));
    }
