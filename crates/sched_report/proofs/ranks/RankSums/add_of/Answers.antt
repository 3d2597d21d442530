-- A life of another rank adds nothing.
use Rattle.std.proofs.Common.{◌≡◌, ◌++◌, [], ◌∷◌, Some, true, false, cond, sym, ◌∙◌, subst}
use Rattle.sched_calls.specs.FlowSpec.{takes_requests, rank_of}
use Rattle.std.proofs.Common.{◌==◌}
use Rattle.std.proofs.lemmas.Bool.{and_parts}
use Rattle.std.proofs.lemmas.List.{append-nil}
use Rattle.sched_report.specs.Lives.{spec_of}
use Rattle.sched_report.specs.Ranks.{is_chosen, AreRankSums}
use Rattle.sched_report.proofs.ranks.RankSums.add_of.Goals as goal

pub returns-then-not-is_chosen-clause-sums : goal.returns-then-not-is_chosen-clause-sums
returns-then-not-is_chosen-clause-sums c = λ k ls l is are.
    let gone : is_chosen (Some c.args.rank) (spec_of l) ≡ false =
    sym (c.is_chosen.ensures k l is) ∙ c.if-not-is_chosen.true in
    subst (λ b. AreRankSums k c.args.self.now (ls ++ cond b (l ∷ []) [])) (sym gone)
    (subst (AreRankSums k c.args.self.now) (sym (append-nil ls)) are)

pub returns-clause-sums : goal.returns-clause-sums
returns-clause-sums c = λ k ls l is are.
    let here : is_chosen (Some c.args.rank) (spec_of l) ≡ true =
    sym (c.is_chosen.ensures k l is) ∙ c.if-not-is_chosen.false in
    let asks : takes_requests (spec_of l) ≡ true =
    (and_parts (takes_requests (spec_of l)) (rank_of (spec_of l) == c.args.rank) here).0 in
    subst (λ b. AreRankSums k c.add.new.self (ls ++ cond b (l ∷ []) [])) (sym here)
    (c.add.ensures.sums k ls l is asks are)
