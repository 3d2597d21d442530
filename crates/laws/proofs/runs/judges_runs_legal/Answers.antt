-- What a run wrote as its history is judged legal.
use Rattle.laws.proofs.Judging.{judged}
use Rattle.laws.proofs.runs.judges_runs_legal.Goals as goal

pub returns : goal.returns
returns c = record { legal = judged }
