-- The rest of the marks.
use Rattle.std.proofs.Common.{◌∙◌}
use Rattle.report_picture.specs.OverTime.{use_in, frames_at}
use Rattle.report_picture.proofs.Told.{rest-marked, rest-last}
use Rattle.report_picture.proofs.over_time.UseOverTime.slots.Goals.{then-behind-self, else-behind-self}
use Rattle.report_picture.proofs.over_time.UseOverTime.slots.Goals as goal

pub rest_of-requires : goal.rest_of-requires
rest_of-requires c =
    let k = c.requires.0 in
    let fs = c.requires.1 in
    let is = c.requires.2 in
    let u = c.args.self.now in (
      use_in k (frames_at u.width fs c.args.i),
      elim c.if-behind-self.branch [
        | then-behind-self w ↦ w.all-is ∙ rest-marked k u fs is c.args.i _ _ w.if-behind-self.true c.requires.4
        | else-behind-self w ↦ w.all-is ∙ rest-last k u fs is c.args.i _ w.if-behind-self.false c.requires.4
      ],
    )

pub returns : goal.returns
returns c = λ k fs is.
    let u = c.args.self.now in
    let i = c.args.i in
    c.rest_of.ensures (use_in k (frames_at u.width fs i)) (elim c.if-behind-self.branch [
      | then-behind-self w ↦ w.all-is ∙ rest-marked k u fs is i _ _ w.if-behind-self.true c.requires.4
      | else-behind-self w ↦ w.all-is ∙ rest-last k u fs is i _ w.if-behind-self.false c.requires.4
    ])
