use Rattle.std.proofs.Common.{arith}
use Rattle.wt_params.proofs.MeshLaws.{lookahead_alone, lookahead_among}
use Rattle.wt_params.proofs.parts.MachineParts.lookahead.Goals as goal
use Rattle.wt_params.proofs.parts.MachineParts.lookahead.Goals.{then-self-le1, else-self-le1}

pub returns : goal.returns
returns c =
    elim c.if-self-le1.branch [
      | then-self-le1 w ↦
          let is = lookahead_alone c.args.self.now w.if-self-le1.true in
          omega arith
      | else-self-le1 w ↦
          let is = lookahead_among c.args.self.now w.if-self-le1.false in
          omega arith
    ]
