use Rattle.std.proofs.Common.{ℕ, List, length, ap, arith}
use Rattle.wt_proto.proofs.BlockLaws.{length-view, still_kept, take-written}
use Rattle.wt_proto.proofs.block.Block.overwrite.Goals as goal

pub invariant_of-self : goal.invariant_of-self
invariant_of-self c =
    let same = length-view c.self.inside.bytes c.self.inside.len c.self.invariant in
    let view = ap (λ (bytes : List ℕ). length bytes) c.self.view_is in
    rw c.write_part.ensures (still_kept c.self.inside.bytes c.args.bytes.now c.args.start c.self.inside.len c.self.invariant (omega arith))

pub returns-clause-value : goal.returns-clause-value
returns-clause-value c =
    let same = length-view c.self.inside.bytes c.self.inside.len c.self.invariant in
    let view = ap (λ (bytes : List ℕ). length bytes) c.self.view_is in
    rw (c.write_part.ensures, ← c.self.view_is) (take-written c.self.inside.bytes c.args.bytes.now c.args.start c.self.inside.len c.self.invariant (omega arith))
