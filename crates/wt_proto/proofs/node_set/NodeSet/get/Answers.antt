use Rattle.std.proofs.Common.{◌≡◌, ◌≢◌, ℕ, zero, suc, ◌+◌, ◌-◌, List, ◌∷◌, ap, refl, sym, ◌∙◌, arith, slice_get}
use Rattle.wt_proto.specs.NodeSets.{members_from}
use Rattle.wt_proto.proofs.NodeSetLaws.{members-here, members-not_here, members-none}
use Rattle.wt_proto.proofs.node_set.NodeSet.get.Goals as goal

later_item : (first left : ℕ) (rest : List ℕ) → left ≢ 0 → slice_get (first ∷ rest) left ≡ slice_get rest (left - 1)
later_item first zero rest some = absurd (some refl)
later_item first (suc left) rest some = ap (slice_get rest) (omega arith)

pub loop-node-preserved-then-not-has_bit : goal.loop-node-preserved-then-not-has_bit
loop-node-preserved-then-not-has_bit c =
    let node = c.loop-node.node in
    let is = sym c.has_bit.ensures ∙ c.if-not-has_bit.true in
    c.loop-node.invariant
    ∙ ap (λ members. slice_get members c.loop-node.left) (members-not_here c.self.inside.words node (256 - node) (256 - (node + 1)) (omega arith) is)

pub returns-then-left-eq0 : goal.returns-then-left-eq0
returns-then-left-eq0 c =
    let node = c.loop-node.node in
    let is = sym c.has_bit.ensures ∙ c.if-not-has_bit.false in
    rw (← c.self.view_is)
    (sym (c.loop-node.invariant
    ∙ (ap (slice_get _) c.if-left-eq0.true ∙ ap (λ members. slice_get members 0) (members-here c.self.inside.words node (256 - node) (256 - (node + 1)) (omega arith) is))))

pub loop-node-preserved : goal.loop-node-preserved
loop-node-preserved c =
    let node = c.loop-node.node in
    let is = sym c.has_bit.ensures ∙ c.if-not-has_bit.false in
    c.loop-node.invariant
    ∙ (ap (λ members. slice_get members c.loop-node.left) (members-here c.self.inside.words node (256 - node) (256 - (node + 1)) (omega arith) is)
    ∙ later_item node c.loop-node.left _ c.if-left-eq0.false)

pub returns : goal.returns
returns c =
    let end : 256 - c.loop-node.node ≡ 0 = omega arith in
    rw (← c.self.view_is)
    (sym (c.loop-node.invariant ∙ (ap (λ count. slice_get (members_from c.loop-node.node count c.self.inside.words) c.loop-node.left) end
    ∙ ap (λ members. slice_get members c.loop-node.left) (members-none c.self.inside.words c.loop-node.node))))
