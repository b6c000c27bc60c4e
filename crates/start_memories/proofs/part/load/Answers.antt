use Rattle.std.proofs.Common.{◌≡◌, ◌*◌, ℕ, length, ap, sym, ◌∙◌, arith}
use Rattle.wt_params.specs.declared.parts.MachineParts.{MachineParts}
use Rattle.wt_params.specs.Machine.{shared_base}
use Rattle.image_loader.specs.Loading.{shared_bytes, with_segments}
use Rattle.start_memories.proofs.NodeLaws.{segments_below, part_after_node, part_of_shared}
use Rattle.start_memories.proofs.OnceLaws.{one_image_once}
use Rattle.start_memories.proofs.part.load.Goals as goal

pub returns-then-images-eq1 : goal.returns-then-images-eq1
returns-then-images-eq1 c =
    let loaded = c.args.loaded.now in
    let machine = c.args.machine.now in
    let image = c.image.result.now in
    let single : length loaded.images ≡ 1 = ap length (sym c.images.ensures.value) ∙ c.if-images-eq1.true in
    part_of_shared machine loaded c.args.start c.args.part.now c.lay_image.new.part image.segments c.requires.images
    c.requires.zero c.requires.inside c.lay_image.auto.part
    (one_image_once machine loaded image c.parts-nodes.ensures.machine c.requires.images single c.image.ensures.value c.image.ensures.program)
    c.lay_image.ensures

pub loop-node-preserved : goal.loop-node-preserved
loop-node-preserved c =
    part_after_node (c.args.machine.now.blocks * c.args.machine.now.block_bytes) c.args.start shared_base c.loop-node.node c.args.part.now c.loop-node.part c.lay_image-in-loop-node.new.part
    c.args.loaded.now c.image-in-loop-node.result.now c.image-in-loop-node.ensures.value c.loop-node.invariant c.lay_image-in-loop-node.ensures

pub returns : goal.returns
returns c =
    let loaded = c.args.loaded.now in
    let machine = c.args.machine.now in
    let nodes : c.parts-nodes.result.nodes ≡ machine.nodes = ap (λ (parts : MachineParts). parts.nodes) c.parts-nodes.ensures.value in
    let all : c.loop-node.node ≡ loaded.nodes = omega (arith, c.loop-node.auto.node-end, c.loop-node-test.false, c.requires.images.nodes) in
    part_of_shared machine loaded c.args.start c.args.part.now c.loop-node.part (segments_below loaded c.loop-node.node) c.requires.images
    c.requires.zero c.requires.inside c.loop-node.auto.part
    (ap (λ (nodes : ℕ). with_segments shared_base (shared_bytes loaded) (segments_below loaded nodes)) all)
    c.loop-node.invariant
