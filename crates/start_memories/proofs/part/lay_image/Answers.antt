use Rattle.std.proofs.Common.{◌≡◌, ◌*◌, List, take, subst, ◌∙◌, arith}
use Rattle.std.specs.Prelude.{fold}
use Rattle.std.proofs.lemmas.List.{take_all}
use Rattle.elf_image.specs.declared.image.Segment.{Segment}
use Rattle.image_loader.specs.Loading.{with_segment}
use Rattle.start_memories.specs.Parts.{IsPart}
use Rattle.wt_params.specs.Machine.{shared_base}
use Rattle.start_memories.proofs.PartLaws.{part_after_next}
use Rattle.start_memories.proofs.part.lay_image.Goals as goal

pub loop-segment-preserved : goal.loop-segment-preserved
loop-segment-preserved c =
    part_after_next (c.args.machine.now.blocks * c.args.machine.now.block_bytes) c.args.start shared_base c.loop-segment.segment-index c.args.part.now c.loop-segment.part c.lay.new.part
    c.get-segment-items.result.now c.segment-item.result (omega arith) c.segment-item.is c.loop-segment.invariant c.lay.ensures

pub returns : goal.returns
returns c = λ memory is.
    let all : take c.loop-segment.segment-index c.get-segment-items.result.now ≡ c.args.image.now.segments =
    take_all c.loop-segment.segment-index c.get-segment-items.result.now (omega arith) ∙ c.get-segment-items.ensures
    in
    subst (λ (segments : List Segment). IsPart (c.args.machine.now.blocks * c.args.machine.now.block_bytes) c.args.start (fold (with_segment shared_base) memory segments) c.loop-segment.part)
    all (c.loop-segment.invariant memory is)
