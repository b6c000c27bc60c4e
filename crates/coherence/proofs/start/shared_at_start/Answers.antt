use Rattle.std.proofs.Common.{◌≡◌, ℕ, ◌+◌, ◌*◌, ◌%◌, ◌<◌, ◌≤◌, List, ◌++◌, length, take, get_or, ap, sym, ◌∙◌, arith}
use Rattle.std.specs.Prelude.{slice_range}
use Rattle.std.proofs.lemmas.List.{take_all}
use Rattle.std.proofs.lemmas.Option.{get_or_from_slice_get}
use Rattle.start_memories.specs.Start.{homes_of}
use Rattle.wt_params.specs.declared.parts.MachineParts.{MachineParts}
use Rattle.wt_params.specs.Machine.{shared_base, home_of}
use Rattle.dir1sw.specs.Homes.{Homes, block_of}
use Rattle.image_loader.specs.Loading.{shared_of, shared_bytes}
use Rattle.coherence.proofs.StartBytes.{shared_size, one_block_more, memory_at_home}
use Rattle.coherence.proofs.start.shared_at_start.Goals as goal

pub loop-block-preserved : goal.loop-block-preserved
loop-block-preserved c =
    let machine = c.args.machine.now in
    let loaded = c.args.loaded.now in
    let is = c.parts-parts.ensures.machine in
    let block = c.loop-block.block in
    let homes = c.in_ok-homes.homes.items in
    let found = c.index-home.result.now in
    let parts = c.parts-parts.ensures.value in
    let some : 1 ≤ machine.nodes = is.nodes.at_least in
    let exists : block < machine.blocks = omega (arith, c.loop-block-test.true, ap (λ (parts : MachineParts). parts.blocks) parts) in
    let there : block % machine.nodes < machine.nodes = omega (arith, some) in
    let home : found ≡ homes_of machine loaded (home_of machine block) =
    c.index-home.ensures
    ∙ ap (λ (parts : MachineParts). get_or homes (block % parts.nodes) found) parts
    ∙ get_or_from_slice_get homes (home_of machine block) (homes_of machine loaded (home_of machine block)) found (c.in_ok-homes.ensures.each (home_of machine block) there)
    in
    let bytes : c.memory.result.now ≡ slice_range (shared_of loaded) (block * machine.block_bytes) (block * machine.block_bytes + machine.block_bytes) =
    c.memory.ensures
    ∙ ap (λ (homes : Homes). (block_of homes block).memory) home
    ∙ memory_at_home machine loaded is block exists
    ∙ ap (λ (size : ℕ). slice_range (shared_of loaded) (block * size) (block * size + size)) c.requires.block_bytes
    in
    c.in_ok-extend_from_slice.ensures.items
    ∙ ap (λ (before : List ℕ). before ++ c.memory.result.now) c.loop-block.invariant
    ∙ ap (λ (next : List ℕ). take (block * machine.block_bytes) (shared_of loaded) ++ next) bytes
    ∙ one_block_more (shared_of loaded) block machine.block_bytes

pub returns : goal.returns
returns c =
    let machine = c.args.machine.now in
    let loaded = c.args.loaded.now in
    let is = c.parts-parts.ensures.machine in
    let low : loaded.private_bytes ≤ shared_base = omega (arith, c.requires.private_bytes, is.private_bytes.range.at_most) in
    let blocks : c.parts-parts.result.blocks ≡ loaded.blocks = ap (λ (parts : MachineParts). parts.blocks) c.parts-parts.ensures.value ∙ sym c.requires.blocks in
    let all : c.loop-block.block ≡ loaded.blocks = omega (arith, c.loop-block-test.false, c.loop-block.auto.block-end, blocks) in
    let size : c.loop-block.block * machine.block_bytes ≡ shared_bytes loaded =
    ap (λ (n : ℕ). n * machine.block_bytes) all ∙ ap (λ (n : ℕ). loaded.blocks * n) (sym c.requires.block_bytes)
    in
    let long : length (shared_of loaded) ≤ c.loop-block.block * machine.block_bytes = omega (arith, size, shared_size loaded c.images-images.ensures.loaded low) in
    c.loop-block.invariant ∙ take_all (c.loop-block.block * machine.block_bytes) (shared_of loaded) long
