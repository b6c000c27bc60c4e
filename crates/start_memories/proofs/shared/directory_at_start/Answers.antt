use Rattle.std.proofs.Common.{◌≡◌, ◌+◌, ◌-◌, ◌*◌, ◌/◌, ◌<◌, ℕ, length, inl, inr, ap, sym, ◌∙◌, subst, arith}
use Rattle.std.specs.Prelude.{All}
use Rattle.std.proofs.lemmas.Bool.{cases_lt}
use Rattle.wt_params.specs.declared.parts.MachineParts.{MachineParts}
use Rattle.dir1sw.specs.Homes.{Homes, IsHome, count_of, block_of, with_block}
use Rattle.dir1sw.specs.Fits.{HomeFits}
use Rattle.image_loader.specs.Loading.{block_of as loaded_block}
use Rattle.start_memories.specs.Start.{block_at, block_at_start, homes_of}
use Rattle.start_memories.proofs.HomesLaws.{homes_none_filled, homes_all_filled, block_is_home, block_is_fresh, homes_next_filled, homes_fit}
use Rattle.start_memories.proofs.shared.directory_at_start.Goals as goal

-- how many blocks the code goes through
count_is : (machine : MachineParts) (node nodes blocks : ℕ) → nodes ≡ machine.nodes → blocks ≡ machine.blocks →
    (blocks + (nodes - 1 - node)) / nodes ≡ count_of machine node
count_is machine node nodes blocks same_nodes same_blocks =
    ap (λ (n : ℕ). (blocks + (n - 1 - node)) / n) same_nodes ∙ ap (λ (b : ℕ). (b + (machine.nodes - 1 - node)) / machine.nodes) same_blocks

pub fill_block-requires-clause-here : goal.fill_block-requires-clause-here
fill_block-requires-clause-here c =
    let machine = c.args.machine.now in
    let node = c.args.node in
    let place = c.loop-place.place in
    let count = count_is machine node c.nodes-nodes.result c.blocks-2.result c.nodes-nodes.ensures.value c.blocks-2.ensures.value in
    let within : place < count_of machine node = omega (arith, count, c.loop-place-test.true) in
    subst (λ (nodes : ℕ). IsHome c.loop-place.directory (node + place * nodes)) (sym c.nodes-nodes.ensures.value)
    (subst (λ (homes : Homes). IsHome homes (block_at machine node place)) (sym c.loop-place.invariant.value)
    (block_is_home machine c.args.loaded.now node place c.requires.node within))

pub fill_block-requires-clause-fresh : goal.fill_block-requires-clause-fresh
fill_block-requires-clause-fresh c =
    let machine = c.args.machine.now in
    let node = c.args.node in
    let place = c.loop-place.place in
    let count = count_is machine node c.nodes-nodes.result c.blocks-2.result c.nodes-nodes.ensures.value c.blocks-2.ensures.value in
    let within : place < count_of machine node = omega (arith, count, c.loop-place-test.true) in
    ap (λ (nodes : ℕ). block_of c.loop-place.directory (node + place * nodes)) c.nodes-nodes.ensures.value
    ∙ ap (λ (homes : Homes). block_of homes (block_at machine node place)) c.loop-place.invariant.value
    ∙ block_is_fresh machine c.args.loaded.now node place c.requires.node within

pub loop-place-init : goal.loop-place-init
loop-place-init c = record {
  value = c.in_ok-directory.ensures ∙ homes_none_filled c.args.machine.now c.args.loaded.now c.args.node;
  sizes = λ place none. absurd (omega (arith, none));
}

pub loop-place-preserved : goal.loop-place-preserved
loop-place-preserved c =
    let machine = c.args.machine.now in
    let loaded = c.args.loaded.now in
    let node = c.args.node in
    let place = c.loop-place.place in
    let count = count_is machine node c.nodes-nodes.result c.blocks-2.result c.nodes-nodes.ensures.value c.blocks-2.ensures.value in
    let within : place < count_of machine node = omega (arith, count, c.loop-place-test.true) in
    let here : length (loaded_block loaded (block_at machine node place)) ≡ machine.block_bytes =
    ap (λ (nodes : ℕ). length (loaded_block loaded (node + place * nodes))) (sym c.nodes-nodes.ensures.value) ∙ c.fill_block.ensures.size
    in
    record {
      value =
          c.fill_block.ensures.value
          ∙ ap (λ (nodes : ℕ). with_block (node + place * nodes) (block_at_start machine loaded (node + place * nodes)) c.loop-place.directory) c.nodes-nodes.ensures.value
          ∙ ap (λ (homes : Homes). with_block (block_at machine node place) (block_at_start machine loaded (block_at machine node place)) homes) c.loop-place.invariant.value
          ∙ homes_next_filled machine loaded node place c.requires.node within;
      sizes = λ k low. elim (cases_lt k place) [
        | inl below ↦ c.loop-place.invariant.sizes k below
        | inr from ↦
            let same : k ≡ place = omega (arith, low, from) in
            ap (λ (at : ℕ). length (loaded_block loaded (block_at machine node at))) same ∙ here
      ];
    }

pub returns : goal.returns
returns c =
    let machine = c.args.machine.now in
    let loaded = c.args.loaded.now in
    let node = c.args.node in
    let count = count_is machine node c.nodes-nodes.result c.blocks-2.result c.nodes-nodes.ensures.value c.blocks-2.ensures.value in
    let all : c.loop-place.place ≡ count_of machine node = omega (arith, count, c.loop-place-test.false, c.loop-place.auto.place-end) in
    let value : c.loop-place.directory ≡ homes_of machine loaded node = c.loop-place.invariant.value ∙ homes_all_filled machine loaded node c.loop-place.place all in
    record {
      value = value;
      fits =
          subst (λ (homes : Homes). All (HomeFits machine) homes.blocks) (sym value)
          (homes_fit machine loaded node (λ place within. c.loop-place.invariant.sizes place (omega (arith, within, all))));
    }
