-- Laws of a node's directory, while the memories of its blocks are filled in order.
use Rattle.std.proofs.Common.{◌≡◌, ℕ, suc, ◌+◌, ◌-◌, ◌*◌, ◌/◌, ◌%◌, ◌<◌, ◌≤◌, List, [], ◌∷◌, ◌++◌, replicate, get_or, set, map, sym, ap, ◌∙◌, arith, append_assoc, refl, subst, length}
use Rattle.std.specs.Prelude.{All}
use Rattle.std.specs.List.{range_with_len}
use Rattle.std.proofs.lemmas.List.{get_or_at, set_at, append-nil}
use Rattle.std.proofs.lemmas.List.FromFn.{length-map-range_with_len, get_or-map-range_with_len, map-range_with_len_more}
use Rattle.std.proofs.lemmas.Nat.{div-mul-add, mod-mul-add}
use Rattle.std.proofs.Math.Nat.{div-mul-le_self, mul-le-mul_right}
use Rattle.wt_params.specs.declared.parts.MachineParts.{MachineParts}
use Rattle.dir1sw.specs.declared.home.HomeBlock.{HomeBlock}
use Rattle.dir1sw.specs.Homes.{Homes, IsHome, count_of, fresh_block, start_of, block_of, with_block}
use Rattle.dir1sw.specs.Fits.{HomeFits}
use Rattle.dir1sw.specs.Table.{copies_of}
use Rattle.image_loader.specs.Images.{LoadedImages}
use Rattle.image_loader.specs.Loading.{block_of as loaded_block}
use Rattle.start_memories.specs.Start.{block_at, block_at_start, homes_of}

-- the block at a place of a node
place_of : (nodes node place : ℕ) → node < nodes → (node + place * nodes) / nodes ≡ place
place_of nodes node place there = ap (λ (n : ℕ). n / nodes) (omega arith) ∙ div-mul-add place nodes node there

home_is : (nodes node place : ℕ) → node < nodes → (node + place * nodes) % nodes ≡ node
home_is nodes node place there = ap (λ (n : ℕ). n % nodes) (omega arith) ∙ mod-mul-add place nodes node there

-- a block at a place of the directory exists
pub block_exists : (machine : MachineParts) (node place : ℕ) → node < machine.nodes → place < count_of machine node → block_at machine node place < machine.blocks
block_exists machine node place there within =
    let most : (place + 1) * machine.nodes ≤ count_of machine node * machine.nodes = mul-le-mul_right machine.nodes (omega arith) in
    let all : count_of machine node * machine.nodes ≤ machine.blocks + (machine.nodes - 1 - node) =
    div-mul-le_self (machine.blocks + (machine.nodes - 1 - node)) machine.nodes
    in
    let next : (place + 1) * machine.nodes ≡ place * machine.nodes + machine.nodes = omega arith in
    omega arith

-- a list that is being filled in order: values at the places below one, and one value from there on
module _ {X : Type 0} (f : ℕ → X) (count : ℕ) (y : X) where
  abbrev pub filled : ℕ → List X
  filled place = map f (range_with_len 0 place) ++ replicate (count - place) y

  rest : (place : ℕ) → place < count → replicate (count - place) y ≡ y ∷ replicate (count - (place + 1)) y
  rest place within = let one : count - place ≡ suc (count - (place + 1)) = omega arith in ap (λ (n : ℕ). replicate n y) one

  filled_at : (place : ℕ) (d : X) → place < count → get_or (filled place) place d ≡ y
  filled_at place d within =
      ap (λ (last : List X). get_or (map f (range_with_len 0 place) ++ last) place d) (rest place within)
      ∙ get_or_at (map f (range_with_len 0 place)) y (replicate (count - (place + 1)) y) d place (length-map-range_with_len f 0 place)

  filled_next : (place : ℕ) → place < count → set (filled place) place (f place) ≡ filled (place + 1)
  filled_next place within =
      ap (λ (last : List X). set (map f (range_with_len 0 place) ++ last) place (f place)) (rest place within)
      ∙ set_at (map f (range_with_len 0 place)) y (replicate (count - (place + 1)) y) (f place) place (length-map-range_with_len f 0 place)
      ∙ sym (append_assoc (map f (range_with_len 0 place)) (f place ∷ []) (replicate (count - (place + 1)) y))
      ∙ ap (λ (first : List X). first ++ replicate (count - (place + 1)) y) (sym (map-range_with_len_more f 0 place place (omega arith)))

  filled_none : replicate count y ≡ filled 0
  filled_none = let all : count ≡ count - 0 = omega arith in ap (λ (n : ℕ). replicate n y) all

  filled_all : (place : ℕ) → place ≡ count → filled place ≡ map f (range_with_len 0 count)
  filled_all place all =
      let none : count - place ≡ 0 = omega arith in
      ap (λ (n : ℕ). map f (range_with_len 0 place) ++ replicate n y) none
      ∙ append-nil (map f (range_with_len 0 place))
      ∙ ap (λ (n : ℕ). map f (range_with_len 0 n)) all

-- the directory where the blocks at the places below one are filled
abbrev pub homes_filled : MachineParts → LoadedImages → ℕ → ℕ → Homes
homes_filled machine loaded node place =
    record (start_of machine node) {
      blocks = filled (λ place. block_at_start machine loaded (block_at machine node place)) (count_of machine node) (fresh_block machine) place;
    }

module _ (machine : MachineParts) (loaded : LoadedImages) (node : ℕ) where
  pub homes_none_filled : start_of machine node ≡ homes_filled machine loaded node 0
  homes_none_filled =
      ap (λ (blocks : List HomeBlock). record (start_of machine node) { blocks = blocks })
      (filled_none (λ place. block_at_start machine loaded (block_at machine node place)) (count_of machine node) (fresh_block machine))

  pub homes_all_filled : (place : ℕ) → place ≡ count_of machine node → homes_filled machine loaded node place ≡ homes_of machine loaded node
  homes_all_filled place all =
      ap (λ (blocks : List HomeBlock). record (start_of machine node) { blocks = blocks })
      (filled_all (λ place. block_at_start machine loaded (block_at machine node place)) (count_of machine node) (fresh_block machine) place all)

  pub block_is_home : (place : ℕ) → node < machine.nodes → place < count_of machine node → IsHome (homes_filled machine loaded node place) (block_at machine node place)
  block_is_home place there within =
      record { exists = block_exists machine node place there within; here = home_is machine.nodes node place there }

  pub block_is_fresh : (place : ℕ) → node < machine.nodes → place < count_of machine node →
      block_of (homes_filled machine loaded node place) (block_at machine node place) ≡ fresh_block machine
  block_is_fresh place there within =
      ap (λ (k : ℕ). get_or (homes_filled machine loaded node place).blocks k (fresh_block machine)) (place_of machine.nodes node place there)
      ∙ filled_at (λ place. block_at_start machine loaded (block_at machine node place)) (count_of machine node) (fresh_block machine) place (fresh_block machine) within

  pub homes_next_filled : (place : ℕ) → node < machine.nodes → place < count_of machine node →
      with_block (block_at machine node place) (block_at_start machine loaded (block_at machine node place)) (homes_filled machine loaded node place)
      ≡ homes_filled machine loaded node (place + 1)
  homes_next_filled place there within =
      ap (λ (blocks : List HomeBlock). record (start_of machine node) { blocks = blocks })
      (ap (λ (k : ℕ). set (homes_filled machine loaded node place).blocks k (block_at_start machine loaded (block_at machine node place))) (place_of machine.nodes node place there)
      ∙ filled_next (λ place. block_at_start machine loaded (block_at machine node place)) (count_of machine node) (fresh_block machine) place within)

  -- what holds of each block of the node at the start holds of its directory
  pub all_at_start : (P : HomeBlock → Type 0) →
      ((place : ℕ) → place < count_of machine node → P (block_at_start machine loaded (block_at machine node place))) → All P (homes_of machine loaded node).blocks
  all_at_start P each = λ k d within.
      let low : k < count_of machine node =
      omega (arith, within, length-map-range_with_len (λ place. block_at_start machine loaded (block_at machine node place)) 0 (count_of machine node))
      in
      subst P
      (sym (get_or-map-range_with_len (λ place. block_at_start machine loaded (block_at machine node place)) 0 (count_of machine node) k k d low (omega arith)))
      (each k low)

  -- no copy of a block is counted
  pub no_copies_at_start : All (λ (home : HomeBlock). copies_of home.entry.state ≡ 0) (homes_of machine loaded node).blocks
  no_copies_at_start = all_at_start (λ (home : HomeBlock). copies_of home.entry.state ≡ 0) (λ place within. refl)

  -- what is kept of each block fits the machine, where each memory has the bytes of a block
  pub homes_fit : ((place : ℕ) → place < count_of machine node → length (loaded_block loaded (block_at machine node place)) ≡ machine.block_bytes) →
      All (HomeFits machine) (homes_of machine loaded node).blocks
  homes_fit sizes =
      all_at_start (HomeFits machine)
      (λ place within. record {
        state = tt;
        waiting = λ k d none. absurd (omega (arith, none));
        memory = sizes place within;
      })
