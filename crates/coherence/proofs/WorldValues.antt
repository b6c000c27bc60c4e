-- After an event of the serial run each block has the bytes that the stores so far left, and a load has read them.
use Rattle.std.proofs.Common.{◌≡◌, ℕ, ◌+◌, ◌-◌, ◌*◌, ◌<◌, true, false, List, length, map, Option, Some, refl, ap, sym, ◌∙◌, subst, inl, inr}
use Rattle.std.specs.Prelude.{◌==◌, slice_range}
use Rattle.std.proofs.lemmas.Bool.{cases_Bool, eqb-true, eq-eqb}
use Rattle.wt_params.specs.declared.parts.MachineParts.{MachineParts}
use Rattle.wt_params.specs.Machine.{IsMachine, shared_base, shared_block}
use Rattle.rv_exec.specs.Widths.{load_width_of, widened}
use Rattle.priv_mem.specs.Memory.{little_endian, low_bytes, overwritten}
use Rattle.wt_proto.specs.declared.key.Key.{Key}
use Rattle.wt_proto.specs.declared.message.Msg.{Msg}
use Rattle.wt_trace.specs.declared.record.Deed.{Deed}
use Rattle.wt_trace.specs.declared.record.Deed.TheVariants.{Plain, Loaded, Stored, Stopped}
use Rattle.discrete_events.specs.Simulation.{Event}
use Rattle.discrete_events.specs.World.{least, events_in}
use Rattle.discrete_events.specs.Serial.{placed, taken, node_after}
use Rattle.node.specs.declared.state.NodeState.{NodeState}
use Rattle.node.specs.React.{wind_tunnel}
use Rattle.node.specs.SharedAccess.{offset_of}
use Rattle.coherence.specs.Block.{Copy}
use Rattle.coherence.specs.Deals.{copy_of, stores_to}
use Rattle.coherence.specs.Traces.{is_shared, bytes_from, bytes_of, with_number, stored_by, load_in, reads, is_right_deed}
use Rattle.coherence.specs.Accesses.{IsLoadOf, IsStoreOf}
use Rattle.coherence.specs.Worlds.{World, node_in, to_home_in, from_home_in, cell_by, view_in, IsCoherentBlock}
use Rattle.coherence.proofs.Values.{values_kept}
use Rattle.coherence.proofs.Bytes.{block_of_address, read_in_block, stored_in_block, stored_in_another}
use Rattle.coherence.proofs.WorldEvents.{IsWorldOf, at, after, news, later_here}
use Rattle.coherence.proofs.WorldDeals.{IsLater}

-- a copy that a node of a world holds has the value of its block
pub held_value : (world : World) (block : ℕ) (value : List ℕ) (machine : MachineParts) (node : NodeState) (number : ℕ) (copy : Copy) → IsCoherentBlock machine world block value → node_in number world.nodes ≡ Some node → copy_of node.cache block ≡ Some copy → copy.bytes ≡ value
held_value world block value machine node number copy before found held =
    values_kept.read (view_in world block before.home) value number copy before.has_value
    (ap (λ (o : Option NodeState). (cell_by block (to_home_in world block number) (from_home_in world block number) o).copy) found ∙ held)

-- A store outside of shared memory is to no block.
outside : (machine : MachineParts) (address width number block : ℕ) → is_shared address ≡ false → stores_to machine (Stored address width number) block ≡ false
outside machine address width number block low = rw low refl

inside : (machine : MachineParts) (address width number block other : ℕ) → shared_block machine address ≡ Some other → stores_to machine (Stored address width number) block ≡ (other == block)
inside machine address width number block other there = rw there refl

module _ (machine : MachineParts) (is : IsMachine machine) (world : World) (ok : IsWorldOf machine world) (key : Key) (event : Event Msg) (is_least : least (events_in (wind_tunnel machine) world) ≡ Some (key, event)) (memory : List ℕ) (size : length memory ≡ machine.blocks * machine.block_bytes)
    (deed : Deed) where
  abbrev it : NodeState
  it = (at machine is world ok key event is_least).node

  abbrev then : NodeState
  then = after machine is world ok key event is_least

  -- the store of an event was to a copy with the value of its block
  pub record IsStored (address width number : ℕ) : Type 0 where
    pub block : ℕ
    pub bytes : List ℕ
    pub was : block < machine.blocks → bytes ≡ bytes_of machine memory block
    pub store : IsStoreOf machine address width number block bytes then.cache

  module _ (stored : (address width number : ℕ) → deed ≡ Stored address width number → is_shared address ≡ true → IsStored address width number)
      (later : World) (nodes_is : later.nodes ≡ map (node_after (wind_tunnel machine) key event) world.nodes) (pending_is : later.pending ≡ placed (taken event world.pending) (news machine is world ok key event is_least)) where
    here : node_in it.number later.nodes ≡ Some then
    here = later_here machine is world ok key event is_least later nodes_is pending_is

    abbrev Later : ℕ → Type 0
    Later block = IsLater machine later block (stores_to machine deed block) (bytes_of machine memory block)

    store_is : (block : ℕ) → block < machine.blocks → (address width number : ℕ) → deed ≡ Stored address width number → is_shared address ≡ true → IsStored address width number →
        (l : Later block) → l.now ≡ bytes_of machine (with_number memory (address - shared_base) width number) block
    store_is block exists address width number e high done l = elim (cases_Bool (done.block == block)) [
      | inl same ↦
          let at_block : done.block ≡ block = eqb-true done.block block same in
          let held : copy_of then.cache block ≡ Some (record { writable = true; bytes = overwritten done.bytes (offset_of machine address) (low_bytes width number) }) =
          subst (λ (b : ℕ). copy_of then.cache b ≡ Some (record { writable = true; bytes = overwritten done.bytes (offset_of machine address) (low_bytes width number) })) at_block done.store.held in
          let there : shared_block machine address ≡ Some block = done.store.there ∙ ap Some at_block in
          sym (held_value later block l.now machine then it.number (record { writable = true; bytes = overwritten done.bytes (offset_of machine address) (low_bytes width number) }) l.coherent here held)
          ∙ ap (λ (b : List ℕ). overwritten b (offset_of machine address) (low_bytes width number)) (done.was (subst (λ (b : ℕ). b < machine.blocks) (sym at_block) exists) ∙ ap (bytes_of machine memory) at_block)
          ∙ sym (stored_in_block machine is memory size address width number block there done.store.inside)
      | inr apart ↦
          l.same (ap (λ (d : Deed). stores_to machine d block) e ∙ inside machine address width number block done.block done.store.there ∙ apart)
          ∙ sym (stored_in_another machine is memory size address width number done.block done.store.there done.store.inside block exists (λ same. let t : (done.block == block) ≡ true = eq-eqb done.block block (sym same) in let f : true ≡ false = sym t ∙ apart in cc))
    ]

    pub now_is : (block : ℕ) → block < machine.blocks → (l : Later block) → l.now ≡ bytes_of machine (stored_by deed memory) block
    now_is block exists l = by deed refl
      where
        by : (d : Deed) → deed ≡ d → l.now ≡ bytes_of machine (stored_by d memory) block
        by Plain e = l.same (ap (λ (x : Deed). stores_to machine x block) e)
        by (Loaded address value) e = l.same (ap (λ (x : Deed). stores_to machine x block) e)
        by (Stopped cause) e = l.same (ap (λ (x : Deed). stores_to machine x block) e)
        by (Stored address width number) e = elim (cases_Bool (is_shared address)) [
          | inl high ↦ rw high (store_is block exists address width number e high (stored address width number e high) l)
          | inr low ↦ rw low (l.same (ap (λ (x : Deed). stores_to machine x block) e ∙ outside machine address width number block low))
        ]

    pub block_later : (block : ℕ) → block < machine.blocks → Later block → IsCoherentBlock machine later block (bytes_of machine (stored_by deed memory) block)
    block_later block exists l = subst (IsCoherentBlock machine later block) (now_is block exists l) l.coherent

    -- ---- a load

    load_right : (word : Option ℕ) (address value : ℕ) → deed ≡ Loaded address value → is_shared address ≡ true → IsLoadOf machine word address value then.cache → ((block : ℕ) → block < machine.blocks → Later block) → reads (load_in word) memory address value ≡ true
    load_right word address value e high done all =
        let exists = (block_of_address machine is address done.block done.there).1 in
        let l = all done.block exists in
        let value_is : done.bytes ≡ bytes_of machine memory done.block =
        held_value later done.block l.now machine then it.number (record { writable = done.writable; bytes = done.bytes }) l.coherent here done.held
        ∙ l.same (ap (λ (d : Deed). stores_to machine d done.block) e) in
        rw done.is_load (eq-eqb (widened done.op (little_endian (bytes_from memory (address - shared_base) (load_width_of done.op)))) value
        (ap (λ (b : List ℕ). widened done.op (little_endian b)) (read_in_block machine is memory size address (load_width_of done.op) done.block done.there done.inside)
        ∙ ap (λ (b : List ℕ). widened done.op (little_endian (slice_range b (offset_of machine address) (offset_of machine address + load_width_of done.op)))) (sym value_is)
        ∙ sym done.reads))

    pub deed_right : (word : Option ℕ) → ((address value : ℕ) → deed ≡ Loaded address value → is_shared address ≡ true → IsLoadOf machine word address value then.cache) → ((block : ℕ) → block < machine.blocks → Later block) → is_right_deed word memory deed ≡ true
    deed_right word loaded all = by deed refl
      where
        by : (d : Deed) → deed ≡ d → is_right_deed word memory d ≡ true
        by Plain e = refl
        by (Stopped cause) e = refl
        by (Stored address width number) e = refl
        by (Loaded address value) e = elim (cases_Bool (is_shared address)) [
          | inl high ↦ rw high (load_right word address value e high (loaded address value e high) all)
          | inr low ↦ rw low refl
        ]
