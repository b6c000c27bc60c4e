-- Every world of every serial run from a start is coherent, so it has one writer at most of each block.
use Rattle.std.proofs.Common.{◌≡◌, ℕ, ◌+◌, Bool, true, false, cond, List, [], ◌∷◌, Option, Some, None, refl, ap, sym, ◌∙◌, subst}
use Rattle.wt_params.specs.declared.parts.MachineParts.{MachineParts}
use Rattle.wt_params.specs.Machine.{IsMachine}
use Rattle.block_tags.specs.declared.tag.Tag.TheVariants.{Invalid, ReadOnly, Writable}
use Rattle.target_cache.specs.declared.line.Line.{Line}
use Rattle.target_cache.specs.Lines.{tag_by}
use Rattle.target_cache.specs.Cached.{line_of}
use Rattle.image_loader.specs.Images.{LoadedImages, IsFor}
use Rattle.image_loader.specs.Loading.{AreLoaded}
use Rattle.discrete_events.specs.Laws.{IsIn}
use Rattle.discrete_events.proofs.Lists.{from_map}
use Rattle.std.specs.List.{range_with_len}
use Rattle.node.specs.Start.{start_node}
use Rattle.discrete_events.proofs.SerialRun.{world_of_serial}
use Rattle.node.specs.declared.state.NodeState.{NodeState}
use Rattle.node.specs.Laws.{Fits}
use Rattle.node.specs.React.{wind_tunnel}
use Rattle.node.specs.Sound.{IsNode}
use Rattle.node.proofs.EventKept.{machines_are_simulations}
use Rattle.quantum.specs.World.{start_of}
use Rattle.quantum.specs.Starts.{IsWorldOf}
use Rattle.quantum.proofs.AtStart.{starts_are_worlds}
use Rattle.coherence.specs.Block.{Copy}
use Rattle.coherence.specs.Deals.{copy_by, copy_of}
use Rattle.wt_trace.specs.declared.record.Record.{Record}
use Rattle.wt_report.specs.Trace.{IsTracedStart}
use Rattle.coherence.specs.Traces.{Known, known_at_start, after_record, first_wrong}
use Rattle.coherence.specs.Runs.{AreRightRecords, EventsKeepCoherence, world_after, records_until, RunsAreCoherent, HasOneWriter, LoadsAreRight}
use Rattle.coherence.specs.Worlds.{World, to_home_in, from_home_in, cell_by, cell_in, view_in, IsCoherentWorld}
use Rattle.wt_report.proofs.TraceOrder.{trace_is_serial}
use Rattle.coherence.proofs.Strays.{one_writer}
use Rattle.coherence.proofs.WorldEvents.{node_is}
use Rattle.coherence.proofs.WorldRuns.{RunKeeps, step_coherent, run_coherent}
use Rattle.coherence.proofs.WorldStart.{start_is_coherent}

pub events_keep_coherence_law : EventsKeepCoherence
events_keep_coherence_law = step_coherent

pub serial_world : (machine : MachineParts) (loaded : LoadedImages) (traced : Bool) (n : ℕ) → IsMachine machine → IsFor machine loaded → AreLoaded loaded → IsWorldOf machine (world_after machine loaded traced n)
serial_world machine loaded traced n is for loads =
    world_of_serial (wind_tunnel machine) (IsNode machine) (Fits machine) (machines_are_simulations machine is).laws n (start_of machine loaded traced) (starts_are_worlds machine loaded traced is for loads).world_of

-- ---- with its records

serial_run : (machine : MachineParts) (loaded : LoadedImages) (traced : Bool) (n : ℕ) → IsMachine machine → IsFor machine loaded → AreLoaded loaded → RunKeeps machine (start_of machine loaded traced) (known_at_start loaded) n
serial_run machine loaded traced n is for loads =
    run_coherent machine (start_of machine loaded traced) (known_at_start loaded) n is (starts_are_worlds machine loaded traced is for loads).world_of (start_is_coherent machine is loaded for loads traced)

pub serial_coherent : RunsAreCoherent
serial_coherent machine loaded traced n is for loads = (serial_run machine loaded traced n is for loads).coherent

none_wrong : (place : ℕ) (known : Known) (items : List Record) → AreRightRecords known items → first_wrong place known items ≡ None
none_wrong place known [] right = refl
none_wrong place known (item ∷ rest) right = rw right.0 (none_wrong (place + 1) (after_record item known) rest right.1)

traced_node : (machine : MachineParts) (loaded : LoadedImages) (number : ℕ) → ((start_node machine loaded true number).traced ≡ true) × ((start_node machine loaded true number).log ≡ [])
unfolding start_node
traced_node machine loaded number = (refl, refl)

-- the start of a traced run
is_traced : (machine : MachineParts) (loaded : LoadedImages) → IsMachine machine → IsFor machine loaded → AreLoaded loaded → IsTracedStart machine (start_of machine loaded true)
is_traced machine loaded is for loads = record {
  is_world = (starts_are_worlds machine loaded true is for loads).world_of;
  traced = λ node member. (at_start node member).0;
  unused = λ node member. (at_start node member).1;
}
  where
    at_start : (node : NodeState) → IsIn node (start_of machine loaded true).nodes → (node.traced ≡ true) × (node.log ≡ [])
    at_start node member = of (from_map (start_node machine loaded true) node (range_with_len 0 machine.nodes) member)
      where
        of : (number : ℕ) × IsIn number (range_with_len 0 machine.nodes) × (node ≡ start_node machine loaded true number) → (node.traced ≡ true) × (node.log ≡ [])
        of (number, h, e) = subst (λ (n : NodeState). (n.traced ≡ true) × (n.log ≡ [])) (sym e) (traced_node machine loaded number)

pub loads_right : LoadsAreRight
loads_right = record {
  records = λ machine loaded traced n is for loads. none_wrong 0 (known_at_start loaded) (records_until machine loaded traced n) (serial_run machine loaded traced n is for loads).right;
  trace = λ machine loaded n is for loads.
      ap (first_wrong 0 (known_at_start loaded)) ((trace_is_serial machine is).any n (start_of machine loaded true) (is_traced machine loaded is for loads))
      ∙ none_wrong 0 (known_at_start loaded) (records_until machine loaded true n) (serial_run machine loaded true n is for loads).right;
}

-- ---- one writer

module _ (machine : MachineParts) (world : World) (ok : IsWorldOf machine world) (known : Known) (good : IsCoherentWorld machine world known) where
  copy_in : (node : NodeState) (block : ℕ) → IsIn node world.nodes → (cell_in world block node.number).copy ≡ copy_of node.cache block
  copy_in node block member = ap (λ (found : Option NodeState). (cell_by block (to_home_in world block node.number) (from_home_in world block node.number) found).copy) (node_is machine 0 world.nodes node ok.numbered member)

  written : (line : Option Line) → tag_by line ≡ Writable → (copy : Copy) × (copy_by line ≡ Some copy) × (copy.writable ≡ true)
  written None is = absurd cc
  written (Some line) is = by line.writable refl is
    where
      by : (writable : Bool) → line.writable ≡ writable → cond writable Writable ReadOnly ≡ Writable → (copy : Copy) × (copy_by (Some line) ≡ Some copy) × (copy.writable ≡ true)
      by true e is = (record { writable = line.writable; bytes = line.bytes }, refl, e)
      by false e is = absurd cc

  untagged : (line : Option Line) → copy_by line ≡ None → tag_by line ≡ Invalid
  untagged None is = refl
  untagged (Some line) is = absurd cc

  pub has_one_writer : HasOneWriter machine world
  has_one_writer node other block member another apart exists writes =
      let copy = written (line_of node.cache block) writes in
      let here : (cell_in world block node.number).copy ≡ Some (record { writable = true; bytes = copy.0.bytes }) =
      copy_in node block member ∙ copy.1 ∙ (λ i. Some (record { writable = copy.2 i; bytes = copy.0.bytes })) in
      let before = good.blocks block exists in
      untagged (line_of other.cache block) (sym (copy_in other block another) ∙ one_writer (view_in world block before.home) node.number other.number copy.0.bytes before.facts apart here)
