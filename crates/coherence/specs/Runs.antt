-- What is proved of every run of every program: whatever the machine and the images, each world of the serial run is
-- coherent, and each load of its trace is right. Own.
use Rattle.std.specs.Prelude.{◌≡◌, ◌≢◌, ⊤, ℕ, ◌<◌, Bool, true, List, [], ◌∷◌, None}
use Rattle.wt_params.specs.declared.parts.MachineParts.{MachineParts}
use Rattle.wt_params.specs.Machine.{IsMachine}
use Rattle.block_tags.specs.declared.tag.Tag.TheVariants.{Invalid, Writable}
use Rattle.target_cache.specs.Cached.{tag_of}
use Rattle.image_loader.specs.Images.{LoadedImages, IsFor}
use Rattle.image_loader.specs.Loading.{AreLoaded}
use Rattle.discrete_events.specs.Serial.{serial_step, serial}
use Rattle.discrete_events.specs.Laws.{IsIn}
use Rattle.node.specs.declared.state.NodeState.{NodeState}
use Rattle.node.specs.React.{wind_tunnel}
use Rattle.quantum.specs.World.{start_of}
use Rattle.quantum.specs.Starts.{IsWorldOf}
use Rattle.wt_trace.specs.declared.record.Record.{Record}
use Rattle.wt_trace.specs.Merged.{merge_of}
use Rattle.wt_report.specs.Report.{logs_of}
use Rattle.wt_report.specs.Trace.{handled_at, history}
use Rattle.coherence.specs.Traces.{Known, known_at_start, after_record, after_records, is_right, first_wrong}
use Rattle.coherence.specs.Worlds.{World, IsCoherentWorld}

-- each record is right when its turn comes
abbrev pub AreRightRecords : Known → List Record → Type 0
AreRightRecords known [] = ⊤
AreRightRecords known (item ∷ rest) = (is_right known item ≡ true) × AreRightRecords (after_record item known) rest

-- One more event of the serial run keeps a world coherent, with what its record tells, and is right.
pub record EventKeeps (machine : MachineParts) (world : World) (known : Known) : Type 0 where
  pub coherent : IsCoherentWorld machine (serial_step (wind_tunnel machine) world) (after_records (handled_at machine world) known)
  pub right : AreRightRecords known (handled_at machine world)

abbrev pub EventsKeepCoherence : Type 0
EventsKeepCoherence =
    (machine : MachineParts) (world : World) (known : Known) → IsMachine machine → IsWorldOf machine world →
    IsCoherentWorld machine world known → EventKeeps machine world known

-- ---- a run from the start

-- the world after so many events of the serial run of a machine, and what its records tell
abbrev pub world_after : MachineParts → LoadedImages → Bool → ℕ → World
world_after machine loaded traced n = serial (wind_tunnel machine) n (start_of machine loaded traced)

abbrev pub records_until : MachineParts → LoadedImages → Bool → ℕ → List Record
records_until machine loaded traced n = history machine n (start_of machine loaded traced)

-- what holds of every such world
abbrev pub InEachWorld : (MachineParts → World → Type 0) → Type 0
InEachWorld Holds =
    (machine : MachineParts) (loaded : LoadedImages) (traced : Bool) (n : ℕ) → IsMachine machine → IsFor machine loaded →
    AreLoaded loaded → Holds machine (world_after machine loaded traced n)

-- It is coherent, with what its records tell.
abbrev pub RunsAreCoherent : Type 0
RunsAreCoherent =
    (machine : MachineParts) (loaded : LoadedImages) (traced : Bool) (n : ℕ) → IsMachine machine → IsFor machine loaded →
    AreLoaded loaded →
    IsCoherentWorld machine (world_after machine loaded traced n)
    (after_records (records_until machine loaded traced n) (known_at_start loaded))

-- Where a node may write a block, no other node has a copy of it.
abbrev pub HasOneWriter : MachineParts → World → Type 0
HasOneWriter machine world =
    (node other : NodeState) (block : ℕ) → IsIn node world.nodes → IsIn other world.nodes → (other.number ≢ node.number) →
    block < machine.blocks → tag_of node.cache block ≡ Writable → tag_of other.cache block ≡ Invalid

-- No message that came was one that nobody had asked for.
abbrev pub HasNoStray : MachineParts → World → Type 0
HasNoStray machine world = (node : NodeState) → IsIn node world.nodes → node.counters.stray ≡ 0

-- Each load of shared memory reads what the last stores left, or else what loading left: of what is recorded so far, in
-- the order of the serial simulation, and so of the merged logs of a traced run.
pub record LoadsAreRight : Type 0 where
  pub records : (machine : MachineParts) (loaded : LoadedImages) (traced : Bool) (n : ℕ) → IsMachine machine → IsFor machine loaded →
      AreLoaded loaded → first_wrong 0 (known_at_start loaded) (records_until machine loaded traced n) ≡ None
  pub trace : (machine : MachineParts) (loaded : LoadedImages) (n : ℕ) → IsMachine machine → IsFor machine loaded → AreLoaded loaded →
      first_wrong 0 (known_at_start loaded) (merge_of (logs_of (world_after machine loaded true n).nodes)) ≡ None
