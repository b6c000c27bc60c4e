-- The steps of a core: when each is enabled, what refuses it, and what it does. Own.
use Rattle.std.specs.Prelude.{◌≡◌, ◌≢◌, ⊤, ℕ, ◌<◌, ◌≤◌, ◌⊎◌, true, false, List, [], map, take, slice_get, None, Some}
use Rattle.wt_proto.specs.declared.message.Msg.{Msg}
use Rattle.discrete_events.specs.Simulation.{Simulation}
use Rattle.discrete_events.specs.Core.{Core, CoreStep, Quantum, Deposit, Turn, IsOpen, IsEnabled, AreEnabled, core_step, core_run}
use Rattle.node.specs.declared.state.NodeState.{NodeState}
use Rattle.core_steps.specs.declared.step.Step.{Step}
use Rattle.core_steps.specs.declared.step.Step.TheVariants as steps
use Rattle.core_steps.specs.declared.step.Why.{Why}
use Rattle.core_steps.specs.declared.step.Why.TheVariants as whys
use Rattle.core_steps.specs.declared.step.StepFault.{StepFault}
use Rattle.core_steps.specs.declared.step.StepFault.TheVariants.{NoMemory, Refused}
use Rattle.core_steps.specs.Cores.{CoreModel, IsUnbroken, seen, sim_of}

abbrev pub step_of : Step → CoreStep
step_of (steps.Quantum node) = Quantum node
step_of (steps.Deposit from to) = Deposit from to
step_of steps.Turn = Turn

abbrev pub IsEnabledStep : CoreModel → Step → Type 0
IsEnabledStep core step = IsEnabled (sim_of core) (seen core) (step_of step)

-- ---- the reasons why a step isn't enabled, in their order: each holds where none before it does

-- the least node that isn't done
pub record IsLeastNotDone (sim : Simulation NodeState Msg) (core : Core NodeState Msg) (node : ℕ) : Type 0 where
  pub exists : node < sim.nodes
  pub not_done : core.done node ≡ false
  pub least : (other : ℕ) → other < node → core.done other ≡ true

-- the least pair of nodes between which something is left to deposit, while all are done
pub record IsLeastOut (sim : Simulation NodeState Msg) (core : Core NodeState Msg) (from to : ℕ) : Type 0 where
  pub done : (node : ℕ) → node < sim.nodes → core.done node ≡ true
  pub source : from < sim.nodes
  pub dest : to < sim.nodes
  pub some : core.out from to ≢ []
  pub least : (one other : ℕ) → one < sim.nodes → other < sim.nodes → (one < from) ⊎ ((one ≡ from) × (other < to)) → core.out one other ≡ []

-- one of the two nodes of a deposit isn't there: the source is tested first
abbrev pub IsNoNode : ℕ → ℕ → ℕ → ℕ → Type 0
IsNoNode nodes from to node = ((nodes ≤ from) × (node ≡ from)) ⊎ ((from < nodes) × (nodes ≤ to) × (node ≡ to))

-- both nodes of a deposit are there
pub record IsBetweenNodes (nodes from to : ℕ) : Type 0 where
  pub source : from < nodes
  pub dest : to < nodes

abbrev pub IsWhy : Simulation NodeState Msg → Core NodeState Msg → Step → Why → Type 0
IsWhy sim core step whys.Ended = core.until ≡ None
IsWhy sim core (steps.Quantum node) (whys.NoNode it) = IsOpen core × (sim.nodes ≤ node) × (it ≡ node)
IsWhy sim core (steps.Quantum node) (whys.Done it) = IsOpen core × (node < sim.nodes) × (core.done node ≡ true) × (it ≡ node)
IsWhy sim core (steps.Deposit from to) (whys.NoNode it) = IsOpen core × IsNoNode sim.nodes from to it
IsWhy sim core (steps.Deposit from to) (whys.NotDone it) =
    IsOpen core × IsBetweenNodes sim.nodes from to × (core.done from ≡ false) × (it ≡ from)
IsWhy sim core (steps.Deposit from to) (whys.NoneOut one other) =
    IsOpen core × IsBetweenNodes sim.nodes from to × (core.done from ≡ true) × (core.out from to ≡ []) × (one ≡ from) × (other ≡ to)
IsWhy sim core steps.Turn (whys.NotDone it) = IsOpen core × IsLeastNotDone sim core it
IsWhy sim core steps.Turn (whys.Out one other) = IsOpen core × IsLeastOut sim core one other
IsWhy sim core step why = ⊥

-- ---- what comes of steps

-- An enabled step was done.
pub record HasStepped (before : CoreModel) (step : Step) (after : CoreModel) : Type 0 where
  pub enabled : IsEnabledStep before step
  pub stepped : seen after ≡ core_step (sim_of before) (step_of step) (seen before)
  pub machine : after.machine ≡ before.machine
  pub unbroken : IsUnbroken before × IsUnbroken after

-- A step wasn't done. Want of memory leaves a broken core, and is answered for an enabled step or by a core that was
-- broken before. A step that isn't enabled leaves the core as it was.
abbrev pub IsFault : CoreModel → Step → CoreModel → StepFault → Type 0
IsFault before step after NoMemory = (after.broken ≡ true) × (IsUnbroken before → IsEnabledStep before step)
IsFault before step after (Refused told why) =
    IsUnbroken before × (after ≡ before) × (told ≡ step) × IsWhy (sim_of before) (seen before) step why

-- Steps were done one after the other, each enabled.
pub record HaveStepped (before : CoreModel) (steps : List Step) (after : CoreModel) : Type 0 where
  pub enabled : AreEnabled (sim_of before) (seen before) (map step_of steps)
  pub stepped : seen after ≡ core_run (sim_of before) (map step_of steps) (seen before)
  pub machine : after.machine ≡ before.machine
  pub unbroken : IsUnbroken before × IsUnbroken after

-- The first of some steps that isn't enabled, and why.
pub record IsStopped (before : CoreModel) (steps : List Step) (step : Step) (why : Why) : Type 0 where
  pub count : ℕ
  pub enabled : AreEnabled (sim_of before) (seen before) (map step_of (take count steps))
  pub next : slice_get steps count ≡ Some step
  pub stopped : IsWhy (sim_of before) (core_run (sim_of before) (map step_of (take count steps)) (seen before)) step why

abbrev pub IsReplayFault : CoreModel → List Step → StepFault → Type 0
IsReplayFault before steps NoMemory = ⊤
IsReplayFault before steps (Refused step why) = IsStopped before steps step why
