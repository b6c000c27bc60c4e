-- How a call of the program ends. Own.
use Rattle.std.specs.Prelude.{ℕ, List, if◌then◌else◌, Result, Ok, Err}
use Rattle.std.specs.List.{list_all}
use Rattle.wt_params.specs.declared.parts.MachineParts.{MachineParts}
use Rattle.node.specs.declared.state.NodeState.{NodeState}
use Rattle.node.specs.State.{exits_well}
use Rattle.wt_stats.specs.declared.head.Outcome.{Outcome}
use Rattle.wt_stats.specs.declared.head.Outcome.TheVariants as outcomes
use Rattle.wwt_case.specs.declared.refusal.Refusal.{Refusal}
use Rattle.wwt_case.specs.declared.refusal.Refusal.TheVariants as refusals
use Rattle.wwt_run.specs.declared.status.Status.{Status}
use Rattle.wwt_run.specs.declared.status.Status.TheVariants.{Done, NodeFault, Usage, Budget, EventLimit, Stalled, BadMachine, BadImage, ReadFault, WriteFault, NoMemory}
use Rattle.quantum.specs.World.{World}
use Rattle.quantum.specs.Outcome.{outcome_of}

-- the exit status
abbrev pub code_of : Status → ℕ
code_of Done = 0
code_of NodeFault = 1
code_of Usage = 2
code_of Budget = 3
code_of EventLimit = 4
code_of Stalled = 5
code_of BadMachine = 6
code_of BadImage = 7
code_of ReadFault = 8
code_of WriteFault = 9
code_of NoMemory = 10

-- the status of a run that ends like this, where these nodes are left
abbrev pub status_after_of : Outcome → List NodeState → Status
status_after_of outcomes.Finished nodes =
    if list_all exits_well nodes then Done else NodeFault
status_after_of outcomes.Budget nodes = Budget
status_after_of outcomes.EventLimit nodes = EventLimit
status_after_of outcomes.Stalled nodes = Stalled

abbrev pub status_of_world : MachineParts → World → Status
status_of_world machine world = status_after_of (outcome_of machine world) world.nodes

abbrev pub status_of_refusal : Refusal → Status
status_of_refusal refusals.Usage = Usage
status_of_refusal (refusals.Read name) = ReadFault
status_of_refusal (refusals.Machine fault) = BadMachine
status_of_refusal (refusals.Image number refusal) = BadImage
status_of_refusal refusals.Write = WriteFault
status_of_refusal refusals.NoMemory = NoMemory

-- a call ends by a job's status or by a refusal
abbrev pub status_of_end : Result Status Refusal → Status
status_of_end (Ok status) = status
status_of_end (Err refusal) = status_of_refusal refusal
