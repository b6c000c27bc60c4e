-- The whole machine at a moment, which is a world of its simulation, and at its start. Own.
use Rattle.std.specs.Prelude.{Bool, List, map}
use Rattle.std.specs.List.{range_with_len}
use Rattle.std.specs.FinMap.{empty}
use Rattle.wt_params.specs.declared.parts.MachineParts.{MachineParts}
use Rattle.wt_proto.specs.declared.message.Msg.{Msg}
use Rattle.discrete_events.specs.World.{World as WorldOf}
use Rattle.image_loader.specs.Images.{LoadedImages}
use Rattle.node.specs.declared.state.NodeState.{NodeState}
use Rattle.node.specs.Start.{start_node}

abbrev pub World : Type 0
World = WorldOf NodeState Msg

-- nodes with nothing under way between them, before any quantum
abbrev pub at_rest : List NodeState → World
at_rest nodes = record { nodes = nodes; pending = empty; kept_end = 0; quanta = 0 }

-- The start: every node of the machine, with the images in its memories.
abbrev pub start_of : MachineParts → LoadedImages → Bool → World
start_of machine loaded traced = at_rest (map (start_node machine loaded traced) (range_with_len 0 machine.nodes))
