-- What a world comes to. Own.
use Rattle.std.specs.Prelude.{ℕ, ◌||◌, ◌==◌, not, max, sum_by, List, [], ◌∷◌, if◌then◌else◌}
use Rattle.std.specs.List.{list_any, list_all}
use Rattle.std.specs.FinMap.{len}
use Rattle.wt_params.specs.declared.parts.MachineParts.{MachineParts}
use Rattle.discrete_events.specs.World.{is_spent}
use Rattle.node.specs.declared.state.NodeState.{NodeState}
use Rattle.node.specs.State.{events_of}
use Rattle.node.specs.React.{wind_tunnel}
use Rattle.wt_stats.specs.declared.head.Outcome.{Outcome}
use Rattle.wt_stats.specs.declared.head.Outcome.TheVariants.{Finished, Budget, EventLimit, Stalled}
use Rattle.wt_stats.specs.declared.head.Head.{Head}
use Rattle.node.specs.State.{is_running, is_stopped, last_time_of}
use Rattle.quantum.specs.World.{World}

-- the outcome of a world without events
abbrev pub outcome_of : MachineParts → World → Outcome
outcome_of machine world =
    if list_any (is_spent (wind_tunnel machine)) world.nodes then EventLimit
    else if not (len world.pending == 0) || list_any is_running world.nodes then Budget
    else if list_all is_stopped world.nodes then Finished
    else Stalled

abbrev pub greatest_time : List NodeState → ℕ
greatest_time [] = 0
greatest_time (node ∷ nodes) = max (last_time_of node) (greatest_time nodes)

abbrev pub head_of : MachineParts → World → Head
head_of machine world = record {
  outcome = outcome_of machine world;
  events = sum_by events_of world.nodes;
  time = greatest_time world.nodes;
  quanta = world.quanta;
}
