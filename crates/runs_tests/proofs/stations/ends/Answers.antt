use Rattle.std.proofs.Common.{◌≡◌, ◌∙◌, Bool, None, [], ◌∷◌, inl, inr, sym, ap, subst, refl, arith}
use Rattle.wt_params.specs.declared.parts.MachineParts.{MachineParts}
use Rattle.wt_proto.specs.declared.message.Msg.{Msg}
use Rattle.image_loader.specs.Images.{LoadedImages}
use Rattle.discrete_events.specs.Core.{Station}
use Rattle.discrete_events.specs.Laws.{IsIn, IsStart}
use Rattle.discrete_events.proofs.Whole.{start_is_world}
use Rattle.node.specs.declared.state.NodeState.{NodeState}
use Rattle.node.specs.Laws.{Fits}
use Rattle.node.specs.React.{wind_tunnel}
use Rattle.node.specs.Sound.{IsNode}
use Rattle.node.specs.Start.{start_node}
use Rattle.node.proofs.EventKept.{machines_are_simulations}
use Rattle.quantum.specs.Sole.{IsSole, sole_world}
use Rattle.quantum.specs.Stations.{StationModel, IsLive, machine_of, station_at_start, station_of}
use Rattle.runs_tests.proofs.stations.ends.Goals as goal

number_at_start : (machine : MachineParts) (loaded : LoadedImages) (traced : Bool) → (start_node machine loaded traced 0).number ≡ 0
unfolding start_node
number_at_start machine loaded traced = refl

unused_at_start : (machine : MachineParts) (loaded : LoadedImages) (traced : Bool) → (start_node machine loaded traced 0).last ≡ None
unfolding start_node
unused_at_start machine loaded traced = refl

-- A node at the start is alone where the machine has no other.
sole_at_start : (machine : MachineParts) (loaded : LoadedImages) (traced : Bool) (station : StationModel) → machine.nodes ≡ 1 → machine_of station ≡ machine → station_of station ≡ station_at_start machine loaded traced 0 → IsLive station →
    IsSole station (record { kept_end = 0; count = 0 })
sole_at_start machine loaded traced station one machine_is start live = record {
  one = its_one;
  world = (start_is_world (wind_tunnel its) (IsNode its) (Fits its) (machines_are_simulations its live.sound.sound.numbers).laws (sole_world station (record { kept_end = 0; count = 0 })) start_is).0;
  until = ap (λ (s : Station NodeState Msg). s.until) start;
  few = omega arith;
}
  where
    its : MachineParts
    its = machine_of station

    its_one : its.nodes ≡ 1
    its_one = ap (λ (m : MachineParts). m.nodes) machine_is ∙ one

    node_is : station.node.state ≡ start_node machine loaded traced 0
    node_is = ap (λ (s : Station NodeState Msg). s.node) start

    sound : (node : NodeState) → IsIn node (station.node.state ∷ []) → IsNode its node
    sound node (inl e) = subst (IsNode its) (sym e) live.sound.sound
    sound node (inr none) = absurd none

    unused : (node : NodeState) → IsIn node (station.node.state ∷ []) → node.last ≡ None
    unused node (inl e) = ap (λ (n : NodeState). n.last) (e ∙ node_is) ∙ unused_at_start machine loaded traced
    unused node (inr none) = absurd none

    start_is : IsStart (wind_tunnel its) (IsNode its) (sole_world station (record { kept_end = 0; count = 0 }))
    start_is = record {
      numbered = (ap (λ (n : NodeState). n.number) node_is ∙ number_at_start machine loaded traced, sym its_one);
      sound = sound;
      unused = unused;
      pending = ap (λ (s : Station NodeState Msg). s.pending) start;
      kept_end = refl;
    }

pub run_sole-requires : goal.run_sole-requires
run_sole-requires g c = sole_at_start _ _ _ _ c.requires.one c.in_ok-station.ensures.machine c.in_ok-station.ensures.start (c.in_ok-station.ensures.live)
