-- What the serial run records.
use Rattle.std.proofs.Common.{◌≡◌, Bool, true, false, cond, map, Some, refl, ap, sym, ◌∙◌, subst, arith, eqb-true}
use Rattle.wt_params.specs.declared.parts.MachineParts.{MachineParts}
use Rattle.wt_params.specs.Machine.{IsMachine}
use Rattle.wt_proto.specs.declared.key.Key.{Key}
use Rattle.wt_proto.specs.declared.message.Msg.{Msg}
use Rattle.discrete_events.specs.Simulation.{Event}
use Rattle.discrete_events.specs.World.{events_in, least}
use Rattle.discrete_events.specs.Serial.{is_for, node_after, serial_step}
use Rattle.discrete_events.specs.Laws.{IsIn, Reacts, IsSimulation}
use Rattle.discrete_events.proofs.Lists.{from_map}
use Rattle.discrete_events.proofs.Events.{IsEventBelow, event_is, event_to, least_in}
use Rattle.discrete_events.proofs.Stations as stations
use Rattle.discrete_events.proofs.Numbered.{numbered_same}
use Rattle.discrete_events.proofs.SerialRun.{moved, step_of_least, quantum_or_not}
use Rattle.node.specs.declared.state.NodeState.{NodeState}
use Rattle.node.specs.React.{react, message_under_key, wind_tunnel}
use Rattle.node.specs.Sound.{IsNode}
use Rattle.node.specs.Laws.{Fits, IsDueAt, IsCounted}
use Rattle.node.proofs.EventKept.{machines_are_simulations}
use Rattle.quantum.specs.World.{World}
use Rattle.quantum.specs.Starts.{IsWorldOf}

module _ (machine : MachineParts) (is : IsMachine machine) where
  pub laws : IsSimulation (wind_tunnel machine) (IsNode machine) (Fits machine)
  laws = (machines_are_simulations machine is).laws

  -- ---- the event that a world handles next, at its node

  module _ (world : World) (ok : IsWorldOf machine world) (key : Key) (event : Event Msg) (is_least : least (events_in (wind_tunnel machine) world) ≡ Some (key, event)) where
    pub at : IsEventBelow (wind_tunnel machine) machine.budget world.nodes world.pending key event
    at = event_is (wind_tunnel machine) machine.budget world.nodes world.pending key event (least_in _ (key, event) is_least)

    pub named : key.to ≡ at.node.number
    named = event_to (wind_tunnel machine) world.pending at.node key event at.of_node

    due : IsDueAt machine at.node key event
    due = stations.due (wind_tunnel machine) (IsNode machine) (Fits machine) laws machine.budget world.nodes world.pending key event is_least at (ok.stations at.node at.member) (omega arith)

    pub reacts : Reacts (wind_tunnel machine) (IsNode machine) (Fits machine) at.node key (react machine at.node event).0 (map message_under_key (react machine at.node event).1)
    reacts = laws.reacts at.node key event (ok.stations at.node at.member).sound due

    pub counted : IsCounted machine at.node key event
    counted = (machines_are_simulations machine is).counts at.node key event (ok.stations at.node at.member).sound due

    -- only that node changes
    its_node : (node : NodeState) → IsIn node world.nodes → is_for (wind_tunnel machine) key node ≡ true → node ≡ at.node
    its_node node member e = numbered_same (wind_tunnel machine) 0 world.nodes node at.node ok.numbered member at.member (eqb-true _ _ e ∙ named)

    nodes_then : (serial_step (wind_tunnel machine) world).nodes ≡ map (node_after (wind_tunnel machine) key event) world.nodes
    nodes_then =
        ap (λ (w : World). w.nodes) (step_of_least (wind_tunnel machine) world key event is_least)
        ∙ quantum_or_not (wind_tunnel machine) (λ (w : World). w.nodes ≡ map (node_after (wind_tunnel machine) key event) world.nodes) (moved (wind_tunnel machine) key event world) key.time refl refl

    -- what goes on for that node and for the others goes on for all
    pub goes_on : (P Q : NodeState → Type 0) → (P at.node → Q (react machine at.node event).0) → ((node : NodeState) → IsIn node world.nodes → is_for (wind_tunnel machine) key node ≡ false → P node → Q node) →
        ((node : NodeState) → IsIn node world.nodes → P node) → (node : NodeState) → IsIn node (serial_step (wind_tunnel machine) world).nodes → Q node
    goes_on P Q here elsewhere all node member = of (from_map (node_after (wind_tunnel machine) key event) node world.nodes (subst (IsIn node) nodes_then member))
      where
        by : (old : NodeState) → IsIn old world.nodes → (b : Bool) → is_for (wind_tunnel machine) key old ≡ b → Q (cond b (react machine old event).0 old)
        by old there true e = subst (λ n. Q (react machine n event).0) (sym (its_node old there e)) (here (all at.node at.member))
        by old there false e = elsewhere old there e (all old there)

        of : (old : NodeState) × IsIn old world.nodes × (node ≡ node_after (wind_tunnel machine) key event old) → Q node
        of (old, there, e) = subst Q (sym e) (by old there (is_for (wind_tunnel machine) key old) refl)
