-- What is known of a core that was come to by enabled steps.
use Rattle.std.proofs.Common.{◌≡◌, ℕ, zero, suc, ◌+◌, ◌≤◌, List, [], ◌∷◌, ◌++◌, map, Bool, true, false, cond, Option, Some, None, refl, ap, sym, ◌∙◌, subst, arith}
use Rattle.std.specs.Option.{option_map}
use Rattle.wt_params.specs.declared.parts.MachineParts.{MachineParts}
use Rattle.wt_params.specs.Machine.{IsMachine}
use Rattle.wt_proto.specs.declared.key.Key.{Key}
use Rattle.wt_proto.specs.declared.message.Msg.{Msg}
use Rattle.discrete_events.specs.Simulation.{Simulation, Event}
use Rattle.discrete_events.specs.World.{events_in, least}
use Rattle.discrete_events.specs.Serial.{after_least, serial_step, serial}
use Rattle.discrete_events.specs.Round.{quantum_end}
use Rattle.discrete_events.specs.Core.{Station, Core, CoreStep, IsEnabled, AreEnabled, core_of, core_step, core_run}
use Rattle.discrete_events.specs.Laws.{IsNumbered, IsSimulation, handled_in}
use Rattle.discrete_events.specs.Theorems.{IsAmid, IsAmidQuantum, picked}
use Rattle.discrete_events.proofs.Interleaving.{every_interleaving}
use Rattle.discrete_events.proofs.SerialRun.{moved, quantum_or_not, serial-suc, serial-zero}
use Rattle.discrete_events.proofs.Whole.{from_world}
use Rattle.node.specs.declared.state.NodeState.{NodeState}
use Rattle.node.specs.Laws.{Fits, IsWindTunnel}
use Rattle.node.specs.React.{wind_tunnel}
use Rattle.node.specs.Sound.{IsNode}
use Rattle.node.proofs.EventKept.{machines_are_simulations}
use Rattle.quantum.specs.Starts.{IsWorldOf}
use Rattle.quantum.specs.World.{World}
use Rattle.core_steps.specs.Cores.{IsReached}

module _ (machine : MachineParts) (numbers : IsMachine machine) where
  abbrev sim : Simulation NodeState Msg
  sim = wind_tunnel machine

  pub wind : IsWindTunnel machine
  wind = machines_are_simulations machine numbers

  pub laws : IsSimulation sim (IsNode machine) (Fits machine)
  laws = wind.laws

  -- ---- one step more

  pub run_more : (steps : List CoreStep) (step : CoreStep) (core : Core NodeState Msg) → core_run sim (steps ++ step ∷ []) core ≡ core_step sim step (core_run sim steps core)
  run_more [] step core = refl
  run_more (x ∷ xs) step core = run_more xs step (core_step sim x core)

  pub enabled_more : (steps : List CoreStep) (step : CoreStep) (core : Core NodeState Msg) → AreEnabled sim core steps → IsEnabled sim (core_run sim steps core) step → AreEnabled sim core (steps ++ step ∷ [])
  enabled_more [] step core are is = (is, tt)
  enabled_more (x ∷ xs) step core are is = (are.0, enabled_more xs step (core_step sim x core) are.1 is)

  pub reached_more : (core : Core NodeState Msg) (step : CoreStep) → IsReached machine core → IsEnabled sim core step → IsReached machine (core_step sim step core)
  reached_more core step r is = record {
    begun = r.begun;
    is_world = r.is_world;
    between = r.between;
    counted = r.counted;
    steps = r.steps ++ step ∷ [];
    enabled = enabled_more r.steps step (core_of sim r.begun) r.enabled (subst (λ (c : Core NodeState Msg). IsEnabled sim c step) r.run is);
    run = ap (core_step sim step) r.run ∙ sym (run_more r.steps step (core_of sim r.begun));
  }

  -- ---- quanta are no more than events

  quanta_step : (world : World) → (serial_step sim world).quanta ≤ world.quanta + 1
  quanta_step world = by (least (events_in sim world)) refl
    where
      by : (o : Option (Key × Event Msg)) → least (events_in sim world) ≡ o → (serial_step sim world).quanta ≤ world.quanta + 1
      by None e = subst (λ (v : Option (Key × Event Msg)). (after_least sim world v).quanta ≤ world.quanta + 1) (sym e) (omega arith)
      by (Some v) e = subst (λ (v : Option (Key × Event Msg)). (after_least sim world v).quanta ≤ world.quanta + 1) (sym e)
          (quantum_or_not sim (λ (w : World). w.quanta ≤ world.quanta + 1) (moved sim v.0 v.1 world) v.0.time (omega arith) (omega arith))

  quanta_upto : (n : ℕ) (world : World) → (serial sim n world).quanta ≤ world.quanta + n
  quanta_upto zero world = subst (λ (w : World). w.quanta ≤ world.quanta + 0) (sym (serial-zero sim world)) (omega arith)
  quanta_upto (suc n) world = subst (λ (w : World). w.quanta ≤ world.quanta + suc n) (sym (serial-suc sim n world))
      (let one = quanta_step (serial sim n world) in let more = quanta_upto n world in omega arith)

  module _ (core : Core NodeState Msg) (r : IsReached machine core) where
    pub amid : IsAmid sim (Fits machine) r.begun core
    amid = subst (IsAmid sim (Fits machine) r.begun) (sym r.run) (every_interleaving sim (IsNode machine) (Fits machine) laws wind.quanta r.begun r.steps r.is_world r.between r.enabled)

    pub world_then : IsWorldOf machine amid.begun
    world_then = from_world sim (IsNode machine) (Fits machine) laws r.begun amid.begun r.is_world amid.serial

    pub counted_then : amid.begun.quanta ≤ handled_in sim amid.begun
    counted_then =
        let more = subst (λ (w : World). w.quanta ≤ r.begun.quanta + amid.serial.steps) (sym amid.serial.run) (quanta_upto amid.serial.steps r.begun) in
        let handled = amid.serial.counted in
        let first = r.counted in
        omega arith

    -- ---- while a quantum is open

    module _ (until : ℕ) (is : core.until ≡ Some until) where
      pub within : until ≤ machine.budget
      within = by (least (events_in sim amid.begun)) refl
        where
          by : (o : Option (Key × Event Msg)) → least (events_in sim amid.begun) ≡ o → until ≤ machine.budget
          by None e = absurd (let n : Some until ≡ None = sym is ∙ amid.until ∙ ap (option_map (λ (v : Key × Event Msg). quantum_end sim v.0.time)) e in cc)
          by (Some v) e =
              let n : Some until ≡ Some (quantum_end sim v.0.time) = sym is ∙ amid.until ∙ ap (option_map (λ (v : Key × Event Msg). quantum_end sim v.0.time)) e in
              let same : until ≡ quantum_end sim v.0.time = cc in
              omega arith

      pub amid_then : IsAmidQuantum sim (Fits machine) amid.begun until core
      amid_then = amid.amid until is

      picked_numbered : (from : ℕ) (done : ℕ → Bool) (xs ys : List NodeState) → IsNumbered sim from xs → IsNumbered sim from ys → IsNumbered sim from (picked sim done xs ys)
      picked_numbered from done [] ys one other = one
      picked_numbered from done (x ∷ xs) [] one other = other
      picked_numbered from done (x ∷ xs) (y ∷ ys) one other = (by (done x.number), picked_numbered (suc from) done xs ys one.1 other.1)
        where
          by : (b : Bool) → (cond b y x).number ≡ from
          by true = other.0
          by false = one.0

      pub numbered : IsNumbered sim 0 (map (λ (s : Station NodeState Msg). s.node) core.stations)
      numbered = subst (IsNumbered sim 0) (sym amid_then.nodes)
          (picked_numbered 0 core.done amid.begun.nodes amid_then.ended.nodes world_then.numbered (from_world sim (IsNode machine) (Fits machine) laws amid.begun amid_then.ended world_then amid_then.serial).numbered)
