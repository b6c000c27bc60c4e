-- What a step and several steps come to, by what is known of each.
use Rattle.std.proofs.Common.{◌≡◌, ℕ, List, [], ◌∷◌, ◌++◌, map, take, Some, refl, ap, sym, ◌∙◌, subst}
use Rattle.std.specs.Prelude.{slice_get}
use Rattle.std.proofs.lemmas.List.{map-append}
use Rattle.wt_proto.specs.declared.message.Msg.{Msg}
use Rattle.discrete_events.specs.Simulation.{Simulation}
use Rattle.discrete_events.specs.Core.{Core, CoreStep, IsAtRest, AreEnabled, IsEnabled, core_of, core_run, core_step, world_of_core}
use Rattle.discrete_events.specs.Theorems.{IsAmid}
use Rattle.discrete_events.proofs.Inside.{stands_for}
use Rattle.discrete_events.proofs.Interleaving.{every_interleaving}
use Rattle.node.specs.declared.state.NodeState.{NodeState}
use Rattle.node.specs.Laws.{Fits}
use Rattle.node.specs.React.{wind_tunnel}
use Rattle.node.specs.Sound.{IsNode}
use Rattle.quantum.specs.World.{World}
use Rattle.core_steps.specs.declared.step.Step.{Step}
use Rattle.core_steps.specs.declared.step.Why.{Why}
use Rattle.core_steps.specs.Cores.{AreUnderWay, CoreModel, IsCore, IsUnbroken, seen, sim_of}
use Rattle.core_steps.specs.Steps.{HasStepped, HaveStepped, IsStopped, IsWhy, step_of}
use Rattle.core_steps.proofs.Reached.{amid, amid_then, enabled_more, laws, run_more, wind, world_then}

-- ---- several steps

pub none_yet : (core : CoreModel) → IsUnbroken core → HaveStepped core [] core
none_yet core whole = record { enabled = tt; stepped = refl; machine = refl; unbroken = (whole, whole) }

pub one_more : (first : CoreModel) (numbers : IsCore first) (before after : CoreModel) (steps : List Step) (step : Step) → HaveStepped first steps before → HasStepped before step after → HaveStepped first (steps ++ step ∷ []) after
one_more first is before after steps step so_far next =
    let same : sim_of before ≡ sim_of first = ap wind_tunnel so_far.machine in
    let enabled : IsEnabled (sim_of first) (core_run (sim_of first) (map step_of steps) (seen first)) (step_of step) =
    subst (λ (c : Core NodeState Msg). IsEnabled (sim_of first) c (step_of step)) so_far.stepped (subst (λ (s : Simulation NodeState Msg). IsEnabled s (seen before) (step_of step)) same next.enabled)
    in
    let more : map step_of (steps ++ step ∷ []) ≡ map step_of steps ++ step_of step ∷ [] = map-append step_of steps (step ∷ []) in
    record {
      enabled = subst (AreEnabled (sim_of first) (seen first)) (sym more) (enabled_more first.machine is.numbers (map step_of steps) (step_of step) (seen first) so_far.enabled enabled);
      stepped =
          next.stepped
          ∙ ap (λ (s : Simulation NodeState Msg). core_step s (step_of step) (seen before)) same
          ∙ ap (core_step (sim_of first) (step_of step)) so_far.stepped
          ∙ sym (run_more first.machine is.numbers (map step_of steps) (step_of step) (seen first))
          ∙ ap (λ (ss : List CoreStep). core_run (sim_of first) ss (seen first)) (sym more);
      machine = next.machine ∙ so_far.machine;
      unbroken = (so_far.unbroken.0, next.unbroken.1);
    }

pub stopped_at : (first before : CoreModel) (steps : List Step) (count : ℕ) (step : Step) (why : Why) → HaveStepped first (take count steps) before → slice_get steps count ≡ Some step → IsWhy (sim_of before) (seen before) step why → IsStopped first steps step why
stopped_at first before steps count step why so_far next is = record {
  count = count;
  enabled = so_far.enabled;
  next = next;
  stopped = subst (λ (c : Core NodeState Msg). IsWhy (sim_of first) c step why) so_far.stepped (subst (λ (s : Simulation NodeState Msg). IsWhy s (seen before) step why) (ap wind_tunnel so_far.machine) is);
}

-- ---- every interleaving

pub interleaved : (first after : CoreModel) (is : IsCore first) (steps : List Step) → HaveStepped first steps after → IsAtRest (seen first) → IsAmid (sim_of first) (Fits first.machine) (world_of_core (seen first)) (seen after)
interleaved first after is steps have rest =
    subst (λ (w : World). IsAmid (sim_of first) (Fits first.machine) w (seen after)) (sym stands)
    (subst (IsAmid (sim_of first) (Fits first.machine) now.begun) (ap (core_run (sim_of first) (map step_of steps)) (sym same) ∙ sym have.stepped)
    (every_interleaving (sim_of first) (IsNode first.machine) (Fits first.machine) (laws first.machine is.numbers) (wind first.machine is.numbers).quanta now.begun (map step_of steps) (world_then first.machine is.numbers (seen first) is.reached) now.none_left
    (subst (λ (c : Core NodeState Msg). AreEnabled (sim_of first) c (map step_of steps)) same have.enabled)))
  where
    now : IsAmid (sim_of first) (Fits first.machine) is.reached.begun (seen first)
    now = amid first.machine is.numbers (seen first) is.reached

    same : seen first ≡ core_of (sim_of first) now.begun
    same = now.rest rest

    stands : world_of_core (seen first) ≡ now.begun
    stands = ap world_of_core same ∙ (stands_for (sim_of first) (IsNode first.machine) (Fits first.machine) (laws first.machine is.numbers)).world now.begun (world_then first.machine is.numbers (seen first) is.reached)

-- ---- what is left to deposit

pub under_way : (core : CoreModel) → IsCore core → AreUnderWay core
under_way core is until e = (amid_then core.machine is.numbers (seen core) is.reached until e).outs
