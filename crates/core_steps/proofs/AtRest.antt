-- Stations of a core at rest are those of an engine, which opens the quantum.
use Rattle.std.proofs.Common.{◌≡◌, ℕ, ◌^◌, ◌≤◌, ◌<◌, List, [], ◌∷◌, map, Bool, true, false, cond, Option, Some, None, refl, ap, sym, ◌∙◌, subst, arith, ◌==◌}
use Rattle.std.specs.Prelude.{IfSome}
use Rattle.std.specs.Option.{option_map}
use Rattle.std.specs.List.{All, range_with_len}
use Rattle.std.specs.FinMap.{empty, get, get-empty}
use Rattle.wt_params.specs.declared.parts.MachineParts.{MachineParts}
use Rattle.wt_params.specs.Machine.{IsMachine}
use Rattle.wt_proto.specs.declared.key.Key.{Key}
use Rattle.wt_proto.specs.declared.message.Msg.{Msg}
use Rattle.wt_proto.specs.KeyOrder.{key_cmp}
use Rattle.image_loader.specs.Images.{LoadedImages}
use Rattle.discrete_events.specs.Simulation.{Simulation, Event}
use Rattle.discrete_events.specs.World.{events_in, least}
use Rattle.discrete_events.specs.Round.{quantum_end, to_node, together}
use Rattle.discrete_events.specs.Core.{Station, Core, IsAtRest, core_of, opening, station_in, world_of_core}
use Rattle.discrete_events.specs.Laws.{IsIn, IsBetweenQuanta, handled_in}
use Rattle.discrete_events.proofs.Inside.{stands_for}
use Rattle.discrete_events.proofs.Lists.{from_map, in_map, map_map}
use Rattle.discrete_events.proofs.Queues.{Queue, get_to_node, same_queue}
use Rattle.node.specs.declared.state.NodeState.{NodeState}
use Rattle.node.specs.Laws.{Fits}
use Rattle.node.specs.React.{wind_tunnel}
use Rattle.node.specs.Sound.{IsNode}
use Rattle.node.specs.Start.{start_node}
use Rattle.quantum.specs.Starts.{IsWorldOf}
use Rattle.quantum.specs.Stations.{StationModel, IsUnbroken as IsWholeStation, station_at_start, station_of}
use Rattle.quantum.specs.World.{World, start_of}
use Rattle.engine.specs.Engine.{EngineModel, IsRunning, world_of}
use Rattle.engine.specs.Quantum.{earliest_of}
use Rattle.engine.proofs.Going.{before_budget}
use Rattle.engine.proofs.Owned.{earliest_is}
use Rattle.engine.proofs.Places.{all_by, in_all}
use Rattle.engine.proofs.StartLemmas.{AreAtStart, running_at_start, world_is_start}
use Rattle.core_steps.specs.Cores.{IsReached, IsStationOf}
use Rattle.core_steps.proofs.Reached.{amid, counted_then, laws, world_then}

module _ (machine : MachineParts) (numbers : IsMachine machine) (core : Core NodeState Msg) (r : IsReached machine core) (rest : IsAtRest core) (models : List StationModel) (live : All (IsStationOf machine) models) (are : map station_of models ≡ core.stations) where
  abbrev sim : Simulation NodeState Msg
  sim = wind_tunnel machine

  abbrev begun : World
  begun = (amid machine numbers core r).begun

  abbrev engine : EngineModel
  engine = record { machine = machine; stations = models; kept_end = core.kept_end; quanta = core.quanta; threaded = 0; passes = []; broken = false }

  same : core ≡ core_of sim begun
  same = (amid machine numbers core r).rest rest

  world_is : world_of engine ≡ begun
  world_is =
      (λ i. record {
        nodes = (sym (map_map (λ (t : Station NodeState Msg). t.node) station_of models) ∙ ap (map (λ (t : Station NodeState Msg). t.node)) are) i;
        pending = together ((sym (map_map (λ (t : Station NodeState Msg). t.pending) station_of models) ∙ ap (map (λ (t : Station NodeState Msg). t.pending)) are) i);
        kept_end = core.kept_end;
        quanta = core.quanta;
      })
      ∙ ap world_of_core same ∙ (stands_for sim (IsNode machine) (Fits machine) (laws machine numbers)).world begun (world_then machine numbers core r)

  ran : (s : StationModel) → IsIn s models → s.until ≡ core.kept_end
  ran s member = of (from_map (station_in sim begun) (station_of s) begun.nodes
      (subst (λ (ss : List (Station NodeState Msg)). IsIn (station_of s) ss) (are ∙ ap (λ (c : Core NodeState Msg). c.stations) same) (in_map station_of s models member)))
    where
      of : (node : NodeState) × IsIn node begun.nodes × (station_of s ≡ station_in sim begun node) → s.until ≡ core.kept_end
      of (node, h, e) = ap (λ (t : Station NodeState Msg). t.until) e ∙ (amid machine numbers core r).kept_end

  pub running : IsRunning engine
  running = record {
    numbers = numbers;
    stations = λ s member. let one = in_all (IsStationOf machine) models live s member in record { whole = one.whole; machine_is = one.machine_is; live = one.live; ran = ran s member };
    world = subst (IsWorldOf machine) (sym world_is) (world_then machine numbers core r);
    between = subst (IsBetweenQuanta sim) (sym world_is) (amid machine numbers core r).none_left;
    counted = subst (λ (w : World). w.quanta ≤ handled_in sim w) (sym world_is) (counted_then machine numbers core r);
    threads = omega arith;
  }

  mapped : (o : Option (Key × Event Msg)) → option_map (quantum_end sim) (option_map (λ (e : Key × Event Msg). e.0.time) o) ≡ option_map (λ (e : Key × Event Msg). quantum_end sim e.0.time) o
  mapped None = refl
  mapped (Some e) = refl

  -- the stations open the core's quantum
  pub opens : option_map (quantum_end sim) (earliest_of models) ≡ core.until
  opens =
      ap (option_map (quantum_end sim)) (earliest_is engine running)
      ∙ mapped (least (events_in sim (world_of engine)))
      ∙ ap (opening sim) world_is
      ∙ sym (amid machine numbers core r).until

  pub early : IfSome (earliest_of models) (λ time. time < 2 ^ 40)
  early = by (earliest_of models) refl
    where
      by : (o : Option ℕ) → earliest_of models ≡ o → IfSome o (λ time. time < 2 ^ 40)
      by None e = tt
      by (Some time) e = let before = before_budget engine running time e in let most = numbers.budget.at_most in omega arith

pub all_whole : (machine : MachineParts) (models : List StationModel) → All (IsStationOf machine) models → All IsWholeStation models
all_whole machine models live = λ k d h. (live k d h).whole

-- ---- the start

module _ (machine : MachineParts) (loaded : LoadedImages) (traced : Bool) (numbers : IsMachine machine) (models : List StationModel) (all : AreAtStart machine loaded traced machine.nodes models) where
  abbrev first : World
  first = start_of machine loaded traced

  abbrev nothing : Queue Msg
  nothing = empty

  none_to : (number : ℕ) → to_node nothing number ≡ nothing
  none_to number = same_queue _ _ (λ q. get_to_node nothing number q ∙ by q (q.to == number))
    where
      by : (q : Key) (b : Bool) → cond b (get nothing q) None ≡ get nothing q
      by q true = refl
      by q false = sym (get-empty {X = Msg} key_cmp q)

  pub start_stations : map station_of models ≡ (core_of (wind_tunnel machine) first).stations
  start_stations =
      all.start
      ∙ pairwise (range_with_len 0 machine.nodes)
      ∙ sym (map_map (station_in (wind_tunnel machine) first) (start_node machine loaded traced) (range_with_len 0 machine.nodes))
    where
      pairwise : (ks : List ℕ) → map (station_at_start machine loaded traced) ks ≡ map (λ (k : ℕ). station_in (wind_tunnel machine) first (start_node machine loaded traced k)) ks
      pairwise [] = refl
      pairwise (k ∷ ks) = λ i. record { node = start_node machine loaded traced k; pending = sym (none_to (start_node machine loaded traced k).number) i; until = 0 } ∷ pairwise ks i

  start_world : IsWorldOf machine first
  start_world = subst (IsWorldOf machine) (world_is_start machine loaded traced numbers models all) (running_at_start machine loaded traced numbers models all []).world

  pub start_reached : IsReached machine (core_of (wind_tunnel machine) first)
  start_reached =
      let running = running_at_start machine loaded traced numbers models all [] in
      let is = world_is_start machine loaded traced numbers models all in
      record {
        begun = first;
        is_world = start_world;
        between = subst (IsBetweenQuanta (wind_tunnel machine)) is running.between;
        counted = omega arith;
        steps = [];
        enabled = tt;
        run = refl;
      }

  pub start_rests : IsAtRest (core_of (wind_tunnel machine) first)
  start_rests = record { done = λ node. refl; out = λ from to. refl; inbox = λ to. refl }

  pub start_live : All (IsStationOf machine) models
  start_live = all_by (IsStationOf machine) models (λ s member. let one = all.each s member in record { whole = one.whole; machine_is = one.machine_is; live = one.live })

  pub start_stands : world_of_core (core_of (wind_tunnel machine) first) ≡ first
  start_stands = (stands_for (wind_tunnel machine) (IsNode machine) (Fits machine) (laws machine numbers)).world first start_world
