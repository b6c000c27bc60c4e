-- An engine at the start.
use Rattle.std.proofs.Common.{◌≡◌, ℕ, ◌+◌, ◌⊎◌, List, [], ◌∷◌, ◌++◌, map, Bool, false, None, refl, ap, sym, ◌∙◌, subst, inl, inr, arith}
use Rattle.std.specs.List.{range_with_len}
use Rattle.std.specs.FinMap.{get, empty, get-empty}
use Rattle.std.proofs.lemmas.List.{map-append}
use Rattle.std.proofs.lemmas.List.FromFn.{map-range_with_len_more}
use Rattle.wt_params.specs.declared.parts.MachineParts.{MachineParts}
use Rattle.wt_params.specs.Machine.{IsMachine}
use Rattle.wt_proto.specs.declared.key.Key.{Key}
use Rattle.wt_proto.specs.declared.message.Msg.{Msg}
use Rattle.wt_proto.specs.KeyOrder.{key_cmp}
use Rattle.image_loader.specs.Images.{LoadedImages}
use Rattle.discrete_events.specs.Round.{together}
use Rattle.discrete_events.specs.Core.{Station}
use Rattle.discrete_events.specs.Laws.{IsIn, IsBetweenQuanta}
use Rattle.discrete_events.proofs.Lists.{in_append, from_map, map_map}
use Rattle.discrete_events.proofs.Queues.{Queue, same_queue, first_of, get_together}
use Rattle.node.specs.declared.state.NodeState.{NodeState}
use Rattle.node.specs.React.{wind_tunnel}
use Rattle.node.specs.Sound.{IsNode}
use Rattle.node.specs.Start.{start_node}
use Rattle.quantum.specs.Stations.{StationModel, IsLive, IsUnbroken as IsWholeStation, machine_of, station_of, station_at_start}
use Rattle.quantum.specs.World.{World, start_of}
use Rattle.quantum.specs.Starts.{IsWorldOf}
use Rattle.quantum.proofs.AtStart.{start_of_sound}
use Rattle.inbox.specs.Passes.{PassModel}
use Rattle.engine.specs.Engine.{EngineModel, IsRunning, IsStationOf, all_pending, nodes_of, world_of}

module _ (machine : MachineParts) (loaded : LoadedImages) (traced : Bool) where
  -- the stations of the first nodes, each at the start
  pub record AreAtStart (count : ℕ) (stations : List StationModel) : Type 0 where
    pub start : map station_of stations ≡ map (station_at_start machine loaded traced) (range_with_len 0 count)
    pub each : (s : StationModel) → IsIn s stations → IsStationOf machine 0 s

  pub none_at_start : AreAtStart 0 []
  none_at_start = record { start = refl; each = λ s is. absurd is }

  pub one_more_at_start : (count : ℕ) (stations : List StationModel) (station : StationModel) → AreAtStart count stations → station_of station ≡ station_at_start machine loaded traced count → machine_of station ≡ machine → IsWholeStation station → IsLive station → AreAtStart (count + 1) (stations ++ station ∷ [])
  one_more_at_start count stations station so_far start machine_is whole live = record {
    start = map-append station_of stations (station ∷ [])
        ∙ (λ i. so_far.start i ++ start i ∷ [])
        ∙ sym (map-range_with_len_more (station_at_start machine loaded traced) 0 count count (omega arith));
    each = λ s is. either s (in_append s stations (station ∷ []) is);
  }
    where
      either : (s : StationModel) → IsIn s stations ⊎ IsIn s (station ∷ []) → IsStationOf machine 0 s
      either s (inl h) = so_far.each s h
      either s (inr (inl e)) = subst (IsStationOf machine 0) (sym e) (record { whole = whole; machine_is = machine_is; live = live; ran = ap (λ (t : Station NodeState Msg). t.until) start })
      either s (inr (inr none)) = absurd none

  first_of_none : {A : Type 0} (f : A → Queue Msg) (xs : List A) (q : Key) → ((x : A) → f x ≡ empty) → first_of q (map f xs) ≡ None
  first_of_none f [] q none = refl
  first_of_none f (x ∷ xs) q none = let e : get (f x) q ≡ None = ap (λ (m : Queue Msg). get m q) (none x) ∙ get-empty {X = Msg} key_cmp q in rw e (first_of_none f xs q none)

  module _ (numbers : IsMachine machine) (stations : List StationModel) (all : AreAtStart machine.nodes stations) where
    abbrev engine : EngineModel
    engine = record { machine = machine; threaded = 0; passes = []; stations = stations; kept_end = 0; quanta = 0; broken = false }

    nodes_are : nodes_of stations ≡ map (start_node machine loaded traced) (range_with_len 0 machine.nodes)
    nodes_are =
        sym (map_map (λ (t : Station NodeState Msg). t.node) station_of stations)
        ∙ ap (map (λ (t : Station NodeState Msg). t.node)) all.start
        ∙ map_map (λ (t : Station NodeState Msg). t.node) (station_at_start machine loaded traced) (range_with_len 0 machine.nodes)

    pending_is : all_pending stations ≡ empty
    pending_is =
        ap together
        (sym (map_map (λ (t : Station NodeState Msg). t.pending) station_of stations)
        ∙ ap (map (λ (t : Station NodeState Msg). t.pending)) all.start
        ∙ map_map (λ (t : Station NodeState Msg). t.pending) (station_at_start machine loaded traced) (range_with_len 0 machine.nodes))
        ∙ same_queue _ _ (λ q. get_together (map (λ (k : ℕ). empty) (range_with_len 0 machine.nodes)) q ∙ first_of_none (λ (k : ℕ). empty) (range_with_len 0 machine.nodes) q (λ k. refl) ∙ sym (get-empty {X = Msg} key_cmp q))

    pub world_is_start : world_of engine ≡ start_of machine loaded traced
    world_is_start = λ i. record { nodes = nodes_are i; pending = pending_is i; kept_end = 0; quanta = 0 }

    sound : (node : NodeState) → IsIn node (nodes_of stations) → IsNode machine node
    sound node member = of (from_map (λ (s : StationModel). s.node.state) node stations member)
      where
        of : (s : StationModel) × IsIn s stations × (node ≡ s.node.state) → IsNode machine node
        of (s, h, e) = subst (IsNode machine) (sym e) (subst (λ m. IsNode m s.node.state) (all.each s h).machine_is (all.each s h).live.sound.sound)

    worlds : IsWorldOf machine (world_of engine) × IsBetweenQuanta (wind_tunnel machine) (world_of engine)
    worlds = subst (λ (w : World). IsWorldOf machine w × IsBetweenQuanta (wind_tunnel machine) w) (sym world_is_start)
        (start_of_sound machine loaded traced numbers (λ node member. sound node (subst (λ ns. IsIn node ns) (sym nodes_are) member)))

    pub running_at_start : (passes : List PassModel) → IsRunning (record { machine = machine; threaded = 0; passes = passes; stations = stations; kept_end = 0; quanta = 0; broken = false })
    running_at_start passes = record {
      numbers = numbers;
      stations = all.each;
      world = worlds.0;
      between = worlds.1;
      counted = omega arith;
      threads = omega arith;
    }
