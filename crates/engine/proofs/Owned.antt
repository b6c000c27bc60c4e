-- The stations of an engine that isn't broken, as parts of its world: their messages and their events.
use Rattle.std.proofs.Common.{◌≡◌, ◌≢◌, ℕ, suc, ◌<◌, ◌≤◌, ◌⊎◌, List, [], ◌∷◌, Bool, true, false, cond, Option, Some, None, min, ◌==◌, refl, ap, sym, ◌∙◌, subst, inl, inr, arith, eqb-true, eq-eqb}
use Rattle.std.specs.Option.{option_map}
use Rattle.std.specs.FinMap.{get}
use Rattle.wt_proto.specs.declared.key.Key.{Key}
use Rattle.wt_proto.specs.declared.message.Msg.{Msg}
use Rattle.discrete_events.specs.Simulation.{Simulation, Event, Step, Arrival}
use Rattle.discrete_events.specs.World.{counts_below, events_below, events_in, least}
use Rattle.discrete_events.specs.Round.{to_node}
use Rattle.discrete_events.specs.Laws.{IsIn, IsNumbered, IsSimulation, IsStation}
use Rattle.discrete_events.proofs.Lists.{in_map, from_map}
use Rattle.discrete_events.proofs.Keys.{upto_time}
use Rattle.discrete_events.proofs.Queues.{same_queue, get_to_node, get_together}
use Rattle.discrete_events.proofs.Events.{IsEventOf, IsEventBelow, event_is, event_in, least_in, least_none, least_some, least_upto}
use Rattle.discrete_events.proofs.Numbered.{single_first}
use Rattle.discrete_events.proofs.Peel.{own_in_world}
use Rattle.discrete_events.proofs.Stations.{lt_or_le}
use Rattle.node.specs.declared.state.NodeState.{NodeState}
use Rattle.node.specs.React.{wind_tunnel}
use Rattle.node.specs.Sound.{IsNode}
use Rattle.node.specs.Laws.{Fits, IsWindTunnel}
use Rattle.node.proofs.EventKept.{machines_are_simulations}
use Rattle.quantum.specs.Stations.{StationModel, least_time_of}
use Rattle.engine.specs.Engine.{EngineModel, IsRunning, IsStationOf, all_pending, nodes_of, world_of}
use Rattle.engine.specs.Rounds.{next_time}
use Rattle.engine.specs.Quantum.{earliest_of, sooner}
use Rattle.engine.proofs.Deliveries.{queues}

-- ---- the least of several times

-- the time is that of some station, and none has an earlier one
abbrev pub IsEarliest : List StationModel → Option ℕ → Type 0
IsEarliest stations None = (s : StationModel) → IsIn s stations → least_time_of s ≡ None
IsEarliest stations (Some time) =
    ((s : StationModel) × IsIn s stations × (least_time_of s ≡ Some time))
    × ((s : StationModel) (other : ℕ) → IsIn s stations → least_time_of s ≡ Some other → time ≤ other)

earliest_one : (x : StationModel) (xs : List StationModel) (a b : Option ℕ) → least_time_of x ≡ a → IsEarliest xs b → IsEarliest (x ∷ xs) (sooner a b)
earliest_one x xs None None e rest = λ s is. either s is
  where
    either : (s : StationModel) → IsIn s (x ∷ xs) → least_time_of s ≡ None
    either s (inl p) = ap least_time_of p ∙ e
    either s (inr h) = rest s h
earliest_one x xs None (Some t) e rest = ((rest.0.0, inr rest.0.1, rest.0.2), λ s other is l. either s other is l)
  where
    either : (s : StationModel) (other : ℕ) → IsIn s (x ∷ xs) → least_time_of s ≡ Some other → t ≤ other
    either s other (inl p) l = let n : None ≡ Some other = sym e ∙ sym (ap least_time_of p) ∙ l in absurd cc
    either s other (inr h) l = rest.1 s other h l
earliest_one x xs (Some t) None e rest = ((x, inl refl, e), λ s other is l. either s other is l)
  where
    either : (s : StationModel) (other : ℕ) → IsIn s (x ∷ xs) → least_time_of s ≡ Some other → t ≤ other
    either s other (inl p) l = let n : Some t ≡ Some other = sym e ∙ sym (ap least_time_of p) ∙ l in let same : t ≡ other = cc in omega arith
    either s other (inr h) l = let n : None ≡ Some other = sym (rest s h) ∙ l in absurd cc
earliest_one x xs (Some t) (Some u) e rest = by (lt_or_le t u)
  where
    lower : (m : ℕ) → m ≤ t → m ≤ u → (s : StationModel) (other : ℕ) → IsIn s (x ∷ xs) → least_time_of s ≡ Some other → m ≤ other
    lower m one two s other (inl p) l = let n : Some t ≡ Some other = sym e ∙ sym (ap least_time_of p) ∙ l in let same : t ≡ other = cc in omega arith
    lower m one two s other (inr h) l = let r = rest.1 s other h l in omega arith

    by : (t < u) ⊎ (u ≤ t) → IsEarliest (x ∷ xs) (Some (min t u))
    by (inl h) = let m : t ≡ min t u = omega arith in subst (λ n. IsEarliest (x ∷ xs) (Some n)) m ((x, inl refl, e), lower t (omega arith) (omega arith))
    by (inr h) = let m : u ≡ min t u = omega arith in subst (λ n. IsEarliest (x ∷ xs) (Some n)) m ((rest.0.0, inr rest.0.1, rest.0.2), lower u h (omega arith))

earliest_says : (xs : List StationModel) → IsEarliest xs (earliest_of xs)
earliest_says [] = λ s is. absurd is
earliest_says (x ∷ xs) = earliest_one x xs (least_time_of x) (earliest_of xs) refl (earliest_says xs)

earliest_same : (xs : List StationModel) (a b : Option ℕ) → IsEarliest xs a → IsEarliest xs b → a ≡ b
earliest_same xs None None one other = refl
earliest_same xs None (Some t) one other = let n : None ≡ Some t = sym (one other.0.0 other.0.1) ∙ other.0.2 in absurd cc
earliest_same xs (Some t) None one other = let n : None ≡ Some t = sym (other one.0.0 one.0.1) ∙ one.0.2 in absurd cc
earliest_same xs (Some t) (Some u) one other =
    let a = one.1 other.0.0 u other.0.1 other.0.2 in
    let b = other.1 one.0.0 t one.0.1 one.0.2 in
    let e : t ≡ u = omega arith in ap (λ n. Some n) e

-- ---- stations, numbered as their nodes are

module _ (sim : Simulation NodeState Msg) where
  abbrev pub of_models : Simulation StationModel Msg
  of_models = record {
    nodes = sim.nodes;
    event_limit = sim.event_limit;
    budget = sim.budget;
    quantum = sim.quantum;
    lookahead = sim.lookahead;
    number = λ s. sim.number s.node.state;
    handled = λ s. sim.handled s.node.state;
    last = λ s. sim.last s.node.state;
    sent = λ s. sim.sent s.node.state;
    next = λ s. sim.next s.node.state;
    react = λ s event. (s, []);
  }

  pub models_numbered : (from : ℕ) (xs : List StationModel) → IsNumbered sim from (nodes_of xs) → IsNumbered of_models from xs
  models_numbered from [] is = is
  models_numbered from (x ∷ xs) is = (is.0, models_numbered (suc from) xs is.1)

module _ (engine : EngineModel) (running : IsRunning engine) where
  abbrev pub sim : Simulation NodeState Msg
  sim = wind_tunnel engine.machine

  pub wind : IsWindTunnel engine.machine
  wind = machines_are_simulations engine.machine running.numbers

  pub laws : IsSimulation sim (IsNode engine.machine) (Fits engine.machine)
  laws = wind.laws

  pub its : (s : StationModel) → IsIn s engine.stations → IsStationOf engine.machine engine.kept_end s
  its = running.stations

  pub station_is : (s : StationModel) → IsIn s engine.stations → IsStation sim (IsNode engine.machine) (Fits engine.machine) s.node.state s.pending
  station_is s member = subst (λ m. IsStation (wind_tunnel m) (IsNode m) (Fits m) s.node.state s.pending) (its s member).machine_is (its s member).live.sound

  -- ---- the messages of a station are those of the world to its node

  not_its : (s : StationModel) → IsIn s engine.stations → (q : Key) → (q.to ≢ s.node.state.number) → get s.pending q ≡ None
  not_its s member q n = by (get s.pending q) refl
    where
      by : (o : Option Msg) → get s.pending q ≡ o → o ≡ None
      by None e = refl
      by (Some v) e = absurd (n ((its s member).live.own q v e))

  pub get_own : (s : StationModel) → IsIn s engine.stations → (q : Key) → q.to ≡ s.node.state.number → get (all_pending engine.stations) q ≡ get s.pending q
  get_own s member q to =
      get_together (queues engine.stations) q
      ∙ single_first (of_models sim) q (λ (t : StationModel). t.pending) 0 engine.stations s (models_numbered sim 0 engine.stations running.world.numbered) member (λ other h n. not_its other h q (λ same. n (sym same ∙ to)))

  pub part : (s : StationModel) → IsIn s engine.stations → s.pending ≡ to_node (all_pending engine.stations) s.node.state.number
  part s member = same_queue _ _ (λ q. by q (q.to == s.node.state.number) refl ∙ sym (get_to_node (all_pending engine.stations) s.node.state.number q))
    where
      by : (q : Key) (b : Bool) → (q.to == s.node.state.number) ≡ b → get s.pending q ≡ cond b (get (all_pending engine.stations) q) None
      by q true e = sym (get_own s member q (eqb-true _ _ e))
      by q false e = not_its s member q (λ same. cc (e, eq-eqb q.to s.node.state.number same))

  -- ---- the events of a station are those of the world for its node

  pub member_node : (s : StationModel) → IsIn s engine.stations → IsIn s.node.state (nodes_of engine.stations)
  member_node s member = in_map (λ (t : StationModel). t.node.state) s engine.stations member

  pub own_in : (until : ℕ) → until ≤ engine.machine.budget → (s : StationModel) → IsIn s engine.stations → (key : Key) (event : Event Msg) → IsIn (key, event) (events_below sim until (s.node.state ∷ []) s.pending) → IsIn (key, event) (events_in sim (world_of engine))
  own_in until within s member key event is =
      own_in_world sim (IsNode engine.machine) (Fits engine.machine) laws until within (nodes_of engine.stations) (all_pending engine.stations) s.node.state (member_node s member) key event
      (subst (λ queue. IsIn (key, event) (events_below sim until (s.node.state ∷ []) queue)) (part s member) is)

  abbrev own_events : StationModel → List (Key × Event Msg)
  own_events s = events_below sim engine.machine.budget (s.node.state ∷ []) s.pending

  least_at : (s : StationModel) → IsIn s engine.stations → least_time_of s ≡ option_map (λ event. event.0.time) (least (own_events s))
  least_at s member = ap (λ m. option_map (λ event. event.0.time) (least (events_below (wind_tunnel m) m.budget (s.node.state ∷ []) s.pending))) (its s member).machine_is

  own_is : (s : StationModel) → IsIn s engine.stations → (key : Key) (event : Event Msg) → IsEventOf sim (all_pending engine.stations) s.node.state key event → IsEventOf sim s.pending s.node.state key event
  own_is s member key Step is = is
  own_is s member key (Arrival message) is = (is.0, is.1, sym (get_own s member key is.1) ∙ is.2)

  -- an event of the world is one of a station
  of_station : (key : Key) (event : Event Msg) → IsIn (key, event) (events_in sim (world_of engine)) → (s : StationModel) × IsIn s engine.stations × IsIn (key, event) (own_events s)
  of_station key event is = by (event_is sim engine.machine.budget (nodes_of engine.stations) (all_pending engine.stations) key event is)
    where
      here : (at : IsEventBelow sim engine.machine.budget (nodes_of engine.stations) (all_pending engine.stations) key event) → (s : StationModel) × IsIn s engine.stations × (at.node ≡ s.node.state) → (s : StationModel) × IsIn s engine.stations × IsIn (key, event) (own_events s)
      here at (s, member, e) = (
        s,
        member,
        event_in sim engine.machine.budget (s.node.state ∷ []) s.pending key event (record {
          node = s.node.state;
          member = inl refl;
          counts = subst (λ n. counts_below sim engine.machine.budget n key.time ≡ true) e at.counts;
          of_node = own_is s member key event (subst (λ n. IsEventOf sim (all_pending engine.stations) n key event) e at.of_node);
        }),
      )

      by : IsEventBelow sim engine.machine.budget (nodes_of engine.stations) (all_pending engine.stations) key event → (s : StationModel) × IsIn s engine.stations × IsIn (key, event) (own_events s)
      by at = here at (from_map (λ (t : StationModel). t.node.state) at.node engine.stations at.member)

  own_least_in : (s : StationModel) → IsIn s engine.stations → (e : Key × Event Msg) → least (own_events s) ≡ Some e → IsIn (e.0, e.1) (events_in sim (world_of engine))
  own_least_in s member e is = own_in engine.machine.budget (omega arith) s member e.0 e.1 (least_in (own_events s) (e.0, e.1) is)

  world_earliest : (o : Option (Key × Event Msg)) → least (events_in sim (world_of engine)) ≡ o → IsEarliest engine.stations (option_map (λ event. event.0.time) o)
  world_earliest None is = λ s member. least_at s member ∙ by s member (least (own_events s)) refl
    where
      by : (s : StationModel) → IsIn s engine.stations → (o : Option (Key × Event Msg)) → least (own_events s) ≡ o → option_map (λ event. event.0.time) o ≡ None
      by s member None e = refl
      by s member (Some f) e = absurd (least_none _ (f.0, f.1) is (own_least_in s member f e))
  world_earliest (Some (key, event)) is = (attained (of_station key event (least_in _ (key, event) is)), λ s other member l. lower s other member (least (own_events s)) refl (sym (least_at s member) ∙ l))
    where
      lower : (s : StationModel) (other : ℕ) → IsIn s engine.stations → (o : Option (Key × Event Msg)) → least (own_events s) ≡ o → option_map (λ event. event.0.time) o ≡ Some other → key.time ≤ other
      lower s other member None e l = let n : None ≡ Some other = l in absurd cc
      lower s other member (Some f) e l =
          let n : Some f.0.time ≡ Some other = l in
          let same : f.0.time ≡ other = cc in
          let up = upto_time key f.0 (least_upto _ (key, event) (f.0, f.1) is (own_least_in s member f e)) in omega arith

      attained : (s : StationModel) × IsIn s engine.stations × IsIn (key, event) (own_events s) → (s : StationModel) × IsIn s engine.stations × (least_time_of s ≡ Some key.time)
      attained (s, member, own) = (s, member, least_at s member ∙ by (least_some (own_events s) (key, event) own))
        where
          by : (e : Key × Event Msg) × (least (own_events s) ≡ Some e) → option_map (λ event. event.0.time) (least (own_events s)) ≡ Some key.time
          by (f, e) =
              let up = upto_time key f.0 (least_upto _ (key, event) (f.0, f.1) is (own_least_in s member f e)) in
              let down = upto_time f.0 key (least_upto (own_events s) (f.0, f.1) (key, event) e own) in
              let same : f.0.time ≡ key.time = omega arith in
              ap (option_map (λ event. event.0.time)) e ∙ ap (λ n. Some n) same

  -- The least time of the stations is that of the world.
  pub earliest_is : earliest_of engine.stations ≡ next_time engine
  earliest_is = earliest_same engine.stations (earliest_of engine.stations) (next_time engine) (earliest_says engine.stations) (world_earliest (least (events_in sim (world_of engine))) refl)
