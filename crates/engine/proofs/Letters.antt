-- What the stations of an engine hand out when they run up to the end of a quantum, and that it may be delivered.
use Rattle.std.proofs.Common.{◌≡◌, ◌≢◌, ℕ, suc, ◌+◌, ◌-◌, ◌<◌, ◌≤◌, ◌⊎◌, List, [], ◌∷◌, ◌++◌, map, Option, Some, None, refl, ap, sym, ◌∙◌, subst, inl, inr, arith}
use Rattle.std.specs.Prelude.{flat_map}
use Rattle.std.specs.FinMap.{get}
use Rattle.std.proofs.lemmas.List.{map-append}
use Rattle.wt_proto.specs.declared.key.Key.{Key}
use Rattle.wt_proto.specs.declared.message.Msg.{Msg}
use Rattle.wt_proto.specs.declared.message.Stamped.{Stamped}
use Rattle.wt_proto.specs.Messages.{StampedFits, key_of}
use Rattle.discrete_events.specs.Simulation.{Simulation, Event, Message}
use Rattle.discrete_events.specs.World.{events_below, events_in, least}
use Rattle.discrete_events.specs.Round.{FreeRun, local, quantum_end}
use Rattle.discrete_events.specs.Core.{Station, run_to as run_of_station}
use Rattle.discrete_events.specs.Laws.{IsIn, IsNumbered}
use Rattle.discrete_events.proofs.Lists.{or_else, in_append, in_map, from_map}
use Rattle.discrete_events.proofs.Keys.{upto_time}
use Rattle.discrete_events.proofs.Queues.{Pends, first_of, get_together}
use Rattle.discrete_events.proofs.Events.{IsEventBelow, counts_time, event_is, least_in, least_upto}
use Rattle.discrete_events.proofs.FreeRuns.{IsRunOf, from_before, run_of, outs_fit, outs_late}
use Rattle.discrete_events.proofs.Numbered.{numbered_from}
use Rattle.node.specs.declared.state.NodeState.{NodeState}
use Rattle.node.specs.React.{message_under_key, wind_tunnel}
use Rattle.node.specs.Sound.{IsNode}
use Rattle.node.specs.Laws.{Fits}
use Rattle.quantum.specs.FreeRuns.{IsHandedOut, RiseWithin, run_to_of}
use Rattle.quantum.specs.Stations.{StationModel, machine_of, station_of}
use Rattle.engine.specs.Engine.{EngineModel, IsRunning, all_pending, nodes_of, world_of}
use Rattle.engine.specs.Quantum.{AreHandedOut, ran_to}
use Rattle.engine.proofs.Deliveries.{AllRan, AreApart, IsExchange, IsLetter, apart_append, exchange, new_of_apart, queues}
use Rattle.engine.proofs.Owned.{get_own, its, laws, member_node, own_in, station_is, wind}

-- ---- rising sequences

rise_in : (least end : ℕ) (ms : List Stamped) → RiseWithin least end ms → (m : Stamped) → IsIn m ms → (least ≤ m.sequence) × (m.sequence < end)
rise_in least end [] rise m is = absurd is
rise_in least end (x ∷ xs) rise m (inl e) = subst (λ (n : Stamped). (least ≤ n.sequence) × (n.sequence < end)) (sym e) (rise.0, rise.1)
rise_in least end (x ∷ xs) rise m (inr h) = let r = rise_in (x.sequence + 1) end xs rise.2 m h in (let a = r.0 in let b = rise.0 in omega arith, r.1)

rise_apart : (least end : ℕ) (ms : List Stamped) → RiseWithin least end ms → AreApart ms
rise_apart least end [] rise = tt
rise_apart least end (x ∷ xs) rise = (
  λ other h e. let r = (rise_in (x.sequence + 1) end xs rise.2 other h).0 in let s : other.sequence ≡ x.sequence = ap (λ (k : Key). k.sequence) e in absurd (omega arith),
  rise_apart (x.sequence + 1) end xs rise.2,
)

-- ---- whose a message is

pub from_letters : (until : ℕ) (xs : List StationModel) (letters : List Stamped) → AreHandedOut until xs letters → (m : Stamped) → IsIn m letters →
    (s : StationModel) × (outs : List Stamped) × IsIn s xs × IsHandedOut until s (ran_to until s) outs × IsIn m outs
from_letters until [] letters handed m is = absurd (subst (λ (ls : List Stamped). IsIn m ls) handed is)
from_letters until (x ∷ xs) letters handed m is =
    either (from_letters until xs handed.1 handed.3 m) (in_append m handed.0 handed.1 (subst (λ (ls : List Stamped). IsIn m ls) handed.4 is))
  where
    either : (IsIn m handed.1 → (s : StationModel) × (outs : List Stamped) × IsIn s xs × IsHandedOut until s (ran_to until s) outs × IsIn m outs) → IsIn m handed.0 ⊎ IsIn m handed.1 →
        (s : StationModel) × (outs : List Stamped) × IsIn s (x ∷ xs) × IsHandedOut until s (ran_to until s) outs × IsIn m outs
    either rest (inl h) = (x, handed.0, inl refl, handed.2, h)
    either rest (inr h) = let r = rest h in (r.0, r.1, inr r.2, r.3, r.4)

pub handed_of : (until : ℕ) (xs : List StationModel) (letters : List Stamped) → AreHandedOut until xs letters → (s : StationModel) → IsIn s xs → (outs : List Stamped) × IsHandedOut until s (ran_to until s) outs
handed_of until [] letters handed s is = absurd is
handed_of until (x ∷ xs) letters handed s (inl e) = (handed.0, subst (λ (y : StationModel). IsHandedOut until y (ran_to until y) handed.0) (sym e) handed.2)
handed_of until (x ∷ xs) letters handed s (inr h) = handed_of until xs handed.1 handed.3 s h

-- what is found in several queues is in one of them
found_in : (xs : List StationModel) (q : Key) (v : Msg) → first_of q (queues xs) ≡ Some v → (s : StationModel) × IsIn s xs × (get s.pending q ≡ Some v)
found_in [] q v e = absurd (let n : None ≡ Some v = e in cc)
found_in (x ∷ xs) q v e = by (found_in xs q v) (get x.pending q) refl e
  where
    by : (first_of q (queues xs) ≡ Some v → (s : StationModel) × IsIn s xs × (get s.pending q ≡ Some v)) → (o : Option Msg) → get x.pending q ≡ o → or_else o (first_of q (queues xs)) ≡ Some v → (s : StationModel) × IsIn s (x ∷ xs) × (get s.pending q ≡ Some v)
    by rest None is f = let r = rest f in (r.0, inr r.1, r.2)
    by rest (Some w) is f = (x, inl refl, is ∙ f)

module _ (engine : EngineModel) (running : IsRunning engine) (key : Key) (event : Event Msg) (is : least (events_in (wind_tunnel engine.machine) (world_of engine)) ≡ Some (key, event)) where
  abbrev sim : Simulation NodeState Msg
  sim = wind_tunnel engine.machine

  abbrev pub until : ℕ
  until = quantum_end (wind_tunnel engine.machine) key.time

  pub within : until ≤ engine.machine.budget
  within = omega arith

  pub early : key.time < engine.machine.budget
  early = by (event_is sim engine.machine.budget (nodes_of engine.stations) (all_pending engine.stations) key event (least_in _ (key, event) is))
    where
      by : IsEventBelow sim engine.machine.budget (nodes_of engine.stations) (all_pending engine.stations) key event → key.time < engine.machine.budget
      by at = counts_time sim engine.machine.budget at.node key.time at.counts

  pub below : key.time < until
  below = let a = early in let b = (wind engine running).quanta.positive in omega arith

  pub forward : (s : StationModel) → IsIn s engine.stations → s.until ≤ until
  forward s member =
      let a = below in
      let b = running.between key event (least_in _ (key, event) is) in
      let c = (its engine running s member).ran in
      omega arith

  -- ---- the runs of the stations

  abbrev pub run : StationModel → FreeRun NodeState Msg
  run s = local sim until s.node.state s.pending

  abbrev run_and_outs : StationModel → Station NodeState Msg × List (Message Msg)
  run_and_outs s = (record { node = (run s).node; pending = (run s).pending; until = until }, (run s).outs)

  pub ran_by : (s : StationModel) → IsIn s engine.stations → run_to_of until s ≡ run_and_outs s
  ran_by s member = ap (λ m. run_of_station (wind_tunnel m) until (station_of s)) (its engine running s member).machine_is

  pub run_is : (s : StationModel) → IsIn s engine.stations → IsRunOf sim s.node.state (run s)
  run_is s member = run_of sim (IsNode engine.machine) (Fits engine.machine) (laws engine running) until within (sim.event_limit - sim.handled s.node.state) s.node.state s.pending (station_is engine running s member) (its engine running s member).live.own

  none_before : (s : StationModel) → IsIn s engine.stations → (k : Key) (e : Event Msg) → IsIn (k, e) (events_below sim until (s.node.state ∷ []) s.pending) → key.time ≤ k.time
  none_before s member k e m = upto_time key k (least_upto _ (key, event) (k, e) is (own_in engine running until within s member k e m))

  -- a message that a station hands out
  pub record IsSentBy (m : Stamped) (s : StationModel) : Type 0 where
    pub source : m.from ≡ s.node.state.number
    pub away : m.to ≢ s.node.state.number
    pub fits : StampedFits engine.machine m
    pub late : until ≤ m.time
    pub least : s.node.state.counters.sent ≤ m.sequence
    pub most : m.sequence < (ran_to until s).node.state.counters.sent

  pub outs_are : (s : StationModel) → IsIn s engine.stations → (outs : List Stamped) → IsHandedOut until s (ran_to until s) outs → (m : Stamped) → IsIn m outs → IsSentBy m s
  outs_are s member outs handed m h = record {
    source = (run_is s member).source (message_under_key m) sent;
    away = (run_is s member).away (message_under_key m) sent;
    fits = outs_fit sim (IsNode engine.machine) (Fits engine.machine) (laws engine running) until within (sim.event_limit - sim.handled s.node.state) s.node.state s.pending (station_is engine running s member) (message_under_key m) sent;
    late =
        let late = outs_late sim (IsNode engine.machine) (Fits engine.machine) (laws engine running) until within (sim.event_limit - sim.handled s.node.state) key.time s.node.state s.pending (station_is engine running s member) (none_before s member) (message_under_key m) sent in
        let b = (wind engine running).quanta.no_longer in omega arith;
    least = (rise_in _ _ outs handed.numbered m h).0;
    most = (rise_in _ _ outs handed.numbered m h).1;
  }
    where
      sent : IsIn (message_under_key m) (run s).outs
      sent = subst (λ (ms : List (Message Msg)). IsIn (message_under_key m) ms) (handed.exactly ∙ ap (λ (r : Station NodeState Msg × List (Message Msg)). r.1) (ran_by s member)) (in_map message_under_key m outs h)

  abbrev pub ran : List StationModel
  ran = map (ran_to until) engine.stations

  abbrev Among : List StationModel → Type 0
  Among xs = (s : StationModel) → IsIn s xs → IsIn s engine.stations

  -- what is pending after the runs
  pub record IsLeft (q : Key) (v : Msg) : Type 0 where
    pub station : StationModel
    pub member : IsIn station engine.stations
    pub to : q.to ≡ station.node.state.number
    pub there : get (ran_to until station).pending q ≡ Some v
    pub before : Pends station.pending q ⊎ (q.from ≡ station.node.state.number)

  pub left : (q : Key) (v : Msg) → get (all_pending ran) q ≡ Some v → IsLeft q v
  left q v e = by (found_in ran q v (sym (get_together (queues ran) q) ∙ e))
    where
      of : (s : StationModel) → IsIn s engine.stations → get (ran_to until s).pending q ≡ Some v → IsLeft q v
      of s member there =
          let here : get (run s).pending q ≡ Some v = ap (λ (r : Station NodeState Msg × List (Message Msg)). get r.0.pending q) (sym (ran_by s member)) ∙ there in
          record {
            station = s;
            member = member;
            to = (run_is s member).kept q v here;
            there = there;
            before = from_before sim (IsNode engine.machine) (Fits engine.machine) (laws engine running) until within (sim.event_limit - sim.handled s.node.state) s.node.state s.pending (station_is engine running s member) q (v, here);
          }

      by : (t : StationModel) × IsIn t ran × (get t.pending q ≡ Some v) → IsLeft q v
      by (t, member, there) =
          let r = from_map (ran_to until) t engine.stations member in
          of r.0 r.1 (ap (λ (u : StationModel). get u.pending q) (sym r.2) ∙ there)

  -- ---- the stations that have run

  pub number_kept : (s : StationModel) → IsIn s engine.stations → (ran_to until s).node.state.number ≡ s.node.state.number
  number_kept s member = ap (λ (r : Station NodeState Msg × List (Message Msg)). r.0.node.number) (ran_by s member) ∙ (run_is s member).number

  pub ran_numbered : (from : ℕ) (xs : List StationModel) → Among xs → IsNumbered sim from (nodes_of xs) → IsNumbered sim from (nodes_of (map (ran_to until) xs))
  ran_numbered from [] among numbered = numbered
  ran_numbered from (x ∷ xs) among numbered = (number_kept x (among x (inl refl)) ∙ numbered.0, ran_numbered (suc from) xs (λ s h. among s (inr h)) numbered.1)

  all_ran : AllRan engine.machine until ran
  all_ran t member =
      let r = from_map (ran_to until) t engine.stations member in
      record {
        machine_is = ap machine_of r.2 ∙ (its engine running r.0 r.1).machine_is;
        ran = ap (λ (u : StationModel). u.until) r.2 ∙ ap (λ (p : Station NodeState Msg × List (Message Msg)). p.0.until) (ran_by r.0 r.1);
      }

  module _ (letters : List Stamped) (handed : AreHandedOut until engine.stations letters) where
    pub letter_is : (m : Stamped) → IsIn m letters → (s : StationModel) × IsIn s engine.stations × IsSentBy m s
    letter_is m h = let r = from_letters until engine.stations letters handed m h in (r.0, r.2, outs_are r.0 r.2 r.1 r.3 m r.4)

    letters_are : (m : Stamped) → IsIn m letters → IsLetter engine.machine until m
    letters_are m h = by (letter_is m h)
      where
        by : (s : StationModel) × IsIn s engine.stations × IsSentBy m s → IsLetter engine.machine until m
        by (s, member, sent) = record { fits = sent.fits; away = λ e. sent.away (sym e ∙ sent.source); late = sent.late }

    letters_apart : (from : ℕ) (xs : List StationModel) (ls : List Stamped) → Among xs → IsNumbered sim from (nodes_of xs) → AreHandedOut until xs ls → AreApart ls
    letters_apart from [] ls among numbered so_far = subst AreApart (sym so_far) tt
    letters_apart from (x ∷ xs) ls among numbered so_far =
        subst AreApart (sym so_far.4)
        (apart_append so_far.0 so_far.1 (rise_apart _ _ so_far.0 so_far.2.numbered) (letters_apart (suc from) xs so_far.1 (λ s h. among s (inr h)) numbered.1 so_far.3) others)
      where
        others : (a b : Stamped) → IsIn a so_far.0 → IsIn b so_far.1 → key_of b ≢ key_of a
        others a b h k e =
            let one = (outs_are x (among x (inl refl)) so_far.0 so_far.2 a h).source in
            let r = from_letters until xs so_far.1 so_far.3 b k in
            let other = (outs_are r.0 (among r.0 (inr r.2)) r.1 r.3 b r.4).source in
            let more = numbered_from sim (suc from) (nodes_of xs) r.0.node.state numbered.1 (in_map (λ (s : StationModel). s.node.state) r.0 xs r.2) in
            let same : b.from ≡ a.from = ap (λ (q : Key). q.from) e in
            let first = numbered.0 in
            absurd (omega arith)

    letters_new : (m : Stamped) → IsIn m letters → get (all_pending ran) (key_of m) ≡ None
    letters_new m h = by (get (all_pending ran) (key_of m)) refl
      where
        no : (v : Msg) → (s : StationModel) × IsIn s engine.stations × IsSentBy m s → IsLeft (key_of m) v → ⊥
        no v (s, member, sent) left = either left.before
          where
            either : Pends left.station.pending (key_of m) ⊎ (m.from ≡ left.station.node.state.number) → ⊥
            either (inl (w, there)) =
                let fresh = (running.world.stations s.node.state (member_node engine running s member)).numbered (key_of m) w (get_own engine running left.station left.member (key_of m) left.to ∙ there) sent.source in
                let least = sent.least in absurd (omega arith)
            either (inr e) = let to = left.to in let source = sent.source in sent.away (to ∙ sym e ∙ source)

        by : (o : Option Msg) → get (all_pending ran) (key_of m) ≡ o → o ≡ None
        by None e = refl
        by (Some v) e = absurd (no v (letter_is m h) (left (key_of m) v e))

    pub exchanges : IsExchange engine.machine until letters ran
    exchanges = exchange engine.machine until letters ran all_ran (ran_numbered 0 engine.stations (λ s h. h) running.world.numbered) letters_are
        (new_of_apart letters (all_pending ran) (letters_apart 0 engine.stations letters (λ s h. h) running.world.numbered handed) letters_new)

    pub messages : (xs : List StationModel) (ls : List Stamped) → Among xs → AreHandedOut until xs ls → map message_under_key ls ≡ flat_map (λ s. (run s).outs) xs
    messages [] ls among so_far = ap (map message_under_key) so_far
    messages (x ∷ xs) ls among so_far =
        ap (map message_under_key) so_far.4
        ∙ map-append message_under_key so_far.0 so_far.1
        ∙ (λ i. (so_far.2.exactly ∙ ap (λ (r : Station NodeState Msg × List (Message Msg)). r.1) (ran_by x (among x (inl refl)))) i ++ messages xs so_far.1 (λ s h. among s (inr h)) so_far.3 i)
