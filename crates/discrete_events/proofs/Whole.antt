-- The theorems, as they are stated.
use Rattle.std.proofs.Common.{◌≡◌, ◌≢◌, ℕ, zero, suc, ◌+◌, ◌-◌, ◌*◌, ◌≤◌, [], ◌∷◌, min, Option, Some, None, refl, ap, sym, ◌∙◌, subst, inl, inr, arith}
use Rattle.std.specs.declared.cmp.Ordering.TheVariants.{Less}
use Rattle.std.specs.FinMap.{get, get-empty}
use Rattle.wt_proto.specs.declared.key.Key.{Key}
use Rattle.wt_proto.specs.KeyOrder.{key_cmp}
use Rattle.discrete_events.specs.Simulation.{Simulation, Event, Message, step_key}
use Rattle.discrete_events.specs.World.{World, events_in, events_below, least}
use Rattle.discrete_events.specs.Serial.{placed, taken, after_least, serial_step, serial}
use Rattle.discrete_events.specs.Round.{to_itself, after_own, free_run, round, quantum_end, after_opening, rounds}
use Rattle.discrete_events.specs.Laws.{IsIn, IsAfter, IsSimulation, IsStation, IsWorld, IsSerialFrom}
use Rattle.discrete_events.specs.Theorems.{LateMessagePasses, LeastEventPeels, IsAlike, IsSerialRound, RoundIsSerial, RoundsAreSerial, SerialRunEnds, NoPast, NoPastOfRun, KeysRise, StartIsWorld}
use Rattle.discrete_events.proofs.Keys.{less_trans}
use Rattle.discrete_events.proofs.Queues.{Queue}
use Rattle.discrete_events.proofs.Events.{least_none, least_in}
use Rattle.discrete_events.proofs.FreeRuns.{late_passes, own_station}
use Rattle.discrete_events.proofs.Peel.{peel_nodes, peel_pending}
use Rattle.discrete_events.proofs.SerialRun.{serial-zero, serial-suc, serial_append, moved, step_of_least, quantum_or_not, stepped_rises, world_of_serial, serial_from, final_has_none, ended}
use Rattle.discrete_events.proofs.RoundIsSerial as one_round

module _ {S X : Type 0} (sim : Simulation S X) (IsSound : S → Type 0) (Fits : Message X → Type 0) (laws : IsSimulation sim IsSound Fits) where
  pub late_message_passes : LateMessagePasses sim IsSound Fits
  late_message_passes until node pending message within st late apart =
      late_passes sim IsSound Fits laws until within (sim.event_limit - sim.handled node) node pending (message ∷ []) st only
    where
      only : (m : Message X) → IsIn m (message ∷ []) → (until ≤ m.0.time) × (m.0.from ≢ sim.number node)
      only m (inl e) = subst (λ (k : Message X). (until ≤ k.0.time) × (k.0.from ≢ sim.number node)) (sym e) (late, apart)
      only m (inr none) = absurd none

  pub least_event_peels : LeastEventPeels sim IsSound Fits
  least_event_peels until world key event ok is below within late =
      subst (λ w. IsAlike (round sim until world) (round sim until w)) (sym (step_of_least sim world key event is))
      (quantum_or_not sim (λ w. IsAlike (round sim until world) (round sim until w)) (moved sim key event world) key.time (it (min (key.time + sim.quantum) sim.budget) (world.quanta + 1)) (it world.kept_end world.quanta))
    where
      it : (kept_end quanta : ℕ) → IsAlike (round sim until world) (round sim until (record (moved sim key event world) { kept_end = kept_end; quanta = quanta }))
      it kept_end quanta = record {
        nodes = peel_nodes sim IsSound Fits laws world.nodes world.pending ok.numbered ok.fitting ok.stations key event is until within below late;
        pending = peel_pending sim IsSound Fits laws world.nodes world.pending ok.numbered ok.fitting ok.stations key event is until within below late;
      }

  pub round_is_serial : RoundIsSerial sim IsSound Fits
  round_is_serial quanta world key event ok between is = record {
    serial = one_round.round_is_serial sim IsSound Fits laws quanta world ok between key event is;
    none_left = one_round.round_leaves_none sim IsSound Fits laws quanta world ok between key event is;
  }

  pub from_world : (before after : World S X) → IsWorld sim IsSound Fits before → IsSerialFrom sim before after → IsWorld sim IsSound Fits after
  from_world before after ok from = subst (IsWorld sim IsSound Fits) (sym from.run) (world_of_serial sim IsSound Fits laws from.steps before ok)

  pub joined : (a b c : World S X) → IsSerialFrom sim a b → IsSerialFrom sim b c → IsSerialFrom sim a c
  joined a b c one other = record {
    steps = other.steps + one.steps;
    run = other.run ∙ ap (serial sim other.steps) one.run ∙ serial_append sim other.steps one.steps a;
    counted = omega (arith, one.counted, other.counted);
  }

  pub nothing_done : (world : World S X) → IsSerialFrom sim world world
  nothing_done world = record { steps = 0; run = sym (serial-zero sim world); counted = omega arith }

  pub rounds_are_serial : RoundsAreSerial sim IsSound Fits
  unfolding rounds
  rounds_are_serial quanta zero world ok between = record { serial = nothing_done world; none_left = between }
  rounds_are_serial quanta (suc n) world ok between = next (rounds sim n world) (rounds_are_serial quanta n world ok between) (least (events_in sim (rounds sim n world))) refl
    where
      next : (w : World S X) → IsSerialRound sim world w → (o : Option (Key × Event X)) → least (events_in sim w) ≡ o → IsSerialRound sim world (after_opening sim w o)
      next w so_far None is = so_far
      next w so_far (Some (key, event)) is =
          let r = round_is_serial quanta w key event (from_world world w ok so_far.serial) so_far.none_left is in
          record { serial = joined world w (round sim (quantum_end sim key.time) w) so_far.serial r.serial; none_left = r.none_left }

  pub serial_run_ends : SerialRunEnds sim IsSound Fits
  serial_run_ends world ok = record {
    none_left = λ key event m. least_none _ (key, event) (final_has_none sim IsSound Fits laws world ok) m;
    counted = serial_from sim IsSound Fits laws (sim.nodes * sim.event_limit) world ok;
    reached = λ after from none. ended sim IsSound Fits laws from.steps world ok (ap (λ w. least (events_in sim w)) (sym from.run) ∙ none) ∙ sym from.run;
  }

  pub no_past : NoPast sim IsSound Fits
  no_past before after ok from = let it = from_world before after ok from in record {
    is_world = it;
    no_past = λ node key body member there to. (it.stations node member).no_past key body there to;
  }

  free_run_station : (until : ℕ) (within : until ≤ sim.budget) (n : ℕ) (node : S) (pending : Queue X) → IsStation sim IsSound Fits node pending → IsStation sim IsSound Fits (free_run sim until n node pending).node (free_run sim until n node pending).pending
  unfolding free_run
  free_run_station until within zero node pending st = st
  free_run_station until within (suc n) node pending st = by (free_run_station until within n) (least (events_below sim until (node ∷ []) pending)) refl
    where
      by : ((new : S) (queue : Queue X) → IsStation sim IsSound Fits new queue → IsStation sim IsSound Fits (free_run sim until n new queue).node (free_run sim until n new queue).pending) → (o : Option (Key × Event X)) → least (events_below sim until (node ∷ []) pending) ≡ o → IsStation sim IsSound Fits (after_own sim (free_run sim until n) node pending o).node (after_own sim (free_run sim until n) node pending o).pending
      by rest None is = st
      by rest (Some e) is = rest (sim.react node e.1).0 (placed (taken e.1 pending) (to_itself sim node (sim.react node e.1).1)) (own_station sim IsSound Fits laws until within node pending e.0 e.1 is st)

  pub no_past_of_run : NoPastOfRun sim IsSound Fits
  no_past_of_run until node pending within st = free_run_station until within (sim.event_limit - sim.handled node) node pending st

  -- the least event after some steps is above that before them
  rises_by : (d : ℕ) (world : World S X) (one other : Key × Event X) → IsWorld sim IsSound Fits world → least (events_in sim world) ≡ Some one → least (events_in sim (serial sim (suc d) world)) ≡ Some other → key_cmp one.0 other.0 ≡ Less
  rises_by zero world one other ok is later =
      stepped_rises sim IsSound Fits laws world ok one.0 one.1 is other.0 other.1
      (least_in _ (other.0, other.1) (ap (λ w. least (events_in sim w)) (sym (serial-suc sim 0 world ∙ ap (serial_step sim) (serial-zero sim world))) ∙ later))
  rises_by (suc d) world one other ok is later =
      by (rises_by d world one) (serial sim (suc d) world) refl (world_of_serial sim IsSound Fits laws (suc d) world ok) (least (events_in sim (serial sim (suc d) world))) refl
    where
      next : (w : World S X) → serial sim (suc d) world ≡ w → serial sim (suc (suc d)) world ≡ serial_step sim w
      next w e = serial-suc sim (suc d) world ∙ ap (serial_step sim) e

      by : ((mid : Key × Event X) → IsWorld sim IsSound Fits world → least (events_in sim world) ≡ Some one → least (events_in sim (serial sim (suc d) world)) ≡ Some mid → key_cmp one.0 mid.0 ≡ Less) →
          (w : World S X) → serial sim (suc d) world ≡ w → IsWorld sim IsSound Fits w → (o : Option (Key × Event X)) → least (events_in sim w) ≡ o → key_cmp one.0 other.0 ≡ Less
      by rest w e it None none = cc (ap (λ v. least (events_in sim v)) (next w e ∙ ap (after_least sim w) none))
      by rest w e it (Some mid) some =
          less_trans one.0 mid.0 other.0 (rest mid ok is (ap (λ v. least (events_in sim v)) e ∙ some))
          (stepped_rises sim IsSound Fits laws w it mid.0 mid.1 some other.0 other.1
          (least_in _ (other.0, other.1) (ap (λ v. least (events_in sim v)) (sym (next w e)) ∙ later)))

  pub keys_rise : KeysRise sim IsSound Fits
  keys_rise world earlier later one other ok before is then =
      let shape : later ≡ suc (later - suc earlier) + earlier = omega arith in
      rises_by (later - suc earlier) (serial sim earlier world) one other (world_of_serial sim IsSound Fits laws earlier world ok) is
      (ap (λ w. least (events_in sim w)) (serial_append sim (suc (later - suc earlier)) earlier world ∙ ap (λ n. serial sim n world) (sym shape)) ∙ then)

  pub start_is_world : StartIsWorld sim IsSound Fits
  start_is_world world start = (
    record {
      numbered = start.numbered;
      fitting = λ key body there. absurd (none key body there);
      stations = λ node m. record {
        sound = start.sound node m;
        fitting = λ key body there. absurd (none key body there);
        no_past = λ key body there. absurd (none key body there);
        step = λ time next. after_none node m (step_key sim node time);
        numbered = λ key body there. absurd (none key body there);
      };
      rising = λ node key event m e. after_none node m key;
    },
    λ key event m. omega (arith, start.kept_end),
  )
    where
      none : (key : Key) (body : X) → get world.pending key ≡ Some body → ⊥
      none key body there = cc (ap (λ queue. get queue key) start.pending, get-empty {X = X} key_cmp key)

      after_none : (node : S) → IsIn node world.nodes → (key : Key) → IsAfter (sim.last node) key
      after_none node m key = subst (λ last. IsAfter last key) (sym (start.unused node m)) tt
