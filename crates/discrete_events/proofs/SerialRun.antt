-- Laws of the serial run.
use Rattle.std.proofs.Common.{◌≡◌, ℕ, zero, suc, ◌+◌, ◌-◌, ◌*◌, ◌<◌, ◌≤◌, ◌⊎◌, min, map, Bool, true, false, cond, Option, Some, None, refl, ap, sym, ◌∙◌, subst, inl, inr, arith, le-leb}
use Rattle.std.specs.Prelude.{flat_map, nat_le}
use Rattle.std.proofs.lemmas.Bool.Decides.{nat_tests}
use Rattle.std.specs.declared.cmp.Ordering.TheVariants.{Less}
use Rattle.wt_proto.specs.declared.key.Key.{Key}
use Rattle.wt_proto.specs.KeyOrder.{key_cmp}
use Rattle.discrete_events.specs.Simulation.{Simulation, Event, Message}
use Rattle.discrete_events.specs.World.{World, events_in, least}
use Rattle.discrete_events.specs.Serial.{placed, taken, node_after, sent_by, with_quantum, after_least, serial_step, serial, final}
use Rattle.discrete_events.specs.Laws.{IsIn, IsSimulation, IsWorld, IsSerialFrom, handled_in}
use Rattle.discrete_events.proofs.Events.{least_in}
use Rattle.discrete_events.proofs.Numbered.{sum_bound}
use Rattle.discrete_events.proofs.Peel.{numbered_after, fitting_after, stations_after, rising_after, rises, handled_after}

module _ {S X : Type 0} (sim : Simulation S X) where
  pub serial-zero : (world : World S X) → serial sim 0 world ≡ world
  unfolding serial
  serial-zero world = refl

  pub serial-suc : (n : ℕ) (world : World S X) → serial sim (suc n) world ≡ serial_step sim (serial sim n world)
  unfolding serial
  serial-suc n world = refl

  -- the first step and then the others
  pub serial_first : (n : ℕ) (world : World S X) → serial sim n (serial_step sim world) ≡ serial sim (suc n) world
  serial_first zero world = serial-zero (serial_step sim world) ∙ ap (serial_step sim) (sym (serial-zero world)) ∙ sym (serial-suc 0 world)
  serial_first (suc n) world = serial-suc n (serial_step sim world) ∙ ap (serial_step sim) (serial_first n world) ∙ sym (serial-suc (suc n) world)

  pub serial_append : (m n : ℕ) (world : World S X) → serial sim m (serial sim n world) ≡ serial sim (m + n) world
  serial_append zero n world = serial-zero (serial sim n world) ∙ ap (λ k. serial sim k world) (omega arith)
  serial_append (suc m) n world =
      let shape : suc (m + n) ≡ suc m + n = omega arith in
      serial-suc m (serial sim n world) ∙ ap (serial_step sim) (serial_append m n world) ∙ sym (serial-suc (m + n) world) ∙ ap (λ k. serial sim k world) shape

  -- Where a world has no event, the run stays there.
  pub serial_rests : (world : World S X) (n : ℕ) → least (events_in sim world) ≡ None → serial sim n world ≡ world
  serial_rests world zero none = serial-zero world
  serial_rests world (suc n) none = serial-suc n world ∙ ap (serial_step sim) (serial_rests world n none) ∙ ap (after_least sim world) none

  -- a world after an event, but for its quanta
  abbrev pub moved : Key → Event X → World S X → World S X
  moved key event world = record world {
    nodes = map (node_after sim key event) world.nodes;
    pending = placed (taken event world.pending) (flat_map (sent_by sim key event) world.nodes);
  }

  pub step_of_least : (world : World S X) (key : Key) (event : Event X) → least (events_in sim world) ≡ Some (key, event) → serial_step sim world ≡ with_quantum sim key.time (moved key event world)
  step_of_least world key event is = ap (after_least sim world) is

  -- inside a quantum the kept end and the count stay
  pub inside : (world : World S X) (time : ℕ) → time < world.kept_end → with_quantum sim time world ≡ world
  inside world time h = by (nat_le world.kept_end time) refl
    where
      by : (b : Bool) → nat_le world.kept_end time ≡ b → cond b (record world { kept_end = min (time + sim.quantum) sim.budget; quanta = world.quanta + 1 }) world ≡ world
      by true e = absurd (let k : world.kept_end ≤ time = grind (arith, nat_tests) in omega arith)
      by false e = refl

  pub opened : (world : World S X) (time : ℕ) → world.kept_end ≤ time → with_quantum sim time world ≡ record world { kept_end = min (time + sim.quantum) sim.budget; quanta = world.quanta + 1 }
  opened world time h = ap (λ (b : Bool). cond b (record world { kept_end = min (time + sim.quantum) sim.budget; quanta = world.quanta + 1 }) world) (le-leb world.kept_end time h)

  pub quantum_or_not : (P : World S X → Type 0) (world : World S X) (time : ℕ) → P (record world { kept_end = min (time + sim.quantum) sim.budget; quanta = world.quanta + 1 }) → P world → P (with_quantum sim time world)
  quantum_or_not P world time begun inside = by (nat_le world.kept_end time)
    where
      by : (b : Bool) → P (cond b (record world { kept_end = min (time + sim.quantum) sim.budget; quanta = world.quanta + 1 }) world)
      by true = begun
      by false = inside

module _ {S X : Type 0} (sim : Simulation S X) (IsSound : S → Type 0) (Fits : Message X → Type 0) (laws : IsSimulation sim IsSound Fits) where
  module _ (world : World S X) (ok : IsWorld sim IsSound Fits world) (key : Key) (event : Event X) (is_least : least (events_in sim world) ≡ Some (key, event)) where
    pub world_moved : IsWorld sim IsSound Fits (moved sim key event world)
    world_moved = record {
      numbered = numbered_after sim IsSound Fits laws world.nodes world.pending ok.numbered ok.fitting ok.stations key event is_least;
      fitting = fitting_after sim IsSound Fits laws world.nodes world.pending ok.numbered ok.fitting ok.stations key event is_least;
      stations = stations_after sim IsSound Fits laws world.nodes world.pending ok.numbered ok.fitting ok.stations key event is_least (λ n m. ok.rising n key event m (least_in _ (key, event) is_least));
      rising = rising_after sim IsSound Fits laws world.nodes world.pending ok.numbered ok.fitting ok.stations key event is_least (λ n m. ok.rising n key event m (least_in _ (key, event) is_least));
    }

    pub moved_rises : (k : Key) (e : Event X) → IsIn (k, e) (events_in sim (moved sim key event world)) → key_cmp key k ≡ Less
    moved_rises = rises sim IsSound Fits laws world.nodes world.pending ok.numbered ok.fitting ok.stations key event is_least

    pub moved_handled : handled_in sim (moved sim key event world) ≡ suc (handled_in sim world)
    moved_handled = handled_after sim IsSound Fits laws world.nodes world.pending ok.numbered ok.fitting ok.stations key event is_least

    pub world_stepped : IsWorld sim IsSound Fits (serial_step sim world)
    world_stepped = subst (IsWorld sim IsSound Fits) (sym (step_of_least sim world key event is_least))
        (quantum_or_not sim (IsWorld sim IsSound Fits) (moved sim key event world) key.time (record { numbered = world_moved.numbered; fitting = world_moved.fitting; stations = world_moved.stations; rising = world_moved.rising }) world_moved)

    pub stepped_rises : (k : Key) (e : Event X) → IsIn (k, e) (events_in sim (serial_step sim world)) → key_cmp key k ≡ Less
    stepped_rises k e = subst (λ w. IsIn (k, e) (events_in sim w) → key_cmp key k ≡ Less) (sym (step_of_least sim world key event is_least))
        (quantum_or_not sim (λ w. IsIn (k, e) (events_in sim w) → key_cmp key k ≡ Less) (moved sim key event world) key.time (moved_rises k e) (moved_rises k e))

    pub stepped_handled : handled_in sim (serial_step sim world) ≡ suc (handled_in sim world)
    stepped_handled = subst (λ w. handled_in sim w ≡ suc (handled_in sim world)) (sym (step_of_least sim world key event is_least))
        (quantum_or_not sim (λ w. handled_in sim w ≡ suc (handled_in sim world)) (moved sim key event world) key.time moved_handled moved_handled)

  pub handled_bound : (world : World S X) → IsWorld sim IsSound Fits world → handled_in sim world ≤ sim.nodes * sim.event_limit
  handled_bound world ok = let r = sum_bound sim 0 world.nodes ok.numbered sim.handled sim.event_limit (λ n m. laws.within n (ok.stations n m).sound) in omega arith

  -- along the serial run a world stays one
  pub world_of_serial : (n : ℕ) (world : World S X) → IsWorld sim IsSound Fits world → IsWorld sim IsSound Fits (serial sim n world)
  world_of_serial zero world ok = subst (IsWorld sim IsSound Fits) (sym (serial-zero sim world)) ok
  world_of_serial (suc n) world ok = subst (IsWorld sim IsSound Fits) (sym (serial-suc sim n world)) (by (serial sim n world) (world_of_serial n world ok) (least (events_in sim (serial sim n world))) refl)
    where
      by : (w : World S X) → IsWorld sim IsSound Fits w → (o : Option (Key × Event X)) → least (events_in sim w) ≡ o → IsWorld sim IsSound Fits (serial_step sim w)
      by w it None is = subst (IsWorld sim IsSound Fits) (sym (ap (after_least sim w) is)) it
      by w it (Some e) is = world_stepped w it e.0 e.1 is

  -- so many steps, or an end before
  steps_or_ends : (n : ℕ) (world : World S X) → IsWorld sim IsSound Fits world → (least (events_in sim (serial sim n world)) ≡ None) ⊎ (handled_in sim (serial sim n world) ≡ handled_in sim world + n)
  steps_or_ends zero world ok = inr (ap (handled_in sim) (serial-zero sim world) ∙ omega arith)
  steps_or_ends (suc n) world ok = by (steps_or_ends n world ok) (serial sim n world) refl (world_of_serial n world ok) (least (events_in sim (serial sim n world))) refl
    where
      by : (least (events_in sim (serial sim n world)) ≡ None) ⊎ (handled_in sim (serial sim n world) ≡ handled_in sim world + n) → (w : World S X) → serial sim n world ≡ w → IsWorld sim IsSound Fits w → (o : Option (Key × Event X)) → least (events_in sim w) ≡ o → (least (events_in sim (serial sim (suc n) world)) ≡ None) ⊎ (handled_in sim (serial sim (suc n) world) ≡ handled_in sim world + suc n)
      by h w e it None is = inl (ap (λ v. least (events_in sim v)) (serial-suc sim n world ∙ ap (serial_step sim) e ∙ ap (after_least sim w) is) ∙ is)
      by (inl none) w e it (Some f) is = cc (ap (λ v. least (events_in sim v)) e)
      by (inr so_far) w e it (Some f) is = inr (ap (handled_in sim) (serial-suc sim n world ∙ ap (serial_step sim) e) ∙ stepped_handled w it f.0 f.1 is ∙ ap suc (ap (handled_in sim) (sym e) ∙ so_far) ∙ omega arith)

  -- the final world has no event
  pub final_has_none : (world : World S X) → IsWorld sim IsSound Fits world → least (events_in sim (final sim world)) ≡ None
  final_has_none world ok = by (final sim world) (world_of_serial _ world ok) (steps_or_ends _ world ok) (least (events_in sim (final sim world))) refl
    where
      by : (w : World S X) → IsWorld sim IsSound Fits w → (least (events_in sim w) ≡ None) ⊎ (handled_in sim w ≡ handled_in sim world + sim.nodes * sim.event_limit) → (o : Option (Key × Event X)) → least (events_in sim w) ≡ o → o ≡ None
      by w it (inl none) o is = sym is ∙ none
      by w it (inr full) None is = refl
      by w it (inr full) (Some e) is =
          let more = handled_bound (serial_step sim w) (world_stepped w it e.0 e.1 is) in
          let one = stepped_handled w it e.0 e.1 is in
          absurd (omega arith)

  -- A run is as many steps as the events that were handled.
  pub serial_from : (n : ℕ) (world : World S X) → IsWorld sim IsSound Fits world → IsSerialFrom sim world (serial sim n world)
  serial_from zero world ok = record { steps = 0; run = refl; counted = ap (handled_in sim) (serial-zero sim world) ∙ omega arith }
  serial_from (suc n) world ok = by (serial_from n world ok) (serial sim n world) refl (world_of_serial n world ok) (least (events_in sim (serial sim n world))) refl
    where
      by : IsSerialFrom sim world (serial sim n world) → (w : World S X) → serial sim n world ≡ w → IsWorld sim IsSound Fits w → (o : Option (Key × Event X)) → least (events_in sim w) ≡ o → IsSerialFrom sim world (serial sim (suc n) world)
      by so_far w e it None is =
          let stays : serial sim (suc n) world ≡ serial sim n world = serial-suc sim n world ∙ ap (serial_step sim) e ∙ ap (after_least sim w) is ∙ sym e in
          record { steps = so_far.steps; run = stays ∙ so_far.run; counted = ap (handled_in sim) stays ∙ so_far.counted }
      by so_far w e it (Some f) is = record {
        steps = suc so_far.steps;
        run = serial-suc sim n world ∙ ap (serial_step sim) so_far.run ∙ sym (serial-suc sim so_far.steps world);
        counted = ap (handled_in sim) (serial-suc sim n world ∙ ap (serial_step sim) e) ∙ stepped_handled w it f.0 f.1 is ∙ ap suc (ap (handled_in sim) (sym e) ∙ so_far.counted) ∙ omega arith;
      }

  -- A world without events that the serial run came to is the final one.
  pub ended : (n : ℕ) (world : World S X) → IsWorld sim IsSound Fits world → least (events_in sim (serial sim n world)) ≡ None → final sim world ≡ serial sim n world
  ended n world ok none = by (serial_from n world ok)
    where
      by : IsSerialFrom sim world (serial sim n world) → final sim world ≡ serial sim n world
      by from =
          let most = handled_bound (serial sim n world) (world_of_serial n world ok) in
          let shape : sim.nodes * sim.event_limit ≡ (sim.nodes * sim.event_limit - from.steps) + from.steps = omega (arith, from.counted) in
          ap (λ k. serial sim k world) shape
          ∙ sym (serial_append sim (sim.nodes * sim.event_limit - from.steps) from.steps world)
          ∙ ap (serial sim (sim.nodes * sim.event_limit - from.steps)) (sym from.run)
          ∙ serial_rests sim (serial sim n world) (sim.nodes * sim.event_limit - from.steps) none
