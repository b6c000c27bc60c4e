-- The couriers keep the laws, where a message between them takes three cycles or more.
use Rattle.std.proofs.Common.{◌≡◌, ℕ, ◌+◌, ◌<◌, ◌≤◌, Some, refl, ap, sym, ◌∙◌, subst, arith}
use Rattle.std.specs.Option.{unwrap_or}
use Rattle.wt_proto.specs.declared.key.Key.{Key}
use Rattle.discrete_events.specs.declared.courier.Courier.{Courier}
use Rattle.discrete_events.specs.Simulation.{Simulation, Event, Step, Arrival, Message, step_key}
use Rattle.discrete_events.specs.Laws.{IsDue, Reacts, IsSimulation}
use Rattle.discrete_events.specs.Couriers.{couriers, courier_reacts, IsCourier, FitsCouriers}
use Rattle.discrete_events.specs.KeyTimes.{earlier_less, before_step}

module _ (quantum delay : ℕ) (slow : 3 ≤ delay) where
  abbrev sim : Simulation Courier ℕ
  sim = couriers quantum delay

  steps : (courier : Courier) (key : Key) → IsCourier courier → IsDue sim FitsCouriers courier key Step → Reacts sim IsCourier FitsCouriers courier key (courier_reacts delay courier Step).0 (courier_reacts delay courier Step).1
  steps courier key sound due = record {
    sound = record { number = sound.number; handled = let h = due.unspent in omega arith };
    number = refl;
    handled = omega arith;
    last = ap Some (sym (due.its_own.1 ∙ ap (step_key sim courier) (sym time)));
    next = λ later is. earlier_less key _ (let e : unwrap_or courier.next 0 + 2 ≡ later = cc in omega (arith, time));
    sent = (
      record { fits = record { to = sound.number; from = sound.number }; source = refl; later = omega (arith, time); late = λ away. absurd (away refl) },
      (
        record { fits = record { to = omega arith; from = sound.number }; source = refl; later = omega (arith, time); late = λ away. omega (arith, time) },
        tt,
      ),
    );
    counted = refl;
    numbered = (omega arith, (refl, tt));
  }
    where
      time : unwrap_or courier.next 0 ≡ key.time
      time = ap (λ next. unwrap_or next 0) due.its_own.0

  arrives : (courier : Courier) (key : Key) (message : Message ℕ) → IsCourier courier → IsDue sim FitsCouriers courier key (Arrival message) → Reacts sim IsCourier FitsCouriers courier key (courier_reacts delay courier (Arrival message)).0 (courier_reacts delay courier (Arrival message)).1
  arrives courier key message sound due = record {
    sound = record { number = sound.number; handled = let h = due.unspent in omega arith };
    number = refl;
    handled = omega arith;
    last = ap Some (sym due.its_own.0);
    next = λ time is. before_step sim (courier_reacts delay courier (Arrival message)).0 key time (due.its_own.3 time is) due.its_own.1 (subst (λ (k : Key). k.from < 2) (sym due.its_own.0) due.its_own.2.from);
    sent = tt;
    counted = omega arith;
    numbered = tt;
  }

  courier_laws : IsSimulation sim IsCourier FitsCouriers
  courier_laws = record {
    within = λ courier sound. sound.handled;
    addressed = λ message fits. fits.to;
    sourced = λ message fits. fits.from;
    reacts = react;
  }
    where
      react : (courier : Courier) (key : Key) (event : Event ℕ) → IsCourier courier → IsDue sim FitsCouriers courier key event → Reacts sim IsCourier FitsCouriers courier key (sim.react courier event).0 (sim.react courier event).1
      react courier key Step sound due = steps courier key sound due
      react courier key (Arrival message) sound due = arrives courier key message sound due

pub lawful : IsSimulation (couriers 3 3) IsCourier FitsCouriers
lawful = courier_laws 3 3 (omega arith)
