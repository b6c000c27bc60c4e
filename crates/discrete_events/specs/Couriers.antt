-- Two couriers that hand numbers to each other: a small simulation, on which the definitions are
-- computed. Own.
use Rattle.std.specs.Prelude.{ℕ, ◌+◌, ◌-◌, ◌*◌, ◌<◌, ◌≤◌, List, [], ◌∷◌, map, Some, None}
use Rattle.std.specs.Option.{unwrap_or}
use Rattle.std.specs.FinMap.{empty}
use Rattle.wt_proto.specs.declared.key.Key.{Key}
use Rattle.discrete_events.specs.declared.courier.Courier.{Courier}
use Rattle.discrete_events.specs.Simulation.{Simulation, Event, Step, Arrival, Message, key_of_step}
use Rattle.discrete_events.specs.World.{World}

-- one more event is handled
abbrev handles : Courier → Key → Courier
handles courier key = record courier { handled = courier.handled + 1; last = Some key }

abbrev sends : Courier → ℕ → ℕ → ℕ → ℕ → Message ℕ
sends courier time to after number = (record { time = time; to = to; from = courier.number; sequence = courier.sent + after }, number)

-- A courier at an event, where a message to the other takes so long.
abbrev pub courier_reacts : ℕ → Courier → Event ℕ → Courier × List (Message ℕ)
courier_reacts delay courier Step =
    let time = unwrap_or courier.next 0 in
    let key = key_of_step 2 courier.number time in (
      record (handles courier key) { next = Some (time + 2); sent = courier.sent + 2 },
      sends courier (time + 1) courier.number 0 courier.count
          ∷ sends courier (time + delay) (1 - courier.number) 1 (courier.count + 1) ∷ [],
    )
courier_reacts delay courier (Arrival message) =
    (record (handles courier message.0) { count = 2 * courier.count + message.1 }, [])

-- The lookahead is three cycles, whatever the delay.
abbrev pub couriers : ℕ → ℕ → Simulation Courier ℕ
couriers quantum delay = record {
  nodes = 2;
  event_limit = 100;
  budget = 50;
  quantum = quantum;
  lookahead = 3;
  number = λ courier. courier.number;
  handled = λ courier. courier.handled;
  last = λ courier. courier.last;
  sent = λ courier. courier.sent;
  next = λ courier. courier.next;
  react = courier_reacts delay;
}

pub record IsCourier (courier : Courier) : Type 0 where
  pub number : courier.number < 2
  pub handled : courier.handled ≤ 100

pub record FitsCouriers (message : Message ℕ) : Type 0 where
  pub to : message.0.to < 2
  pub from : message.0.from < 2

abbrev pub courier_at_start : ℕ → Courier
courier_at_start number = record { number = number; handled = 0; last = None; next = Some 0; sent = 0; count = number }

abbrev pub couriers_at_start : World Courier ℕ
couriers_at_start = record { nodes = courier_at_start 0 ∷ courier_at_start 1 ∷ []; pending = empty; kept_end = 0; quanta = 0 }

abbrev pub counts_in : World Courier ℕ → List ℕ
counts_in world = map (λ (courier : Courier). courier.count) world.nodes
