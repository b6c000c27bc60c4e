-- The definitions, computed on the couriers.
use Rattle.std.proofs.Common.{◌≡◌, ◌≢◌, ℕ, List, [], ◌∷◌, refl, ap, sym, ◌∙◌, arith}
use Rattle.discrete_events.specs.declared.courier.Courier.{Courier}
use Rattle.discrete_events.specs.World.{World}
use Rattle.discrete_events.specs.Serial.{serial}
use Rattle.discrete_events.specs.Round.{rounds}
use Rattle.discrete_events.specs.Laws.{IsSerialFrom, handled_in}
use Rattle.discrete_events.specs.Couriers.{couriers, courier_at_start, couriers_at_start, counts_in}
use Rattle.parts_tests.proofs.OnLists.{Listed, world_of, empty_queue, listed_serial, listed_rounds, serial_listed, rounds_listed}

abbrev start : Listed Courier ℕ
start = record { nodes = courier_at_start 0 ∷ courier_at_start 1 ∷ []; messages = []; kept_end = 0; quanta = 0 }

start_is : couriers_at_start ≡ world_of start
start_is = λ i. record { nodes = start.nodes; pending = empty_queue i; kept_end = 0; quanta = 0 }

serial_is : (quantum delay n : ℕ) → serial (couriers quantum delay) n couriers_at_start ≡ world_of (listed_serial (couriers quantum delay) n start)
serial_is quantum delay n = ap (serial (couriers quantum delay) n) start_is ∙ serial_listed (couriers quantum delay) n start tt

rounds_are : (quantum delay n : ℕ) → rounds (couriers quantum delay) n couriers_at_start ≡ world_of (listed_rounds (couriers quantum delay) n start)
rounds_are quantum delay n = ap (rounds (couriers quantum delay) n) start_is ∙ rounds_listed (couriers quantum delay) n start tt

pub three_rounds : rounds (couriers 3 3) 3 couriers_at_start ≡ serial (couriers 3 3) 24 couriers_at_start
three_rounds = rounds_are 3 3 3 ∙ sym (serial_is 3 3 24)

pub counts_after : counts_in (serial (couriers 3 3) 24 couriers_at_start) ≡ 114 ∷ 441 ∷ []
counts_after = ap counts_in (serial_is 3 3 24)

pub quanta_after : (serial (couriers 3 3) 24 couriers_at_start).quanta ≡ 3
quanta_after = ap (λ (w : World Courier ℕ). w.quanta) (serial_is 3 3 24)

pub end_after : (serial (couriers 3 3) 24 couriers_at_start).kept_end ≡ 9
end_after = ap (λ (w : World Courier ℕ). w.kept_end) (serial_is 3 3 24)

-- so many events were handled, so the run had so many steps; and it came to other counts
differs : (quantum delay handled : ℕ) (counts others : List ℕ) → handled_in (couriers quantum delay) (world_of (listed_rounds (couriers quantum delay) 1 start)) ≡ handled → counts_in (world_of (listed_rounds (couriers quantum delay) 1 start)) ≡ counts → counts_in (world_of (listed_serial (couriers quantum delay) handled start)) ≡ others → (counts ≢ others) → IsSerialFrom (couriers quantum delay) couriers_at_start (rounds (couriers quantum delay) 1 couriers_at_start) → ⊥
differs quantum delay handled counts others many one other apart from =
    let steps : from.steps ≡ handled = omega (arith, ap (handled_in (couriers quantum delay)) (rounds_are quantum delay 1), many, from.counted) in
    apart (sym one ∙ ap counts_in (sym (rounds_are quantum delay 1) ∙ from.run ∙ ap (λ n. serial (couriers quantum delay) n couriers_at_start) steps ∙ serial_is quantum delay handled) ∙ other)

pub too_long : IsSerialFrom (couriers 4 3) couriers_at_start (rounds (couriers 4 3) 1 couriers_at_start) → ⊥
too_long = differs 4 3 8 (0 ∷ 9 ∷ []) (2 ∷ 3 ∷ []) refl refl refl (λ e. cc)

pub too_early : IsSerialFrom (couriers 3 2) couriers_at_start (rounds (couriers 3 2) 1 couriers_at_start) → ⊥
too_early = differs 3 2 6 (0 ∷ 3 ∷ []) (2 ∷ 3 ∷ []) refl refl refl (λ e. cc)
