use Rattle.discrete_events.proofs.Inside as inside
use Rattle.discrete_events.proofs.Interleaving as interleaving
use Rattle.discrete_events.proofs.Merged as merged
use Rattle.discrete_events.proofs.NewKeys as keys
use Rattle.discrete_events.proofs.Whole
use Rattle.node.specs.React.{wind_tunnel}
use Rattle.node.specs.Sound.{IsNode}
use Rattle.node.specs.Laws.{Fits}
use Rattle.node.proofs.EventKept.{machines_are_simulations}
use Rattle.node.proofs.laws.machines_are_simulations.Goals as goal

pub returns-clause-laws : goal.returns-clause-laws
returns-clause-laws c = machines_are_simulations

pub returns-clause-passes : goal.returns-clause-passes
returns-clause-passes c = λ machine is. Whole.late_message_passes (wind_tunnel machine) (IsNode machine) (Fits machine) (machines_are_simulations machine is).laws

pub returns-clause-peels : goal.returns-clause-peels
returns-clause-peels c = λ machine is. Whole.least_event_peels (wind_tunnel machine) (IsNode machine) (Fits machine) (machines_are_simulations machine is).laws

pub returns-clause-round : goal.returns-clause-round
returns-clause-round c = λ machine is. Whole.round_is_serial (wind_tunnel machine) (IsNode machine) (Fits machine) (machines_are_simulations machine is).laws

pub returns-clause-rounds : goal.returns-clause-rounds
returns-clause-rounds c = λ machine is. Whole.rounds_are_serial (wind_tunnel machine) (IsNode machine) (Fits machine) (machines_are_simulations machine is).laws

pub returns-clause-ends : goal.returns-clause-ends
returns-clause-ends c = λ machine is. Whole.serial_run_ends (wind_tunnel machine) (IsNode machine) (Fits machine) (machines_are_simulations machine is).laws

pub returns-clause-no_past : goal.returns-clause-no_past
returns-clause-no_past c = λ machine is. Whole.no_past (wind_tunnel machine) (IsNode machine) (Fits machine) (machines_are_simulations machine is).laws

pub returns-clause-no_past_of_run : goal.returns-clause-no_past_of_run
returns-clause-no_past_of_run c = λ machine is. Whole.no_past_of_run (wind_tunnel machine) (IsNode machine) (Fits machine) (machines_are_simulations machine is).laws

pub returns-clause-start : goal.returns-clause-start
returns-clause-start c = λ machine is. Whole.start_is_world (wind_tunnel machine) (IsNode machine) (Fits machine) (machines_are_simulations machine is).laws

pub returns-clause-new : goal.returns-clause-new
returns-clause-new c = λ machine is. keys.keys_are_new (wind_tunnel machine) (IsNode machine) (Fits machine) (machines_are_simulations machine is).laws

pub returns-clause-rise : goal.returns-clause-rise
returns-clause-rise c = λ machine is. Whole.keys_rise (wind_tunnel machine) (IsNode machine) (Fits machine) (machines_are_simulations machine is).laws

pub returns-clause-interleaving : goal.returns-clause-interleaving
returns-clause-interleaving c = λ machine is. interleaving.every_interleaving (wind_tunnel machine) (IsNode machine) (Fits machine) (machines_are_simulations machine is).laws

pub returns-clause-stands : goal.returns-clause-stands
returns-clause-stands c = λ machine is. inside.stands_for (wind_tunnel machine) (IsNode machine) (Fits machine) (machines_are_simulations machine is).laws

pub returns-clause-merges : goal.returns-clause-merges
returns-clause-merges c = λ machine is. merged.merges_are_rounds (wind_tunnel machine) (IsNode machine) (Fits machine) (machines_are_simulations machine is).laws

pub returns-clause-in_order : goal.returns-clause-in_order
returns-clause-in_order c = λ machine is until world to within ok. merged.in_order (wind_tunnel machine) (IsNode machine) (Fits machine) (machines_are_simulations machine is).laws world ok until within to
