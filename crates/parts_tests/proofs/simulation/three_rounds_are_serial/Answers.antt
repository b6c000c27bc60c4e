use Rattle.parts_tests.proofs.Computed.{three_rounds, counts_after, quanta_after, end_after}
use Rattle.parts_tests.proofs.simulation.three_rounds_are_serial.Goals as goal

pub returns : goal.returns
returns c = record { same = three_rounds; counts = counts_after; quanta = quanta_after; end = end_after }
