use Rattle.coherence.specs.Traces.{known_at_start, after_records}
use Rattle.coherence.specs.Runs.{world_after, records_until}
use Rattle.coherence.proofs.WorldSerial.{serial_world, serial_coherent, has_one_writer, loads_right}
use Rattle.coherence.proofs.runs.runs_of_machines_are_coherent.Goals as goal

pub returns-clause-coherent : goal.returns-clause-coherent
returns-clause-coherent c = serial_coherent

pub returns-clause-one_writer : goal.returns-clause-one_writer
returns-clause-one_writer c = λ machine loaded traced n is for loads.
    has_one_writer machine (world_after machine loaded traced n) (serial_world machine loaded traced n is for loads)
    (after_records (records_until machine loaded traced n) (known_at_start loaded)) (serial_coherent machine loaded traced n is for loads)

pub returns-clause-no_stray : goal.returns-clause-no_stray
returns-clause-no_stray c = λ machine loaded traced n is for loads. (serial_coherent machine loaded traced n is for loads).none_stray

pub returns-clause-loads : goal.returns-clause-loads
returns-clause-loads c = loads_right
