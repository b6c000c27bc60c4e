-- What is known at a place of a trace. Own.
use Rattle.std.specs.Prelude.{ℕ, List, None, take}
use Rattle.wt_trace.specs.declared.record.Record.{Record}
use Rattle.coherence.specs.Traces.{Known, after_records}

-- shared memory has these bytes, and there was no step
abbrev pub known_first : List ℕ → Known
known_first memory = record { memory = memory; word = λ node. None }

-- before the record at a place
abbrev pub known_before : List ℕ → List Record → ℕ → Known
known_before memory log place = after_records (take place log) (known_first memory)
