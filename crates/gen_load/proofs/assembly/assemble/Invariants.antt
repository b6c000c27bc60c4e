use Rattle.std.proofs.Common.{◌≡◌, flat_map, take}
use Rattle.gen_load.specs.Assembly.{bytes_of}
use Rattle.gen_load.proofs.assembly.assemble.Given as goal

-- The bytes of the instructions so far are there.
abbrev pub invariant-loop-instr : goal.invariant-loop-instr
invariant-loop-instr l = l.bytes.items ≡ flat_map bytes_of (take l.instr-index l.instr-items)
