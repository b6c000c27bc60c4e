-- The fields of a machine in order, and what a number may be in each. Own.
use Rattle.std.specs.Prelude.{ℕ, ◌*◌, ◌%◌, ◌^◌, ◌==◌, ◌&&◌, ◌||◌, not, nat_le, Bool, List, [], ◌∷◌, Option, Some, None, Result, Ok, Err, find, codes}
use Rattle.wt_params.specs.declared.parts.MachineParts.{MachineParts}
use Rattle.wt_params.specs.declared.parts.ParamFault.{ParamFault}
use Rattle.wt_params.specs.declared.parts.Field.{Field}
use Rattle.wt_params.specs.declared.parts.Field.TheVariants.{Nodes, PrivateBytes, BlockBytes, Blocks, Sets, Ways, Latency, SelfLatency, Hop, Width, Pointers, Quantum, EventLimit, Budget, Op, Taken, Mem, Hit, Cico, Call, Fill, Trap, TrapEach}
use Rattle.wt_params.specs.Mesh.{lookahead_of}

-- the fields, in the order in which they are tested and told
abbrev pub fields : List Field
fields =
    Nodes ∷ PrivateBytes ∷ BlockBytes ∷ Blocks ∷ Sets ∷ Ways ∷ Latency ∷ SelfLatency ∷ Hop ∷ Width ∷ Pointers
    ∷ Quantum ∷ EventLimit ∷ Budget ∷ Op ∷ Taken ∷ Mem ∷ Hit ∷ Cico ∷ Call ∷ Fill ∷ Trap ∷ TrapEach ∷ []

-- the number that a machine has in a field
abbrev pub number_of : MachineParts → Field → ℕ
number_of machine Nodes = machine.nodes
number_of machine PrivateBytes = machine.private_bytes
number_of machine BlockBytes = machine.block_bytes
number_of machine Blocks = machine.blocks
number_of machine Sets = machine.sets
number_of machine Ways = machine.ways
number_of machine Latency = machine.latency
number_of machine SelfLatency = machine.self_latency
number_of machine Hop = machine.hop
number_of machine Width = machine.width
number_of machine Pointers = machine.pointers
number_of machine Quantum = machine.quantum
number_of machine EventLimit = machine.event_limit
number_of machine Budget = machine.budget
number_of machine Op = machine.costs.op
number_of machine Taken = machine.costs.taken
number_of machine Mem = machine.costs.mem
number_of machine Hit = machine.costs.hit
number_of machine Cico = machine.costs.cico
number_of machine Call = machine.costs.call
number_of machine Fill = machine.costs.fill
number_of machine Trap = machine.costs.trap
number_of machine TrapEach = machine.costs.trap_each

-- from the least to the greatest, both among them
abbrev pub is_within : ℕ → ℕ → ℕ → Bool
is_within least greatest value = nat_le least value && nat_le value greatest

-- A machine's number is in the range of its field. Of the ways the lines of a cache count, too, and a quantum is no
-- longer than the lookahead.
abbrev pub is_in_range : MachineParts → Field → Bool
is_in_range machine Nodes = is_within 1 256 machine.nodes
is_in_range machine PrivateBytes =
    is_within 4096 4194304 machine.private_bytes && (machine.private_bytes % 4096 == 0)
is_in_range machine BlockBytes =
    (machine.block_bytes == 16) || (machine.block_bytes == 32) || (machine.block_bytes == 64)
    || (machine.block_bytes == 128)
is_in_range machine Blocks = is_within 0 65536 machine.blocks
is_in_range machine Sets = is_within 1 1024 machine.sets
is_in_range machine Ways = is_within 1 8 machine.ways && nat_le (machine.sets * machine.ways) 4096
is_in_range machine Latency = is_within 1 10000 machine.latency
is_in_range machine SelfLatency = is_within 1 10000 machine.self_latency
is_in_range machine Hop = is_within 0 100 machine.hop
is_in_range machine Width = is_within 1 256 machine.width
is_in_range machine Pointers = is_within 0 4 machine.pointers
is_in_range machine Quantum = is_within 1 (lookahead_of machine) machine.quantum
is_in_range machine EventLimit = is_within 1 (2 ^ 40) machine.event_limit
is_in_range machine Budget = is_within 1 (2 ^ 40) machine.budget
is_in_range machine Op = is_within 1 4096 machine.costs.op
is_in_range machine Taken = is_within 1 4096 machine.costs.taken
is_in_range machine Mem = is_within 1 4096 machine.costs.mem
is_in_range machine Hit = is_within 1 4096 machine.costs.hit
is_in_range machine Cico = is_within 1 4096 machine.costs.cico
is_in_range machine Call = is_within 1 4096 machine.costs.call
is_in_range machine Fill = is_within 0 4096 machine.costs.fill
is_in_range machine Trap = is_within 0 4096 machine.costs.trap
is_in_range machine TrapEach = is_within 0 4096 machine.costs.trap_each

-- a field whose number is outside its range, if there is one
abbrev pub fault_at : MachineParts → Option Field → Option ParamFault
fault_at machine None = None
fault_at machine (Some field) = Some (record { field = field; value = number_of machine field })

-- the first of some fields whose number is outside its range, with this number
abbrev pub fault_among : MachineParts → List Field → Option ParamFault
fault_among machine tested = fault_at machine (find (λ field. not (is_in_range machine field)) tested)

-- the first field of all whose number is outside its range
abbrev pub fault_of : MachineParts → Option ParamFault
fault_of machine = fault_among machine fields

-- the machine of these numbers, or why there is none
abbrev pub machine_of : MachineParts → Result MachineParts ParamFault
machine_of machine = machine_or machine (fault_of machine)
  where
    machine_or : MachineParts → Option ParamFault → Result MachineParts ParamFault
    machine_or machine None = Ok machine
    machine_or machine (Some fault) = Err fault

-- the name of a field in descriptions and in texts
abbrev pub key_of : Field → List ℕ
key_of Nodes = codes "nodes"
key_of PrivateBytes = codes "private_bytes"
key_of BlockBytes = codes "block_bytes"
key_of Blocks = codes "blocks"
key_of Sets = codes "sets"
key_of Ways = codes "ways"
key_of Latency = codes "latency"
key_of SelfLatency = codes "self_latency"
key_of Hop = codes "hop"
key_of Width = codes "width"
key_of Pointers = codes "pointers"
key_of Quantum = codes "quantum"
key_of EventLimit = codes "event_limit"
key_of Budget = codes "budget"
key_of Op = codes "costs.op"
key_of Taken = codes "costs.taken"
key_of Mem = codes "costs.mem"
key_of Hit = codes "costs.hit"
key_of Cico = codes "costs.cico"
key_of Call = codes "costs.call"
key_of Fill = codes "costs.fill"
key_of Trap = codes "costs.trap"
key_of TrapEach = codes "costs.trap_each"
