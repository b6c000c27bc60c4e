-- The meaning of an instruction: what it leaves in the registers, and what is to be done beside. From the RISC-V
-- unprivileged manual, RV32I; the costs, the answer to a target that isn't a multiple of 4 and the annotations are own.
use Rattle.std.specs.Prelude.{◌≡◌, ◌<◌, ℕ, ℤ, ◌+◌, ◌-◌, ◌*◌, ◌%◌, ◌^◌, ◌==◌, if◌then◌else◌, List, slice_index}
use Rattle.std.specs.Int.{w32, cast_unsigned}
use Rattle.wt_params.specs.declared.parts.CostParts.{CostParts}
use Rattle.rv_word.specs.Operations.{alu_of, takes}
use Rattle.rv_decode.specs.declared.instr.Instr.{Instr}
use Rattle.rv_decode.specs.declared.instr.Instr.TheVariants.{Lui, Auipc, Jal, Jalr, Branch, Load, Store, OpImm, Op, Fence, Ecall, Ebreak, Cico, Illegal}
use Rattle.rv_exec.specs.declared.effect.Effect.{Effect}
use Rattle.rv_exec.specs.Registers.{register_set}

-- the sum of two words
abbrev pub word_sum : ℕ → ℕ → ℕ
word_sum a b = (a + b) % 2 ^ 32

-- a signed immediate as a word, two's complement
abbrev pub word_of : ℤ → ℕ
word_of imm = cast_unsigned w32 imm

-- a word plus a signed immediate
abbrev pub offset_from : ℕ → ℤ → ℕ
offset_from word imm = word_sum word (word_of imm)

-- the word whose bit 0 is cleared
abbrev pub without_bit_0 : ℕ → ℕ
without_bit_0 word = word - word % 2

-- the address of the instruction after pc
abbrev pub address_after : ℕ → ℕ
address_after pc = word_sum pc 4

-- the value goes into rd, and the next instruction follows
abbrev pub finished : List ℕ → ℕ → ℕ → ℕ → CostParts → List ℕ × Effect
finished x rd value pc costs = (register_set x rd value, Effect.Next (address_after pc) costs.op)

-- control goes to the target with these registers after; a target that isn't a multiple of 4 leaves them as before
abbrev pub transferred : List ℕ → List ℕ → ℕ → CostParts → List ℕ × Effect
transferred before after target costs =
    if target % 4 == 0 then (after, Effect.Next target costs.taken) else (before, Effect.BadTarget target)

-- control goes to the target, and the address of the next instruction into rd
abbrev pub jumped : List ℕ → ℕ → ℕ → ℕ → CostParts → List ℕ × Effect
jumped x rd target pc costs = transferred x (register_set x rd (address_after pc)) target costs

-- what an instruction at pc leaves in the registers x, and its effect
unfoldable pub meaning_of : List ℕ → ℕ → Instr → CostParts → List ℕ × Effect
meaning_of x pc (Lui rd imm) costs = finished x rd (imm * 4096 % 2 ^ 32) pc costs
meaning_of x pc (Auipc rd imm) costs = finished x rd (word_sum pc (imm * 4096)) pc costs
meaning_of x pc (Jal rd imm) costs = jumped x rd (offset_from pc imm) pc costs
meaning_of x pc (Jalr rd rs1 imm) costs = jumped x rd (without_bit_0 (offset_from (slice_index x rs1) imm)) pc costs
meaning_of x pc (Branch op rs1 rs2 imm) costs =
    if takes op (slice_index x rs1) (slice_index x rs2) then transferred x x (offset_from pc imm) costs
    else (x, Effect.Next (address_after pc) costs.op)
meaning_of x pc (Load op rd rs1 imm) costs = (x, Effect.Load op rd (offset_from (slice_index x rs1) imm))
meaning_of x pc (Store op rs1 rs2 imm) costs =
    (x, Effect.Store op (offset_from (slice_index x rs1) imm) (slice_index x rs2))
meaning_of x pc (OpImm op rd rs1 imm) costs = finished x rd (alu_of op (slice_index x rs1) (word_of imm)) pc costs
meaning_of x pc (Op op rd rs1 rs2) costs =
    finished x rd (alu_of op (slice_index x rs1) (slice_index x rs2)) pc costs
meaning_of x pc Fence costs = (x, Effect.Next (address_after pc) costs.op)
meaning_of x pc Ecall costs = (x, Effect.Call)
meaning_of x pc Ebreak costs = (x, Effect.Break)
meaning_of x pc (Cico op rs1 imm) costs = (x, Effect.Cico op (offset_from (slice_index x rs1) imm))
meaning_of x pc Illegal costs = (x, Effect.Illegal)

-- what holds of the next address and the cost, where the instruction is finished
abbrev pub IfNext : Effect → (ℕ → ℕ → Type 0) → Type 0
IfNext (Effect.Next pc cost) holds = holds pc cost
IfNext _ holds = Unit {0}

-- registers change only where the instruction is finished
abbrev pub ChangeOnlyWithNext : List ℕ → List ℕ → Effect → Type 0
ChangeOnlyWithNext before after (Effect.Next pc cost) = Unit {0}
ChangeOnlyWithNext before after _ = after ≡ before

-- a load names a register
abbrev pub NamesRegister : Effect → Type 0
NamesRegister (Effect.Load op rd address) = rd < 32
NamesRegister _ = Unit {0}
