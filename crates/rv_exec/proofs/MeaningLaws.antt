-- Laws of the meaning of an instruction, over its definition alone.
use Rattle.std.proofs.Common.{◌≡◌, ℕ, ◌%◌, Bool, true, false, eqb, cond, List, refl}
use Rattle.std.proofs.lemmas.Bool.{eqb-true}
use Rattle.std.specs.Prelude.{slice_index}
use Rattle.wt_params.specs.declared.parts.CostParts.{CostParts}
use Rattle.rv_word.specs.Operations.{takes}
use Rattle.rv_decode.specs.declared.instr.Instr.{Instr}
use Rattle.rv_decode.specs.declared.instr.Instr.TheVariants.{Lui, Auipc, Jal, Jalr, Branch, Load, Store, OpImm, Op, Fence, Ecall, Ebreak, Cico, Illegal}
use Rattle.rv_exec.specs.declared.effect.Effect.{Effect}
use Rattle.rv_exec.specs.Meaning.{meaning_of, transferred, offset_from, address_after, IfNext, ChangeOnlyWithNext}

-- a transfer where the target fits, else a bad target
abbrev chosen : Bool → List ℕ → List ℕ → ℕ → ℕ → List ℕ × Effect
chosen fits before after target cost = cond fits (after, Effect.Next target cost) (before, Effect.BadTarget target)

chosen-next : (P : ℕ → ℕ → Type 0) (fits : Bool) (before after : List ℕ) (target cost : ℕ) →
    (fits ≡ true → P target cost) → IfNext (chosen fits before after target cost).1 P
chosen-next P true before after target cost taken = taken refl
chosen-next P false before after target cost taken = tt

transferred-next : (P : ℕ → ℕ → Type 0) (before after : List ℕ) (target : ℕ) (costs : CostParts) →
    ((aligned : ℕ) → aligned % 4 ≡ 0 → P aligned costs.taken) →
    IfNext (transferred before after target costs).1 P
transferred-next P before after target costs taken =
    chosen-next P (eqb (target % 4) 0) before after target costs.taken (λ fits. taken target (eqb-true _ _ fits))

-- a branch that is taken or not
branched-next : (P : ℕ → ℕ → Type 0) (taken : Bool) (there here : List ℕ × Effect) →
    IfNext there.1 P → IfNext here.1 P → IfNext (cond taken there here).1 P
branched-next P true there here at_there at_here = at_there
branched-next P false there here at_there at_here = at_here

-- what is finished goes on to the instruction after, or to a multiple of 4
pub meaning_of-next : (P : ℕ → ℕ → Type 0) (x : List ℕ) (pc : ℕ) (instr : Instr) (costs : CostParts) →
    P (address_after pc) costs.op → ((target : ℕ) → target % 4 ≡ 0 → P target costs.taken) →
    IfNext (meaning_of x pc instr costs).1 P
unfolding meaning_of
meaning_of-next P x pc (Lui rd imm) costs next taken = next
meaning_of-next P x pc (Auipc rd imm) costs next taken = next
meaning_of-next P x pc (Jal rd imm) costs next taken = transferred-next P x _ _ costs taken
meaning_of-next P x pc (Jalr rd rs1 imm) costs next taken = transferred-next P x _ _ costs taken
meaning_of-next P x pc (Branch op rs1 rs2 imm) costs next taken =
    branched-next P (takes op (slice_index x rs1) (slice_index x rs2)) _ _
    (transferred-next P x x (offset_from pc imm) costs taken) next
meaning_of-next P x pc (Load op rd rs1 imm) costs next taken = tt
meaning_of-next P x pc (Store op rs1 rs2 imm) costs next taken = tt
meaning_of-next P x pc (OpImm op rd rs1 imm) costs next taken = next
meaning_of-next P x pc (Op op rd rs1 rs2) costs next taken = next
meaning_of-next P x pc Fence costs next taken = next
meaning_of-next P x pc Ecall costs next taken = tt
meaning_of-next P x pc Ebreak costs next taken = tt
meaning_of-next P x pc (Cico op rs1 imm) costs next taken = tt
meaning_of-next P x pc Illegal costs next taken = tt

chosen-kept : (fits : Bool) (before after : List ℕ) (target cost : ℕ) →
    ChangeOnlyWithNext before (chosen fits before after target cost).0 (chosen fits before after target cost).1
chosen-kept true before after target cost = tt
chosen-kept false before after target cost = refl

branched-kept : (taken : Bool) (x : List ℕ) (there here : List ℕ × Effect) →
    ChangeOnlyWithNext x there.0 there.1 → ChangeOnlyWithNext x here.0 here.1 →
    ChangeOnlyWithNext x (cond taken there here).0 (cond taken there here).1
branched-kept true x there here at_there at_here = at_there
branched-kept false x there here at_there at_here = at_here

-- what isn't finished leaves the registers as they were
pub meaning_of-kept : (x : List ℕ) (pc : ℕ) (instr : Instr) (costs : CostParts) →
    ChangeOnlyWithNext x (meaning_of x pc instr costs).0 (meaning_of x pc instr costs).1
unfolding meaning_of
meaning_of-kept x pc (Lui rd imm) costs = tt
meaning_of-kept x pc (Auipc rd imm) costs = tt
meaning_of-kept x pc (Jal rd imm) costs = chosen-kept _ x _ _ _
meaning_of-kept x pc (Jalr rd rs1 imm) costs = chosen-kept _ x _ _ _
meaning_of-kept x pc (Branch op rs1 rs2 imm) costs =
    branched-kept (takes op (slice_index x rs1) (slice_index x rs2)) x _ _
    (chosen-kept (eqb (offset_from pc imm % 4) 0) x x _ _) tt
meaning_of-kept x pc (Load op rd rs1 imm) costs = refl
meaning_of-kept x pc (Store op rs1 rs2 imm) costs = refl
meaning_of-kept x pc (OpImm op rd rs1 imm) costs = tt
meaning_of-kept x pc (Op op rd rs1 rs2) costs = tt
meaning_of-kept x pc Fence costs = tt
meaning_of-kept x pc Ecall costs = refl
meaning_of-kept x pc Ebreak costs = refl
meaning_of-kept x pc (Cico op rs1 imm) costs = refl
meaning_of-kept x pc Illegal costs = refl
