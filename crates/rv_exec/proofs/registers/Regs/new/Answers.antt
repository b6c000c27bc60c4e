use Rattle.std.proofs.Common.{◌<◌, ◌^◌, refl, lit<, replicate}
use Rattle.std.proofs.lemmas.List.Elements.{All-replicate}
use Rattle.rv_exec.specs.Registers.{AreRegisters}
use Rattle.rv_exec.proofs.registers.Regs.new.Goals as goal

all_zero : AreRegisters (replicate 32 0)
all_zero = record { count = refl; zero = refl; words = All-replicate (λ word. word < 2 ^ 32) 32 0 (lit< tt) }

pub invariant_of-result : goal.invariant_of-result
invariant_of-result c = all_zero

pub returns-clause-registers : goal.returns-clause-registers
returns-clause-registers c = all_zero
