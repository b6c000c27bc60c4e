use Rattle.std.proofs.Common.{◌++◌, List, ℕ, flat_map, ap, ◌∙◌, arith}
use Rattle.std.specs.Prelude.{slice_index}
use Rattle.std.specs.List.{range_with_len}
use Rattle.std.proofs.lemmas.List.{take_all}
use Rattle.std.proofs.lemmas.List.FromFn.{length-range_with_len}
use Rattle.wt_report.specs.Memory.{register_text, registers_text}
use Rattle.wt_report.proofs.RegisterLemmas.{register_more}
use Rattle.wt_report.proofs.memory.registers.Goals as goal

pub loop-r-preserved : goal.loop-r-preserved
loop-r-preserved c =
    register_more c.args.node.now.state c.loop-r.r c.get.result c.args.line.now c.loop-r.line c.text.new.self c.digits.new.self
    c.loop-r-test.true (c.get.ensures.value ∙ ap (λ (registers : List ℕ). slice_index registers c.loop-r.r) c.regs.ensures)
    c.loop-r.invariant c.in_ok-text.ensures c.in_ok-digits.ensures

pub returns : goal.returns
unfolding registers_text
returns c =
    c.loop-r.invariant
    ∙ ap (λ (l : List ℕ). c.args.line.now ++ flat_map (register_text c.args.node.now.state) l)
    (take_all c.loop-r.r (range_with_len 0 32) (omega (arith, length-range_with_len 0 32)))
