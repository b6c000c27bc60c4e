-- How many nodes a directory trap calls back from, and what it costs at most.
use Rattle.std.proofs.Common.{ℕ, ◌+◌, ◌*◌, ◌^◌, ◌≤◌, Bool, List, [], ◌∷◌, length, arith, inl, inr}
use Rattle.std.specs.Prelude.{◌==◌, not, filter}
use Rattle.std.proofs.lemmas.Bool.{cases_Bool}
use Rattle.std.proofs.lemmas.List.FromFn.{length-range_with_len}
use Rattle.wt_params.specs.declared.parts.MachineParts.{MachineParts}
use Rattle.wt_params.specs.Machine.{IsMachine}
use Rattle.wt_proto.specs.declared.directory.Targets.{Targets}
use Rattle.wt_proto.specs.declared.directory.Targets.TheVariants.{AllBut, One}
use Rattle.wt_proto.specs.declared.directory.TrapPlan.{TrapPlan}
use Rattle.wt_proto.specs.NodeSets.{nodes_below}
use Rattle.trap_handler.specs.Trap.{targets_of, trap_cycles_of}

-- a filter leaves no more than there was
pub few_pass : {A : Type 0} (test : A → Bool) (xs : List A) → length (filter test xs) ≤ length xs
few_pass test [] = omega arith
few_pass test (x ∷ xs) = elim (cases_Bool (test x)) [
  | inl is ↦ let rest = few_pass test xs in rw is (omega arith)
  | inr is ↦ let rest = few_pass test xs in rw is (omega arith)
]

pub few_targets : (nodes : ℕ) (targets : Targets) → length (targets_of nodes targets) ≤ nodes + 1
few_targets nodes (AllBut spared) = let few = few_pass (λ node. not (node == spared)) (nodes_below nodes) in let all = length-range_with_len 0 nodes in omega arith
few_targets nodes (One node) = omega arith

times : (a b m n : ℕ) → a ≤ m → b ≤ n → a * b ≤ m * n
times a b m n at bt = grind arith

pub few_cycles : (machine : MachineParts) (plan : TrapPlan) → IsMachine machine → trap_cycles_of machine plan ≤ 2 ^ 21
few_cycles machine plan is =
    let few = few_targets machine.nodes plan.targets in
    let nodes = is.nodes.at_most in
    let each = is.costs.trap_each.at_most in
    let one = is.costs.trap.at_most in
    let all = times machine.costs.trap_each (length (targets_of machine.nodes plan.targets)) 4096 257 each (omega arith) in
    omega arith
