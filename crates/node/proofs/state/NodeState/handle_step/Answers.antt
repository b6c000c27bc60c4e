use Rattle.std.proofs.Common.{arith}
use Rattle.node.proofs.EventKept.{step_stamps}
use Rattle.node.proofs.state.NodeState.handle_step.Goals as goal

pub send_off-requires : goal.send_off-requires
send_off-requires c =
    step_stamps c.args.machine.now c.args.self.now _ c.max-time.result c.fetch-word.result c.count_step.new.self c.step.new.self c.args.sends.now c.step.new.sends c.in_ok-deed.deed c.requires.node c.requires.unspent c.requires.running
    (let early = c.requires.early in let most = c.requires.node.numbers.budget.at_most in omega arith) c.max-time.ensures c.fetch-word.ensures c.count_step.ensures c.requires.none_yet c.in_ok-deed.ensures

pub end_traced_step-requires-clause-stamps : goal.end_traced_step-requires-clause-stamps
end_traced_step-requires-clause-stamps c =
    step_stamps c.args.machine.now c.args.self.now _ c.max-time.result c.fetch-word.result c.count_step.new.self c.step.new.self c.args.sends.now c.step.new.sends c.in_ok-deed.deed c.requires.node c.requires.unspent c.requires.running
    (let early = c.requires.early in let most = c.requires.node.numbers.budget.at_most in omega arith) c.max-time.ensures c.fetch-word.ensures c.count_step.ensures c.requires.none_yet c.in_ok-deed.ensures
