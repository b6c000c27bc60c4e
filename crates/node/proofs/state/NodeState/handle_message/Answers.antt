use Rattle.std.proofs.Common.{arith}
use Rattle.node.proofs.EventKept.{message_stamps}
use Rattle.node.proofs.state.NodeState.handle_message.Goals as goal

pub send_off-requires : goal.send_off-requires
send_off-requires c =
    message_stamps c.args.machine.now c.args.self.now c.key-key.result c.args.message.now c.count_message.new.self c.receive.new.self c.args.sends.now c.receive.new.sends c.in_ok-course.course c.requires.node c.requires.unspent
    (let early = c.requires.early in let most = c.requires.node.numbers.budget.at_most in omega arith) c.requires.fits c.requires.first c.count_message.ensures c.requires.none_yet c.in_ok-course.ensures

pub end_traced-requires-clause-stamps : goal.end_traced-requires-clause-stamps
end_traced-requires-clause-stamps c =
    message_stamps c.args.machine.now c.args.self.now c.key-key.result c.args.message.now c.count_message.new.self c.receive.new.self c.args.sends.now c.receive.new.sends c.in_ok-course.course c.requires.node c.requires.unspent
    (let early = c.requires.early in let most = c.requires.node.numbers.budget.at_most in omega arith) c.requires.fits c.requires.first c.count_message.ensures c.requires.none_yet c.in_ok-course.ensures
