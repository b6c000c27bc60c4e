use Rattle.std.proofs.Common.{ap, ◌∙◌}
use Rattle.std.specs.Result.{result_ok}
use Rattle.node.proofs.Memory.{fetch_is}
use Rattle.node.proofs.state.NodeState.fetch.Goals as goal

pub returns : goal.returns
returns c =
    let is = c.requires in
    c.ok.ensures.value ∙ ap result_ok c.load.ensures.value
    ∙ fetch_is c.args.self.now.private c.args.machine.now.private_bytes c.args.self.now.pc is.private is.numbers.private_bytes.pages is.aligned
