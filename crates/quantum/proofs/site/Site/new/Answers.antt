use Rattle.quantum.proofs.Accepted.{started}
use Rattle.quantum.proofs.site.Site.new.Goals as goal

pub returns-clause-site : goal.returns-clause-site
returns-clause-site c = started c.args.machine.now c.args.loaded.now c.args.traced c.args.number (record { node = c.in_ok-node.node; queue = c.new-2.result }) c.in_ok-node.ensures.start c.in_ok-node.ensures.sound c.in_ok-node.ensures.whole c.new-2.ensures
