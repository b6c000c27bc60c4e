use Rattle.std.proofs.Common.{◌≡◌, ◌+◌, ◌<◌}
use Rattle.engine.proofs.Posting.{back_may_post, front_may_post, if_ok, inside_all, on_ok}
use Rattle.engine.proofs.parts.split_passes.Goals as goal

pub split_all-requires-clause-inside : goal.split_all-requires-clause-inside
split_all-requires-clause-inside c = inside_all c.args.until c.args.number c.args.at c.args.inboxes.now c.args.passes.now c.args.stations.now c.requires.inside.0 c.requires.inside.1 c.requires.post

pub returns-clause-front : goal.returns-clause-front
returns-clause-front c = on_ok c.split_all.result
    (front_may_post c.args.until c.args.number c.args.at c.args.inboxes.now c.args.passes.now c.args.stations.now c.requires.inside.0 c.requires.inside.1 c.requires.post c.split_all.new.passes)
    c.split_all.ensures.lower

pub returns-clause-back : goal.returns-clause-back
returns-clause-back c = if_ok c.split_all.result
    (λ uppers. back_may_post c.args.until c.args.number c.args.at c.args.inboxes.now c.args.passes.now c.args.stations.now c.requires.inside.0 c.requires.inside.1 c.requires.post uppers.items)
    c.split_all.ensures.upper
