use Rattle.target_cache.proofs.FlatLaws.{empty_is}
use Rattle.target_cache.proofs.line_set.LineSet.new.Goals as goal

pub returns : goal.returns
returns c =
    empty_is c.args.size c.in_ok-heads.heads.cap c.args.ways c.in_ok-heads.heads.items c.in_ok-bytes.bytes.items
    (c.in_ok-heads.ensures.items) (c.in_ok-heads.ensures.exact)
