use Rattle.std.proofs.Common.{arith}
use Rattle.target_cache.proofs.KeptLaws.{kept_empty, empty_is}
use Rattle.target_cache.proofs.cache.Cache.new.Goals as goal

pub invariant_of-result : goal.invariant_of-result
invariant_of-result c =
    rw (c.in_ok-tags.ensures {u = tt}, c.in_ok-sets.ensures {u = tt}, c.blocks-2.ensures.value, c.sets.ensures.value)
    (kept_empty c.args.machine.now c.ways-ways.result c.block_bytes-size.result (omega (arith, c.sets.ensures.range.at_least, c.sets.ensures.value)) (omega (arith, c.ways-ways.ensures.value)) c.block_bytes-size.ensures.value)

pub returns-clause-empty : goal.returns-clause-empty
returns-clause-empty c =
    rw (c.in_ok-sets.ensures {u = tt}, c.sets.ensures.value) (empty_is c.args.machine.now c.ways-ways.result c.block_bytes-size.result)
