use Rattle.std.proofs.Common.{◌+◌, ◌≤◌, length, rules}
use Rattle.wt_real.proofs.Taken.{takes_more}
use Rattle.wt_real.proofs.files.read_whole.Goals as goal

pub returns-then-is_err-clause-stops : goal.returns-then-is_err-clause-stops
returns-then-is_err-clause-stops g c =
    let within : length c.loop-chunk.bytes.items + c.in-Ok.count ≤ c.args.limit + 1 = search rules in
    takes_more _ _ _ c.loop-chunk.bytes.items _ c.in-Ok.count _ c.loop-chunk.invariant.taken c.in-Ok.ensures.bytes.0 within
