use Rattle.wt_real.proofs.Written.{written_more}
use Rattle.wt_real.proofs.streams.write_whole.Goals as goal

pub loop-rest-preserved : goal.loop-rest-preserved
loop-rest-preserved g c = record {
  written = written_more _ _ _ c.args.bytes.now c.loop-rest.rest.now c.in-Ok.count c.in-Ok.ensures.bound c.loop-rest.invariant.written c.in-Ok.ensures.bytes;
  no_fault = c.loop-rest.invariant.no_fault;
}
