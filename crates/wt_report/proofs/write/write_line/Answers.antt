use Rattle.std.proofs.Common.{subst}
use Rattle.wt_outside.specs.Growth.{Grows}
use Rattle.wt_outside.proofs.WriteLemmas.{writes_done}
use Rattle.wt_report.proofs.write.write_line.Goals as goal

pub returns-in-Ok : goal.returns-in-Ok
returns-in-Ok g c =
    let written = g.K.Sink.view.written in
    writes_done (record {
      grew = subst (λ l. Grows (written c.args.out.now) (written c.write.new.self) l) c.as_bytes.ensures.value c.in-Ok.ensures.ok;
      steady = c.in-Ok.ensures.steady;
    })
