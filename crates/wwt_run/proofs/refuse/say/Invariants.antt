use Rattle.std.proofs.Common.{take, flat_map}
use Rattle.wt_outside.proofs.WriteLemmas.{HasWritten}
use Rattle.wwt_run.proofs.LineLemmas.{text}
use Rattle.wwt_run.proofs.refuse.say.Given as goal

-- The parts so far are written, and nothing has failed.
abbrev pub invariant-loop-part : goal.invariant-loop-part
invariant-loop-part g l = HasWritten (flat_map text (take l.part-index l.parts)) g.E.Sink.view l.fn.err l.err
