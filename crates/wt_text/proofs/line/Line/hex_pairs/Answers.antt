use Rattle.std.proofs.Common.{◌++◌, ap, sym, ◌∙◌, arith}
use Rattle.std.proofs.lemmas.List.{append-nil}
use Rattle.wt_text.proofs.Pairs.{pairs_more, pairs_nothing}
use Rattle.wt_text.proofs.line.Line.hex_pairs.Goals as goal

pub loop-byte-init : goal.loop-byte-init
loop-byte-init c = sym (ap (λ t. c.args.self.now ++ t) pairs_nothing ∙ append-nil c.args.self.now)

pub loop-byte-preserved : goal.loop-byte-preserved
loop-byte-preserved c =
    pairs_more c.args.bytes.now c.args.self.now c.loop-byte.self c.hex_pair.new.self c.loop-byte.byte-index (omega arith) c.loop-byte.invariant c.in_ok-hex_pair.ensures
