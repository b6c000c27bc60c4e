use Rattle.std.proofs.Common.{◌≡◌, ◌++◌, take}
use Rattle.wt_text.specs.Text.{hex_pairs_of}
use Rattle.wt_text.proofs.line.Line.hex_pairs.Given as goal

abbrev pub invariant-loop-byte : goal.invariant-loop-byte
invariant-loop-byte l = l.self ≡ l.fn.self ++ hex_pairs_of (take l.byte-index l.bytes)
