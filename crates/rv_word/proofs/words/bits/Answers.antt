use Rattle.std.proofs.Common.{◌+◌, ◌-◌, ◌^◌, ◌/◌, arith}
use Rattle.std.proofs.lemmas.Nat.{mod_below, pow_pos}
use Rattle.rv_word.proofs.Masks.{and-ones_below}
use Rattle.rv_word.proofs.words.bits.Goals as goal

pub returns-clause-value : goal.returns-clause-value
returns-clause-value c =
    and-ones_below (c.args.word / 2 ^ c.args.low) (c.args.high - c.args.low + 1) _ (omega arith) (omega arith)

pub returns-clause-range : goal.returns-clause-range
returns-clause-range c =
    rw (and-ones_below (c.args.word / 2 ^ c.args.low) (c.args.high - c.args.low + 1) (31 - (c.args.high - c.args.low)) (omega arith) (omega arith))
    (mod_below (c.args.word / 2 ^ c.args.low) (2 ^ (c.args.high - c.args.low + 1)) (pow_pos (c.args.high - c.args.low + 1)))
