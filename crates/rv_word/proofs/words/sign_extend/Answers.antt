use Rattle.std.proofs.Common.{◌≡◌, ◌-◌, ◌^◌, ◌/◌, arith}
use Rattle.std.proofs.lemmas.Nat.{one_shl, pow_pos}
use Rattle.rv_word.proofs.Masks.{ones_below, and-ones_below, sign_extended-low, sign_extended-high}
use Rattle.rv_word.proofs.words.sign_extend.Goals as goal

pub returns-then-kept-width : goal.returns-then-kept-width
returns-then-kept-width c =
    let w = c.args.width in
    let top = one_shl (c.args.width - 1) 32 (omega arith) in
    let kept = and-ones_below c.args.value c.args.width (32 - c.args.width) (omega arith) (omega arith) in
    sign_extended-low c.args.value c.args.width _ kept (rw top at c.if-kept-width.true)

pub returns-else-kept-width : goal.returns-else-kept-width
returns-else-kept-width c =
    let top = one_shl (c.args.width - 1) 32 (omega arith) in
    let kept = and-ones_below c.args.value c.args.width (32 - c.args.width) (omega arith) (omega arith) in
    let mask = ones_below c.args.width (omega arith) in
    let positive = pow_pos c.args.width in
    let e : 4294967295 - 4294967295 / 2 ^ (32 - c.args.width) ≡ 2 ^ 32 - 2 ^ c.args.width = omega arith in
    rw e (sign_extended-high c.args.value c.args.width _ kept (rw top at c.if-kept-width.false))
