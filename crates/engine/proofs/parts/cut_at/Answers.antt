use Rattle.std.proofs.Common.{◌≡◌, ◌+◌, ◌-◌, ◌≤◌, refl, arith}
use Rattle.engine.proofs.Halves.{left_is_enough, right_is_enough}
use Rattle.engine.proofs.parts.cut_at.Goals as goal

pub returns-clause-left : goal.returns-clause-left
returns-clause-left c = let s = c.requires.sides in left_is_enough c.args.parts c.args.stations c.args.left _ c.requires.enough refl (omega arith)

pub returns-clause-right : goal.returns-clause-right
returns-clause-right c =
    let s = c.requires.sides in
    right_is_enough c.args.parts c.args.stations c.args.left _ c.requires.enough refl (omega arith)
