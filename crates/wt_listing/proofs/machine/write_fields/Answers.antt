use Rattle.std.proofs.Common.{rules, arith}
use Rattle.wt_listing.specs.Listing.{line_in}
use Rattle.wt_outside.proofs.WriteLemmas.{writes_all, writes_handed_on, writes_until}
use Rattle.wt_listing.proofs.machine.write_fields.Goals as goal

pub returns-in_err-write_field_in : goal.returns-in_err-write_field_in
returns-in_err-write_field_in g c =
    writes_handed_on c.from_residual.result c.from_residual.ensures.1
    (writes_until (line_in c.args.version c.args.machine.now) c.args.fields.now c.loop-field.field-index _ (omega arith) (search rules)
    c.loop-field.invariant c.in_err-write_field_in.ensures)

pub returns : goal.returns
returns g c =
    writes_all (line_in c.args.version c.args.machine.now) c.args.fields.now c.loop-field.field-index (omega arith) c.loop-field.invariant
