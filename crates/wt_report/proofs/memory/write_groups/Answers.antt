use Rattle.std.proofs.Common.{◌≡◌, ◌+◌, ◌*◌, ◌/◌, ◌<◌, Ok, Err, length, ap, arith}
use Rattle.std.specs.List.{range_with_len}
use Rattle.std.proofs.lemmas.List.FromFn.{length-range_with_len}
use Rattle.wt_report.specs.Memory.{group_text, group_text_at}
use Rattle.wt_report.proofs.TextLemmas.{number_at}
use Rattle.wt_outside.proofs.WriteLemmas.{writes_all, writes_handed_on, writes_same, writes_until, written_more}
use Rattle.wt_report.proofs.memory.write_groups.Goals as goal

pub returns-in_err-write_group : goal.returns-in_err-write_group
returns-in_err-write_group g c =
    let name = c.args.memory.now in
    let address = c.args.address in
    let bytes = c.args.bytes.now in
    let n = length bytes / 16 in
    let i = c.loop-number.number in
    let within : i < n = omega arith in
    let same : group_text name (address + 16 * i) c.group.result.now ≡ group_text_at name address bytes i =
    ap (group_text name (address + 16 * i)) c.group.ensures in
    writes_handed_on c.from_residual.result c.from_residual.ensures.1
    (writes_until (group_text_at name address bytes) (range_with_len 0 n) i i (omega (arith, length-range_with_len 0 n))
    (number_at n i within) c.loop-number.invariant (writes_same (Err c.in_err-write_group.field-0.0) same c.in_err-write_group.ensures))

pub loop-number-preserved : goal.loop-number-preserved
loop-number-preserved g c =
    let name = c.args.memory.now in
    let address = c.args.address in
    let bytes = c.args.bytes.now in
    let n = length bytes / 16 in
    let i = c.loop-number.number in
    let within : i < n = omega arith in
    let same : group_text name (address + 16 * i) c.group.result.now ≡ group_text_at name address bytes i =
    ap (group_text name (address + 16 * i)) c.group.ensures in
    written_more (group_text_at name address bytes) (range_with_len 0 n) i i (omega (arith, length-range_with_len 0 n))
    (number_at n i within) c.loop-number.invariant (writes_same (Ok c.in_ok-write_group.field-0) same c.in_ok-write_group.ensures)

pub returns : goal.returns
returns g c =
    let bytes = c.args.bytes.now in
    let n = length bytes / 16 in
    writes_all (group_text_at c.args.memory.now c.args.address bytes) (range_with_len 0 n) c.loop-number.number
    (omega (arith, length-range_with_len 0 n)) c.loop-number.invariant
