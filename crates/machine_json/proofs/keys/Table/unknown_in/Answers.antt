use Rattle.std.proofs.Common.{Some, None, ap, ◌∙◌}
use Rattle.machine_json.proofs.TableLaws.{unknown_from_first}
use Rattle.machine_json.proofs.keys.Table.unknown_in.Goals as goal

pub returns-in-Some : goal.returns-in-Some
returns-in-Some c =
    ap Some c.as_str.ensures.value ∙ unknown_from_first c.args.self c.args.object.now.entries (Some c.in-Some.key.now) c.in-Some.ensures

pub returns-in-None : goal.returns-in-None
returns-in-None c = unknown_from_first c.args.self c.args.object.now.entries None c.in-None.ensures
