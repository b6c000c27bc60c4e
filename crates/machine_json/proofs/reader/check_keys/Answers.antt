use Rattle.std.proofs.Common.{Some, sym, ap, ◌∙◌, inr}
use Rattle.std.specs.Option.{option_map}
use Rattle.serde_json.specs.Find.{as_object}
use Rattle.serde_json.specs.View.{view}
use Rattle.machine_json.specs.Table.{table_of}
use Rattle.machine_json.specs.declared.fault.MachineFault.TheVariants.{Unknown}
use Rattle.machine_json.specs.Description.{keys_fault, keys_in_fault}
use Rattle.machine_json.proofs.reader.check_keys.Goals as goal

pub returns-in_default-clause-fault : goal.returns-in_default-clause-fault
unfolding keys_fault
returns-in_default-clause-fault c =
    inr (ap (keys_in_fault (table_of (view c.args.description.now))) (sym c.in_default.ensures))

pub returns-in_ok-key-in-Some-unknown_in-clause-fault : goal.returns-in_ok-key-in-Some-unknown_in-clause-fault
unfolding keys_fault
returns-in_ok-key-in-Some-unknown_in-clause-fault c =
    inr (
    ap (λ table. keys_in_fault table (as_object (view c.args.description.now))) (sym c.table_of.ensures) ∙ ap (keys_in_fault c.table_of.result) (sym c.in-Some.ensures)
    ∙ ap (option_map Unknown) (sym c.in-Some-unknown_in.ensures)
    ∙ ap (λ key. Some (Unknown key)) (sym c.in_ok-key-in-Some-unknown_in.ensures)
    )

pub returns-in-None-clause-ok : goal.returns-in-None-clause-ok
unfolding keys_fault
returns-in-None-clause-ok c =
    ap (λ table. keys_in_fault table (as_object (view c.args.description.now))) (sym c.table_of.ensures) ∙ ap (keys_in_fault c.table_of.result) (sym c.in-Some.ensures)
    ∙ ap (option_map Unknown) (sym c.in-None.ensures)
