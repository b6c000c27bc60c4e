use Rattle.std.proofs.Common.{sym, ap, ◌∙◌, inr}
use Rattle.std.proofs.lemmas.Bool.{false≢true}
use Rattle.serde_json.specs.Read.{read}
use Rattle.machine_json.specs.Description.{data_fault}
use Rattle.machine_json.proofs.TextLaws.{data_of-text, data_of-none}
use Rattle.machine_json.proofs.reader.read_value.Goals as goal

pub returns-in_default-clause-fault : goal.returns-in_default-clause-fault
returns-in_default-clause-fault c =
    inr (ap data_fault (data_of-none c.args.bytes.now c.in_default.ensures.cases.0))

pub returns-in-Ok-from_str-clause-ok : goal.returns-in-Ok-from_str-clause-ok
returns-in-Ok-from_str-clause-ok c =
    data_of-text c.args.bytes.now c.in-Ok.ensures.cases.1 ∙ ap read (sym c.in-Ok.ensures.cases.0)
    ∙ c.in-Ok-from_str.ensures.ok

pub returns-else-is_memory-clause-fault : goal.returns-else-is_memory-clause-fault
returns-else-is_memory-clause-fault c =
    let refused = c.in-Err.ensures.err (λ memory. false≢true (sym c.if-is_memory.false ∙ c.is_memory.ensures.1 memory)) in
    inr (ap data_fault (data_of-text c.args.bytes.now c.in-Ok.ensures.cases.1 ∙ ap read (sym c.in-Ok.ensures.cases.0) ∙ refused))
