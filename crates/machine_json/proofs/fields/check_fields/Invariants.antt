use Rattle.std.proofs.Common.{◌≡◌, drop}
use Rattle.serde_json.specs.View.{view}
use Rattle.wt_params.specs.Fields.{fault_among}
use Rattle.machine_json.specs.Numbers.{parts_of, fields_fault, IsFirstAmong}
use Rattle.machine_json.proofs.fields.check_fields.Given as goal

-- the fields so far have no fault, and the machine's numbers in them are in their ranges
abbrev pub invariant-loop-field : goal.invariant-loop-field
invariant-loop-field l =
    let parts = parts_of (view l.description) in
    record {
      rest : fields_fault (view l.description) parts l.fields ≡ fields_fault (view l.description) parts (drop l.field-index l.fields);
      in_range : fault_among parts l.fields ≡ fault_among parts (drop l.field-index l.fields);
      first : IsFirstAmong parts (drop l.field-index l.fields);
    }
