-- The fields of a machine, in the two parts in which a description tells them.
use Rattle.std.proofs.Common.{◌≡◌, List, take, drop, ap}
use Rattle.wt_params.specs.declared.parts.Field.{Field}
use Rattle.wt_params.specs.Fields.{fields}
use Rattle.serde_json.specs.Data.{Data}
use Rattle.machine_json.specs.Description.{own_fault, cost_fault}
use Rattle.machine_json.specs.Numbers.{parts_of, fields_fault}

module _ (description : Data) (all : List Field) (is : all ≡ fields) where
  pub own_part : fields_fault description (parts_of description) (take 14 all) ≡ own_fault description
  unfolding own_fault
  own_part = ap (λ fs. fields_fault description (parts_of description) (take 14 fs)) is

  pub cost_part : fields_fault description (parts_of description) (take 9 (drop 14 all)) ≡ cost_fault description
  unfolding cost_fault
  cost_part = ap (λ fs. fields_fault description (parts_of description) (take 9 (drop 14 fs))) is
