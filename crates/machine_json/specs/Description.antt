-- What a text describes, or the first fault that refuses it. Own, over `serde_json`'s definition of what it reads.
use Rattle.std.specs.Prelude.{◌≡◌, ◌⊎◌, ℕ, length, All, if◌then◌else◌, List, Option, Some, None, option_map, Result, Ok, Err}
use Rattle.std.specs.Option.{option_or}
use Rattle.std.specs.Str.{is_utf8}
use Rattle.serde_json.specs.Data.{Data, Members}
use Rattle.serde_json.specs.Find.{as_object}
use Rattle.serde_json.specs.Read.{read}
use Rattle.machine_json.specs.declared.keys.Table.{Table}
use Rattle.machine_json.specs.declared.description.Description.{Description}
use Rattle.machine_json.specs.declared.fault.MachineFault.{MachineFault}
use Rattle.machine_json.specs.declared.fault.MachineFault.TheVariants.{Syntax, NotObject, Unknown}
use Rattle.machine_json.specs.Answers.{◌>>◌, ◌>>=◌}
use Rattle.machine_json.specs.Table.{unknown_in, own_fields, cost_fields, table_of, version_of}
use Rattle.machine_json.specs.Numbers.{parts_of, version_fault, few_nodes_fault, fields_fault, costs_fault}
use Rattle.machine_json.specs.Images.{images_of, IsPlaced}

-- what a text says, where it is UTF-8 and JSON
unfoldable pub data_of : List ℕ → Option Data
data_of bytes = if is_utf8 bytes then read bytes else None

-- a text that says nothing
abbrev pub data_fault : Option Data → Option MachineFault
data_fault None = Some Syntax
data_fault (Some description) = None

-- a description is an object of nothing but what stands in the table
abbrev pub keys_in_fault : Table → Option Members → Option MachineFault
keys_in_fault table None = Some NotObject
keys_in_fault table (Some members) = option_map Unknown (unknown_in table members)

unfoldable pub keys_fault : Data → Option MachineFault
keys_fault description = keys_in_fault (table_of description) (as_object description)

-- the numbers of a description, in the order in which they are tested: the version, its own, and its costs
unfoldable pub own_fault : Data → Option MachineFault
own_fault description = fields_fault description (parts_of description) own_fields

unfoldable pub cost_fault : Data → Option MachineFault
cost_fault description = fields_fault description (parts_of description) cost_fields

-- all of these numbers, first that nodes are few enough for the version, and with the object of costs between
unfoldable pub numbers_fault : Data → Option MachineFault
numbers_fault description =
    option_or (few_nodes_fault description)
    (option_or (own_fault description) (option_or (costs_fault description) (cost_fault description)))

-- what some data describe
unfoldable pub description_in : Data → Result Description MachineFault
description_in description = do
  keys_fault description
  version_fault description
  numbers_fault description
  images ← images_of (parts_of description).nodes description
  Ok (record { machine = parts_of description; images = images; version = version_of description })

abbrev pub description_or_fault : Option Data → Result Description MachineFault
description_or_fault None = Err Syntax
description_or_fault (Some description) = description_in description

-- what a text describes
abbrev pub description_of : List ℕ → Result Description MachineFault
description_of bytes = description_or_fault (data_of bytes)

-- one image for all nodes or one for each, and each for a place where an instruction can stand
pub record HasImages (description : Description) : Type 0 where
  pub count : (length description.images ≡ 1) ⊎ (length description.images ≡ description.machine.nodes)
  pub placed : All IsPlaced description.images
