use Rattle.std.proofs.Common.{◌≡◌, ℕ, List, Ok, Err, flat_map, ap}
use Rattle.std.specs.List.{enumerate_from}
use Rattle.wt_params.specs.declared.parts.MachineParts.{MachineParts}
use Rattle.wt_params.specs.declared.parts.Field.{Field}
use Rattle.wt_params.specs.Fields.{fields}
use Rattle.wt_listing.specs.Listing.{line_in, image_line_of, machine_text}
use Rattle.wt_outside.proofs.WriteLemmas.{writes_handed_on, writes_same, writes_stopped, writes_then, written_by, written_then}
use Rattle.wt_listing.proofs.machine.write_machine.Goals as goal

-- the lines of these fields
abbrev fields_text : ℕ → MachineParts → List Field → List ℕ
fields_text version machine list = flat_map (line_in version machine) list

pub returns-in_err-write_version : goal.returns-in_err-write_version
unfolding machine_text
returns-in_err-write_version g c =
    writes_handed_on c.from_residual.result c.from_residual.ensures.1
    (writes_stopped (flat_map image_line_of (enumerate_from 0 c.args.loaded.now.images))
    (writes_stopped (fields_text c.args.version c.args.machine.now fields) c.in_err-write_version.ensures))

pub returns-in_err-write_fields : goal.returns-in_err-write_fields
unfolding machine_text
returns-in_err-write_fields g c =
    let same : fields_text c.args.version c.parts.result c.all.result ≡ fields_text c.args.version c.args.machine.now fields =
    λ i. fields_text c.args.version (c.parts.ensures.value i) (c.all.ensures i) in
    writes_handed_on c.from_residual-in_err-write_fields.result c.from_residual-in_err-write_fields.ensures.1
    (writes_stopped (flat_map image_line_of (enumerate_from 0 c.args.loaded.now.images))
    (writes_then (written_by c.in_ok-write_version.ensures) (writes_same (Err c.in_err-write_fields.field-0.0) same c.in_err-write_fields.ensures)))

pub returns : goal.returns
unfolding machine_text
returns g c =
    let same : fields_text c.args.version c.parts.result c.all.result ≡ fields_text c.args.version c.args.machine.now fields =
    λ i. fields_text c.args.version (c.parts.ensures.value i) (c.all.ensures i) in
    writes_then
    (written_then (written_by c.in_ok-write_version.ensures)
    (written_by (writes_same (Ok c.in_ok-write_fields.field-0) same c.in_ok-write_fields.ensures)))
    (writes_same c.write_images.result (ap (λ images. flat_map image_line_of (enumerate_from 0 images)) c.images.ensures.value)
    c.write_images.ensures)
