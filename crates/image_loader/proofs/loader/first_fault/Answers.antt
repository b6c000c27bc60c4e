use Rattle.std.proofs.Common.{◌≡◌, ℕ, ◌+◌, ◌*◌, ◌<◌, List, ◌∷◌, None, length, drop, take, get_or, sym, ap, ◌∙◌, subst, arith}
use Rattle.std.proofs.lemmas.List.{drop_more}
use Rattle.std.proofs.lemmas.List.Elements.{All-more, All-same}
use Rattle.std.proofs.Math.Seq.{take-length}
use Rattle.std.specs.Option.{option_or}
use Rattle.wt_params.specs.declared.parts.MachineParts.{MachineParts}
use Rattle.elf_image.specs.declared.image.Image.{Image}
use Rattle.image_loader.specs.Faults.{load_fault, image_fault}
use Rattle.image_loader.specs.Loading.{IsProgram}
use Rattle.image_loader.proofs.loader.first_fault.Goals as goal

-- an image without a fault is passed over
passed : (machine : MachineParts) (n : ℕ) (images : List Image) (image : Image) → n < length images →
    image ≡ get_or images n image → image_fault machine n image ≡ None →
    load_fault machine n (drop n images) ≡ load_fault machine (n + 1) (drop (n + 1) images)
passed machine n images image within at none =
    ap (load_fault machine n) (drop_more images n image within)
    ∙ ap (λ x. load_fault machine n (x ∷ drop (n + 1) images)) (sym at)
    ∙ ap (λ fault. option_or fault (load_fault machine (n + 1) (drop (n + 1) images))) none

pub loop-number-preserved : goal.loop-number-preserved
loop-number-preserved c =
    let machine = c.args.machine.now in
    let n = c.loop-number.number in
    let image = c.index-images-number.result in
    let within : n < length c.args.images.now = omega arith in
    record {
      rest = c.loop-number.invariant.rest ∙ passed machine n c.args.images.now image within c.index-images-number.is (sym c.image_fault.ensures.value ∙ (cc));
      programs = All-more (IsProgram c.args.machine.now.private_bytes (c.args.machine.now.blocks * c.args.machine.now.block_bytes)) c.args.images.now n image within c.loop-number.invariant.programs (subst (IsProgram c.args.machine.now.private_bytes (c.args.machine.now.blocks * c.args.machine.now.block_bytes)) c.index-images-number.is c.in_default.ensures.program);
    }

pub returns-clause-programs : goal.returns-clause-programs
returns-clause-programs c =
    let end : c.loop-number.number ≡ length c.args.images.now = omega arith in
    All-same (IsProgram c.args.machine.now.private_bytes (c.args.machine.now.blocks * c.args.machine.now.block_bytes)) _ _ (sym (ap (λ k. take k c.args.images.now) end ∙ take-length c.args.images.now)) c.loop-number.invariant.programs
