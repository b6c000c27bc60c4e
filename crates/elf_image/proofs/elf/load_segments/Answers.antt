use Rattle.std.proofs.Common.{rules, arith}
use Rattle.std.proofs.lemmas.Grind.{common_steps}
use Rattle.elf_image.proofs.SizeLemmas.{all_fit, room_left}
use Rattle.elf_image.proofs.elf.load_segments.Goals as goal
use Rattle.elf_image.proofs.elf.load_segments.Goals.{then-is_loaded+in_ok-room+in_ok-load_segment+in_ok-push, else-is_loaded}

pub loop-header-preserved : goal.loop-header-preserved
loop-header-preserved c = elim c.if-is_loaded.branch [
  | then-is_loaded+in_ok-room+in_ok-load_segment+in_ok-push w ↦ record {
    value = grind (arith, common_steps);
    sizes = all_fit c.loop-header.segments.items c.if-is_loaded.segments.items w.in_ok-load_segment.field-0 (search rules) w.in_ok-load_segment.ensures.size c.loop-header.invariant.sizes;
    room = room_left c.loop-header.segments.items c.if-is_loaded.segments.items w.in_ok-load_segment.field-0 _ c.loop-header.room c.if-is_loaded.room (search rules) w.in_ok-load_segment.ensures.bytes (grind arith) c.loop-header.invariant.room;
  }
  | else-is_loaded w ↦ record { value = grind (arith, common_steps); sizes = grind (arith, common_steps); room = grind arith }
]
