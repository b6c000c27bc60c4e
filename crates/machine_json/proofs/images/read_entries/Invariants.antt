use Rattle.std.proofs.Common.{◌≡◌, drop, length, All}
use Rattle.serde_json.specs.View.{items_view}
use Rattle.machine_json.specs.Images.{images_from, IsPlaced}
use Rattle.machine_json.proofs.ImageLaws.{after}
use Rattle.machine_json.proofs.images.read_entries.Given as goal

-- the images of the entries so far come before those of the rest
abbrev pub invariant-loop-number : goal.invariant-loop-number
invariant-loop-number l = record {
  rest : images_from 0 (items_view l.entries) ≡ after l.images.items (images_from l.number (items_view (drop l.number l.entries)));
  count : length l.images.items ≡ l.number;
  placed : All IsPlaced l.images.items;
}
