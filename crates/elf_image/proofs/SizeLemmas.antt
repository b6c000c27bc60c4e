-- How many bytes some segments have, and one more of them.
use Rattle.std.proofs.Common.{◌≡◌, ℕ, ◌+◌, ◌-◌, ◌≤◌, ap, List, [], ◌∷◌, ◌++◌, length, ◌∙◌, arith}
use Rattle.std.specs.Prelude.{All}
use Rattle.std.proofs.lemmas.List.Elements.{All-push, All-same}
use Rattle.std.proofs.lemmas.List.Sums.{sum_by-append}
use Rattle.elf_image.specs.declared.image.Segment.{Segment}
use Rattle.elf_image.specs.Sizes.{FitsItsSize, bytes_in, most_bytes}

bytes_in_more : (segments : List Segment) (segment : Segment) → bytes_in (segments ++ segment ∷ []) ≡ bytes_in segments + length segment.bytes
bytes_in_more segments segment =
    sum_by-append (λ (s : Segment). length s.bytes) segments (segment ∷ []) ∙ omega arith

-- what is left of the room, once a segment has taken its bytes
pub room_left : (before after : List Segment) (segment : Segment) (bytes room left : ℕ) → after ≡ before ++ segment ∷ [] → length segment.bytes ≡ bytes → (bytes ≤ room) × (left ≡ room - bytes) → bytes_in before + room ≡ most_bytes → bytes_in after + left ≡ most_bytes
room_left before after segment bytes room left is holds rest so_far =
    let more = ap bytes_in is ∙ bytes_in_more before segment in omega (arith, more, holds, rest.0, rest.1, so_far)

-- each has room for its bytes, as those before had
pub all_fit : (before after : List Segment) (segment : Segment) → after ≡ before ++ segment ∷ [] → FitsItsSize segment → All FitsItsSize before → All FitsItsSize after
all_fit before after segment is fits so_far =
    All-same FitsItsSize after (before ++ segment ∷ []) is (All-push FitsItsSize before segment so_far fits)
