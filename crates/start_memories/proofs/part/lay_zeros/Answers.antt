use Rattle.std.proofs.Common.{◌≡◌, ◌<◌, ◌+◌, ◌-◌, ℕ, length, replicate, ap, sym, ◌∙◌, arith, min, max}
use Rattle.std.specs.Prelude.{slice_range}
use Rattle.std.proofs.lemmas.List.{length-replicate}
use Rattle.std.proofs.lemmas.List.Edits.{length-between}
use Rattle.start_memories.proofs.PartLaws.{part_apart, part_written, zeros_cut}
use Rattle.start_memories.proofs.part.lay_zeros.Goals as goal

pub returns-then-low-high : goal.returns-then-low-high
returns-then-low-high c = λ size inside.
    let count = c.args.count in
    let low = c.max-low.result in
    let high = c.min-high.result in
    let first : low ≡ max c.args.at c.args.start = c.max-low.ensures in
    let last : high ≡ min (c.args.at + count) (c.args.start + length c.args.part.now) = c.min-high.ensures in
    let all : length (replicate {A = ℕ} count 0) ≡ count = length-replicate count 0 in
    let some : low < high = c.if-low-high.true in
    let room : length (slice_range c.args.part.now (low - c.args.start) (high - c.args.start)) ≡ high - c.args.start - (low - c.args.start) =
    length-between c.args.part.now (low - c.args.start) (high - c.args.start) (omega arith)
    in
    part_written size c.args.start c.args.at low high c.args.part.now c.clear.new.bytes (replicate count 0) (omega arith) first (omega arith) some
    (c.clear.ensures ∙ ap (λ (n : ℕ). replicate n 0) (omega arith) ∙ sym (zeros_cut count (low - c.args.at) (high - c.args.at) (omega arith) (omega arith)))

pub returns-else-low-high : goal.returns-else-low-high
returns-else-low-high c = λ size inside.
    let low = c.max-low.ensures in
    let high = c.min-high.ensures in
    let all : length (replicate {A = ℕ} c.args.count 0) ≡ c.args.count = length-replicate c.args.count 0 in
    part_apart size c.args.start c.args.at c.args.part.now (replicate c.args.count 0) (omega arith) (omega arith)
