use Rattle.std.proofs.Common.{ℕ, ◌-◌, ◌+◌, length, replicate, List, ap, sym, ◌∙◌, arith}
use Rattle.priv_mem.specs.Memory.{overwritten}
use Rattle.start_memories.proofs.Overwrites.{segment_in_two_parts}
use Rattle.start_memories.proofs.private.lay.Goals as goal

pub returns-clause-value : goal.returns-clause-value
returns-clause-value c =
    let segment = c.args.segment.now in
    let zeros = segment.size - length segment.bytes in
    c.clear.ensures.value
    ∙ ap (λ (bytes : List ℕ). overwritten c.fill.new.memory (segment.at + length bytes) (replicate (segment.size - length bytes) 0)) c.get-bytes.ensures
    ∙ ap (λ (memory : List ℕ). overwritten memory (segment.at + length segment.bytes) (replicate zeros 0))
    (c.fill.ensures.value ∙ ap (λ (bytes : List ℕ). overwritten c.args.memory.now segment.at bytes) c.get-bytes.ensures)
    ∙ sym (segment_in_two_parts 0 segment.at c.args.memory.now segment (omega arith) (omega arith) c.requires.bytes (omega arith))
