use Rattle.std.proofs.Common.{◌≡◌, ◌≤◌, ◌+◌, replicate, take, List, ℕ, ap, ◌∙◌, arith}
use Rattle.std.proofs.lemmas.List.{take-replicate}
use Rattle.priv_mem.specs.Memory.{overwritten}
use Rattle.start_memories.proofs.Overwrites.{overwritten_with_zeros}
use Rattle.start_memories.proofs.private.clear.Goals as goal

pub loop-done-preserved : goal.loop-done-preserved
loop-done-preserved c =
    let done = c.loop-done.done in
    let piece = c.min-piece.result in
    let m = c.min-piece.ensures in
    let within : done + piece ≤ c.args.count = omega (arith, c.loop-done.invariant.within) in
    let zeros : take piece (replicate {A = ℕ} 128 0) ≡ replicate piece 0 = take-replicate piece 128 0 (omega arith) in
    record {
      within = within;
      value =
          c.fill.ensures.value
          ∙ ap (λ (bytes : List ℕ). overwritten c.loop-done.memory (c.args.at + done) bytes) zeros
          ∙ ap (λ (memory : List ℕ). overwritten memory (c.args.at + done) (replicate piece 0)) c.loop-done.invariant.value
          ∙ overwritten_with_zeros c.args.memory.now c.args.at done piece (omega (arith, c.requires.inside));
      size = c.fill.ensures.size ∙ c.loop-done.invariant.size;
    }
