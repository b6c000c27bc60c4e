use Rattle.std.proofs.Common.{◌∷◌, length, ap, arith}
use Rattle.std.proofs.lemmas.List.Sorted.{length_permutation}
use Rattle.event_queue.specs.Rising.{insert_of}
use Rattle.event_queue.proofs.RisingLaws.{IsPermutation-insert_of}
use Rattle.quantum.proofs.counted_queue.CountedQueue.insert_letter.Goals as goal

pub invariant_of-self : goal.invariant_of-self
invariant_of-self g c =
    let message = c.args.message in
    let queue = c.self.inside.queue in
    record {
      counted = omega (arith, c.self.invariant.counted, ap length c.in-Ok.ensures.ok, length_permutation (message ∷ queue) (insert_of message queue) (IsPermutation-insert_of message queue));
      rising = c.in-Ok.ensures.rising;
    }
