use Rattle.std.proofs.Common.{◌≡◌, ◌≤◌, ℕ, List}
use Rattle.coherence.specs.Loads.{known_before}
use Rattle.coherence.proofs.loads.last_word.Given as goal

-- from here on the node takes no step
abbrev pub invariant-loop-i : goal.invariant-loop-i
invariant-loop-i l = record {
  within : l.i ≤ l.place;
  word : (start : List ℕ) → (known_before start l.log l.place).word l.node ≡ (known_before start l.log l.i).word l.node;
}

abbrev pub decreases-loop-i : goal.decreases-loop-i
decreases-loop-i l = l.i
