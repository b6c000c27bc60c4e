use Rattle.std.proofs.Common.{◌≡◌, ◌<◌, ◌≤◌, ℕ, [], length, get_or}
use Rattle.std.specs.List.{All}
use Rattle.quantum.specs.Stations.{StationModel}
use Rattle.engine.specs.Quantum.{IsGood, given}
use Rattle.core_steps.proofs.delivery.deliver.Given as goal

-- the stations so far were given their inboxes, and the others are as they were
abbrev pub invariant-loop-place : goal.invariant-loop-place
invariant-loop-place g l = record {
  count : length l.stations ≡ length l.fn.stations;
  boxes : length l.inboxes ≡ length l.fn.inboxes;
  done : (k : ℕ) (d : StationModel) → k < l.place → get_or l.stations k d ≡ given (get_or l.fn.inboxes k []) (get_or l.fn.stations k d);
  left : (k : ℕ) (d : StationModel) → l.place ≤ k → get_or l.stations k d ≡ get_or l.fn.stations k d;
  none : (k : ℕ) → k < l.place → get_or l.inboxes k [] ≡ [];
  boxes_left : (k : ℕ) → l.place ≤ k → get_or l.inboxes k [] ≡ get_or l.fn.inboxes k [];
  good : All IsGood l.stations;
}
