use Rattle.std.proofs.Common.{◌≡◌, ℕ, ◌<◌, ◌≤◌, length, get_or}
use Rattle.quantum.specs.Stations.{StationModel}
use Rattle.inbox.specs.Passes.{PassModel}
use Rattle.engine.specs.Inboxes.{HasTaken}
use Rattle.engine.proofs.inboxes.take_all.Given as goal

-- the inboxes so far were taken empty, and the others are as they were
abbrev pub invariant-loop-place : goal.invariant-loop-place
invariant-loop-place g l = record {
  passes_count : length l.passes ≡ length l.fn.passes;
  count : length l.stations ≡ length l.fn.stations;
  done : (k : ℕ) (pass : PassModel) (station : StationModel) → k < l.place → HasTaken (get_or l.fn.passes k pass) (get_or l.passes k pass) (get_or l.fn.stations k station) (get_or l.stations k station);
  left : (k : ℕ) (pass : PassModel) (station : StationModel) → l.place ≤ k → (get_or l.passes k pass ≡ get_or l.fn.passes k pass) × (get_or l.stations k station ≡ get_or l.fn.stations k station);
}
