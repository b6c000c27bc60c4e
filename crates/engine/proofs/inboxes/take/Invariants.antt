use Rattle.std.proofs.Common.{◌≡◌}
use Rattle.engine.specs.Quantum.{IsGood, given}
use Rattle.engine.specs.Inboxes.{with_taken}
use Rattle.engine.proofs.inboxes.take.Given as goal

-- what was taken so far was given to the station
abbrev pub invariant-loop : goal.invariant-loop
invariant-loop g l = record {
  can_next : (goal.iterator-loop g).can_next l.iterator';
  is_finite : (goal.iterator-loop g).is_finite l.iterator';
  pass : l.pass ≡ with_taken l.pass.view.taken l.fn.pass;
  given_it : l.station ≡ given l.pass.view.taken l.fn.station;
  good : IsGood l.station;
}
