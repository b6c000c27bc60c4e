-- Sums over the first nodes of a list.
use Rattle.std.proofs.Common.{ℕ, ◌*◌, ◌^◌, ◌≤◌}
use Rattle.wt_stats.specs.declared.numbers.Totals.{Totals}

-- each of the sums over so many nodes is small enough for one more
pub record AreSmall (count : ℕ) (totals : Totals) : Type 0 where
  pub steps : totals.steps ≤ count * 2 ^ 64
  pub messages : totals.messages ≤ count * 2 ^ 64
  pub done : totals.done ≤ count * 2 ^ 64
  pub hits : totals.hits ≤ count * 2 ^ 64
  pub misses : totals.misses ≤ count * 2 ^ 64
  pub upgrades : totals.upgrades ≤ count * 2 ^ 64
  pub replaced : totals.replaced ≤ count * 2 ^ 64
  pub checkins : totals.checkins ≤ count * 2 ^ 64
  pub invs : totals.invs ≤ count * 2 ^ 64
  pub traps : totals.traps ≤ count * 2 ^ 64
  pub trap_cycles : totals.trap_cycles ≤ count * 2 ^ 64
  pub barriers : totals.barriers ≤ count * 2 ^ 64
  pub stray : totals.stray ≤ count * 2 ^ 64
  pub sent : totals.sent ≤ count * 2 ^ 64
