use Rattle.std.proofs.Common.{◌≡◌, subst}
use Rattle.quantum.specs.Stations.{IsUnbroken, least_time_of}
use Rattle.quantum.proofs.station.Station.least.Goals as goal

pub returns-clause-value : goal.returns-clause-value
returns-clause-value g c =
    subst (λ s. IsUnbroken s → c.self.inside.due ≡ least_time_of s) c.self.view_is (λ unbroken. (c.self.invariant unbroken).due_is)
