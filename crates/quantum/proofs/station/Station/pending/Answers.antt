use Rattle.std.proofs.Common.{◌≡◌, sym, ◌∙◌, subst}
use Rattle.std.specs.FinMap.{len}
use Rattle.quantum.specs.Stations.{StationModel}
use Rattle.quantum.proofs.Pending.{pending-len}
use Rattle.quantum.proofs.station.Station.pending.Goals as goal

pub returns : goal.returns
returns c = subst (λ (s : StationModel). c.len.result ≡ len s.pending) c.self.view_is (c.len.ensures.value ∙ sym (pending-len c.self.inside.site.queue c.len.ensures.rising))
