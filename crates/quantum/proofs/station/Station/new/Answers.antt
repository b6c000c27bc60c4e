use Rattle.std.proofs.Common.{false, refl, sym, ap, ◌∙◌, subst}
use Rattle.event_queue.specs.Rising.{IsRising}
use Rattle.quantum.specs.Sites.{first_time_of}
use Rattle.quantum.specs.Stations.{pending_of}
use Rattle.quantum.proofs.Accepted.{site_live}
use Rattle.quantum.proofs.Pending.{nothing_waits}
use Rattle.quantum.proofs.station.Station.new.Goals as goal

pub invariant_of-result : goal.invariant_of-result
invariant_of-result c = λ unbroken. record {
  rising = subst IsRising (sym c.in_ok-site.ensures.queue) refl;
  live = site_live 0 c.in_ok-site.site false c.in_ok-site.ensures.site;
  due_is = c.least-due.ensures 0 c.in_ok-site.ensures.site;
}

pub returns-clause-live : goal.returns-clause-live
returns-clause-live c = site_live 0 c.in_ok-site.site false c.in_ok-site.ensures.site

pub returns-clause-start : goal.returns-clause-start
returns-clause-start c =
    let waits = ap pending_of c.in_ok-site.ensures.queue ∙ nothing_waits in
    λ i. record { node = c.in_ok-site.ensures.start i; pending = waits i; until = 0 }

pub least-due-requires-clause-first : goal.least-due-requires-clause-first
least-due-requires-clause-first c = sym (ap first_time_of c.in_ok-site.ensures.queue)

pub least-due-requires-clause-rising : goal.least-due-requires-clause-rising
least-due-requires-clause-rising c = subst IsRising (sym c.in_ok-site.ensures.queue) refl
