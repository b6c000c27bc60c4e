use Rattle.std.proofs.Common.{subst, sym, Some, OnOk}
use Rattle.discrete_events.specs.Simulation.{Step}
use Rattle.node.specs.State.{next_key}
use Rattle.quantum.specs.Sites.{Handles, IsTurn}
use Rattle.quantum.specs.Stations.{pending_of}
use Rattle.quantum.proofs.Runs.{event_due, site_at}
use Rattle.quantum.proofs.site.Site.handle.Goals as goal

pub handle_step-requires : goal.handle_step-requires
handle_step-requires g c =
    let site = c.args.self.now in
    record { due = λ whole. event_due site.node.machine c.args.until c.requires.budget site.node.state (pending_of site.queue) (next_key site.node.machine site.node.state) Step (subst (λ t. IsTurn c.args.until site (Some t)) c.in-Step.is c.requires.turn) (site_at c.args.until site c.requires.site) }

pub handle_first-requires-clause-turn : goal.handle_first-requires-clause-turn
handle_first-requires-clause-turn g c = subst (λ t. IsTurn c.args.until c.args.self.now (Some t)) c.in-Message.is c.requires.turn

pub returns-in-Message-clause-handled : goal.returns-in-Message-clause-handled
returns-in-Message-clause-handled g c =
    subst (λ t. OnOk c.handle_first.result (Handles c.args.until c.args.self.now c.handle_first.new.self t c.args.sends.now c.handle_first.new.sends c.args.steps.now c.handle_first.new.steps)) (sym c.in-Message.is) c.handle_first.ensures.handled
