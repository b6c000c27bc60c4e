use Rattle.std.proofs.Common.{◌≡◌, List, ◌++◌, refl, sym, subst, Result, Ok, Err, OnOk}
use Rattle.wt_params.specs.declared.memory.NoMemory.{NoMemory}
use Rattle.wt_proto.specs.declared.message.Stamped.{Stamped}
use Rattle.discrete_events.specs.Simulation.{Arrival}
use Rattle.node.specs.Laws.{MayHandle}
use Rattle.node.specs.React.{react, message_under_key}
use Rattle.wt_proto.specs.Messages.{key_of}
use Rattle.quantum.specs.declared.site.Turn.TheVariants as turns
use Rattle.quantum.specs.Sites.{Handles}
use Rattle.quantum.specs.Stations.{pending_of}
use Rattle.quantum.proofs.Runs.{event_due, site_at, first_is, handled_message}
use Rattle.quantum.proofs.site.Site.handle_first.Goals as goal

pub handle_message-result-requires : goal.handle_message-result-requires
handle_message-result-requires g c =
    let site = c.args.self.now in
    let message = c.in-Some.letter in
    record {
      due = subst (λ (m : Stamped). MayHandle site.node (key_of m) (Arrival (message_under_key m))) (sym c.message.ensures)
          (λ whole. event_due site.node.machine c.args.until c.requires.budget site.node.state (pending_of site.queue) (key_of message) (Arrival (message_under_key message))
          (first_is c.args.until site turns.Message message c.take.new.self refl c.requires.turn c.in-Some.ensures.value) (site_at c.args.until site c.requires.site));
    }

pub returns-in-Some-clause-handled : goal.returns-in-Some-clause-handled
returns-in-Some-clause-handled g c =
    subst (λ (sends : List Stamped). OnOk c.handle_message-result.result (Handles c.args.until c.args.self.now (record { node = c.handle_message-result.new.self; queue = c.take.new.self }) turns.Message c.args.sends.now sends c.args.steps.now c.take.new.steps)) (sym c.give_back.ensures)
    (by c.handle_message-result.result c.message.result.now c.message.ensures c.handle_message-result.ensures.node c.handle_message-result.ensures.sends)
  where
    by : (result : Result (Unit {0}) NoMemory) (m : Stamped) → m ≡ c.in-Some.letter →
        OnOk result (c.handle_message-result.new.self ≡ record (c.args.self.now.node) { state = (react c.args.self.now.node.machine c.args.self.now.node.state (Arrival (message_under_key m))).0 }) →
        OnOk result (c.handle_message-result.new.out ≡ c.args.sends.now ++ (react c.args.self.now.node.machine c.args.self.now.node.state (Arrival (message_under_key m))).1) →
        OnOk result (Handles c.args.until c.args.self.now (record { node = c.handle_message-result.new.self; queue = c.take.new.self }) turns.Message c.args.sends.now c.handle_message-result.new.out c.args.steps.now c.take.new.steps)
    by (Ok done) m same node sends =
        handled_message c.args.until c.args.self.now (record { node = c.handle_message-result.new.self; queue = c.take.new.self }) turns.Message c.in-Some.letter c.args.sends.now c.handle_message-result.new.out c.args.steps.now c.take.new.steps
        refl c.requires.turn c.requires.rising c.in-Some.ensures.value c.in-Some.ensures.rising
        (subst (λ (n : Stamped). c.handle_message-result.new.self ≡ record (c.args.self.now.node) { state = (react c.args.self.now.node.machine c.args.self.now.node.state (Arrival (message_under_key n))).0 }) same node)
        (subst (λ (n : Stamped). c.handle_message-result.new.out ≡ c.args.sends.now ++ (react c.args.self.now.node.machine c.args.self.now.node.state (Arrival (message_under_key n))).1) same sends) c.in-Some.ensures.step
    by (Err refused) m same node sends = tt
