use Rattle.std.proofs.Common.{◌∙◌, sym, ap, refl, arith}
use Rattle.std.specs.FinMap.{get, get-empty}
use Rattle.wt_params.specs.declared.parts.MachineParts.{MachineParts}
use Rattle.wt_proto.specs.declared.key.Key.{Key}
use Rattle.wt_proto.specs.declared.message.Msg.{Msg}
use Rattle.wt_proto.specs.KeyOrder.{key_cmp}
use Rattle.discrete_events.specs.Core.{Station}
use Rattle.node.specs.declared.state.NodeState.{NodeState}
use Rattle.node.specs.Laws.{NodeModel}
use Rattle.runs_tests.proofs.copies.breach_by_a_go.Goals as goal

pub hear-requires-clause-message : goal.hear-requires-clause-message
hear-requires-clause-message g c =
    let start = c.in_ok-second.ensures.start in
    let number = ap (λ (n : NodeModel). n.state.number) (sym c.node.ensures.value) ∙ sym c.number.ensures ∙ c.if-number-ne1.false in
    let until = ap (λ (s : Station NodeState Msg). s.until) start in
    let nodes = ap (λ (m : MachineParts). m.nodes) c.in_ok-second.ensures.machine in
    let two = c.requires.two in
    let key : Key = record { time = 50; to = 1; from = 0; sequence = 0 } in
    record {
      fits = record { to = omega arith; from = omega arith; msg = record { block = refl; «data» = tt } };
      to = sym number;
      away = λ same. omega (arith, same, number);
      late = omega arith;
      new = ap (λ (s : Station NodeState Msg). get s.pending key) start ∙ get-empty {X = Msg} key_cmp key;
    }
