use Rattle.std.proofs.Common.{◌≡◌, suc, ◌+◌, List, ◌++◌, ◌∷◌, [], length, append_assoc, ap, sym, ◌∙◌, subst, arith}
use Rattle.wt_proto.specs.declared.message.Stamped.{Stamped}
use Rattle.node.specs.declared.state.Send.{Send}
use Rattle.node.specs.React.{stamped, stamped_from}
use Rattle.node.specs.Sound.{AreSendable}
use Rattle.node.proofs.event.send_stamped.Goals as goal

pub loop-send-preserved : goal.loop-send-preserved
loop-send-preserved c =
    let machine = c.args.machine.now in
    let from = c.args.from in
    let sequence = c.loop-send.sequence in
    let send = c.in-Some.send in
    let rest = c.pop_first.new.self in
    let fit : AreSendable machine (send ∷ rest) = subst (AreSendable machine) c.in-Some.ensures c.loop-send.invariant.fit in
    let one : ◌≡◌ {A = Stamped} (record { time = c.stamp.result; to = send.to; from = from; sequence = sequence; msg = send.msg }) (stamped machine from sequence send) =
    ap (λ time. record { time = time; to = send.to; from = from; sequence = sequence; msg = send.msg }) c.stamp.ensures.value in
    record {
      fit = λ k d within. fit (suc k) d (omega arith);
      room = let room = c.loop-send.invariant.room in let longer = ap length c.in-Some.ensures in omega (arith, room, longer);
      all =
          ap (λ (ms : List Stamped). ms ++ stamped_from machine from (sequence + 1) rest) (c.in_ok-push.ensures.ok ∙ ap (λ (m : Stamped). c.loop-send.out ++ m ∷ []) one)
          ∙ append_assoc c.loop-send.out (stamped machine from sequence send ∷ []) (stamped_from machine from (sequence + 1) rest)
          ∙ ap (λ (sends : List Send). c.loop-send.out ++ stamped_from machine from sequence sends) (sym c.in-Some.ensures)
          ∙ c.loop-send.invariant.all;
    }
