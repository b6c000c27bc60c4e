use Rattle.std.proofs.Common.{◌++◌, take, ap, sym, ◌∙◌}
use Rattle.std.specs.Prelude.{flat_map}
use Rattle.std.specs.Option.{option_copied}
use Rattle.std.proofs.lemmas.List.{flat_map_more}
use Rattle.wt_proto.specs.Messages.{StampedFits}
use Rattle.wt_trace.specs.EventLine.{send_text}
use Rattle.wt_trace.proofs.Walks.{take_next, all_taken, holds_at}
use Rattle.wt_trace.proofs.event_line.sends.Goals as goal

pub send-requires : goal.send-requires
send-requires c =
    holds_at (StampedFits c.args.machine.now) c.args.list.now c.loop-item.i c.in-Some.item.now (sym c.get.ensures ∙ ap option_copied c.in-Some.is) c.requires

pub loop-item-preserved : goal.loop-item-preserved
loop-item-preserved c =
    let text = send_text c.args.machine.now in
    c.in_ok-send.ensures
    ∙ ap (λ line. line ++ text c.in-Some.item.now) c.loop-item.invariant
    ∙ flat_map_more text c.args.line.now (take c.loop-item.i c.args.list.now) c.in-Some.item.now
    ∙ ap (λ list. c.args.line.now ++ flat_map text list) (sym (take_next c.args.list.now c.loop-item.i c.in-Some.item.now (sym c.get.ensures ∙ ap option_copied c.in-Some.is)))

pub returns : goal.returns
returns c =
    c.loop-item.invariant
    ∙ ap (λ list. c.args.line.now ++ flat_map (send_text c.args.machine.now) list) (all_taken c.args.list.now c.loop-item.i (sym c.get.ensures ∙ ap option_copied c.in_default.is))
