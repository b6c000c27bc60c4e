use Rattle.std.proofs.Common.{◌≡◌, ◌<◌, ◌∷◌, ◌++◌, [], List, length, get_or, set, map, take, ap, sym, ◌∙◌, add-one, arith}
use Rattle.std.proofs.Math.Seq.{take-suc}
use Rattle.inbox.specs.Passes.{PassModel}
use Rattle.engine.specs.Inboxes.{lower_part, upper_part}
use Rattle.engine.proofs.Posting.{map_more}
use Rattle.engine.proofs.Runs.{mapped_more, unmapped_at}
use Rattle.engine.proofs.inboxes.split_all.Goals as goal

pub loop-place-preserved : goal.loop-place-preserved
loop-place-preserved c =
    let i = c.loop-place.place in
    let xs = c.args.passes.now in
    let d = c.index-passes-place.result in
    let below : i < length xs = omega arith in
    let old : get_or c.loop-place.passes i d ≡ get_or xs i d = ap (λ (ps : List PassModel). get_or ps i d) c.loop-place.invariant.lower ∙ unmapped_at (lower_part c.args.mid) i xs d below in
    let low : c.split_off.new.self ≡ lower_part c.args.mid (get_or xs i d) = c.split_off.ensures.lower ∙ ap (lower_part c.args.mid) old in
    let high : c.split_off.result ≡ upper_part c.args.mid (get_or xs i d) = c.split_off.ensures.upper ∙ ap (upper_part c.args.mid) old in
    rw add-one (record {
      lower = (λ j. set (c.loop-place.invariant.lower j) i (low j)) ∙ mapped_more (lower_part c.args.mid) i xs d below;
      upper = c.in_ok-push.ensures.items ∙ (λ j. c.loop-place.invariant.upper j ++ high j ∷ []) ∙ sym (map_more (upper_part c.args.mid) (take i xs) (get_or xs i d)) ∙ ap (map (upper_part c.args.mid)) (sym (take-suc xs i d below));
    })
