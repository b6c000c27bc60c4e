use Rattle.std.proofs.Common.{◌≡◌, ◌++◌, ◌+◌, List, OnOk, drop, length, take, ap, ◌∙◌, rules, arith}
use Rattle.inbox.specs.Passes.{PassModel}
use Rattle.engine.specs.Inboxes.{HavePosted}
use Rattle.engine.proofs.Posting.{all_have_posted, lowers_are_of, uppers_are_lent, uppers_count, written_back}
use Rattle.engine.proofs.parts.+fn-run_parts-join_mut+arg2+fn-run_parts-join_mut+arg3+run_parts.Goals as goal

pub unite_all-requires-clause-of : goal.unite_all-requires-clause-of
unite_all-requires-clause-of g t c =
    let cut = c.split_at_mut-front in
    let front : OnOk c.join_mut-fronts.result.0 (HavePosted c.args.until cut.result.0.now c.front-1.given.0 c.split_passes.new.passes c.passes-3-1.given.0) = search rules in
    let back : OnOk c.join_mut-fronts.result.1 (HavePosted c.args.until cut.result.1.now c.back-1.given.0 c.as_mut_slice-lent.result.now c.lent-1.given.0) = search rules in
    lowers_are_of c.args.until c.args.number (c.args.number + c.cut_at-at.result) c.args.inboxes.now c.args.passes.now c.split_passes.new.passes c.as_mut_slice-lent.result.now c.passes-3-1.given.0 c.lent-1.given.0 cut.result.0.now c.front-1.given.0 cut.result.1.now c.back-1.given.0
    c.in_ok-uppers.ensures.lower (c.as_mut_slice-lent.ensures.value ∙ c.in_ok-uppers.ensures.upper) c.join_mut-fronts.result.0 _ c.in_ok-fronts.was front c.join_mut-fronts.result.1 _ c.in_ok-backs.was back c.requires.post.of

pub unite_all-requires-clause-lent : goal.unite_all-requires-clause-lent
unite_all-requires-clause-lent g t c =
    let cut = c.split_at_mut-front in
    let front : OnOk c.join_mut-fronts.result.0 (HavePosted c.args.until cut.result.0.now c.front-1.given.0 c.split_passes.new.passes c.passes-3-1.given.0) = search rules in
    let back : OnOk c.join_mut-fronts.result.1 (HavePosted c.args.until cut.result.1.now c.back-1.given.0 c.as_mut_slice-lent.result.now c.lent-1.given.0) = search rules in
    let written : take c.in_ok-uppers.uppers.len (c.lent-1.given.0 ++ drop (length c.lent-1.given.0) c.in_ok-uppers.uppers.items) ≡ c.lent-1.given.0 =
    written_back c.in_ok-uppers.uppers.len c.lent-1.given.0 (drop (length c.lent-1.given.0) c.in_ok-uppers.uppers.items)
    (let n = uppers_count c.args.until c.args.number (c.args.number + c.cut_at-at.result) c.args.inboxes.now c.args.passes.now c.split_passes.new.passes c.as_mut_slice-lent.result.now c.passes-3-1.given.0 c.lent-1.given.0 cut.result.0.now c.front-1.given.0 cut.result.1.now c.back-1.given.0
    c.in_ok-uppers.ensures.lower (c.as_mut_slice-lent.ensures.value ∙ c.in_ok-uppers.ensures.upper) c.join_mut-fronts.result.0 _ c.in_ok-fronts.was front c.join_mut-fronts.result.1 _ c.in_ok-backs.was back in let l = ap (length {A = PassModel}) c.as_mut_slice-lent.ensures.value in let k = c.in_ok-uppers.uppers.ok.0 in omega arith) in
    uppers_are_lent c.args.until c.args.number (c.args.number + c.cut_at-at.result) c.args.inboxes.now c.args.passes.now c.split_passes.new.passes c.as_mut_slice-lent.result.now c.passes-3-1.given.0 c.lent-1.given.0 cut.result.0.now c.front-1.given.0 cut.result.1.now c.back-1.given.0
    c.in_ok-uppers.ensures.lower (c.as_mut_slice-lent.ensures.value ∙ c.in_ok-uppers.ensures.upper) c.join_mut-fronts.result.0 _ c.in_ok-fronts.was front c.join_mut-fronts.result.1 _ c.in_ok-backs.was back _ written

pub returns : goal.returns
returns g t c =
    let cut = c.split_at_mut-front in
    let front : OnOk c.join_mut-fronts.result.0 (HavePosted c.args.until cut.result.0.now c.front-1.given.0 c.split_passes.new.passes c.passes-3-1.given.0) = search rules in
    let back : OnOk c.join_mut-fronts.result.1 (HavePosted c.args.until cut.result.1.now c.back-1.given.0 c.as_mut_slice-lent.result.now c.lent-1.given.0) = search rules in
    let written : take c.in_ok-uppers.uppers.len (c.lent-1.given.0 ++ drop (length c.lent-1.given.0) c.in_ok-uppers.uppers.items) ≡ c.lent-1.given.0 =
    written_back c.in_ok-uppers.uppers.len c.lent-1.given.0 (drop (length c.lent-1.given.0) c.in_ok-uppers.uppers.items)
    (let n = uppers_count c.args.until c.args.number (c.args.number + c.cut_at-at.result) c.args.inboxes.now c.args.passes.now c.split_passes.new.passes c.as_mut_slice-lent.result.now c.passes-3-1.given.0 c.lent-1.given.0 cut.result.0.now c.front-1.given.0 cut.result.1.now c.back-1.given.0
    c.in_ok-uppers.ensures.lower (c.as_mut_slice-lent.ensures.value ∙ c.in_ok-uppers.ensures.upper) c.join_mut-fronts.result.0 _ c.in_ok-fronts.was front c.join_mut-fronts.result.1 _ c.in_ok-backs.was back in let l = ap (length {A = PassModel}) c.as_mut_slice-lent.ensures.value in let k = c.in_ok-uppers.uppers.ok.0 in omega arith) in
    all_have_posted c.args.until c.args.number (c.args.number + c.cut_at-at.result) c.args.inboxes.now c.args.passes.now c.split_passes.new.passes c.as_mut_slice-lent.result.now c.passes-3-1.given.0 c.lent-1.given.0 cut.result.0.now c.front-1.given.0 cut.result.1.now c.back-1.given.0
    c.in_ok-uppers.ensures.lower (c.as_mut_slice-lent.ensures.value ∙ c.in_ok-uppers.ensures.upper) c.join_mut-fronts.result.0 _ c.in_ok-fronts.was front c.join_mut-fronts.result.1 _ c.in_ok-backs.was back c.args.stations.now _ c.unite_all.new.passes cut.ensures.value c.requires.post written c.unite_all.ensures
