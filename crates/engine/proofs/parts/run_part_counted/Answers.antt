use Rattle.std.proofs.Common.{◌≡◌, ◌<◌, ◌++◌, [], List, length, subst, ◌≤◌, map, add-one, arith, refl, ap, sym, ◌∙◌}
use Rattle.std.proofs.lemmas.List.Elements.{AllWithin-more_set}
use Rattle.std.specs.List.{All}
use Rattle.wt_proto.specs.declared.message.Stamped.{Stamped}
use Rattle.quantum.specs.Stations.{StationModel}
use Rattle.inbox.specs.Passes.{PassModel}
use Rattle.engine.specs.Quantum.{AreHandedOut, IsGood, ran_to}
use Rattle.engine.specs.Inboxes.{MayBePosted, posted}
use Rattle.engine.proofs.Posting.{of_posted, outs_may, posted_both, posted_none}
use Rattle.engine.proofs.Runs.{mapped_all, run_one_more, taken_all}
use Rattle.engine.proofs.parts.run_part_counted.Goals as goal

pub loop-station-init : goal.loop-station-init
loop-station-init g c = record { none_left = c.new-outs.ensures; letters = []; ran = refl; outs = refl; good = λ k d low high. absurd (omega arith); passes = sym (posted_none 0 c.args.passes.now) }

pub deposit_all-requires-clause-of : goal.deposit_all-requires-clause-of
deposit_all-requires-clause-of g c =
    ap (map (λ (p : PassModel). p.of)) c.loop-station.invariant.passes ∙ of_posted 0 c.loop-station.invariant.letters c.args.passes.now ∙ c.requires.post.may.of

-- the list has just what the station hands out
its_own : (before added after : List Stamped) → before ≡ [] → after ≡ before ++ added → after ≡ added
its_own before added after none is = is ∙ ap (λ (ls : List Stamped). ls ++ added) none

pub deposit_all-requires-clause-may : goal.deposit_all-requires-clause-may
deposit_all-requires-clause-may g c =
    let i = c.loop-station.station-index in
    let so_far = c.loop-station.invariant in
    let ran = c.in_ok-run_into.ensures in
    subst (All (MayBePosted c.loop-station.passes)) (sym (its_own c.loop-station.outs ran.outs.outs c.run_into.new.outs so_far.none_left ran.outs.added))
    (outs_may c.args.until c.args.inboxes.now c.args.passes.now c.loop-station.passes so_far.letters c.args.stations.now c.loop-station.stations i c.station-item.result c.run_into.new.self ran.outs.outs c.requires.post so_far.passes (omega arith) so_far.ran
    ran.ran ran.machine ran.live.1 ran.live.2 ran.outs.handed)

pub loop-station-preserved : goal.loop-station-preserved
loop-station-preserved g c =
    let i = c.loop-station.station-index in
    let so_far = c.loop-station.invariant in
    let ran = c.in_ok-run_into.ensures in
    let outs = ran.outs.outs in
    let own = its_own c.loop-station.outs outs c.run_into.new.outs so_far.none_left ran.outs.added in
    let below : i < length c.args.stations.now = omega arith in
    let here : i < length c.loop-station.stations = omega arith in
    let more = run_one_more c.args.until c.args.stations.now c.loop-station.stations so_far.letters (so_far.letters ++ outs) i c.station-item.result c.run_into.new.self outs below
    so_far.ran so_far.outs ran.ran ran.machine ran.live.1 ran.live.2 ran.outs.handed refl in
    rw add-one (record {
      none_left = c.in_ok-deposit_all.ensures.none_left;
      letters = so_far.letters ++ outs;
      ran = more.ran;
      outs = more.outs;
      good = rw (← add-one) (AllWithin-more_set c.loop-station.stations i c.run_into.new.self here IsGood so_far.good (record { whole = ran.live.1; live = ran.live.2 }));
      passes = c.in_ok-deposit_all.ensures.posted ∙ ap (λ (ls : List Stamped). posted 0 ls c.loop-station.passes) own ∙ ap (posted 0 outs) so_far.passes ∙ posted_both 0 so_far.letters outs c.args.passes.now;
    })

pub returns : goal.returns
returns g c =
    let i = c.loop-station.station-index in
    let all = c.loop-station.invariant in
    let end : length c.args.stations.now ≤ i = omega arith in
    record {
      letters = all.letters;
      runs = record {
        ran = all.ran ∙ mapped_all (ran_to c.args.until) i c.args.stations.now end;
        outs = subst (λ (ss : List StationModel). AreHandedOut c.args.until ss all.letters) (taken_all i c.args.stations.now end) all.outs;
        good = λ k d h. all.good k d (omega arith) (omega arith);
      };
      passes = all.passes;
    }
