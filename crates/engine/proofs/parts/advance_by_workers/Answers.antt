use Rattle.std.proofs.Common.{◌≡◌, List, drop, length, map, ap, sym, ◌∙◌, subst, arith}
use Rattle.std.specs.List.{All}
use Rattle.quantum.specs.Stations.{StationModel}
use Rattle.inbox.specs.Passes.{PassModel}
use Rattle.engine.specs.Quantum.{IsGood, ran_to}
use Rattle.engine.specs.Inboxes.{AreToBeTaken, HavePosted, posted}
use Rattle.engine.proofs.Posting.{length_posted, of_posted, written_back}
use Rattle.engine.proofs.parts.advance_by_workers.Goals as goal

pub take_all-requires-clause-of : goal.take_all-requires-clause-of
take_all-requires-clause-of g c =
    let opened = c.in_ok-inboxes.opened in
    let have : HavePosted c.args.until c.args.stations.now c.run_parts.new.stations c.deref_mut.result.now c.run_parts.new.passes = c.in_ok-run_parts.ensures in
    let items : c.deref_mut.result.now ≡ opened.items = c.deref_mut.ensures.value in
    let count : length c.run_parts.new.passes ≡ opened.len = let p = ap (length {A = PassModel}) have.passes in let q = length_posted 0 have.letters c.deref_mut.result.now in let l = ap (length {A = PassModel}) items in let k = opened.ok.0 in omega arith in
    let back : c.deref_mut-2.result.now ≡ c.run_parts.new.passes = c.deref_mut-2.ensures.value ∙ written_back opened.len c.run_parts.new.passes _ count in
    ap (map (λ (p : PassModel). p.of)) (back ∙ have.passes) ∙ of_posted 0 have.letters c.deref_mut.result.now ∙ ap (map (λ (p : PassModel). p.of)) items ∙ c.in_ok-inboxes.ensures.of ∙ sym c.deref-2.ensures.value

pub take_all-requires-clause-may : goal.take_all-requires-clause-may
take_all-requires-clause-may g c =
    let opened = c.in_ok-inboxes.opened in
    let have : HavePosted c.args.until c.args.stations.now c.run_parts.new.stations c.deref_mut.result.now c.run_parts.new.passes = c.in_ok-run_parts.ensures in
    let items : c.deref_mut.result.now ≡ opened.items = c.deref_mut.ensures.value in
    let count : length c.run_parts.new.passes ≡ opened.len = let p = ap (length {A = PassModel}) have.passes in let q = length_posted 0 have.letters c.deref_mut.result.now in let l = ap (length {A = PassModel}) items in let k = opened.ok.0 in omega arith in
    let back : c.deref_mut-2.result.now ≡ c.run_parts.new.passes = c.deref_mut-2.ensures.value ∙ written_back opened.len c.run_parts.new.passes _ count in
    let given : c.deref_mut-2.result.now ≡ posted 0 have.letters opened.items = back ∙ have.passes ∙ ap (posted 0 have.letters) items in
    subst (λ (ps : List PassModel). AreToBeTaken ps c.run_parts.new.stations) (sym given)
    (subst (λ (ss : List StationModel). AreToBeTaken (posted 0 have.letters opened.items) ss) (sym have.runs.ran)
    (c.requires.meet.taken have.letters opened.items have.runs.outs (subst (All IsGood) have.runs.ran have.runs.good) c.in_ok-inboxes.ensures.count c.in_ok-inboxes.ensures.passes))
