use Rattle.std.proofs.Common.{◌≡◌, ℕ, suc, ◌<◌, ◌∷◌, [], List, length, get_or, set, ap, sym, ◌∙◌, subst, arith}
use Rattle.std.specs.List.{All}
use Rattle.wt_proto.specs.declared.message.Stamped.{Stamped}
use Rattle.inbox.specs.Passes.{PassModel}
use Rattle.inbox.specs.Views.{HasSource}
use Rattle.engine.specs.Inboxes.{ArePassesOf, MayBePosted, posted}
use Rattle.engine.proofs.Posting.{inboxes_count, of_set, others_may, pass_of, posted_none, posted_one, with_one}
use Rattle.engine.proofs.inboxes.deposit_all.Given as given
use Rattle.engine.proofs.inboxes.deposit_all.Goals as goal

pub bounds-inboxes-place : goal.bounds-inboxes-place
bounds-inboxes-place g c =
    let may = subst (λ (ls : List Stamped). All (MayBePosted c.loop-letter.passes) ls) c.in-Some.ensures c.loop-letter.invariant.may in
    let first : MayBePosted c.loop-letter.passes c.in-Some.letter = may 0 c.in-Some.letter (omega arith) in
    let here = ap (λ (m : Stamped). m.to) c.message.ensures in
    let n = inboxes_count c.args.inboxes.now c.loop-letter.passes c.loop-letter.invariant.of in
    let t = first.there in
    omega arith

pub deposit_letter-requires-clause-of : goal.deposit_letter-requires-clause-of
deposit_letter-requires-clause-of g c =
    let may = subst (λ (ls : List Stamped). All (MayBePosted c.loop-letter.passes) ls) c.in-Some.ensures c.loop-letter.invariant.may in
    let first : MayBePosted c.loop-letter.passes c.in-Some.letter = may 0 c.in-Some.letter (omega arith) in
    let there : c.message.result.now.to < length c.loop-letter.passes = subst (λ (m : Stamped). m.to < length c.loop-letter.passes) (sym c.message.ensures) first.there in
    pass_of c.args.inboxes.now c.loop-letter.passes c.message.result.now.to c.index-passes-place.result c.index-inboxes-place.result c.loop-letter.invariant.of there c.index-inboxes-place.is

pub deposit_letter-requires-clause-source : goal.deposit_letter-requires-clause-source
deposit_letter-requires-clause-source g c =
    let may = subst (λ (ls : List Stamped). All (MayBePosted c.loop-letter.passes) ls) c.in-Some.ensures c.loop-letter.invariant.may in
    let first : MayBePosted c.loop-letter.passes c.in-Some.letter = may 0 c.in-Some.letter (omega arith) in
    subst (λ (m : Stamped). HasSource (get_or c.loop-letter.passes m.to c.index-passes-place.result).view c.in-Some.letter.from) (sym c.message.ensures)
    (first.source c.in-Some.letter.to c.index-passes-place.result first.there)

pub loop-letter-preserved : goal.loop-letter-preserved
loop-letter-preserved g c =
    let passes = c.loop-letter.passes in
    let letter = c.in-Some.letter in
    let rest = c.pop_letter.new.self in
    let new = c.deposit_letter.new.pass in
    let d = c.index-passes-place.result in
    let here : letter.to ≡ c.message.result.now.to = ap (λ (m : Stamped). m.to) (sym c.message.ensures) in
    let may = subst (λ (ls : List Stamped). All (MayBePosted passes) ls) c.in-Some.ensures c.loop-letter.invariant.may in
    let first : MayBePosted passes letter = may 0 letter (omega arith) in
    let is : with_one letter (get_or passes letter.to d) ≡ new = ap (λ (k : ℕ). with_one letter (get_or passes k d)) here ∙ sym c.in-Ok.ensures.ok in
    record {
      of = subst (λ (k : ℕ). ArePassesOf c.args.inboxes.now (set passes k new)) here (of_set passes letter.to new d (ap (λ (p : PassModel). p.of) (sym is)) ∙ c.loop-letter.invariant.of);
      may = subst (λ (k : ℕ). All (MayBePosted (set passes k new)) rest) here
          (subst (λ (p : PassModel). All (MayBePosted (set passes letter.to p)) rest) is (others_may letter passes rest letter.to d first.there (λ k e h. may (suc k) e (omega arith))));
      same = ap (λ (k : ℕ). posted 0 rest (set passes k new)) (sym here) ∙ ap (λ (p : PassModel). posted 0 rest (set passes letter.to p)) (sym is) ∙ sym (posted_one 0 letter.to letter rest passes d (omega arith) first.there)
          ∙ ap (λ (ls : List Stamped). posted 0 ls passes) (sym c.in-Some.ensures) ∙ c.loop-letter.invariant.same;
    }

pub returns-clause-posted : goal.returns-clause-posted
returns-clause-posted g c =
    sym (posted_none 0 c.loop-letter.passes) ∙ ap (λ (ls : List Stamped). posted 0 ls c.loop-letter.passes) (sym c.in_default.ensures.0) ∙ c.loop-letter.invariant.same
