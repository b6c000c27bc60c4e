use Rattle.std.proofs.Common.{◌≡◌, ℕ, ◌<◌, ◌∷◌, ◌++◌, [], List, length, get_or, set, map, ap, sym, ◌∙◌, subst, arith}
use Rattle.inbox.specs.Passes.{PassModel}
use Rattle.engine.specs.Inboxes.{AreLent, ArePassesOf, all_united, both_parts}
use Rattle.engine.proofs.Posting.{inboxes_count, lent_before, lent_last, no_items, of_set, pass_of, united_last, united_none}
use Rattle.engine.proofs.inboxes.unite_all.Goals as goal

pub offset_bounds-passes-place : goal.offset_bounds-passes-place
offset_bounds-passes-place g c =
    let lent = subst (λ (us : List PassModel). AreLent c.loop-upper.passes us) c.in-Some.ensures.items c.loop-upper.invariant.lent in
    let last = lent_last c.loop-upper.passes c.pop.new.self.items c.in-Some.upper c.in-Some.upper lent in
    let l = last.0 in let k = c.pop.new.self.ok.0 in let n = c.len-place.ensures in let f = c.requires.few in let a = c.loop-upper.auto.passes in
    omega arith

pub bounds-passes-place : goal.bounds-passes-place
bounds-passes-place g c =
    let lent = subst (λ (us : List PassModel). AreLent c.loop-upper.passes us) c.in-Some.ensures.items c.loop-upper.invariant.lent in
    let last = lent_last c.loop-upper.passes c.pop.new.self.items c.in-Some.upper c.in-Some.upper lent in
    let l = last.0 in let k = c.pop.new.self.ok.0 in let n = c.len-place.ensures in
    omega arith

pub offset_bounds-inboxes-place : goal.offset_bounds-inboxes-place
offset_bounds-inboxes-place g c =
    let lent = subst (λ (us : List PassModel). AreLent c.loop-upper.passes us) c.in-Some.ensures.items c.loop-upper.invariant.lent in
    let last = lent_last c.loop-upper.passes c.pop.new.self.items c.in-Some.upper c.in-Some.upper lent in
    let l = last.0 in let k = c.pop.new.self.ok.0 in let n = c.len-place.ensures in let f = c.requires.few in let a = c.loop-upper.auto.passes in
    omega arith

pub bounds-inboxes-place : goal.bounds-inboxes-place
bounds-inboxes-place g c =
    let lent = subst (λ (us : List PassModel). AreLent c.loop-upper.passes us) c.in-Some.ensures.items c.loop-upper.invariant.lent in
    let last = lent_last c.loop-upper.passes c.pop.new.self.items c.in-Some.upper c.in-Some.upper lent in
    let l = last.0 in let k = c.pop.new.self.ok.0 in let n = c.len-place.ensures in
    let e = inboxes_count c.args.inboxes.now c.loop-upper.passes c.loop-upper.invariant.of in
    omega arith

pub absorb-requires-clause-of : goal.absorb-requires-clause-of
absorb-requires-clause-of g c =
    let lent = subst (λ (us : List PassModel). AreLent c.loop-upper.passes us) c.in-Some.ensures.items c.loop-upper.invariant.lent in
    let place : c.len-place.result ≡ length c.pop.new.self.items = let k = c.pop.new.self.ok.0 in let n = c.len-place.ensures in omega arith in
    let last = lent_last c.loop-upper.passes c.pop.new.self.items c.in-Some.upper c.index-passes-place.result lent in
    let here : c.len-place.result < length c.loop-upper.passes = let l = last.0 in omega arith in
    let of = pass_of c.args.inboxes.now c.loop-upper.passes c.len-place.result c.index-passes-place.result c.index-inboxes-place.result c.loop-upper.invariant.of here c.index-inboxes-place.is in
    (of, last.1 ∙ ap (λ (n : ℕ). (get_or c.loop-upper.passes n c.index-passes-place.result).of) (sym place) ∙ of)

pub absorb-requires-clause-next : goal.absorb-requires-clause-next
absorb-requires-clause-next g c =
    let lent = subst (λ (us : List PassModel). AreLent c.loop-upper.passes us) c.in-Some.ensures.items c.loop-upper.invariant.lent in
    let place : c.len-place.result ≡ length c.pop.new.self.items = let k = c.pop.new.self.ok.0 in let n = c.len-place.ensures in omega arith in
    let last = lent_last c.loop-upper.passes c.pop.new.self.items c.in-Some.upper c.index-passes-place.result lent in
    ap (λ (n : ℕ). (get_or c.loop-upper.passes n c.index-passes-place.result).view.hi) place ∙ last.2

pub loop-upper-preserved : goal.loop-upper-preserved
loop-upper-preserved g c =
    let passes = c.loop-upper.passes in
    let rest = c.pop.new.self.items in
    let d = c.index-passes-place.result in
    let lent = subst (λ (us : List PassModel). AreLent passes us) c.in-Some.ensures.items c.loop-upper.invariant.lent in
    let place : c.len-place.result ≡ length rest = let k = c.pop.new.self.ok.0 in let n = c.len-place.ensures in omega arith in
    let last = lent_last passes rest c.in-Some.upper d lent in
    let new : c.absorb.new.self ≡ both_parts (get_or passes (length rest) d) c.in-Some.upper = c.absorb.ensures.both ∙ ap (λ (n : ℕ). both_parts (get_or passes n d) c.in-Some.upper) place in
    record {
      of = ap (λ (n : ℕ). map (λ (p : PassModel). p.of) (set passes n c.absorb.new.self)) place ∙ of_set passes (length rest) c.absorb.new.self d (ap (λ (p : PassModel). p.of) new) ∙ c.loop-upper.invariant.of;
      lent = subst (λ (n : ℕ). AreLent (set passes n c.absorb.new.self) rest) (sym place) (lent_before passes rest c.in-Some.upper c.absorb.new.self lent);
      same = (λ i. all_united (set passes (place i) (new i)) rest) ∙ united_last passes rest c.in-Some.upper d last.0
          ∙ ap (all_united passes) (sym c.in-Some.ensures.items) ∙ c.loop-upper.invariant.same;
    }

pub returns : goal.returns
returns g c =
    sym (united_none c.loop-upper.passes)
    ∙ ap (all_united c.loop-upper.passes) (sym (no_items c.loop-upper.uppers.items (let e = c.in_default.ensures.cases.0 in let l = c.loop-upper.uppers.ok.0 in omega arith)))
    ∙ c.loop-upper.invariant.same
