use Rattle.std.proofs.Common.{◌≡◌, ◌∷◌, ◌++◌, [], List, true, ap, refl, sym, ◌∙◌, subst}
use Rattle.wt_proto.specs.declared.message.Stamped.{Stamped}
use Rattle.quantum.specs.Stations.{StationModel, MayAccept, accept_of}
use Rattle.inbox.specs.Passes.{PassModel}
use Rattle.inbox.specs.Views.{IsInOrder}
use Rattle.engine.specs.Quantum.{given}
use Rattle.engine.specs.Inboxes.{with_taken}
use Rattle.engine.proofs.Taking.{given_more, may_be_next}
use Rattle.engine.proofs.inboxes.take.Goals as goal

pub accept_letter-requires : goal.accept_letter-requires
accept_letter-requires g c =
    let taken = c.loop.pass.view.taken ++ c.in-Some-take_letter.letter ∷ [] in
    let is : c.take_letter.new.pass ≡ with_taken taken c.args.pass.now = c.in-Some-take_letter.ensures.some ∙ ap (with_taken taken) c.loop.invariant.pass in
    subst (λ (s : StationModel). MayAccept s c.in-Some-take_letter.letter) (sym c.loop.invariant.given_it)
    (may_be_next c.loop.pass.view.taken c.in-Some-take_letter.letter c.args.station.now (c.requires.may.may taken
    (subst (λ (p : PassModel). IsInOrder p.view) is (c.in-Some-take_letter.ensures.order (ap (λ (p : PassModel). p.view.takes) is ∙ c.requires.may.takes)))))

pub loop-preserved : goal.loop-preserved
loop-preserved g c =
    let all = c.loop.pass.view.taken ++ c.in-Some-take_letter.letter ∷ [] in
    let is : c.take_letter.new.pass ≡ with_taken all c.args.pass.now = c.in-Some-take_letter.ensures.some ∙ ap (with_taken all) c.loop.invariant.pass in
    let taken : c.take_letter.new.pass.view.taken ≡ all = ap (λ (p : PassModel). p.view.taken) is in
    let whole = ap (λ (s : StationModel). s.broken) c.in-Ok.ensures.ok ∙ c.in-Ok.ensures.unbroken in
    record {
      can_next = tt;
      is_finite = tt;
      pass = is ∙ ap (λ (ls : List Stamped). with_taken ls c.args.pass.now) (sym taken);
      given_it = c.in-Ok.ensures.ok ∙ ap (accept_of c.in-Some-take_letter.letter) c.loop.invariant.given_it ∙ sym (given_more c.loop.pass.view.taken c.in-Some-take_letter.letter c.args.station.now) ∙ ap (λ (ls : List Stamped). given ls c.args.station.now) (sym taken);
      good = record { whole = whole; live = c.in-Ok.ensures.live whole };
    }
