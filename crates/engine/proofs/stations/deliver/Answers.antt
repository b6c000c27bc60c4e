use Rattle.std.proofs.Common.{◌≡◌, ℕ, ◌<◌, List, length, get_or, ap, sym, ◌∙◌, subst}
use Rattle.std.proofs.Math.ListN.{set}
use Rattle.std.proofs.lemmas.List.Elements.{All-set}
use Rattle.wt_proto.specs.declared.message.Stamped.{Stamped}
use Rattle.quantum.specs.Stations.{StationModel, MayAccept, accept_of}
use Rattle.engine.specs.Quantum.{IsGood, MayDeliver, changed_at, delivered}
use Rattle.engine.proofs.Places.{changed_is_set, place_below, may_accept}
use Rattle.engine.proofs.stations.deliver.Goals as goal

pub bounds-stations-place : goal.bounds-stations-place
bounds-stations-place g c =
    let may = subst (λ (ls : List Stamped). MayDeliver ls c.loop-letter.stations) c.in-Some.ensures c.loop-letter.invariant.may in
    subst (λ (m : Stamped). m.to < length c.loop-letter.stations) (sym c.message.ensures) (place_below c.in-Some.letter.to c.in-Some.letter c.loop-letter.stations may.0)

pub accept_letter-requires : goal.accept_letter-requires
accept_letter-requires g c =
    let may = subst (λ (ls : List Stamped). MayDeliver ls c.loop-letter.stations) c.in-Some.ensures c.loop-letter.invariant.may in
    subst (λ (m : Stamped). MayAccept (get_or c.loop-letter.stations m.to c.index-stations-place.result) c.in-Some.letter) (sym c.message.ensures)
    (may_accept c.in-Some.letter.to c.in-Some.letter c.loop-letter.stations c.index-stations-place.result may.0)

pub loop-letter-preserved : goal.loop-letter-preserved
loop-letter-preserved g c =
    let stations = c.loop-letter.stations in
    let letter = c.in-Some.letter in
    let rest = c.pop_letter.new.self in
    let place = c.message.result.now.to in
    let d = c.index-stations-place.result in
    let here : letter.to ≡ place = ap (λ (m : Stamped). m.to) (sym c.message.ensures) in
    let may = subst (λ (ls : List Stamped). MayDeliver ls stations) c.in-Some.ensures c.loop-letter.invariant.may in
    let changed : changed_at letter.to (accept_of letter) stations ≡ set stations place c.accept_letter.new.self =
    changed_is_set letter.to (accept_of letter) stations d (place_below letter.to letter stations may.0)
    ∙ ap (λ (k : ℕ). set stations k (accept_of letter (get_or stations k d))) here
    ∙ ap (set stations place) (sym c.in-Ok.ensures.ok) in
    record {
      may = subst (λ (ss : List StationModel). MayDeliver rest ss) changed may.1;
      same = ap (delivered rest) (sym changed) ∙ ap (λ (ls : List Stamped). delivered ls stations) (sym c.in-Some.ensures) ∙ c.loop-letter.invariant.same;
      good =
          let whole = ap (λ (s : StationModel). s.broken) c.in-Ok.ensures.ok ∙ c.in-Ok.ensures.unbroken in
          All-set IsGood stations place c.accept_letter.new.self (record { whole = whole; live = c.in-Ok.ensures.live whole }) c.loop-letter.invariant.good;
    }
