-- Stations that are given their inboxes one after the other.
use Rattle.std.proofs.Common.{◌≡◌, ℕ, ◌+◌, ◌<◌, ◌≤◌, List, [], length, get_or, set, ap, sym, ◌∙◌, inl, inr, arith}
use Rattle.std.specs.List.{All}
use Rattle.std.proofs.Math.ListN.{length-set}
use Rattle.std.proofs.lemmas.Bool.{cases_lt}
use Rattle.std.proofs.lemmas.List.{get_or_default, get_or-set_same, get_or-set_other}
use Rattle.std.proofs.lemmas.List.Elements.{All-set}
use Rattle.wt_proto.specs.declared.message.Stamped.{Stamped}
use Rattle.quantum.specs.Stations.{StationModel}
use Rattle.engine.specs.Quantum.{IsGood, given}

module _ (boxes_before : List (List Stamped)) (before : List StationModel) where
  -- the stations at the first places were given their inboxes, and the others are as they were
  pub record AreGiven (place : ℕ) (boxes : List (List Stamped)) (stations : List StationModel) : Type 0 where
    pub count : length stations ≡ length before
    pub boxes_count : length boxes ≡ length boxes_before
    pub done : (k : ℕ) (d : StationModel) → k < place → get_or stations k d ≡ given (get_or boxes_before k []) (get_or before k d)
    pub left : (k : ℕ) (d : StationModel) → place ≤ k → get_or stations k d ≡ get_or before k d
    pub none : (k : ℕ) → k < place → get_or boxes k [] ≡ []
    pub boxes_left : (k : ℕ) → place ≤ k → get_or boxes k [] ≡ get_or boxes_before k []
    pub good : All IsGood stations

  pub one_given : (place : ℕ) (boxes : List (List Stamped)) (stations : List StationModel) → AreGiven place boxes stations → place < length stations → place < length boxes →
      (new d_station : StationModel) (box d_box : List Stamped) → new ≡ given (get_or boxes place d_box) (get_or stations place d_station) → box ≡ [] → IsGood new →
      AreGiven (place + 1) (set boxes place box) (set stations place new)
  one_given place boxes stations so_far there also new d_station box d_box is none good = record {
    count = length-set stations place new ∙ so_far.count;
    boxes_count = length-set boxes place box ∙ so_far.boxes_count;
    done = λ k d low. elim (cases_lt k place) [
      | inl h ↦ get_or-set_other stations place k new d (λ e. (omega arith)) ∙ so_far.done k d h
      | inr h ↦
          let e : k ≡ place = omega arith in
          ap (λ (n : ℕ). get_or (set stations place new) n d) e
          ∙ get_or-set_same stations place new d there
          ∙ value d
          ∙ ap (λ (n : ℕ). given (get_or boxes_before n []) (get_or before n d)) (sym e)
    ];
    left = λ k d h. get_or-set_other stations place k new d (λ e. (omega arith)) ∙ so_far.left k d (omega arith);
    none = λ k low. elim (cases_lt k place) [
      | inl h ↦ get_or-set_other boxes place k box [] (λ e. (omega arith)) ∙ so_far.none k h
      | inr h ↦
          let e : k ≡ place = omega arith in
          ap (λ (n : ℕ). get_or (set boxes place box) n []) e ∙ get_or-set_same boxes place box [] also ∙ none
    ];
    boxes_left = λ k h. get_or-set_other boxes place k box [] (λ e. (omega arith)) ∙ so_far.boxes_left k (omega arith);
    good = All-set IsGood stations place new good so_far.good;
  }
    where
      value : (d : StationModel) → new ≡ given (get_or boxes_before place []) (get_or before place d)
      value d =
          is
          ∙ ap (λ (b : List Stamped). given b (get_or stations place d_station)) (get_or_default boxes place d_box [] also ∙ so_far.boxes_left place (omega arith))
          ∙ ap (given (get_or boxes_before place [])) (get_or_default stations place d_station d there ∙ so_far.left place d (omega arith))
