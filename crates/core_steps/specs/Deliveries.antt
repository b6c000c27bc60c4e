-- Stations that are given the messages of their inboxes. Own.
use Rattle.std.specs.Prelude.{◌≡◌, ℕ, ◌<◌, List, [], length, slice_index_or}
use Rattle.std.specs.List.{All}
use Rattle.wt_proto.specs.declared.message.Stamped.{Stamped}
use Rattle.quantum.specs.Stations.{StationModel}
use Rattle.engine.specs.Quantum.{IsGood, MayBeGiven, given}

-- each station may be given its inbox
abbrev pub MayAllBeGiven : List (List Stamped) → List StationModel → Type 0
MayAllBeGiven inboxes stations =
    (place : ℕ) (d : StationModel) → place < length stations → MayBeGiven (slice_index_or inboxes place []) (slice_index_or stations place d)

-- each station was given its inbox, and the inboxes are empty
pub record HaveBeenGiven (inboxes : List (List Stamped)) (before : List StationModel) (inboxes_after : List (List Stamped)) (after : List StationModel) : Type 0 where
  pub count : length after ≡ length before
  pub each : (place : ℕ) (d : StationModel) → place < length before → slice_index_or after place d ≡ given (slice_index_or inboxes place []) (slice_index_or before place d)
  pub good : All IsGood after
  pub inboxes_count : length inboxes_after ≡ length inboxes
  pub none_left : (place : ℕ) → slice_index_or inboxes_after place [] ≡ []
