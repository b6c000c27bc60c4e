-- The shared inboxes of a round: what is put into them while the stations run, and what is taken out of them. Own.
use Rattle.std.specs.Prelude.{◌≡◌, ⊤, ℕ, ◌+◌, ◌^◌, ◌<◌, ◌≤◌, ◌==◌, suc, zero, true, false, Bool, List, [], ◌∷◌, ◌++◌, length, map, get_or}
use Rattle.std.specs.List.{All, filter}
use Rattle.wt_proto.specs.declared.message.Stamped.{Stamped}
use Rattle.quantum.specs.FreeRuns.{IsHandedOut}
use Rattle.quantum.specs.Stations.{StationModel}
use Rattle.inbox.specs.Passes.{InboxModel, PassModel}
use Rattle.inbox.specs.Views.{HasSource, HasTakenMerge, IsInOrder, IsWhole, join_of, lower_of, upper_of}
use Rattle.engine.specs.Quantum.{AreHandedOut, HaveRun, IsGood, MayBeGiven, given, ran_to}

-- each pass is of the inbox in its place
abbrev pub ArePassesOf : List InboxModel → List PassModel → Type 0
ArePassesOf inboxes passes = map (λ pass. pass.of) passes ≡ inboxes

-- a pass of the sources from one up to another, by which nothing was put in yet
pub record IsFresh (lo hi : ℕ) (pass : PassModel) : Type 0 where
  pub lo_is : pass.view.lo ≡ lo
  pub hi_is : pass.view.hi ≡ hi
  pub sent : pass.view.sent ≡ []

-- a pass of all sources, by which nothing was put in and nothing taken
pub record IsOpened (count : ℕ) (pass : PassModel) : Type 0 where
  pub fresh : IsFresh 0 count pass
  pub sources : pass.view.sources ≡ count
  pub takes : pass.view.takes ≡ true
  pub taken : pass.view.taken ≡ []

-- the messages to a node among some
abbrev pub letters_to : ℕ → List Stamped → List Stamped
letters_to to letters = filter (λ letter. letter.to == to) letters

abbrev pub with_sent : List Stamped → PassModel → PassModel
with_sent sent pass = record pass { view = record (pass.view) { sent = sent } }

-- passes by which messages were put in, each into the inbox of the node that it names; the first pass is that of a node
abbrev pub posted : ℕ → List Stamped → List PassModel → List PassModel
posted node letters [] = []
posted node letters (pass ∷ passes) = with_sent (pass.view.sent ++ letters_to node letters) pass ∷ posted (suc node) letters passes

-- a message that some passes may put in
pub record MayBePosted (passes : List PassModel) (letter : Stamped) : Type 0 where
  pub there : letter.to < length passes
  pub source : All (λ pass. HasSource pass.view letter.from) passes

-- a message of a node to one of so many nodes
pub record IsFrom (number count : ℕ) (letter : Stamped) : Type 0 where
  pub source : letter.from ≡ number
  pub there : letter.to < count

-- what stations hand out when they run up to a time is their own; the first of them has a number, the others follow
abbrev pub AreSenders : ℕ → ℕ → ℕ → List StationModel → Type 0
AreSenders until count number [] = ⊤
AreSenders until count number (station ∷ stations) =
    ((outs : List Stamped) → IsHandedOut until station (ran_to until station) outs → All (IsFrom number count) outs)
    × AreSenders until count (suc number) stations

-- stations from a number on may run up to a time and put in what they hand out, by passes of theirs
pub record MayPost (until number : ℕ) (inboxes : List InboxModel) (passes : List PassModel) (stations : List StationModel) : Type 0 where
  pub few : number + length stations < 2 ^ 32
  pub count : length passes < 2 ^ 32
  pub of : ArePassesOf inboxes passes
  pub fresh : All (IsFresh number (number + length stations)) passes
  pub senders : AreSenders until (length passes) number stations

-- they have
pub record HavePosted (until : ℕ) (before after : List StationModel) (passes_before passes_after : List PassModel) : Type 0 where
  pub letters : List Stamped
  pub runs : HaveRun until before after letters
  pub passes : passes_after ≡ posted 0 letters passes_before

-- a pass by which some messages were taken
abbrev pub with_taken : List Stamped → PassModel → PassModel
with_taken taken pass = record pass { view = record (pass.view) { taken = taken } }

-- whatever is taken by a pass of all sources, which took nothing yet, may be given to a station
pub record MayBeTaken (pass : PassModel) (station : StationModel) : Type 0 where
  pub takes : pass.view.takes ≡ true
  pub whole : IsWhole pass.view
  pub none : pass.view.taken ≡ []
  pub good : IsGood station
  pub may : (taken : List Stamped) → IsInOrder (with_taken taken pass).view → MayBeGiven taken station

-- all was taken by a pass and given to a station, in this order
pub record HasTaken (pass_before pass_after : PassModel) (before after : StationModel) : Type 0 where
  pub pass : pass_after ≡ with_taken pass_after.view.taken pass_before
  pub merge : HasTakenMerge pass_after.view
  pub given_it : after ≡ given pass_after.view.taken before
  pub good : IsGood after

-- passes that are cut at a source, and such parts together
abbrev pub lower_part : ℕ → PassModel → PassModel
lower_part mid pass = record pass { view = lower_of mid pass.view }

abbrev pub upper_part : ℕ → PassModel → PassModel
upper_part mid pass = record pass { view = upper_of mid pass.view }

abbrev pub both_parts : PassModel → PassModel → PassModel
both_parts pass above = record pass { view = join_of pass.view above.view }

-- passes and their upper parts, which were lent
abbrev pub AreLent : List PassModel → List PassModel → Type 0
AreLent passes [] = ⊤
AreLent (pass ∷ passes) (above ∷ uppers) = (above.of ≡ pass.of) × (pass.view.hi ≡ above.view.lo) × AreLent passes uppers
AreLent [] (above ∷ uppers) = ⊥

abbrev pub all_united : List PassModel → List PassModel → List PassModel
all_united (pass ∷ passes) (above ∷ uppers) = both_parts pass above ∷ all_united passes uppers
all_united passes uppers = passes

-- place by place
pub record AreToBeTaken (passes : List PassModel) (stations : List StationModel) : Type 0 where
  pub count : length stations ≡ length passes
  pub each : (place : ℕ) (pass : PassModel) (station : StationModel) → place < length passes → MayBeTaken (get_or passes place pass) (get_or stations place station)

pub record HaveTaken (passes_before passes_after : List PassModel) (before after : List StationModel) : Type 0 where
  pub passes_count : length passes_after ≡ length passes_before
  pub count : length after ≡ length before
  pub each : (place : ℕ) (pass : PassModel) (station : StationModel) → place < length passes_before →
      HasTaken (get_or passes_before place pass) (get_or passes_after place pass) (get_or before place station) (get_or after place station)

-- the same, whatever the number of the first station
pub record CanPost (until : ℕ) (inboxes : List InboxModel) (passes : List PassModel) (stations : List StationModel) : Type 0 where
  pub number : ℕ
  pub may : MayPost until number inboxes passes stations

-- All stations of a machine may run up to a time, put what they hand out into the inboxes, and be given what is taken.
pub record MayMeet (until : ℕ) (stations : List StationModel) : Type 0 where
  pub senders : AreSenders until (length stations) 0 stations
  pub taken : (letters : List Stamped) (opened : List PassModel) → AreHandedOut until stations letters → All IsGood (map (ran_to until) stations) → length opened ≡ length stations → All (IsOpened (length stations)) opened →
      AreToBeTaken (posted 0 letters opened) (map (ran_to until) stations)

-- they have
pub record HaveMet (until : ℕ) (before after : List StationModel) (passes : List PassModel) : Type 0 where
  pub letters : List Stamped
  pub handed_out : AreHandedOut until before letters
  pub opened : List PassModel
  pub count : length opened ≡ length before
  pub are_opened : All (IsOpened (length before)) opened
  pub taken : HaveTaken (posted 0 letters opened) passes (map (ran_to until) before) after
