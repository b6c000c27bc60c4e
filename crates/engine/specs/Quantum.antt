-- The parts of a quantum: when the next event is, the runs of the stations, and the exchange of what they sent. Own.
use Rattle.std.specs.Prelude.{◌≡◌, ⊤, ℕ, ◌^◌, ◌<◌, ◌≤◌, ◌==◌, suc, zero, min, false, List, [], ◌∷◌, ◌++◌, length, map, flat_map, Option, Some, None, if◌then◌else◌}
use Rattle.std.specs.List.{All}
use Rattle.wt_proto.specs.declared.message.Msg.{Msg}
use Rattle.wt_proto.specs.declared.message.Stamped.{Stamped}
use Rattle.discrete_events.specs.Simulation.{Message}
use Rattle.discrete_events.specs.Core.{part_to}
use Rattle.discrete_events.specs.Merges.{IsMerge}
use Rattle.node.specs.React.{message_under_key}
use Rattle.quantum.specs.FreeRuns.{IsHandedOut, run_to_of}
use Rattle.quantum.specs.Stations.{StationModel, IsLive, IsUnbroken, MayAccept, accept_of, least_time_of, machine_of}

-- the lesser of two times, where there is one
abbrev pub sooner : Option ℕ → Option ℕ → Option ℕ
sooner None other = other
sooner (Some time) None = Some time
sooner (Some time) (Some other) = Some (min time other)

-- the time of the least event of some stations
abbrev pub earliest_of : List StationModel → Option ℕ
earliest_of [] = None
earliest_of (station ∷ stations) = sooner (least_time_of station) (earliest_of stations)

-- a station that isn't broken
pub record IsGood (station : StationModel) : Type 0 where
  pub whole : IsUnbroken station
  pub live : IsLive station

-- a station that has run up to a time
abbrev pub ran_to : ℕ → StationModel → StationModel
ran_to until station =
    let run = (run_to_of until station).0 in
    record {
      node = record { machine = machine_of station; state = run.node; broken = false };
      pending = run.pending;
      until = run.until;
      broken = false;
    }

-- what several stations hand out when they run up to a time, in their order
abbrev pub AreHandedOut : ℕ → List StationModel → List Stamped → Type 0
AreHandedOut until [] letters = letters ≡ []
AreHandedOut until (station ∷ stations) letters =
    (outs rest : List Stamped) × IsHandedOut until station (ran_to until station) outs
    × AreHandedOut until stations rest × (letters ≡ outs ++ rest)

-- the stations of a machine, or of a part of it, may run up to a time
pub record MayRun (until : ℕ) (stations : List StationModel) : Type 0 where
  pub few : length stations < 2 ^ 32
  pub budget : All (λ station. until ≤ (machine_of station).budget) stations
  pub forward : All (λ station. station.until ≤ until) stations

-- they have, and handed out messages
pub record HaveRun (until : ℕ) (before after : List StationModel) (letters : List Stamped) : Type 0 where
  pub ran : after ≡ map (ran_to until) before
  pub outs : AreHandedOut until before letters
  pub good : All IsGood after

-- stations of which one, by its place, has changed
abbrev pub changed_at : ℕ → (StationModel → StationModel) → List StationModel → List StationModel
changed_at place change [] = []
changed_at zero change (station ∷ stations) = change station ∷ stations
changed_at (suc place) change (station ∷ stations) = station ∷ changed_at place change stations

-- stations that were given messages, each to the station that it names
abbrev pub delivered : List Stamped → List StationModel → List StationModel
delivered [] stations = stations
delivered (letter ∷ letters) stations = delivered letters (changed_at letter.to (accept_of letter) stations)

-- the station at a place may be given a message
abbrev pub MayAcceptAt : ℕ → Stamped → List StationModel → Type 0
MayAcceptAt place letter [] = ⊥
MayAcceptAt zero letter (station ∷ stations) = MayAccept station letter
MayAcceptAt (suc place) letter (station ∷ stations) = MayAcceptAt place letter stations

-- each message may be given to its station once those before it are
abbrev pub MayDeliver : List Stamped → List StationModel → Type 0
MayDeliver [] stations = ⊤
MayDeliver (letter ∷ letters) stations =
    MayAcceptAt letter.to letter stations × MayDeliver letters (changed_at letter.to (accept_of letter) stations)

-- what stations hand out when they run up to a time may then be delivered
abbrev pub MayExchange : ℕ → List StationModel → Type 0
MayExchange until stations =
    (letters : List Stamped) → AreHandedOut until stations letters → MayDeliver letters (map (ran_to until) stations)

-- Stations have run up to a time, and were then given what they have sent to each other, in the order of the stations.
pub record HaveExchanged (until : ℕ) (before after : List StationModel) : Type 0 where
  pub letters : List Stamped
  pub handed_out : AreHandedOut until before letters
  pub good_runs : All IsGood (map (ran_to until) before)
  pub delivery : after ≡ delivered letters (map (ran_to until) before)
  pub good : All IsGood after

-- what a station hands out to another when they run up to a time, by their numbers
abbrev pub handed_to : ℕ → List StationModel → ℕ → ℕ → List (Message Msg)
handed_to until stations from to =
    part_to to (flat_map (λ station. if station.node.state.number == from then (run_to_of until station).1 else []) stations)

-- a station that was given messages one after the other
abbrev pub given : List Stamped → StationModel → StationModel
given [] station = station
given (letter ∷ letters) station = given letters (accept_of letter station)

-- each of some messages may be given to a station once those before it are
abbrev pub MayBeGiven : List Stamped → StationModel → Type 0
MayBeGiven [] station = ⊤
MayBeGiven (letter ∷ letters) station = MayAccept station letter × MayBeGiven letters (accept_of letter station)

-- Stations have run up to a time, and then each was given a merge of what the others have sent it.
pub record HaveAdvanced (until : ℕ) (before after : List StationModel) : Type 0 where
  pub letters : ℕ → List Stamped
  pub merges : (to : ℕ) → to < length before → IsMerge (length before) (λ from. handed_to until before from to) (map message_under_key (letters to))
  pub delivery : after ≡ map (λ station. given (letters station.node.state.number) (ran_to until station)) before
  pub good : All IsGood after
