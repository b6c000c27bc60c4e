-- A core at the start.
use Rattle.std.proofs.Common.{◌≡◌, ℕ, zero, suc, List, [], length, get_or, replicate, Bool, false, Option, refl, ap, sym, ◌∙◌, subst}
use Rattle.std.specs.Option.{option_map}
use Rattle.std.proofs.lemmas.List.{length-map, length-replicate}
use Rattle.std.proofs.lemmas.List.FromFn.{length-map-range_with_len}
use Rattle.wt_params.specs.declared.parts.MachineParts.{MachineParts}
use Rattle.wt_params.specs.Machine.{IsMachine}
use Rattle.wt_proto.specs.declared.message.Msg.{Msg}
use Rattle.wt_proto.specs.declared.message.Stamped.{Stamped}
use Rattle.image_loader.specs.Images.{LoadedImages}
use Rattle.discrete_events.specs.Round.{quantum_end}
use Rattle.discrete_events.specs.Core.{Core, IsAtRest, core_of, world_of_core}
use Rattle.node.specs.declared.state.NodeState.{NodeState}
use Rattle.node.specs.React.{wind_tunnel}
use Rattle.quantum.specs.Stations.{StationModel, station_at_start, station_of}
use Rattle.quantum.specs.World.{start_of}
use Rattle.engine.specs.Quantum.{earliest_of}
use Rattle.engine.proofs.StartLemmas.{AreAtStart}
use Rattle.core_steps.specs.Cores.{CoreModel, IsCore, IsReached, seen, sent_to, under_keys}
use Rattle.core_steps.proofs.AtRest.{opens, start_live, start_reached, start_rests, start_stands, start_stations}

none_of : {A : Type 0} (d : A) (n k : ℕ) → get_or (replicate n d) k d ≡ d
none_of d zero k = refl
none_of d (suc n) zero = refl
none_of d (suc n) (suc k) = none_of d n k

module _ (machine : MachineParts) (loaded : LoadedImages) (traced : Bool) (numbers : IsMachine machine) (models : List StationModel) (all : AreAtStart machine loaded traced machine.nodes models)
    (count : ℕ) (count_is : count ≡ machine.nodes) (done : List Bool) (outs inboxes : List (List Stamped)) (done_is : done ≡ replicate count false) (outs_is : outs ≡ replicate count []) (inboxes_is : inboxes ≡ replicate count [])
    (until : Option ℕ) (until_is : until ≡ option_map (quantum_end (wind_tunnel machine)) (earliest_of models)) where
  abbrev at_start : CoreModel
  at_start = record { machine = machine; stations = models; done = done; outs = outs; inboxes = inboxes; kept_end = 0; quanta = 0; until = until; broken = false }

  abbrev first : Core NodeState Msg
  first = core_of (wind_tunnel machine) (start_of machine loaded traced)

  reached : IsReached machine first
  reached = start_reached machine loaded traced numbers models all

  pub start_seen : seen at_start ≡ first
  start_seen = λ i. record {
    stations = start_stations machine loaded traced numbers models all i;
    kept_end = 0;
    quanta = 0;
    until = (until_is ∙ opens machine numbers first reached (start_rests machine loaded traced numbers models all) models (start_live machine loaded traced numbers models all) (start_stations machine loaded traced numbers models all)) i;
    done = λ node. (ap (λ (marks : List Bool). get_or marks node false) done_is ∙ none_of false count node) i;
    out = λ from to. ap (sent_to to) (ap (λ (lists : List (List Stamped)). get_or lists from []) outs_is ∙ none_of [] count from) i;
    inbox = λ to. ap under_keys (ap (λ (lists : List (List Stamped)). get_or lists to []) inboxes_is ∙ none_of [] count to) i;
  }

  pub start_core : IsCore at_start
  start_core = record {
    numbers = numbers;
    stations = sym (length-map models station_of) ∙ ap length all.start ∙ length-map-range_with_len (station_at_start machine loaded traced) 0 machine.nodes;
    done = ap length done_is ∙ length-replicate count false ∙ count_is;
    outs = ap length outs_is ∙ length-replicate count [] ∙ count_is;
    inboxes = ap length inboxes_is ∙ length-replicate count [] ∙ count_is;
    live = start_live machine loaded traced numbers models all;
    reached = subst (IsReached machine) (sym start_seen) reached;
  }

  pub start_rest : IsAtRest (seen at_start) × (world_of_core (seen at_start) ≡ start_of machine loaded traced)
  start_rest = (subst IsAtRest (sym start_seen) (start_rests machine loaded traced numbers models all), ap world_of_core start_seen ∙ start_stands machine loaded traced numbers models all)
