-- A node on its way through a run of its own.
use Rattle.std.proofs.Common.{◌≡◌, ℕ, suc, ◌-◌, ◌≤◌, List, [], ◌∷◌, ◌++◌, Some, None, append_assoc, refl, ap, sym, ◌∙◌, arith}
use Rattle.std.proofs.lemmas.List.{append-nil}
use Rattle.wt_proto.specs.declared.key.Key.{Key}
use Rattle.discrete_events.specs.Simulation.{Simulation, Event, Message}
use Rattle.discrete_events.specs.World.{events_below, least}
use Rattle.discrete_events.specs.Serial.{placed, taken}
use Rattle.discrete_events.specs.Round.{FreeRun, to_itself, to_others, with_outs, free_run, local}
use Rattle.discrete_events.specs.Laws.{IsDue, Reacts, IsSimulation, IsStation}
use Rattle.discrete_events.proofs.Queues.{Queue}
use Rattle.discrete_events.proofs.Stations as stations
use Rattle.discrete_events.proofs.FreeRuns.{own_event, own_station, rests, begins}

-- a run so far: with what is left of it, it is the whole run
pub record IsOnTheWay {S X : Type 0} (sim : Simulation S X) (until : ℕ) (start : S) (waiting : Queue X) (node : S) (pending : Queue X) (outs : List (Message X)) : Type 0 where
  pub run : local sim until start waiting ≡ with_outs outs (local sim until node pending)

module _ {S X : Type 0} (sim : Simulation S X) (until : ℕ) (start : S) (waiting : Queue X) where
  pub at_start : IsOnTheWay sim until start waiting start waiting []
  at_start = record { run = refl }

  with_more : (a b : List (Message X)) (run : FreeRun S X) → with_outs a (with_outs b run) ≡ with_outs (a ++ b) run
  with_more a b run = λ i. record { node = run.node; pending = run.pending; outs = sym (append_assoc a b run.outs) i }

  -- where no event is left, it has come to its end
  pub at_the_end : (node : S) (pending : Queue X) (outs : List (Message X)) → IsOnTheWay sim until start waiting node pending outs → least (events_below sim until (node ∷ []) pending) ≡ None →
      local sim until start waiting ≡ record { node = node; pending = pending; outs = outs }
  at_the_end node pending outs way none =
      way.run ∙ ap (with_outs outs) (rests sim until (sim.event_limit - sim.handled node) node pending none)
      ∙ (λ i. record { node = node; pending = pending; outs = append-nil outs i })

module _ {S X : Type 0} (sim : Simulation S X) (IsSound : S → Type 0) (Fits : Message X → Type 0) (laws : IsSimulation sim IsSound Fits) (until : ℕ) (within : until ≤ sim.budget)
    (node : S) (pending : Queue X) (key : Key) (event : Event X) (is_least : least (events_below sim until (node ∷ []) pending) ≡ Some (key, event)) (st : IsStation sim IsSound Fits node pending) where
  -- the least event is due
  pub own_due : IsDue sim Fits node key event
  own_due = stations.due sim IsSound Fits laws until (node ∷ []) pending key event is_least (own_event sim until node pending key event is_least) st within

  pub own_reacts : Reacts sim IsSound Fits node key (sim.react node event).0 (sim.react node event).1
  own_reacts = stations.reacts sim IsSound Fits laws until (node ∷ []) pending key event is_least (own_event sim until node pending key event is_least) st within

  pub own_next : IsStation sim IsSound Fits (sim.react node event).0 (placed (taken event pending) (to_itself sim node (sim.react node event).1))
  own_next = own_station sim IsSound Fits laws until within node pending key event is_least st

  -- one event more
  pub one_more : (start : S) (waiting : Queue X) (outs : List (Message X)) → IsOnTheWay sim until start waiting node pending outs →
      IsOnTheWay sim until start waiting (sim.react node event).0 (placed (taken event pending) (to_itself sim node (sim.react node event).1)) (outs ++ to_others sim node (sim.react node event).1)
  one_more start waiting outs way = record {
    run =
        way.run
        ∙ ap (λ n. with_outs outs (free_run sim until n node pending)) left
        ∙ ap (with_outs outs) (begins sim until (sim.event_limit - sim.handled new) node pending (key, event) is_least)
        ∙ with_more sim until start waiting outs (to_others sim node (sim.react node event).1) (free_run sim until (sim.event_limit - sim.handled new) new (placed (taken event pending) (to_itself sim node (sim.react node event).1)));
  }
    where
      new : S
      new = (sim.react node event).0

      left : sim.event_limit - sim.handled node ≡ suc (sim.event_limit - sim.handled new)
      left = let more = own_reacts.handled in let most = laws.within new own_reacts.sound in omega (arith, more)
