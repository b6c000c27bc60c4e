-- A station at the start, and one that is given a message.
use Rattle.std.proofs.Common.{◌≡◌, ℕ, Bool, false, ◌<◌, ◌≤◌, ◌⊎◌, inl, inr, List, [], ◌∷◌, Option, Some, None, Result, Ok, Err, OnOk, OnErr, refl, ap, sym, ◌∙◌, subst, arith}
use Rattle.std.specs.FinMap.{get, insert}
use Rattle.wt_params.specs.declared.parts.MachineParts.{MachineParts}
use Rattle.wt_proto.specs.declared.key.Key.{Key}
use Rattle.wt_proto.specs.declared.message.Msg.{Msg}
use Rattle.wt_proto.specs.declared.message.Stamped.{Stamped}
use Rattle.wt_proto.specs.Messages.{key_of}
use Rattle.image_loader.specs.Images.{LoadedImages}
use Rattle.discrete_events.specs.Laws.{IsIn, IsAfter}
use Rattle.discrete_events.specs.KeyTimes.{earlier_less}
use Rattle.discrete_events.specs.Simulation.{Message, step_key}
use Rattle.discrete_events.proofs.Stations.{from_placed}
use Rattle.node.specs.declared.state.NodeState.{NodeState}
use Rattle.node.specs.Laws.{Fits, NodeModel}
use Rattle.node.specs.React.{message_under_key, wind_tunnel}
use Rattle.node.specs.Sound.{IsNode}
use Rattle.node.specs.Start.{start_node}
use Rattle.quantum.specs.declared.site.Site.{Site}
use Rattle.quantum.specs.Sites.{IsSite}
use Rattle.quantum.specs.Stations.{StationModel, IsLive, IsPast, MayAccept, accept_of, machine_of, pending_of}
use Rattle.event_queue.specs.Rising.{IsRising, HasNoKey, insert_of}
use Rattle.quantum.proofs.Pending.{none_waits, no_key, pending-insert}

-- a message that comes no earlier than a time that was come to is after the last event
past_after : (until : ℕ) (key : Key) (last : Option Key) → IsPast until last → until ≤ key.time → IsAfter last key
past_after until key None past late = tt
past_after until key (Some last) past late = earlier_less last key (omega arith)

pub accepted : (message : Stamped) (station : StationModel) → IsLive station → MayAccept station message → IsLive (accept_of message station)
accepted message station is may = record {
  whole = is.whole;
  sound = record {
    sound = is.sound.sound;
    fitting = λ key msg there. fitting key msg (known key msg there);
    no_past = λ key msg there to. after key msg to (known key msg there);
    step = is.sound.step;
    numbered = λ key msg there from. numbered key msg from (known key msg there);
  };
  own = λ key msg there. own key msg (known key msg there);
  ran = is.ran;
}
  where
    known : (key : Key) (msg : Msg) → get (insert station.pending (key_of message) message.msg) key ≡ Some msg → IsIn (key, msg) (message_under_key message ∷ []) ⊎ (get station.pending key ≡ Some msg)
    known key msg there = from_placed station.pending (message_under_key message ∷ []) key msg there

    fitting : (key : Key) (msg : Msg) → IsIn (key, msg) (message_under_key message ∷ []) ⊎ (get station.pending key ≡ Some msg) → Fits (machine_of station) (key, msg)
    fitting key msg (inl (inl same)) = subst (Fits (machine_of station)) (sym same) may.fits
    fitting key msg (inl (inr none)) = absurd none
    fitting key msg (inr old) = is.sound.fitting key msg old

    after : (key : Key) (msg : Msg) → key.to ≡ station.node.state.number → IsIn (key, msg) (message_under_key message ∷ []) ⊎ (get station.pending key ≡ Some msg) → IsAfter station.node.state.last key
    after key msg to (inl (inl same)) = past_after station.until key station.node.state.last is.ran (let late = may.late in let t : key.time ≡ message.time = ap (λ (m : Message Msg). m.0.time) same in omega (arith, t))
    after key msg to (inl (inr none)) = absurd none
    after key msg to (inr old) = is.sound.no_past key msg old to

    own : (key : Key) (msg : Msg) → IsIn (key, msg) (message_under_key message ∷ []) ⊎ (get station.pending key ≡ Some msg) → key.to ≡ station.node.state.number
    own key msg (inl (inl same)) = ap (λ (m : Message Msg). m.0.to) same ∙ may.to
    own key msg (inl (inr none)) = absurd none
    own key msg (inr old) = is.own key msg old

    numbered : (key : Key) (msg : Msg) → key.from ≡ station.node.state.number → IsIn (key, msg) (message_under_key message ∷ []) ⊎ (get station.pending key ≡ Some msg) → key.sequence < station.node.state.counters.sent
    numbered key msg from (inl (inl same)) = absurd (may.away (sym (ap (λ (m : Message Msg). m.0.from) same) ∙ from))
    numbered key msg from (inl (inr none)) = absurd none
    numbered key msg from (inr old) = is.sound.numbered key msg old from

start_unused : (machine : MachineParts) (loaded : LoadedImages) (traced : Bool) (number : ℕ) → (start_node machine loaded traced number).last ≡ None
unfolding start_node
start_unused machine loaded traced number = refl

-- a site at the start
pub started : (machine : MachineParts) (loaded : LoadedImages) (traced : Bool) (number : ℕ) (site : Site) →
    site.node.state ≡ start_node machine loaded traced number → IsNode site.node.machine site.node.state → site.node.broken ≡ false → site.queue ≡ [] → IsSite 0 site
started machine loaded traced number site state sound whole queue = record {
  whole = whole;
  sound = record {
    sound = sound;
    fitting = λ key msg waits. absurd (none key msg waits);
    no_past = λ key msg waits to. absurd (none key msg waits);
    step = λ time next. subst (λ (last : Option Key). IsAfter last (step_key (wind_tunnel site.node.machine) site.node.state time)) (sym unused) tt;
    numbered = λ key msg waits from. absurd (none key msg waits);
  };
  own = λ key msg waits. absurd (none key msg waits);
  ran = subst (IsPast 0) (sym unused) tt;
}
  where
    none : (key : Key) (msg : Msg) → get (pending_of site.queue) key ≡ Some msg → ⊥
    none key msg waits = none_waits key msg (ap (λ q. get (pending_of q) key) (sym queue) ∙ waits)

    unused : site.node.state.last ≡ None
    unused = ap (λ (s : NodeState). s.last) state ∙ start_unused machine loaded traced number

-- ---- a station and its site

-- a station that runs up to a time, with a queue
abbrev pub with_queue : NodeModel → ℕ → Bool → List Stamped → StationModel
with_queue node until broken queue = record { node = node; pending = pending_of queue; until = until; broken = broken }

pub live_site : (until : ℕ) (site : Site) (broken : Bool) → IsLive (with_queue site.node until broken site.queue) → IsSite until site
live_site until site broken is = record { whole = is.whole; sound = is.sound; own = is.own; ran = is.ran }

pub site_live : (until : ℕ) (site : Site) (broken : Bool) → IsSite until site → IsLive (with_queue site.node until broken site.queue)
site_live until site broken is = record { whole = is.whole; sound = is.sound; own = is.own; ran = is.ran }

-- a later time was come to as well
pub later_site : (past until : ℕ) (site : Site) → past ≤ until → IsSite past site → IsSite until site
later_site past until site later is = record { whole = is.whole; sound = is.sound; own = is.own; ran = still site.node.state.last is.ran }
  where
    still : (last : Option Key) → IsPast past last → IsPast until last
    still None ran = tt
    still (Some last) ran = omega arith

module _ (node : NodeModel) (until : ℕ) (broken : Bool) (queue after : List Stamped) (message : Stamped) (rising : IsRising queue) (rises : IsRising after) where
  pub new_key : MayAccept (with_queue node until broken queue) message → HasNoKey (key_of message) queue
  new_key may = no_key (key_of message) queue rising may.new

  pub accepts : MayAccept (with_queue node until broken queue) message → after ≡ insert_of message queue → with_queue node until broken after ≡ accept_of message (with_queue node until broken queue)
  accepts may is =
      let inserted = ap pending_of is ∙ pending-insert message queue rising (subst IsRising is rises) (new_key may) in
      λ i. record { node = node; pending = inserted i; until = until; broken = broken }

  pub accepts_live : (result : Result (Unit {0}) Stamped) → OnOk result (after ≡ insert_of message queue) → OnErr result (after ≡ queue) → IsLive (with_queue node until broken queue) → MayAccept (with_queue node until broken queue) message →
      IsLive (with_queue node until broken after)
  accepts_live (Ok done) ok err is may = subst IsLive (sym (accepts may ok)) (accepted message (with_queue node until broken queue) is may)
  accepts_live (Err back) ok err is may = subst (λ q. IsLive (with_queue node until broken q)) (sym err) is

  pub accepts_ok : (result : Result (Unit {0}) Stamped) → OnOk result (after ≡ insert_of message queue) → MayAccept (with_queue node until broken queue) message →
      OnOk result (with_queue node until broken after ≡ accept_of message (with_queue node until broken queue))
  accepts_ok (Ok done) ok may = accepts may ok
  accepts_ok (Err back) ok may = tt
