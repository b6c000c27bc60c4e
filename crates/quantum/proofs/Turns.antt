-- What a node does next, by its first message and its next step.
use Rattle.std.proofs.Common.{◌≡◌, ℕ, suc, ◌≤◌, Bool, true, false, cond, List, [], ◌∷◌, Option, Some, None, refl, ap, sym, ◌∙◌, subst, arith}
use Rattle.std.specs.Prelude.{nat_lt, option_map}
use Rattle.std.proofs.lemmas.Bool.Decides.{nat_tests}
use Rattle.std.specs.FinMap.{get}
use Rattle.wt_params.specs.declared.parts.MachineParts.{MachineParts}
use Rattle.wt_proto.specs.declared.key.Key.{Key}
use Rattle.wt_proto.specs.declared.message.Msg.{Msg}
use Rattle.wt_proto.specs.declared.message.Stamped.{Stamped}
use Rattle.wt_proto.specs.Messages.{key_of}
use Rattle.event_queue.specs.Rising.{IsRising}
use Rattle.discrete_events.specs.Simulation.{Event, Step, Arrival, step_key}
use Rattle.discrete_events.specs.World.{is_spent}
use Rattle.discrete_events.specs.Laws.{IsSimulation}
use Rattle.discrete_events.proofs.Keys.{IsUpTo, upto_time}
use Rattle.node.specs.declared.state.NodeState.{NodeState}
use Rattle.node.specs.Laws.{Fits}
use Rattle.node.specs.React.{message_under_key, wind_tunnel}
use Rattle.quantum.proofs.Way.{own_due}
use Rattle.node.specs.Sound.{IsNode}
use Rattle.node.specs.State.{next_step_of, next_key, step_time}
use Rattle.node.proofs.EventKept.{machines_are_simulations}
use Rattle.node.proofs.Kept.{step_in_is}
use Rattle.quantum.specs.declared.site.Site.{Site}
use Rattle.quantum.specs.declared.site.Turn.TheVariants as turns
use Rattle.quantum.specs.Sites.{IsSite, IsFirst, IsTurn, before_of, first_time_of, least_below, least_time_at}
use Rattle.quantum.specs.Stations.{pending_of}
use Rattle.quantum.proofs.Pending.{first_upto, none_waits, pending-first}
use Rattle.quantum.proofs.OwnEvents.{spent_has_none, none_before, step_is_least, message_is_least}

module _ (site : Site) (until past : ℕ) (is : IsSite past site) (rising : IsRising site.queue) where
  abbrev machine : MachineParts
  machine = site.node.machine

  abbrev state : NodeState
  state = site.node.state

  laws : IsSimulation (wind_tunnel machine) (IsNode machine) (Fits machine)
  laws = (machines_are_simulations machine is.sound.sound.numbers).laws

  pub no_turn_spent : true ≡ is_spent (wind_tunnel machine) state → least_below until site ≡ None
  no_turn_spent spent = spent_has_none (wind_tunnel machine) (IsNode machine) (Fits machine) laws until state (pending_of site.queue) is.sound (sym spent)

  abbrev pub WaitsFrom : ℕ → Type 0
  WaitsFrom time = (key : Key) (msg : Msg) → get (pending_of site.queue) key ≡ Some msg → key.to ≡ state.number → time ≤ key.time

  abbrev pub StepsFrom : ℕ → Type 0
  StepsFrom time = (at : ℕ) → next_step_of state ≡ Some at → time ≤ at

  no_turn : WaitsFrom until → StepsFrom until → least_below until site ≡ None
  no_turn messages steps = none_before (wind_tunnel machine) (IsNode machine) (Fits machine) laws until state (pending_of site.queue) is.sound messages steps

  pub step_turn : (time : ℕ) → false ≡ is_spent (wind_tunnel machine) state → next_step_of state ≡ Some time → WaitsFrom (suc time) → IsTurn until site (before_of turns.Step time until)
  step_turn time unspent next messages = by (nat_lt time until) refl
    where
      same : time ≡ step_time state
      same = sym (step_in_is state.mode (step_time state) time next)

      by : (b : Bool) → nat_lt time until ≡ b → IsTurn until site (cond b (Some turns.Step) None)
      by true e =
          step_is_least (wind_tunnel machine) (IsNode machine) (Fits machine) laws until state (pending_of site.queue) is.sound time (sym unspent) next (grind (arith, nat_tests)) messages
          ∙ (λ i. Some (step_key (wind_tunnel machine) state (same i), Step))
      by false e =
          let late : until ≤ time = grind (arith, nat_tests) in
          no_turn (λ key msg there to. let m = messages key msg there to in omega arith) (λ at later. let s : time ≡ at = cc in omega arith)

  message_turn_at : (queue : List Stamped) → site.queue ≡ queue → (time : ℕ) → false ≡ is_spent (wind_tunnel machine) state → Some time ≡ first_time_of queue → StepsFrom time → IsTurn until site (before_of turns.Message time until)
  message_turn_at [] at time unspent first steps = cc
  message_turn_at (message ∷ rest) at time unspent first steps = by (nat_lt time until) refl
    where
      same : time ≡ message.time
      same = cc

      rises : IsRising (message ∷ rest)
      rises = subst IsRising at rising

      there : get (pending_of site.queue) (key_of message) ≡ Some message.msg
      there = ap (λ queue. get (pending_of queue) (key_of message)) at ∙ pending-first message rest rises

      first_of_all : (key : Key) (msg : Msg) → get (pending_of site.queue) key ≡ Some msg → IsUpTo (key_of message) key
      first_of_all key msg waits = first_upto message rest key msg rises (ap (λ queue. get (pending_of queue) key) (sym at) ∙ waits)

      by : (b : Bool) → nat_lt time until ≡ b → IsTurn until site (cond b (Some turns.Message) None)
      by true e =
          subst (λ queue. IsFirst queue (least_below until site)) (sym at)
          (message_is_least (wind_tunnel machine) (IsNode machine) (Fits machine) laws until state (pending_of site.queue) is.sound (key_of message) message.msg (sym unspent) there (is.own (key_of message) message.msg there) (grind (arith, nat_tests)) first_of_all
          (λ at_time next. let s = steps at_time next in omega (arith, s, same)))
      by false e =
          let late : until ≤ time = grind (arith, nat_tests) in
          no_turn (λ key msg waits to. let m = upto_time (key_of message) key (first_of_all key msg waits) in omega (arith, m, late, same)) (λ at_time next. let s = steps at_time next in omega (arith, s, late))

  pub message_turn : (time : ℕ) → false ≡ is_spent (wind_tunnel machine) state → Some time ≡ first_time_of site.queue → StepsFrom time → IsTurn until site (before_of turns.Message time until)
  message_turn time unspent first steps = message_turn_at site.queue refl time unspent first steps

  -- where no message is first, none waits
  none_first : (queue : List Stamped) → site.queue ≡ queue → None ≡ first_time_of queue → (time : ℕ) → WaitsFrom time
  none_first [] at none time key msg there to = absurd (none_waits key msg (ap (λ queue. get (pending_of queue) key) (sym at) ∙ there))
  none_first (message ∷ rest) at none time key msg there to = cc

  pub none_wait : None ≡ first_time_of site.queue → (time : ℕ) → WaitsFrom time
  none_wait none time = none_first site.queue refl none time

  -- where one is, none waits before it
  some_first : (queue : List Stamped) → site.queue ≡ queue → (first time : ℕ) → Some first ≡ first_time_of queue → time ≤ first → WaitsFrom time
  some_first [] at first time some least key msg there to = cc
  some_first (message ∷ rest) at first time some least key msg there to =
      let m = upto_time (key_of message) key (first_upto message rest key msg (subst IsRising at rising) (ap (λ queue. get (pending_of queue) key) (sym at) ∙ there)) in
      let same : first ≡ message.time = cc in omega arith

  pub some_wait : (first time : ℕ) → Some first ≡ first_time_of site.queue → time ≤ first → WaitsFrom time
  some_wait first time some least = some_first site.queue refl first time some least

  pub none_at_all : None ≡ first_time_of site.queue → None ≡ next_step_of state → least_below until site ≡ None
  none_at_all none rests = no_turn (none_wait none until) (λ at next. cc)

-- ---- the time of the least event

least_some_time : (o : Option (Key × Event Msg)) (e : Key × Event Msg) (time : ℕ) → o ≡ Some e → e.0.time ≡ time → Some time ≡ option_map (λ (event : Key × Event Msg). event.0.time) o
least_some_time o e time is at = ap Some (sym at) ∙ ap (option_map (λ (event : Key × Event Msg). event.0.time)) (sym is)

module _ (site : Site) (budget past : ℕ) (all : budget ≡ site.node.machine.budget) (is : IsSite past site) where
  pub no_least_time : IsTurn budget site None → ◌≡◌ {A = Option ℕ} None (least_time_at site)
  no_least_time none = ap (option_map (λ (event : Key × Event Msg). event.0.time)) (sym (subst (λ b. least_below b site ≡ None) all none))

  pub step_least_time : IsTurn budget site (Some turns.Step) → next_step_of site.node.state ≡ least_time_at site
  step_least_time step =
      let at = subst (λ b. least_below b site ≡ Some (next_key site.node.machine site.node.state, Step)) all step in
      let due = own_due (wind_tunnel site.node.machine) (IsNode site.node.machine) (Fits site.node.machine) (machines_are_simulations site.node.machine is.sound.sound.numbers).laws site.node.machine.budget (omega arith) site.node.state (pending_of site.queue) (next_key site.node.machine site.node.state) Step at is.sound in
      due.its_own.0 ∙ least_some_time (least_below site.node.machine.budget site) (next_key site.node.machine site.node.state, Step) (step_time site.node.state) at refl

  message_time_at : (queue : List Stamped) → IsFirst queue (least_below budget site) → first_time_of queue ≡ least_time_at site
  message_time_at [] first = absurd first
  message_time_at (message ∷ rest) first =
      least_some_time (least_below site.node.machine.budget site) (key_of message, Arrival (message_under_key message)) message.time (subst (λ b. least_below b site ≡ Some (key_of message, Arrival (message_under_key message))) all first) refl

  pub message_least_time : IsTurn budget site (Some turns.Message) → first_time_of site.queue ≡ least_time_at site
  message_least_time first = message_time_at site.queue first
