-- Each event of the serial run leaves the blocks of the world coherent.
use Rattle.std.proofs.Common.{◌≡◌, ℕ, ◌<◌, inl, inr, Bool, true, false, List, [], ◌∷◌, ◌++◌, length, map, Option, Some, refl, ap, sym, ◌∙◌, subst, arith}
use Rattle.std.specs.Prelude.{◌==◌}
use Rattle.std.proofs.lemmas.Bool.{cases_Bool, eqb-true, eq-eqb}
use Rattle.std.specs.FinMap.{entries}
use Rattle.wt_params.specs.declared.parts.MachineParts.{MachineParts}
use Rattle.wt_params.specs.Machine.{IsMachine}
use Rattle.wt_proto.specs.declared.key.Key.{Key}
use Rattle.wt_proto.specs.declared.message.Body.{Body}
use Rattle.wt_proto.specs.declared.message.Body.TheVariants.{GetS, GetX, PutS, PutX, DataS, DataX, Inv, InvAck, Wake, Arrive, Leave, Go}
use Rattle.wt_proto.specs.declared.message.Msg.{Msg}
use Rattle.wt_proto.specs.Messages.{BlockFits}
use Rattle.dir1sw.specs.Table.{grant_body}
use Rattle.discrete_events.specs.Simulation.{Step, Arrival, Message}
use Rattle.discrete_events.specs.World.{least, events_in}
use Rattle.discrete_events.specs.Serial.{placed, taken, node_after}
use Rattle.node.specs.declared.state.NodeState.{NodeState}
use Rattle.node.specs.React.{record_of, wind_tunnel}
use Rattle.coherence.specs.Pipes.{not_to_home_of, not_from_home_of}
use Rattle.coherence.specs.Entries.{wake_in}
use Rattle.coherence.specs.Lines.{line, goes_from, comes_to, bodies}
use Rattle.coherence.specs.Block.{held, View}
use Rattle.coherence.specs.Values.{Carries, AllCarry, HasValue}
use Rattle.coherence.specs.Deals.{stores_to, cell_of, is_from_home, body_if, sent_home, said, wanted_in, DealsWith, IsWantedIn}
use Rattle.coherence.specs.RowDeals.{is_for_directory}
use Rattle.coherence.specs.Worlds.{World, under_way, to_home_in, from_home_in, cell_by, is_wake, view_in, IsCoherentBlock, AreRight}
use Rattle.coherence.proofs.StepDeals.{steps_deal_law}
use Rattle.coherence.proofs.MessageDeals.{messages_deal_law}
use Rattle.coherence.proofs.Moves.{events_move_law}
use Rattle.coherence.proofs.Sends.{sends_are_right_law}
use Rattle.coherence.proofs.Strays.{nothing_stray}
use Rattle.coherence.proofs.Placed.{line_taken}
use Rattle.coherence.proofs.WorldEvents.{IsWorldOf, node_is, two_true, goes_from_is, comes_to_is, at, sound, sends, news, after, step_now}
use Rattle.coherence.proofs.WorldDeals.{IsLater, IsDealt, dealt_block}
use Rattle.coherence.proofs.WorldRows.{cell_down, to_is, fits, stays, there, first_there}

-- what isn't for the directory isn't for a home, and no Wake
not_for_directory : (body : Body) → is_for_directory body ≡ false → (not_to_home_of body ≡ 1) × (wake_in body ≡ 0)
not_for_directory (DataS bytes) kind = (refl, refl)
not_for_directory (DataX bytes) kind = (refl, refl)
not_for_directory Inv kind = (refl, refl)
not_for_directory Arrive kind = (refl, refl)
not_for_directory Leave kind = (refl, refl)
not_for_directory Go kind = (refl, refl)
not_for_directory GetS kind = absurd cc
not_for_directory (GetX had) kind = absurd cc
not_for_directory PutS kind = absurd cc
not_for_directory (PutX bytes) kind = absurd cc
not_for_directory (InvAck bytes) kind = absurd cc
not_for_directory Wake kind = absurd cc

-- what a processor in a mode waits for, seen from the block of a message
cell_wants : (block : ℕ) (up down : List Body) (node : NodeState) → (cell_by block up down (Some node)).wants ≡ wanted_in block node.mode
cell_wants block up down node = refl

-- the first message from the home carries the value
first_carries : (value : List ℕ) (view : View) (number : ℕ) (exclusive : Bool) (bytes : List ℕ) (rest : List Body) → HasValue value view → (view.cell number).from_home ≡ grant_body exclusive bytes ∷ rest → bytes ≡ value
first_carries value view number exclusive bytes rest has front =
    by exclusive (carried (view.cell number).to_home (held (view.cell number).copy)
    (subst (λ (down : List Body). AllCarry value ((view.cell number).to_home ++ held (view.cell number).copy ++ down)) front (has.copies number)))
  where
    carried : (up mine : List Body) → AllCarry value (up ++ mine ++ grant_body exclusive bytes ∷ rest) → Carries value (grant_body exclusive bytes)
    carried up mine all = behind (up ++ mine) all
      where
        behind : (before : List Body) → AllCarry value (before ++ grant_body exclusive bytes ∷ rest) → Carries value (grant_body exclusive bytes)
        behind [] a = a.0
        behind (first ∷ more) a = behind more a.1

    by : (x : Bool) → Carries value (grant_body x bytes) → bytes ≡ value
    by true is = is
    by false is = is

-- ---- a step

module _ (machine : MachineParts) (is : IsMachine machine) (world : World) (ok : IsWorldOf machine world) (key : Key) where
  module _ (is_least : least (events_in (wind_tunnel machine) world) ≡ Some (key, Step)) where
    step_dealt : (block : ℕ) → IsDealt machine is world ok key Step is_least block
    step_dealt block = record {
      deals = steps_deal_law machine (at machine is world ok key Step is_least).node block
          (to_home_in world block (at machine is world ok key Step is_least).node.number) (from_home_in world block (at machine is world ok key Step is_least).node.number)
          (sound machine is world ok key Step is_least) (step_now machine is world ok key Step is_least refl).0;
      homes = λ number. refl;
      others = λ number apart. refl;
      wakes = refl;
    }

    pub blocks_after_step : (later : World) → later.nodes ≡ map (node_after (wind_tunnel machine) key Step) world.nodes → later.pending ≡ placed (taken Step world.pending) (news machine is world ok key Step is_least) →
        AreRight machine world → (block : ℕ) (value : List ℕ) → IsCoherentBlock machine world block value → IsLater machine later block (stores_to machine (record_of machine (at machine is world ok key Step is_least).node Step).deed block) value
    blocks_after_step later nodes_is pending_is right block =
        dealt_block machine is world ok key Step is_least later nodes_is pending_is right
        (events_move_law.step_left machine (at machine is world ok key Step is_least).node (step_now machine is world ok key Step is_least refl).0).directory
        (sends_are_right_law.step_out machine (at machine is world ok key Step is_least).node)
        block (step_dealt block)

  -- ---- a message that isn't a directory's

  module _ (message : Message Msg) (is_least : least (events_in (wind_tunnel machine) world) ≡ Some (key, Arrival message)) (right : AreRight machine world) where
    abbrev it : NodeState
    it = (at machine is world ok key (Arrival message) is_least).node

    abbrev left : List (Key × Msg)
    left = entries (taken (Arrival message) world.pending)

    abbrev it_stays : (is_of : Key × Msg → Bool) → is_of message ≡ false → line is_of left ≡ under_way is_of world
    it_stays = stays machine is world ok key message is_least right

    -- ---- Data is asked for

    -- what comes from a home comes to its node as the first of its line
    of_line : not_from_home_of message.1.body ≡ 0 → comes_to message.1.block it.number message ≡ true
    of_line kind = rw (eq-eqb message.0.to it.number (to_is machine is world ok key message is_least right), eq-eqb message.1.block message.1.block refl, kind) refl

    first_down : not_from_home_of message.1.body ≡ 0 → (rest : List (Key × Msg)) × (under_way (comes_to message.1.block it.number) world ≡ message ∷ rest)
    first_down kind = first_there machine is world ok key message is_least right (comes_to message.1.block it.number) (of_line kind) (λ other t. (comes_to_is message.1.block it.number other t).0)

    granted : (exclusive : Bool) (bytes : List ℕ) → message.1.body ≡ grant_body exclusive bytes → not_from_home_of message.1.body ≡ 0 → (value : List ℕ) → IsCoherentBlock machine world message.1.block value → (wanted_in message.1.block it.mode ≡ Some exclusive) × (bytes ≡ value)
    granted exclusive bytes e kind value before =
        let view = view_in world message.1.block before.home in
        let first = first_down kind in
        let here = node_is machine 0 world.nodes it ok.numbered (at machine is world ok key (Arrival message) is_least).member in
        let front : (view.cell it.number).from_home ≡ grant_body exclusive bytes ∷ bodies first.0 =
        cell_down message.1.block (to_home_in world message.1.block it.number) (from_home_in world message.1.block it.number) _ ∙ ap bodies first.1 ∙ ap (λ (b : Body). b ∷ bodies first.0) e in (
          sym (ap (λ (c : Option NodeState). (cell_by message.1.block (to_home_in world message.1.block it.number) (from_home_in world message.1.block it.number) c).wants) here)
              ∙ nothing_stray.filled view it.number exclusive bytes (bodies first.0) before.facts front,
          first_carries value view it.number exclusive bytes (bodies first.0) before.has_value front,
        )

    pub wanted : (value : ℕ → List ℕ) → ((block : ℕ) → block < machine.blocks → IsCoherentBlock machine world block (value block)) → IsWantedIn it.mode message.1
    wanted value before = by message.1.body refl
      where
        by : (body : Body) → message.1.body ≡ body → IsWantedIn it.mode (record { block = message.1.block; body = body })
        by (DataS bytes) e = (granted false bytes e (ap not_from_home_of e) (value message.1.block) (before message.1.block (subst (BlockFits machine message.1.block) e (fits machine is world ok key message is_least right).msg.block))).0
        by (DataX bytes) e = (granted true bytes e (ap not_from_home_of e) (value message.1.block) (before message.1.block (subst (BlockFits machine message.1.block) e (fits machine is world ok key message is_least right).msg.block))).0
        by GetS e = tt
        by (GetX had) e = tt
        by PutS e = tt
        by (PutX bytes) e = tt
        by Inv e = tt
        by (InvAck bytes) e = tt
        by Wake e = tt
        by Arrive e = tt
        by Leave e = tt
        by Go e = tt

    -- Data to write brings the value of its block.
    pub brought : (value : ℕ → List ℕ) → ((block : ℕ) → block < machine.blocks → IsCoherentBlock machine world block (value block)) → (bytes : List ℕ) → message.1.body ≡ DataX bytes → bytes ≡ value message.1.block
    brought value before bytes e = (granted true bytes e (ap not_from_home_of e) (value message.1.block) (before message.1.block (subst (BlockFits machine message.1.block) e (fits machine is world ok key message is_least right).msg.block))).1

    -- ---- its deals

    module _ (kind : is_for_directory message.1.body ≡ false) where
      not_up : (block number : ℕ) → goes_from block number message ≡ false
      not_up block number = elim (cases_Bool (goes_from block number message)) [
        | inl t ↦ absurd (let a = (goes_from_is block number message t).2 in let b = (not_for_directory message.1.body kind).0 in omega (arith, a, b))
        | inr f ↦ f
      ]

      not_wake : (block : ℕ) → is_wake block message ≡ false
      not_wake block = elim (cases_Bool (is_wake block message)) [
        | inl t ↦ absurd (let a = eqb-true (wake_in message.1.body) 1 (two_true (message.1.block == block) (wake_in message.1.body == 1) t).1 in let b = (not_for_directory message.1.body kind).1 in omega (arith, a, b))
        | inr f ↦ f
      ]

      not_there : (block number : ℕ) → (number == it.number) ≡ false → comes_to block number message ≡ false
      not_there block number apart = elim (cases_Bool (comes_to block number message)) [
        | inl t ↦ absurd (let e : number ≡ it.number = sym (comes_to_is block number message t).0 ∙ to_is machine is world ok key message is_least right in let t : (number == it.number) ≡ true = eq-eqb number it.number e in let f : true ≡ false = sym t ∙ apart in cc)
        | inr f ↦ f
      ]

      -- the line of its node: the message, where it is about the block, and what is left
      down_is : (block : ℕ) → from_home_in world block it.number ≡ body_if (is_from_home block message.1) message.1 ++ bodies (line (comes_to block it.number) left)
      down_is block = elim (cases_Bool (is_from_home block message.1)) [
        | inl from ↦
            let of_it : comes_to block it.number message ≡ true = rw (eq-eqb message.0.to it.number (to_is machine is world ok key message is_least right), from) refl in
            let first = first_there machine is world ok key message is_least right (comes_to block it.number) of_it (λ other t. (comes_to_is block it.number other t).0) in
            rw from (ap bodies first.1 ∙ ap (λ (l : List (Key × Msg)). message.1.body ∷ bodies l) (sym (line_taken (comes_to block it.number) world.pending message first.0 (there machine is world ok key message is_least right) first.1)))
        | inr other ↦
            let isnt : comes_to block it.number message ≡ false = rw (eq-eqb message.0.to it.number (to_is machine is world ok key message is_least right), other) refl in
            rw other (ap bodies (sym (it_stays (comes_to block it.number) isnt)))
      ]

      message_dealt : (value : ℕ → List ℕ) → ((block : ℕ) → block < machine.blocks → IsCoherentBlock machine world block (value block)) → (block : ℕ) → IsDealt machine is world ok key (Arrival message) is_least block
      message_dealt value before block = record {
        deals = subst (λ (down : List Body). DealsWith (stores_to machine (record_of machine it (Arrival message)).deed block) (cell_of block (to_home_in world block it.number) down it)
            (cell_of block (to_home_in world block it.number ++ sent_home block (said (sends machine is world ok key (Arrival message) is_least))) (bodies (line (comes_to block it.number) left)) (after machine is world ok key (Arrival message) is_least)))
            (sym (down_is block))
            (messages_deal_law machine it message.0 message.1 block (to_home_in world block it.number) (bodies (line (comes_to block it.number) left))
            (sound machine is world ok key (Arrival message) is_least) (wanted value before) (fits machine is world ok key message is_least right).msg.«data»);
        homes = λ number. it_stays (goes_from block number) (not_up block number);
        others = λ number apart. it_stays (comes_to block number) (not_there block number apart);
        wakes = ap (λ (l : List (Key × Msg)). length l) (it_stays (is_wake block) (not_wake block));
      }

      pub blocks_after_message : (later : World) → later.nodes ≡ map (node_after (wind_tunnel machine) key (Arrival message)) world.nodes → later.pending ≡ placed (taken (Arrival message) world.pending) (news machine is world ok key (Arrival message) is_least) →
          (after machine is world ok key (Arrival message) is_least).directory ≡ it.directory →
          (value : ℕ → List ℕ) → ((block : ℕ) → block < machine.blocks → IsCoherentBlock machine world block (value block)) → (block : ℕ) → block < machine.blocks →
          IsLater machine later block (stores_to machine (record_of machine it (Arrival message)).deed block) (value block)
      blocks_after_message later nodes_is pending_is directory value before block inside =
          dealt_block machine is world ok key (Arrival message) is_least later nodes_is pending_is right directory
          (sends_are_right_law.message_out machine it message.0 message.1 kind)
          block (message_dealt value before block) (value block) (before block inside)
