-- An event that isn't a directory's leaves each block of the world coherent.
use Rattle.std.proofs.Common.{◌≡◌, ◌≢◌, ℕ, ◌⊎◌, inl, inr, Bool, true, false, List, [], ◌∷◌, ◌++◌, length, map, Some, refl, ap, sym, ◌∙◌, subst, arith}
use Rattle.std.specs.Prelude.{◌==◌}
use Rattle.std.specs.List.{AllByRecursion}
use Rattle.std.proofs.lemmas.Bool.{cases_Bool, eqb-true, eq-eqb}
use Rattle.std.specs.FinMap.{entries}
use Rattle.wt_params.specs.declared.parts.MachineParts.{MachineParts}
use Rattle.wt_params.specs.Machine.{IsMachine, home_of}
use Rattle.wt_proto.specs.declared.key.Key.{Key}
use Rattle.wt_proto.specs.declared.message.Body.{Body}
use Rattle.wt_proto.specs.declared.message.Body.TheVariants.{GetS, GetX, PutS, PutX, DataS, DataX, Inv, InvAck, Wake, Arrive, Leave, Go}
use Rattle.wt_proto.specs.declared.message.Msg.{Msg}
use Rattle.wt_proto.specs.declared.message.Stamped.{Stamped}
use Rattle.dir1sw.specs.Homes.{block_of}
use Rattle.discrete_events.specs.Simulation.{Event, Message}
use Rattle.discrete_events.specs.World.{least, events_in}
use Rattle.discrete_events.specs.Serial.{placed, taken, node_after}
use Rattle.discrete_events.specs.Laws.{IsIn}
use Rattle.discrete_events.proofs.Lists.{all_in, from_map, in_map}
use Rattle.node.specs.declared.state.NodeState.{NodeState}
use Rattle.node.specs.React.{record_of, message_under_key, wind_tunnel}
use Rattle.coherence.specs.Pipes.{not_from_home_of, writers}
use Rattle.coherence.specs.Block.{Cell, pipe, Home, View}
use Rattle.coherence.specs.Facts.{NodeFacts, asks_at_home, wakes_due, IsCoherent}
use Rattle.coherence.specs.Laws.{AreEnabled, steps_of}
use Rattle.coherence.specs.Entries.{kept_of, wake_in}
use Rattle.coherence.specs.Lines.{line, goes_from, comes_to, bodies}
use Rattle.coherence.specs.Steps.{Step as BlockStep, with_cell, step_of}
use Rattle.coherence.specs.Values.{AllCarry, HasValue, value_after}
use Rattle.coherence.specs.Deals.{Deal, left_by, stores_to, cell_of, is_for_home, sent_home, said, as_step, all_dealt, MayDealAll, DealsWith, AreStepsAt}
use Rattle.coherence.specs.Sends.{is_of_home, IsNotOfHome}
use Rattle.coherence.specs.Worlds.{World, under_way, to_home_in, from_home_in, cell_by, cell_in, is_wake, view_in, IsCoherentBlock, AreRight}
use Rattle.coherence.specs.Deals.Deal.{Asks, Upgrades, Gives, Writes, Fills, Drops}
use Rattle.coherence.proofs.Steps.{step_keeps, steps_keep}
use Rattle.coherence.proofs.Values.{values_kept}
use Rattle.coherence.proofs.Deals.{deals_are_steps_law}
use Rattle.coherence.proofs.Placed.{bodies_append, length_none}
use Rattle.coherence.proofs.WorldEvents.{IsWorldOf, node_is, two_true, comes_to_is, at, sends, news, after, news_is, none_from, home_rises, later_line, later_passed, later_count, later_here, later_elsewhere, in_later, reacted}

-- ---- views

-- A view that is alike at each point is coherent too.
pub alike_coherent : (one other : View) → other.home ≡ one.home → other.wakes ≡ one.wakes → ((node : ℕ) → other.cell node ≡ one.cell node) → IsCoherent one → IsCoherent other
alike_coherent one other home wakes cell is = record {
  nodes = λ node.
      subst (λ (h : Home). NodeFacts h.roll node (asks_at_home node h.roll h.waiting) (other.cell node)) (sym home)
      (subst (λ (c : Cell). NodeFacts one.home.roll node (asks_at_home node one.home.roll one.home.waiting) c) (sym (cell node)) (is.nodes node));
  wakes = wakes ∙ is.wakes ∙ ap wakes_due (sym home);
}

abbrev pub AreAlike : View → View → Type 0
AreAlike one other = (node : ℕ) → other.cell node ≡ one.cell node

-- and has the same value,
pub alike_value : (value : List ℕ) (one other : View) → other.home ≡ one.home → AreAlike one other → HasValue value one → HasValue value other
alike_value value one other home cell is = record {
  copies = λ node. subst (λ (c : Cell). AllCarry value (pipe c)) (sym (cell node)) (is.copies node);
  memory = λ none. ap (λ (h : Home). h.memory) home ∙ is.memory (λ node. ap (λ (c : Cell). writers (pipe c)) (sym (cell node)) ∙ none node);
}

-- as has one after some deals, but for what they store.
pub deals_value : (view : View) (node : ℕ) (deals : List Deal) (value : List ℕ) → IsCoherent view → AreEnabled view (map (as_step node) deals) → HasValue value view → HasValue (left_by deals value) (steps_of (map (as_step node) deals) view)
deals_value view node [] value facts may is = is
deals_value view node (deal ∷ deals) value facts may is =
    by deal (deals_value (step_of (as_step node deal) view) node deals (value_after (as_step node deal) value) (step_keeps view (as_step node deal) facts may.0) may.1 (values_kept.step view (as_step node deal) value facts may.0 is))
  where
    by : (d : Deal) → HasValue (left_by deals (value_after (as_step node d) value)) (steps_of (map (as_step node) deals) (step_of (as_step node d) view)) → HasValue (left_by (d ∷ deals) value) (steps_of (map (as_step node) deals) (step_of (as_step node d) view))
    by (Asks exclusive) h = h
    by (Upgrades bytes) h = h
    by (Gives copy) h = h
    by (Writes old new) h = h
    by (Fills exclusive bytes more) h = h
    by (Drops more) h = h

-- ---- what is sent

-- The messages of a node that go to the home of a block are those that it sends there.
pub home_bodies : (block number : ℕ) (sends : List Stamped) → ((send : Stamped) → IsIn send sends → send.from ≡ number) →
    bodies (line (goes_from block number) (map message_under_key sends)) ≡ sent_home block (said sends)
home_bodies block number [] from = refl
home_bodies block number (first ∷ rest) from =
    let here : (first.from == number) ≡ true = eq-eqb first.from number (from first (inl refl)) in
    let later = home_bodies block number rest (λ send h. from send (inr h)) in
    elim (cases_Bool (is_for_home block first.msg)) [
      | inl goes ↦ rw (here, goes) (ap (λ (l : List Body). first.msg.body ∷ l) later)
      | inr stays ↦ rw (here, stays) later
    ]

-- what isn't of a home isn't from one, and no Wake
not_of_home : (body : Body) → is_of_home body ≡ false → (not_from_home_of body ≡ 1) × (wake_in body ≡ 0)
not_of_home GetS is = (refl, refl)
not_of_home (GetX had) is = (refl, refl)
not_of_home PutS is = (refl, refl)
not_of_home (PutX bytes) is = (refl, refl)
not_of_home (InvAck bytes) is = (refl, refl)
not_of_home Arrive is = (refl, refl)
not_of_home Leave is = (refl, refl)
not_of_home Go is = (refl, refl)
not_of_home (DataS bytes) is = absurd cc
not_of_home (DataX bytes) is = absurd cc
not_of_home Inv is = absurd cc
not_of_home Wake is = absurd cc

module _ (sends : List Stamped) (out : AllByRecursion IsNotOfHome sends) where
  each_out : (message : Message Msg) → IsIn message (map message_under_key sends) → is_of_home message.1.body ≡ false
  each_out message h = of (from_map message_under_key message sends h)
    where
      of : (send : Stamped) × IsIn send sends × (message ≡ message_under_key send) → is_of_home message.1.body ≡ false
      of (send, member, e) = ap (λ (m : Message Msg). is_of_home m.1.body) e ∙ all_in IsNotOfHome send sends out member

  pub none_comes : (block number : ℕ) → line (comes_to block number) (map message_under_key sends) ≡ []
  none_comes block number = length_none (comes_to block number) (map message_under_key sends) each
    where
      each : (message : Message Msg) → IsIn message (map message_under_key sends) → comes_to block number message ≡ false
      each message h = elim (cases_Bool (comes_to block number message)) [
        | inl t ↦ absurd (let a = (comes_to_is block number message t).2 in let b = (not_of_home message.1.body (each_out message h)).0 in omega (arith, a, b))
        | inr f ↦ f
      ]

  pub no_wake : (block : ℕ) → line (is_wake block) (map message_under_key sends) ≡ []
  no_wake block = length_none (is_wake block) (map message_under_key sends) each
    where
      each : (message : Message Msg) → IsIn message (map message_under_key sends) → is_wake block message ≡ false
      each message h = elim (cases_Bool (is_wake block message)) [
        | inl t ↦ absurd (let a = eqb-true (wake_in message.1.body) 1 (two_true (message.1.block == block) (wake_in message.1.body == 1) t).1 in let b = (not_of_home message.1.body (each_out message h)).1 in omega (arith, a, b))
        | inr f ↦ f
      ]

-- ---- the block after it

-- A block is coherent then, and has the same value where there was no store to it.
pub record IsLater (machine : MachineParts) (later : World) (block : ℕ) (stores : Bool) (value : List ℕ) : Type 0 where
  pub now : List ℕ
  pub same : stores ≡ false → now ≡ value
  pub coherent : IsCoherentBlock machine later block now

module _ (machine : MachineParts) (is : IsMachine machine) (world : World) (ok : IsWorldOf machine world) (key : Key) (event : Event Msg) (is_least : least (events_in (wind_tunnel machine) world) ≡ Some (key, event)) where
  abbrev it : NodeState
  it = (at machine is world ok key event is_least).node

  abbrev its_sends : List Stamped
  its_sends = sends machine is world ok key event is_least

  abbrev then : NodeState
  then = after machine is world ok key event is_least

  abbrev left : List (Key × Msg)
  left = entries (taken event world.pending)

  -- of a block: what its node deals, and that the lines of others stay
  pub record IsDealt (block : ℕ) : Type 0 where
    pub deals : DealsWith (stores_to machine (record_of machine it event).deed block) (cell_of block (to_home_in world block it.number) (from_home_in world block it.number) it)
        (cell_of block (to_home_in world block it.number ++ sent_home block (said its_sends)) (bodies (line (comes_to block it.number) left)) then)
    pub homes : (number : ℕ) → line (goes_from block number) left ≡ under_way (goes_from block number) world
    pub others : (number : ℕ) → (number == it.number) ≡ false → line (comes_to block number) left ≡ under_way (comes_to block number) world
    pub wakes : length (line (is_wake block) left) ≡ length (under_way (is_wake block) world)

  module _ (later : World) (nodes_is : later.nodes ≡ map (node_after (wind_tunnel machine) key event) world.nodes) (pending_is : later.pending ≡ placed (taken event world.pending) (news machine is world ok key event is_least))
      (right : AreRight machine world) (directory : then.directory ≡ it.directory) (out : AllByRecursion IsNotOfHome its_sends) where
    module _ (block : ℕ) (dealt : IsDealt block) where
      from_it : (send : Stamped) → IsIn send its_sends → send.from ≡ it.number
      from_it send h = (news_is machine is world ok key event is_least (message_under_key send) (in_map message_under_key send its_sends h)).from

      abbrev now : Cell
      now = cell_of block (to_home_in world block it.number ++ sent_home block (said its_sends)) (bodies (line (comes_to block it.number) left)) then

      up_here : to_home_in later block it.number ≡ to_home_in world block it.number ++ sent_home block (said its_sends)
      up_here =
          ap bodies (later_line machine is world ok key event is_least later nodes_is pending_is (goes_from block it.number) (home_rises machine is world ok key event is_least right block it.number))
          ∙ bodies_append (line (goes_from block it.number) left) (line (goes_from block it.number) (map message_under_key its_sends))
          ∙ (λ i. bodies (dealt.homes it.number i) ++ home_bodies block it.number its_sends from_it i)

      up_there : (number : ℕ) → (number == it.number) ≡ false → to_home_in later block number ≡ to_home_in world block number
      up_there number apart =
          ap bodies (later_passed machine is world ok key event is_least later nodes_is pending_is (goes_from block number) (none_from machine is world ok key event is_least block number apart) ∙ dealt.homes number)

      down : (number : ℕ) → from_home_in later block number ≡ bodies (line (comes_to block number) left)
      down number = ap bodies (later_passed machine is world ok key event is_least later nodes_is pending_is (comes_to block number) (none_comes its_sends out block number))

      cell_here : cell_in later block it.number ≡ now
      cell_here =
          (λ i. cell_by block (up_here i) (down it.number i) (later_here machine is world ok key event is_least later nodes_is pending_is i))

      cell_there : (number : ℕ) → (number == it.number) ≡ false → cell_in later block number ≡ cell_in world block number
      cell_there number apart =
          (λ i. cell_by block (up_there number apart i) ((down number ∙ ap bodies (dealt.others number apart)) i) (later_elsewhere machine is world ok key event is_least later nodes_is pending_is number apart i))

      cells : (number : ℕ) → cell_in later block number ≡ with_cell it.number now (cell_in world block) number
      cells number = elim (cases_Bool (number == it.number)) [
        | inl here ↦ rw here (ap (cell_in later block) (eqb-true number it.number here) ∙ cell_here)
        | inr apart ↦ rw apart (cell_there number apart)
      ]

      cell_before : cell_in world block it.number ≡ cell_of block (to_home_in world block it.number) (from_home_in world block it.number) it
      cell_before = ap (cell_by block (to_home_in world block it.number) (from_home_in world block it.number)) (node_is machine 0 world.nodes it ok.numbered (at machine is world ok key event is_least).member)

      abbrev steps : List BlockStep
      steps = map (as_step it.number) dealt.deals.deals

      abbrev view_before : Home → View
      view_before home = view_in world block home

      may : (home : Home) → MayDealAll ((view_before home).cell it.number) dealt.deals.deals
      may home = subst (λ (c : Cell). MayDealAll c dealt.deals.deals) (sym cell_before) dealt.deals.may

      are_steps : (home : Home) → AreStepsAt (view_before home) it.number steps (all_dealt dealt.deals.deals ((view_before home).cell it.number))
      are_steps home = deals_are_steps_law (view_before home) it.number dealt.deals.deals (may home)

      alike : (home : Home) → AreAlike (steps_of steps (view_before home)) (view_in later block home)
      alike home number =
          cells number ∙ (λ i. with_cell it.number ((dealt.deals.is ∙ ap (all_dealt dealt.deals.deals) (sym cell_before)) i) (cell_in world block) number) ∙ sym ((are_steps home).cells number)

      coherent : (home : Home) → IsCoherent (view_before home) → IsCoherent (view_in later block home)
      coherent home facts =
          let step = are_steps home in
          alike_coherent (steps_of steps (view_before home)) (view_in later block home) (sym step.home)
          ((let w = later_count machine is world ok key event is_least later nodes_is pending_is (is_wake block) in
          let n = ap (λ (l : List (Key × Msg)). length l) (no_wake its_sends out block) in let o = dealt.wakes in omega (arith, w, n, o)) ∙ sym step.wakes)
          (alike home)
          (steps_keep (view_before home) steps facts step.enabled)

      valued : (home : Home) (value : List ℕ) → IsCoherent (view_before home) → HasValue value (view_before home) → HasValue (left_by dealt.deals.deals value) (view_in later block home)
      valued home value facts has =
          let step = are_steps home in
          alike_value (left_by dealt.deals.deals value) (steps_of steps (view_before home)) (view_in later block home) (sym step.home) (alike home)
          (deals_value (view_before home) it.number dealt.deals.deals value facts step.enabled has)

      -- The directory of its home stays, and its value but where there is a store to it.
      pub dealt_block : (value : List ℕ) → IsCoherentBlock machine world block value → IsLater machine later block (stores_to machine (record_of machine it event).deed block) value
      dealt_block value before = record {
        now = left_by dealt.deals.deals value;
        same = λ none. dealt.deals.keeps none value;
        coherent = record {
          listed = before.listed;
          home = before.home;
          kept = λ node member home. by node home (in_later machine is world ok key event is_least later nodes_is pending_is node member);
          facts = coherent before.home before.facts;
          has_value = valued before.home value before.facts before.has_value;
        };
      }
        where
          by : (node : NodeState) → node.number ≡ home_of machine block → (node ≡ then) ⊎ (IsIn node world.nodes × (node.number ≢ it.number)) → block_of node.directory block ≡ kept_of before.listed before.home
          by node home (inl same) =
              ap (λ (n : NodeState). block_of n.directory block) same ∙ ap (λ d. block_of d block) directory
              ∙ before.kept it (at machine is world ok key event is_least).member (sym (ap (λ (n : NodeState). n.number) same ∙ (reacted machine is world ok key event is_least).number) ∙ home)
          by node home (inr other) = before.kept node other.0 home
