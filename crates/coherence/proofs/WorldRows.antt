-- A message to the directory leaves each block of the world coherent.
use Rattle.std.proofs.Common.{◌≡◌, ◌≢◌, ℕ, suc, ◌+◌, ◌-◌, ◌<◌, ◌≤◌, ◌⊎◌, inl, inr, Bool, true, false, List, [], ◌∷◌, ◌++◌, length, map, Option, Some, None, refl, ap, sym, ◌∙◌, subst, arith}
use Rattle.std.specs.Prelude.{◌==◌}
use Rattle.std.proofs.lemmas.Bool.{cases_Bool, eqb-true, eq-eqb, ne_eqb}
use Rattle.std.specs.FinMap.{get, entries, remove}
use Rattle.wt_params.specs.declared.parts.MachineParts.{MachineParts}
use Rattle.wt_params.specs.Machine.{IsMachine, home_of}
use Rattle.wt_proto.specs.declared.key.Key.{Key}
use Rattle.wt_proto.specs.declared.message.Body.{Body}
use Rattle.wt_proto.specs.declared.message.Body.TheVariants.{GetS, GetX, PutS, PutX, DataS, DataX, Inv, InvAck, Wake, Arrive, Leave, Go}
use Rattle.wt_proto.specs.declared.message.Msg.{Msg}
use Rattle.wt_proto.specs.declared.message.Outgoing.{Outgoing}
use Rattle.wt_proto.specs.declared.message.Stamped.{Stamped}
use Rattle.wt_proto.specs.Messages.{BlockFits}
use Rattle.trap_handler.specs.Trap.{invalidation, targets_of}
use Rattle.dir1sw.specs.declared.home.DirAct.{DirAct}
use Rattle.dir1sw.specs.declared.home.DirAct.TheVariants.{Done, Trap, Stray}
use Rattle.dir1sw.specs.declared.home.HomeBlock.{HomeBlock}
use Rattle.dir1sw.specs.declared.home.Place.{Place}
use Rattle.dir1sw.specs.Table as table
use Rattle.dir1sw.specs.Homes.{block_of, place_of, row_of}
use Rattle.discrete_events.specs.Simulation.{Arrival, Message}
use Rattle.discrete_events.specs.World.{least, events_in}
use Rattle.discrete_events.specs.Serial.{placed, taken, node_after}
use Rattle.discrete_events.specs.Laws.{IsIn}
use Rattle.discrete_events.proofs.Keys.{IsUpTo}
use Rattle.discrete_events.proofs.Queues.{in_get}
use Rattle.discrete_events.proofs.Numbered.{numbered_below}
use Rattle.node.specs.declared.state.NodeState.{NodeState}
use Rattle.node.specs.React.{message_under_key, wind_tunnel}
use Rattle.node.specs.Laws.{Fits}
use Rattle.coherence.specs.Pipes.{not_to_home_of, not_from_home_of, mark_of, total}
use Rattle.coherence.specs.Block.{Cell, View}
use Rattle.coherence.specs.Facts.{IsCoherent}
use Rattle.coherence.specs.Values.{HasValue}
use Rattle.coherence.specs.Rows.{Row, arrive_of, wake_of}
use Rattle.coherence.specs.Entries.{kept_of, called_by, all_sends, news_of, news_to, wake_in, wakes_in, is_stray, DoesAs, called_at, called_first, IsOfNodes, IsStep}
use Rattle.coherence.specs.Lines.{line, goes_from, comes_to, bodies}
use Rattle.coherence.specs.Meetings.{once}
use Rattle.coherence.specs.Steps.{by_row, taken as taken_at}
use Rattle.coherence.specs.Steps.Step.{Arrive as ArriveAtHome, Wake as WakeHome}
use Rattle.coherence.specs.Deals.{wanted_in, copy_of}
use Rattle.coherence.specs.RowDeals.{is_for_directory, outgoing, IsRowDone}
use Rattle.coherence.specs.Sends.{GoesRight}
use Rattle.coherence.specs.Worlds.{World, node_in, under_way, to_home_in, from_home_in, cell_by, cell_in, is_wake, view_in, IsCoherentBlock, AreRight}
use Rattle.coherence.proofs.RowSends.{is_of_barrier, AllGoBack, all_go_back}
use Rattle.coherence.proofs.Called.{rows_are_steps_law}
use Rattle.coherence.proofs.RowDeals.{rows_deal_law}
use Rattle.coherence.proofs.Steps.{step_keeps}
use Rattle.coherence.proofs.Unmarked.{IsUnmarked, arrive_unmarked, wake_unmarked}
use Rattle.coherence.proofs.Placed.{RiseAfter, line_taken, line_left, count_taken, in_line, first_of_line, bodies_append, length_none}
use Rattle.coherence.proofs.WorldEvents.{IsWorldOf, node_is, in_node, two_true, goes_from_is, comes_to_is, to_its_home, at, sound, key_to, sends, news, after, comes_rises, least_here, later_line, later_passed, later_count, later_here, later_elsewhere, in_later, reacted}
use Rattle.coherence.proofs.Values.{values_kept}
use Rattle.coherence.proofs.WorldDeals.{alike_coherent, alike_value}

-- ---- messages to the directory

-- what goes there goes to the home, and its block exists
for_directory : (body : Body) → is_for_directory body ≡ true → (not_to_home_of body ≡ 0) ⊎ (body ≡ Wake)
for_directory GetS kind = inl refl
for_directory (GetX had) kind = inl refl
for_directory PutS kind = inl refl
for_directory (PutX bytes) kind = inl refl
for_directory (InvAck bytes) kind = inl refl
for_directory Wake kind = inr refl
for_directory (DataS bytes) kind = absurd cc
for_directory (DataX bytes) kind = absurd cc
for_directory Inv kind = absurd cc
for_directory Arrive kind = absurd cc
for_directory Leave kind = absurd cc
for_directory Go kind = absurd cc

block_exists : (machine : MachineParts) (block : ℕ) (body : Body) → is_for_directory body ≡ true → BlockFits machine block body → block < machine.blocks
block_exists machine block GetS kind fits = fits
block_exists machine block (GetX had) kind fits = fits
block_exists machine block PutS kind fits = fits
block_exists machine block (PutX bytes) kind fits = fits
block_exists machine block (InvAck bytes) kind fits = fits
block_exists machine block Wake kind fits = fits
block_exists machine block (DataS bytes) kind fits = absurd cc
block_exists machine block (DataX bytes) kind fits = absurd cc
block_exists machine block Inv kind fits = absurd cc
block_exists machine block Arrive kind fits = absurd cc
block_exists machine block Leave kind fits = absurd cc
block_exists machine block Go kind fits = absurd cc

not_from_home : (body : Body) → is_for_directory body ≡ true → not_from_home_of body ≡ 1
not_from_home GetS kind = refl
not_from_home (GetX had) kind = refl
not_from_home PutS kind = refl
not_from_home (PutX bytes) kind = refl
not_from_home (InvAck bytes) kind = refl
not_from_home Wake kind = refl
not_from_home (DataS bytes) kind = absurd cc
not_from_home (DataX bytes) kind = absurd cc
not_from_home Inv kind = absurd cc
not_from_home Arrive kind = absurd cc
not_from_home Leave kind = absurd cc
not_from_home Go kind = absurd cc

goes_no_wake : (body : Body) → not_to_home_of body ≡ 0 → wake_in body ≡ 0
goes_no_wake GetS up = refl
goes_no_wake (GetX had) up = refl
goes_no_wake PutS up = refl
goes_no_wake (PutX bytes) up = refl
goes_no_wake (InvAck bytes) up = refl
goes_no_wake (DataS bytes) up = refl
goes_no_wake (DataX bytes) up = refl
goes_no_wake Inv up = refl
goes_no_wake Wake up = absurd cc
goes_no_wake Arrive up = refl
goes_no_wake Leave up = refl
goes_no_wake Go up = refl

-- ---- what a home sends

-- a message from a home about a block is Data, Inv or a Wake
news_body : (nodes about to : ℕ) (body : Body) → not_to_home_of body ≡ 1 → is_of_barrier body ≡ false →
    ((not_from_home_of body ≡ 0) × (news_of body ≡ body ∷ []) × (wake_in body ≡ 0)) ⊎ ((not_from_home_of body ≡ 1) × (news_of body ≡ []) × (wake_in body ≡ 1))
news_body nodes about to (DataS bytes) back other = inl (refl, refl, refl)
news_body nodes about to (DataX bytes) back other = inl (refl, refl, refl)
news_body nodes about to Inv back other = inl (refl, refl, refl)
news_body nodes about to Wake back other = inr (refl, refl, refl)
news_body nodes about to GetS back other = absurd cc
news_body nodes about to (GetX had) back other = absurd cc
news_body nodes about to PutS back other = absurd cc
news_body nodes about to (PutX bytes) back other = absurd cc
news_body nodes about to (InvAck bytes) back other = absurd cc
news_body nodes about to Arrive back other = absurd cc
news_body nodes about to Leave back other = absurd cc
news_body nodes about to Go back other = absurd cc

module _ (nodes about : ℕ) where
  -- The messages about the block to a node are its news,
  pub home_news : (node : ℕ) (sends : List Stamped) → AllGoBack nodes about (outgoing sends) → bodies (line (comes_to about node) (map message_under_key sends)) ≡ news_to node (outgoing sends)
  home_news node [] back = refl
  home_news node (first ∷ rest) back =
      let later = home_news node rest back.1 in
      let here : (first.msg.block == about) ≡ true = eq-eqb first.msg.block about back.0.block in
      elim (cases_Bool (node == first.to)) [
        | inl to ↦
            let at_it : (first.to == node) ≡ true = eq-eqb first.to node (sym (eqb-true node first.to to)) in
            elim (news_body nodes about first.to first.msg.body back.0.back back.0.other) [
              | inl copy ↦ rw (here, to, at_it, copy.0, copy.1) (ap (λ (l : List Body). first.msg.body ∷ l) later)
              | inr wake ↦ rw (here, to, at_it, wake.0, wake.1) later
            ]
        | inr apart ↦
            let away : (first.to == node) ≡ false = ne_eqb first.to node (λ e. let t : (node == first.to) ≡ true = eq-eqb node first.to (sym e) in let f : true ≡ false = sym t ∙ apart in cc) in
            rw (apart, away) later
      ]

  -- and its Wakes are counted.
  pub wake_news : (sends : List Stamped) → AllGoBack nodes about (outgoing sends) → length (line (is_wake about) (map message_under_key sends)) ≡ wakes_in (outgoing sends)
  wake_news [] back = refl
  wake_news (first ∷ rest) back =
      let later = wake_news rest back.1 in
      let here : (first.msg.block == about) ≡ true = eq-eqb first.msg.block about back.0.block in
      elim (news_body nodes about first.to first.msg.body back.0.back back.0.other) [
        | inl copy ↦ rw (here, copy.2) (omega (arith, later))
        | inr wake ↦ rw (here, wake.2) (omega (arith, later))
      ]

  -- Nothing of it goes to a home, and nothing is about another block.
  pub none_goes : (block node : ℕ) (sends : List Stamped) → AllGoBack nodes about (outgoing sends) → line (goes_from block node) (map message_under_key sends) ≡ []
  none_goes block node [] back = refl
  none_goes block node (first ∷ rest) back =
      let later = none_goes block node rest back.1 in
      elim (cases_Bool (goes_from block node (message_under_key first))) [
        | inl t ↦ absurd (let a = (goes_from_is block node (message_under_key first) t).2 in let b = back.0.back in omega (arith, a, b))
        | inr f ↦ rw f later
      ]

  pub other_comes : (block node : ℕ) (sends : List Stamped) → (block ≢ about) → AllGoBack nodes about (outgoing sends) → line (comes_to block node) (map message_under_key sends) ≡ []
  other_comes block node [] apart back = refl
  other_comes block node (first ∷ rest) apart back =
      let later = other_comes block node rest apart back.1 in
      elim (cases_Bool (comes_to block node (message_under_key first))) [
        | inl t ↦ absurd (apart (sym (comes_to_is block node (message_under_key first) t).1 ∙ back.0.block))
        | inr f ↦ rw f later
      ]

  pub other_wakes : (block : ℕ) (sends : List Stamped) → (block ≢ about) → AllGoBack nodes about (outgoing sends) → line (is_wake block) (map message_under_key sends) ≡ []
  other_wakes block [] apart back = refl
  other_wakes block (first ∷ rest) apart back =
      let later = other_wakes block rest apart back.1 in
      elim (cases_Bool (is_wake block (message_under_key first))) [
        | inl t ↦ absurd (apart (sym (eqb-true first.msg.block block (two_true (first.msg.block == block) (wake_in first.msg.body == 1) t).0) ∙ back.0.block))
        | inr f ↦ rw f later
      ]

no_bodies : (messages : List (Key × Msg)) → bodies messages ≡ [] → messages ≡ []
no_bodies [] none = refl
no_bodies (first ∷ rest) none = absurd (let e : first.1.body ∷ bodies rest ≡ [] = none in cc)

-- a trap wakes nobody
wakes_both : (one two : List Outgoing) → wakes_in (one ++ two) ≡ wakes_in one + wakes_in two
wakes_both [] two = omega arith
wakes_both (first ∷ rest) two = let r = wakes_both rest two in omega (arith, r)

calls_wake_nobody : (block : ℕ) (nodes : List ℕ) → wakes_in (map (invalidation block) nodes) ≡ 0
calls_wake_nobody block [] = refl
calls_wake_nobody block (first ∷ rest) = let r = calls_wake_nobody block rest in omega (arith, r)

act_wakes_nobody : (nodes block : ℕ) (act : DirAct) → wakes_in (called_by nodes block act) ≡ 0
act_wakes_nobody nodes block Done = refl
act_wakes_nobody nodes block Stray = refl
act_wakes_nobody nodes block (Trap plan) = calls_wake_nobody block (targets_of nodes plan.targets)

-- ---- a node's part

pub cell_down : (block : ℕ) (up down : List Body) (found : Option NodeState) → (cell_by block up down found).from_home ≡ down
cell_down block up down None = refl
cell_down block up down (Some node) = refl

cell_up : (block : ℕ) (up down now : List Body) (found : Option NodeState) → record (cell_by block up down found) { to_home = now } ≡ cell_by block now down found
cell_up block up down now None = refl
cell_up block up down now (Some node) = refl

cell_sent : (block : ℕ) (up down sent : List Body) (found : Option NodeState) → record (cell_by block up down found) { from_home = (cell_by block up down found).from_home ++ sent } ≡ cell_by block up (down ++ sent) found
cell_sent block up down sent None = refl
cell_sent block up down sent (Some node) = refl

-- ---- the message

module _ (machine : MachineParts) (is : IsMachine machine) (world : World) (ok : IsWorldOf machine world) (key : Key) (message : Message Msg) (is_least : least (events_in (wind_tunnel machine) world) ≡ Some (key, Arrival message))
    (right : AreRight machine world) where
  abbrev it : NodeState
  it = (at machine is world ok key (Arrival message) is_least).node

  abbrev its_sends : List Stamped
  its_sends = sends machine is world ok key (Arrival message) is_least

  abbrev its_news : List (Message Msg)
  its_news = news machine is world ok key (Arrival message) is_least

  abbrev then : NodeState
  then = after machine is world ok key (Arrival message) is_least

  abbrev block : ℕ
  block = message.1.block

  abbrev from : ℕ
  from = message.0.from

  abbrev left : List (Key × Msg)
  left = entries (remove world.pending message.0)

  pub key_is : key ≡ message.0
  key_is = (at machine is world ok key (Arrival message) is_least).of_node.0

  pub there : get world.pending message.0 ≡ Some message.1
  there = subst (λ (k : Key). get world.pending k ≡ Some message.1) key_is (at machine is world ok key (Arrival message) is_least).of_node.2

  pub to_is : message.0.to ≡ it.number
  to_is = ap (λ (k : Key). k.to) (sym key_is) ∙ key_to machine is world ok key (Arrival message) is_least

  pub fits : Fits machine message
  fits = ok.fitting message.0 message.1 there

  pub goes : GoesRight machine from message.0.to block message.1.body
  goes = right.goes message.0 message.1 there

  -- a line of which the message isn't stays
  pub stays : (is_of : Key × Msg → Bool) → is_of message ≡ false → line is_of left ≡ under_way is_of world
  stays is_of isnt = line_left is_of world.pending message there isnt

  -- it is the first of a line of which it is
  pub first_there : (is_of : Key × Msg → Bool) → is_of message ≡ true → ((other : Key × Msg) → is_of other ≡ true → other.0.to ≡ it.number) → (rest : List (Key × Msg)) × (under_way is_of world ≡ message ∷ rest)
  first_there is_of of_it here = first_of_line is_of world.pending message there of_it (λ other h.
      let among = in_line is_of world.pending other h in
      subst (λ (k : Key). IsUpTo k other.0) key_is (least_here machine is world ok key (Arrival message) is_least other.0 other.1 among.0 (here other among.1)))

  module _ (kind : is_for_directory message.1.body ≡ true) where
    exists : block < machine.blocks
    exists = block_exists machine block message.1.body kind fits.msg.block

    home_is : home_of machine block ≡ it.number
    home_is = by (for_directory message.1.body kind)
      where
        by : (not_to_home_of message.1.body ≡ 0) ⊎ (message.1.body ≡ Wake) → home_of machine block ≡ it.number
        by (inl up) = sym (to_its_home machine message.1.body from message.0.to block up goes) ∙ to_is
        by (inr wake) = let g : (from ≡ home_of machine block) × (message.0.to ≡ home_of machine block) = subst (GoesRight machine from message.0.to block) wake goes in sym g.1 ∙ to_is

    pub done : IsRowDone machine it from message.1 then its_sends
    done = rows_deal_law machine it message.0 message.1 (sound machine is world ok key (Arrival message) is_least) kind exists home_is

    abbrev place : Place
    place = place_of it.directory block from

    back : AllGoBack place.nodes block (outgoing its_sends)
    back = subst (AllGoBack place.nodes block) (sym done.sent) (all_go_back place message.1.body (block_of it.directory block))

    none_comes : (other number : ℕ) → comes_to other number message ≡ false
    none_comes other number = elim (cases_Bool (comes_to other number message)) [
      | inl t ↦ absurd (let a = (comes_to_is other number message t).2 in let b = not_from_home message.1.body kind in omega (arith, a, b))
      | inr f ↦ f
    ]

    module _ (later : World) (nodes_is : later.nodes ≡ map (node_after (wind_tunnel machine) key (Arrival message)) world.nodes) (pending_is : later.pending ≡ placed (taken (Arrival message) world.pending) its_news) where
      -- The row leaves its processor and its copies.
      same_cell : (other : ℕ) (up down : List Body) (number : ℕ) → cell_by other up down (node_in number later.nodes) ≡ cell_by other up down (node_in number world.nodes)
      same_cell other up down number = elim (cases_Bool (number == it.number)) [
        | inl here ↦
            subst (λ (n : ℕ). cell_by other up down (node_in n later.nodes) ≡ cell_by other up down (node_in n world.nodes)) (sym (eqb-true number it.number here))
            (ap (cell_by other up down) (later_here machine is world ok key (Arrival message) is_least later nodes_is pending_is)
            ∙ (λ i. record { wants = wanted_in other (done.mode i); copy = copy_of (done.cache i) other; to_home = up; from_home = down })
            ∙ ap (cell_by other up down) (sym (node_is machine 0 world.nodes it ok.numbered (at machine is world ok key (Arrival message) is_least).member)))
        | inr apart ↦ ap (cell_by other up down) (later_elsewhere machine is world ok key (Arrival message) is_least later nodes_is pending_is number apart)
      ]

      up_later : (other number : ℕ) → to_home_in later other number ≡ bodies (line (goes_from other number) left)
      up_later other number = ap bodies (later_passed machine is world ok key (Arrival message) is_least later nodes_is pending_is (goes_from other number) (none_goes place.nodes block other number its_sends back))

      -- ---- another block

      pub another_block : (other : ℕ) (value : List ℕ) → (other ≢ block) → IsCoherentBlock machine world other value → IsCoherentBlock machine later other value
      another_block other value apart before = record {
        listed = before.listed;
        home = before.home;
        kept = λ node member home. by node home (in_later machine is world ok key (Arrival message) is_least later nodes_is pending_is node member);
        facts = alike_coherent (view_in world other before.home) (view_in later other before.home) refl wakes cells before.facts;
        has_value = alike_value value (view_in world other before.home) (view_in later other before.home) refl cells before.has_value;
      }
        where
          by : (node : NodeState) → node.number ≡ home_of machine other → (node ≡ then) ⊎ (IsIn node world.nodes × (node.number ≢ it.number)) → block_of node.directory other ≡ kept_of before.listed before.home
          by node home (inl same) =
              let here : home_of machine other ≡ it.number = sym home ∙ ap (λ (n : NodeState). n.number) same ∙ (reacted machine is world ok key (Arrival message) is_least).number in
              ap (λ (n : NodeState). block_of n.directory other) same ∙ done.others other here apart
              ∙ before.kept it (at machine is world ok key (Arrival message) is_least).member (sym here)
          by node home (inr old) = before.kept node old.0 home

          not_wake : is_wake other message ≡ false
          not_wake = elim (cases_Bool (is_wake other message)) [
            | inl t ↦ absurd (apart (sym (eqb-true block other (two_true (block == other) (wake_in message.1.body == 1) t).0)))
            | inr f ↦ f
          ]

          not_going : (number : ℕ) → goes_from other number message ≡ false
          not_going number = elim (cases_Bool (goes_from other number message)) [
            | inl t ↦ absurd (apart (sym (goes_from_is other number message t).1))
            | inr f ↦ f
          ]

          wakes : length (under_way (is_wake other) later) ≡ length (under_way (is_wake other) world)
          wakes =
              let c = later_count machine is world ok key (Arrival message) is_least later nodes_is pending_is (is_wake other) in
              let n = ap (λ (l : List (Key × Msg)). length l) (other_wakes place.nodes block other its_sends apart back) in
              let o = ap (λ (l : List (Key × Msg)). length l) (stays (is_wake other) not_wake) in
              omega (arith, c, n, o)

          down : (number : ℕ) → from_home_in later other number ≡ from_home_in world other number
          down number =
              ap bodies (later_passed machine is world ok key (Arrival message) is_least later nodes_is pending_is (comes_to other number) (other_comes place.nodes block other number its_sends apart back)
              ∙ stays (comes_to other number) (none_comes other number))

          cells : (number : ℕ) → cell_in later other number ≡ cell_in world other number
          cells number =
              (λ i. cell_by other ((up_later other number ∙ ap bodies (stays (goes_from other number) (not_going number))) i) (down number i) (node_in number later.nodes))
              ∙ same_cell other (to_home_in world other number) (from_home_in world other number) number

      -- ---- its block

      module _ (value : List ℕ) (before : IsCoherentBlock machine world block value) where
        abbrev kept : HomeBlock
        kept = kept_of before.listed before.home

        abbrev view : View
        view = view_in world block before.home

        kept_is : block_of it.directory block ≡ kept
        kept_is = before.kept it (at machine is world ok key (Arrival message) is_least).member (sym home_is)

        nodes_are : place.nodes ≡ machine.nodes
        nodes_are = ap (λ (m : MachineParts). m.nodes) (sound machine is world ok key (Arrival message) is_least).directory.machine_is

        below : place.from < place.nodes
        below = let f = fits.from in let n = nodes_are in omega (arith, f, n)

        -- Nobody past the last node has part in it.
        past : IsOfNodes place.nodes view
        past number high =
            (λ i. cell_by block (bodies (no_up i)) (bodies (no_down i)) (no_node (node_in number world.nodes) refl i))
          where
            high_is : machine.nodes ≤ number
            high_is = let n = nodes_are in omega (arith, high, n)

            no_node : (found : Option NodeState) → node_in number world.nodes ≡ found → found ≡ None
            no_node None e = refl
            no_node (Some node) e =
                let r = in_node number world.nodes node e in
                let b = numbered_below (wind_tunnel machine) 0 world.nodes node ok.numbered r.0 in
                let n = r.1 in let h = high_is in absurd (omega (arith, b, n, h))

            no_up : under_way (goes_from block number) world ≡ []
            no_up = length_none (goes_from block number) (entries world.pending) (λ other h. elim (cases_Bool (goes_from block number other)) [
              | inl t ↦ absurd (let f = (ok.fitting other.0 other.1 (in_get world.pending other h)).from in let n = (goes_from_is block number other t).0 in let h = high_is in omega (arith, f, n, h))
              | inr f ↦ f
            ])

            no_down : under_way (comes_to block number) world ≡ []
            no_down = length_none (comes_to block number) (entries world.pending) (λ other h. elim (cases_Bool (comes_to block number other)) [
              | inl t ↦ absurd (let f = (ok.fitting other.0 other.1 (in_get world.pending other h)).to in let n = (comes_to_is block number other t).0 in let h = high_is in omega (arith, f, n, h))
              | inr f ↦ f
            ])

        -- A row is carried out on what is left.
        module _ (row : Row) (does : DoesAs place row (table.arrive_of place message.1.body kept)) (mid : View)
            (mid_cell : (number : ℕ) → mid.cell number ≡ cell_by block (bodies (line (goes_from block number) left)) (from_home_in world block number) (node_in number world.nodes))
            (mid_wakes : length (line (is_wake block) left) ≡ mid.wakes)
            (unmarked : (number : ℕ) → IsUnmarked (row.sent number) (view.cell number))
            (facts : IsCoherent (by_row row mid)) (has : HasValue value (by_row row mid)) where
          built_is : row_of it.directory from message.1 ≡ table.arrive_of place message.1.body kept
          built_is = ap (table.arrive_of place message.1.body) kept_is

          sent_is : outgoing its_sends ≡ all_sends place (table.arrive_of place message.1.body kept)
          sent_is = done.sent ∙ ap (all_sends place) built_is

          down_line : (number : ℕ) → line (comes_to block number) left ≡ under_way (comes_to block number) world
          down_line number = stays (comes_to block number) (none_comes block number)

          news_are : (number : ℕ) → bodies (line (comes_to block number) its_news) ≡ row.sent number
          news_are number = home_news place.nodes block number its_sends back ∙ ap (news_to number) sent_is ∙ does.sent number

          rises : (number : ℕ) → RiseAfter (line (comes_to block number) left) (line (comes_to block number) its_news)
          rises number = by (unmarked number)
            where
              by : IsUnmarked (row.sent number) (view.cell number) → RiseAfter (line (comes_to block number) left) (line (comes_to block number) its_news)
              by (inl none) = subst (RiseAfter (line (comes_to block number) left)) (sym (no_bodies (line (comes_to block number) its_news) (news_are number ∙ none))) tt
              by (inr none) = comes_rises machine is world ok key (Arrival message) is_least right block number
                  (ap (λ (l : List (Key × Msg)). total mark_of (bodies l)) (down_line number) ∙ ap (total mark_of) (sym (cell_down block (to_home_in world block number) (from_home_in world block number) (node_in number world.nodes))) ∙ none)

          down : (number : ℕ) → from_home_in later block number ≡ from_home_in world block number ++ row.sent number
          down number =
              ap bodies (later_line machine is world ok key (Arrival message) is_least later nodes_is pending_is (comes_to block number) (rises number))
              ∙ bodies_append (line (comes_to block number) left) (line (comes_to block number) its_news)
              ∙ (λ i. bodies (down_line number i) ++ news_are number i)

          cells : (number : ℕ) → cell_in later block number ≡ (by_row row mid).cell number
          cells number =
              (λ i. cell_by block (up_later block number i) (down number i) (node_in number later.nodes))
              ∙ same_cell block (bodies (line (goes_from block number) left)) (from_home_in world block number ++ row.sent number) number
              ∙ sym (cell_sent block (bodies (line (goes_from block number) left)) (from_home_in world block number) (row.sent number) (node_in number world.nodes))
              ∙ ap (λ (c : Cell). record c { from_home = c.from_home ++ row.sent number }) (sym (mid_cell number))

          wakes : length (under_way (is_wake block) later) ≡ mid.wakes + row.wakes
          wakes =
              let c = later_count machine is world ok key (Arrival message) is_least later nodes_is pending_is (is_wake block) in
              let n = wake_news place.nodes block its_sends back in
              let s = ap wakes_in sent_is in
              let built = table.arrive_of place message.1.body kept in
              let b = wakes_both built.sends (called_by place.nodes block built.act) in
              let a = act_wakes_nobody place.nodes block built.act in
              let d = does.wakes in
              omega (arith, c, n, s, b, a, d, mid_wakes)

          row_block : IsCoherentBlock machine later block value
          row_block = record {
            listed = does.listed;
            home = row.home;
            kept = λ node member home. by node home (in_later machine is world ok key (Arrival message) is_least later nodes_is pending_is node member);
            facts = alike_coherent (by_row row mid) (view_in later block row.home) refl wakes cells facts;
            has_value = alike_value value (by_row row mid) (view_in later block row.home) refl cells has;
          }
            where
              by : (node : NodeState) → node.number ≡ home_of machine block → (node ≡ then) ⊎ (IsIn node world.nodes × (node.number ≢ it.number)) → block_of node.directory block ≡ kept_of does.listed row.home
              by node home (inl same) =
                  ap (λ (n : NodeState). block_of n.directory block) same ∙ done.home ∙ ap (λ (r : table.Row). r.home) built_is ∙ does.home
              by node home (inr old) = absurd (old.1 (home ∙ home_is))

        -- ---- what goes to the home

        module _ (up : not_to_home_of message.1.body ≡ 0) where
          from_it : goes_from block from message ≡ true
          from_it = rw (eq-eqb from from refl, eq-eqb block block refl, up) refl

          -- All of the line go to the home.
          line_is : (rest : List (Key × Msg)) × (under_way (goes_from block from) world ≡ message ∷ rest)
          line_is = first_of_line (goes_from block from) world.pending message there from_it (λ other h.
              let among = in_line (goes_from block from) world.pending other h in
              let parts = goes_from_is block from other among.1 in
              let to : other.0.to ≡ home_of machine block = to_its_home machine other.1.body other.0.from other.0.to block parts.2 (subst (λ (b : ℕ). GoesRight machine other.0.from other.0.to b other.1.body) parts.1 (right.goes other.0 other.1 among.0)) in
              subst (λ (k : Key). IsUpTo k other.0) key_is (least_here machine is world ok key (Arrival message) is_least other.0 other.1 among.0 (to ∙ home_is)))

          abbrev rest : List Body
          rest = bodies line_is.0

          front : (view.cell from).to_home ≡ message.1.body ∷ rest
          front = cell_of_up (to_home_in world block from) (from_home_in world block from) (node_in from world.nodes) ∙ ap bodies line_is.1
            where
              cell_of_up : (u w : List Body) (found : Option NodeState) → (cell_by block u w found).to_home ≡ u
              cell_of_up u w None = refl
              cell_of_up u w (Some node) = refl

          abbrev called : List ℕ
          called = called_at place message.1.body kept

          step : IsStep place view (ArriveAtHome from message.1.body rest called) (arrive_of from called message.1.body before.home) (table.arrive_of place message.1.body kept)
          step = rows_are_steps_law.arrive place before.listed view message.1.body rest before.facts past below front

          mid_cell : (number : ℕ) → (taken_at from rest view).cell number ≡ cell_by block (bodies (line (goes_from block number) left)) (from_home_in world block number) (node_in number world.nodes)
          mid_cell number = elim (cases_Bool (number == from)) [
            | inl here ↦ rw here
                (subst (λ (n : ℕ). record (view.cell from) { to_home = rest } ≡ cell_by block (bodies (line (goes_from block n) left)) (from_home_in world block n) (node_in n world.nodes)) (sym (eqb-true number from here))
                (cell_up block (to_home_in world block from) (from_home_in world block from) rest (node_in from world.nodes)
                ∙ (λ i. cell_by block (bodies (sym (line_taken (goes_from block from) world.pending message line_is.0 there line_is.1) i)) (from_home_in world block from) (node_in from world.nodes))))
            | inr apart ↦ rw apart (λ i. cell_by block (bodies (sym (stays (goes_from block number) (others number apart)) i)) (from_home_in world block number) (node_in number world.nodes))
          ]
            where
              others : (n : ℕ) → (n == from) ≡ false → goes_from block n message ≡ false
              others n apart = let away : (from == n) ≡ false = ne_eqb from n (λ e. let t : (n == from) ≡ true = eq-eqb n from (sym e) in let f : true ≡ false = sym t ∙ apart in cc) in rw away refl

          not_wake : is_wake block message ≡ false
          not_wake = elim (cases_Bool (is_wake block message)) [
            | inl t ↦ absurd (let a = eqb-true (wake_in message.1.body) 1 (two_true (block == block) (wake_in message.1.body == 1) t).1 in let b = goes_no_wake message.1.body up in omega (arith, a, b))
            | inr f ↦ f
          ]

          pub arrived : IsCoherentBlock machine later block value
          arrived = row_block (arrive_of from called message.1.body before.home) step.does (taken_at from rest view) mid_cell
              (ap (λ (l : List (Key × Msg)). length l) (stays (is_wake block) not_wake))
              (λ number. arrive_unmarked view from message.1.body rest called number before.facts front)
              (step_keeps view (ArriveAtHome from message.1.body rest called) before.facts step.enabled)
              (values_kept.step view (ArriveAtHome from message.1.body rest called) value before.facts step.enabled before.has_value)

          pub arrived_asked : is_stray (row_of it.directory from message.1).act ≡ false
          arrived_asked = ap (λ (r : table.Row). is_stray r.act) (ap (table.arrive_of place message.1.body) kept_is) ∙ step.asked

        -- ---- a Wake

        module _ (wake : message.1.body ≡ Wake) where
          of_it : is_wake block message ≡ true
          of_it = rw (eq-eqb block block refl, ap wake_in wake) refl

          counted : view.wakes ≡ suc (length (line (is_wake block) left))
          counted = count_taken (is_wake block) world.pending message there of_it

          abbrev first_called : List ℕ
          first_called = called_first place kept

          woken : IsStep place view (WakeHome first_called) (wake_of first_called before.home) (table.wake_of place kept)
          woken = rows_are_steps_law.wake place before.listed view before.facts past (let c = counted in omega (arith, c))

          abbrev mid : View
          mid = record view { wakes = view.wakes - 1 }

          not_going : (number : ℕ) → goes_from block number message ≡ false
          not_going number = elim (cases_Bool (goes_from block number message)) [
            | inl t ↦ absurd (let a = (goes_from_is block number message t).2 in let b = ap not_to_home_of wake in omega (arith, a, b))
            | inr f ↦ f
          ]

          built_is_wake : table.arrive_of place message.1.body kept ≡ table.wake_of place kept
          built_is_wake = ap (λ (b : Body). table.arrive_of place b kept) wake

          pub woke : IsCoherentBlock machine later block value
          woke = row_block (wake_of first_called before.home) (subst (DoesAs place (wake_of first_called before.home)) (sym built_is_wake) woken.does) mid
              (λ number. λ i. cell_by block (bodies (sym (stays (goes_from block number) (not_going number)) i)) (from_home_in world block number) (node_in number world.nodes))
              (let c = counted in omega (arith, c))
              (λ number. wake_unmarked view first_called number before.facts)
              (step_keeps view (WakeHome first_called) before.facts woken.enabled)
              (values_kept.step view (WakeHome first_called) value before.facts woken.enabled before.has_value)

          pub woke_asked : is_stray (row_of it.directory from message.1).act ≡ false
          woke_asked = ap (λ (r : table.Row). is_stray r.act) (ap (table.arrive_of place message.1.body) kept_is ∙ built_is_wake) ∙ woken.asked

        pub its_block : IsCoherentBlock machine later block value
        its_block = by (for_directory message.1.body kind)
          where
            by : (not_to_home_of message.1.body ≡ 0) ⊎ (message.1.body ≡ Wake) → IsCoherentBlock machine later block value
            by (inl up) = arrived up
            by (inr wake) = woke wake

        pub its_row_asked : is_stray (row_of it.directory from message.1).act ≡ false
        its_row_asked = by (for_directory message.1.body kind)
          where
            by : (not_to_home_of message.1.body ≡ 0) ⊎ (message.1.body ≡ Wake) → is_stray (row_of it.directory from message.1).act ≡ false
            by (inl up) = arrived_asked up
            by (inr wake) = woke_asked wake

      module _ (value : ℕ → List ℕ) (before : (other : ℕ) → other < machine.blocks → IsCoherentBlock machine world other (value other)) where
        -- each block of the machine
        pub every_block : (other : ℕ) → other < machine.blocks → IsCoherentBlock machine later other (value other)
        every_block other inside = elim (cases_Bool (other == block)) [
          | inl same ↦ let e : other ≡ block = eqb-true other block same in subst (λ (b : ℕ). IsCoherentBlock machine later b (value b)) (sym e) (its_block (value block) (before block exists))
          | inr apart ↦ another_block other (value other) (λ e. let t : (other == block) ≡ true = eq-eqb other block e in let f : true ≡ false = sym t ∙ apart in cc) (before other inside)
        ]

        -- and the message isn't stray
        pub none_stray_of_row : then.counters.stray ≡ it.counters.stray
        none_stray_of_row = let s = done.stray in let a = ap once (its_row_asked (value block) (before block exists)) in omega (arith, s, a)
