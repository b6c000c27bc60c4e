-- Every step of a block keeps its facts.
use Rattle.std.proofs.Common.{◌≡◌, ℕ, ◌≤◌, Bool, true, false, List, [], ◌∷◌, ◌++◌, Some, None, refl, ap, sym, ◌∙◌, subst, arith}
use Rattle.wt_proto.specs.declared.directory.Request.{Request}
use Rattle.wt_proto.specs.declared.message.Body.{Body}
use Rattle.wt_proto.specs.declared.message.Body.TheVariants.{GetS, GetX, PutS, PutX, DataS, DataX, Inv, InvAck, Wake, Arrive, Leave, Go}
use Rattle.coherence.specs.Pipes.{not_to_home_of, asks}
use Rattle.coherence.specs.Block.{Cell, Roll, Home, View}
use Rattle.coherence.specs.Block.Roll.{Idle, Shared, Exclusive, Busy}
use Rattle.coherence.specs.Facts.{NodeFacts, asks_at_home, NodesFacts, wakes_due, IsCoherent}
use Rattle.coherence.specs.Rows.{Row, put_s_of, arrive_of, wake_of, AreCalled, AreCalledForFirst}
use Rattle.coherence.specs.Steps.{Step, get_body, put_body, with_cell, with_sent, at_node, step_of, IsEnabled}
use Rattle.coherence.specs.Steps.Step.{Ask, Upgrade, Give, Write, Fill, Drop, Arrive as ArriveAtHome, Wake as WakeHome}
use Rattle.coherence.specs.Laws.{IsStart, AreEnabled, steps_of}
use Rattle.coherence.proofs.Cells.{part, ask_keeps, give_keeps, put_takes_place, put_asks_nothing, upgrade_takes_place, write_keeps, fill_keeps, drop_keeps}
use Rattle.coherence.proofs.Serving.{to_nobody_keeps, serve_keeps}
use Rattle.coherence.proofs.Arrivals.{changed, fronted, behind, in_line_mine, in_line_theirs, nothing_asked, queue_keeps, request_keeps, MayPutS, may_put_s, put_s_keeps, put_s_quiet, put_s_waiting, put_s_called, may_put_x, put_x_keeps, may_answer, inv_ack_keeps}
use Rattle.coherence.proofs.Wakes.{arrive_wakes, wake_wakes}

-- ---- at the home

abbrev RowKeeps : Row → (ℕ → Cell) → Type 0
RowKeeps row cell = NodesFacts row.home.roll row.home.waiting (with_sent row.sent cell)

abbrev home_by : Roll → List Request → List ℕ → Home
home_by roll waiting memory = record { roll = roll; waiting = waiting; memory = memory }

module _ (roll : Roll) (waiting : List Request) (memory : List ℕ) (cell : ℕ → Cell) (is : NodesFacts roll waiting cell) (node : ℕ) (rest : List Body) (called : List ℕ) (covers : AreCalled node called roll) where
  abbrev after : ℕ → Cell
  after = with_cell node (record (cell node) { to_home = rest }) cell

  -- the PutS that a GetX with a copy had begins with, and then the request
  had_keeps : (cell node).to_home ≡ GetX true ∷ rest → RowKeeps (arrive_of node called (GetX true) (home_by roll waiting memory)) after
  had_keeps front = request_keeps node true called put.roll put.waiting put.memory after lined (put_s_called roll node waiting memory called may covers)
    where
      put : Home
      put = (put_s_of node (home_by roll waiting memory)).home

      old : NodeFacts roll node (asks_at_home node roll waiting) (record (cell node) { to_home = GetX true ∷ rest })
      old = fronted roll waiting cell node (GetX true) rest is front

      may : MayPutS node roll
      may = may_put_s roll node (GetX true) (behind (cell node) rest) refl refl old.led old.counts

      lined : NodesFacts put.roll (put.waiting ++ record { node = node; exclusive = true } ∷ []) after
      lined = subst (λ (l : List Request). NodesFacts put.roll (l ++ record { node = node; exclusive = true } ∷ []) after) (sym (put_s_waiting roll node waiting memory may).0)
          (put_s_keeps roll node waiting (waiting ++ record { node = node; exclusive = true } ∷ []) memory cell (GetX true) rest is front refl refl may
          (in_line_mine waiting node true) (λ other differ. in_line_theirs other waiting node true differ))

  given_keeps : (cell node).to_home ≡ PutS ∷ rest → RowKeeps (arrive_of node called PutS (home_by roll waiting memory)) after
  given_keeps front = subst (λ (row : Row). RowKeeps row after) (sym (put_s_quiet roll node waiting memory may)) (to_nobody_keeps put.roll put.waiting after put_back)
    where
      put : Home
      put = (put_s_of node (home_by roll waiting memory)).home

      old : NodeFacts roll node (asks_at_home node roll waiting) (record (cell node) { to_home = PutS ∷ rest })
      old = fronted roll waiting cell node PutS rest is front

      may : MayPutS node roll
      may = may_put_s roll node PutS (behind (cell node) rest) refl refl old.led old.counts

      put_back : NodesFacts put.roll put.waiting after
      put_back = subst (λ (l : List Request). NodesFacts put.roll l after) (sym (put_s_waiting roll node waiting memory may).0)
          (put_s_keeps roll node waiting waiting memory cell PutS rest is front refl refl may (nothing_asked node waiting) (λ other differ. refl))

  astray : {A : Type 0} (body : Body) → (cell node).to_home ≡ body ∷ rest → not_to_home_of body ≡ 1 → A
  astray body front one = absurd (let g = (fronted roll waiting cell node body rest is front).goes in omega (arith, g, one))

  arrive_keeps : (body : Body) → (cell node).to_home ≡ body ∷ rest → RowKeeps (arrive_of node called body (home_by roll waiting memory)) after
  arrive_keeps GetS front = request_keeps node false called roll waiting memory after (queue_keeps roll node false waiting cell GetS rest is front refl refl refl refl) covers
  arrive_keeps (GetX false) front = request_keeps node true called roll waiting memory after (queue_keeps roll node true waiting cell (GetX false) rest is front refl refl refl refl) covers
  arrive_keeps (GetX true) front = had_keeps front
  arrive_keeps PutS front = given_keeps front
  arrive_keeps (PutX bytes) front = put_x_keeps roll node bytes waiting memory cell rest is front (may_put_x roll node bytes (behind (cell node) rest) (fronted roll waiting cell node (PutX bytes) rest is front).counts)
  arrive_keeps (InvAck bytes) front = inv_ack_keeps roll node bytes waiting memory cell rest is front (may_answer roll node bytes (behind (cell node) rest) (fronted roll waiting cell node (InvAck bytes) rest is front).counts)
  arrive_keeps (DataS bytes) front = astray (DataS bytes) front refl
  arrive_keeps (DataX bytes) front = astray (DataX bytes) front refl
  arrive_keeps Inv front = astray Inv front refl
  arrive_keeps Wake front = astray Wake front refl
  arrive_keeps Arrive front = astray Arrive front refl
  arrive_keeps Leave front = astray Leave front refl
  arrive_keeps Go front = astray Go front refl

wake_keeps : (called : List ℕ) (roll : Roll) (waiting : List Request) (memory : List ℕ) (cell : ℕ → Cell) → NodesFacts roll waiting cell →
    1 ≤ wakes_due (home_by roll waiting memory) → AreCalledForFirst called (home_by roll waiting memory) → RowKeeps (wake_of called (home_by roll waiting memory)) cell
wake_keeps called (Busy from exclusive others) waiting memory cell is some covers = absurd (omega arith)
wake_keeps called Idle [] memory cell is some covers = absurd (omega arith)
wake_keeps called (Shared readers) [] memory cell is some covers = absurd (omega arith)
wake_keeps called (Exclusive owner) [] memory cell is some covers = absurd (omega arith)
wake_keeps called Idle (first ∷ rest) memory cell is some covers = serve_keeps first.node first.exclusive called Idle rest memory cell tt is covers
wake_keeps called (Shared readers) (first ∷ rest) memory cell is some covers = serve_keeps first.node first.exclusive called (Shared readers) rest memory cell tt is covers
wake_keeps called (Exclusive owner) (first ∷ rest) memory cell is some covers = serve_keeps first.node first.exclusive called (Exclusive owner) rest memory cell tt is covers

-- ---- at a node

node_keeps : (view : View) (node : ℕ) (now : Cell) → IsCoherent view →
    NodeFacts view.home.roll node (asks_at_home node view.home.roll view.home.waiting) now → IsCoherent (at_node node now view)
node_keeps view node now is facts = record {
  nodes = changed view.home.roll view.home.waiting view.cell node now facts (λ other differ. is.nodes other);
  wakes = is.wakes;
}

abbrev Facts : View → ℕ → Cell → Type 0
Facts view node cell = NodeFacts view.home.roll node (asks_at_home node view.home.roll view.home.waiting) cell

pub step_keeps : (view : View) (step : Step) → IsCoherent view → IsEnabled view step → IsCoherent (step_of step view)
step_keeps view (Ask node exclusive) is may =
    node_keeps view node _ is
    (subst (Facts view node) (λ i. part (Some exclusive) (sym may.1 i) ((view.cell node).to_home ++ get_body exclusive ∷ []) (view.cell node).from_home)
    (ask_keeps view.home.roll node (asks_at_home node view.home.roll view.home.waiting) exclusive (view.cell node).to_home (view.cell node).from_home
    (subst (Facts view node) (λ i. part (may.0 i) (may.1 i) (view.cell node).to_home (view.cell node).from_home) (is.nodes node))))
step_keeps view (Upgrade node bytes) is may =
    node_keeps view node _ is
    (give_keeps view.home.roll node (asks_at_home node view.home.roll view.home.waiting) None (Some true) (record { writable = false; bytes = bytes }) (GetX true) (view.cell node).to_home (view.cell node).from_home
    (subst (Facts view node) (λ i. part (may.0 i) (may.1 i) (view.cell node).to_home (view.cell node).from_home) (is.nodes node))
    (upgrade_takes_place bytes) (λ e. ap (λ (l : List Bool). true ∷ l) e))
step_keeps view (Give node copy) is may =
    node_keeps view node _ is
    (give_keeps view.home.roll node (asks_at_home node view.home.roll view.home.waiting) (view.cell node).wants (view.cell node).wants copy (put_body copy) (view.cell node).to_home (view.cell node).from_home
    (subst (Facts view node) (λ i. part (view.cell node).wants (may i) (view.cell node).to_home (view.cell node).from_home) (is.nodes node))
    (put_takes_place copy.writable copy.bytes) (λ e. (λ i. put_asks_nothing copy.writable copy.bytes i ++ asks (view.cell node).from_home) ∙ e))
step_keeps view (Write node old new) is may =
    node_keeps view node _ is
    (write_keeps view.home.roll node (asks_at_home node view.home.roll view.home.waiting) (view.cell node).wants old new (view.cell node).to_home (view.cell node).from_home
    (subst (Facts view node) (λ i. part (view.cell node).wants (may i) (view.cell node).to_home (view.cell node).from_home) (is.nodes node)))
step_keeps view (Fill node exclusive bytes rest) is may =
    node_keeps view node _ is
    (fill_keeps view.home.roll node (asks_at_home node view.home.roll view.home.waiting) exclusive bytes (view.cell node).wants (view.cell node).copy (view.cell node).to_home rest
    (subst (Facts view node) (λ i. part (view.cell node).wants (view.cell node).copy (view.cell node).to_home (may.1 i)) (is.nodes node)))
step_keeps view (Drop node rest) is may =
    node_keeps view node _ is
    (drop_keeps view.home.roll node (asks_at_home node view.home.roll view.home.waiting) (view.cell node).wants (view.cell node).copy (view.cell node).to_home rest
    (subst (Facts view node) (λ i. part (view.cell node).wants (view.cell node).copy (view.cell node).to_home (may i)) (is.nodes node)))
step_keeps view (ArriveAtHome node body rest called) is may = record {
  nodes = arrive_keeps view.home.roll view.home.waiting view.home.memory view.cell is.nodes node rest called may.1 body may.0;
  wakes = let before = is.wakes in let after_it = arrive_wakes node called body view.home.roll view.home.waiting view.home.memory in omega (arith, before, after_it);
}
step_keeps view (WakeHome called) is may = record {
  nodes = wake_keeps called view.home.roll view.home.waiting view.home.memory view.cell is.nodes (some is.wakes may.0) may.1;
  wakes = wake_wakes called view.home.roll view.home.waiting view.home.memory view.wakes is.wakes may.0;
}
  where
    some : view.wakes ≡ wakes_due view.home → 1 ≤ view.wakes → 1 ≤ wakes_due view.home
    some e least = omega (arith, e, least)

-- ---- from a start

pub start_coherent : (view : View) → IsStart view → IsCoherent view
start_coherent view start = record {
  nodes = λ node. subst (λ (p : Roll × List Request × Cell). NodeFacts p.0 node (asks_at_home node p.0 p.1) p.2)
      (λ i. (sym start.roll i, sym start.waiting i, sym (start.cells node) i)) (empty node);
  wakes = start.wakes ∙ (λ i. wakes_due (home_by (sym start.roll i) (sym start.waiting i) view.home.memory));
}
  where
    empty : (node : ℕ) → NodeFacts Idle node (asks_at_home node Idle []) (part None None [] [])
    empty node = record { led = tt; one_place = refl; no_token = λ some. refl; counts = (refl, refl, refl); goes = refl; comes = refl }

pub steps_keep : (view : View) (list : List Step) → IsCoherent view → AreEnabled view list → IsCoherent (steps_of list view)
steps_keep view [] is may = is
steps_keep view (step ∷ list) is may = steps_keep (step_of step view) list (step_keeps view step is may.0) may.1

pub runs_coherent : (view : View) (list : List Step) → IsStart view → AreEnabled view list → IsCoherent (steps_of list view)
runs_coherent view list start may = steps_keep view list (start_coherent view start) may
