-- A message leaves its pipe at the home, and the facts of all nodes are kept.
use Rattle.std.proofs.Common.{◌≡◌, ℕ, ◌+◌, ◌≤◌, inl, inr, Bool, true, false, List, [], ◌∷◌, ◌++◌, length-append, Option, Some, None, refl, ap, sym, ◌∙◌, subst, arith, append-nil, append_assoc, eq-eqb, eqb-true}
use Rattle.std.specs.Prelude.{◌==◌, if◌then◌else◌, unwrap_or}
use Rattle.std.proofs.lemmas.Bool.{cases_Bool}
use Rattle.wt_proto.specs.declared.directory.Request.{Request}
use Rattle.wt_proto.specs.declared.message.Body.{Body}
use Rattle.wt_proto.specs.declared.message.Body.TheVariants.{PutX, InvAck}
use Rattle.coherence.specs.Pipes.{token_of, writer_of, mark_of, asks_of, tokens, asks, IsLed}
use Rattle.coherence.specs.Block.{Cell, held, wanted, pipe, Roll, count_of, without}
use Rattle.coherence.specs.Block.Roll.{Idle, Shared, Exclusive, Busy}
use Rattle.coherence.specs.Facts.{Counts, NodeFacts, asks_waiting, asks_of_roll, asks_at_home, NodesFacts}
use Rattle.coherence.specs.Rows.{shared_by, request_of, quiet, put_s_of, put_x_of, awaiting_of, inv_ack_of, AreCalled}
use Rattle.coherence.specs.Steps.{with_cell, with_sent}
use Rattle.coherence.proofs.Pipes.{two_empty, led_without, writers_few}
use Rattle.coherence.proofs.Cells.{same_counts}
use Rattle.coherence.proofs.Rolls.{count_other, by_shared, put_counts, answered_counts, answered_counts_other, all_answered}
use Rattle.coherence.proofs.Serving.{under, to_nobody_keeps, turned, home_few, serve_keeps}

-- ---- one node's part changes

pub changed : (new : Roll) (now : List Request) (cell : ℕ → Cell) (node : ℕ) (part : Cell) →
    NodeFacts new node (asks_at_home node new now) part →
    ((other : ℕ) → (other == node) ≡ false → NodeFacts new other (asks_at_home other new now) (cell other)) → NodesFacts new now (with_cell node part cell)
changed new now cell node part here there k = elim (cases_Bool (k == node)) [
  | inl is ↦ subst (λ (j : ℕ). NodeFacts new j (asks_at_home j new now) (if j == node then part else cell j)) (sym (eqb-true k node is)) (rw (eq-eqb node node refl) here)
  | inr is ↦ rw is (there k is)
]

-- ---- the front of a pipe leaves it

moved : (first up waiting busy down : List Bool) (wants : Option Bool) → first ++ up ++ (waiting ++ busy) ++ down ≡ wanted wants →
    up ++ ((waiting ++ first) ++ busy) ++ down ≡ wanted wants
moved [] up waiting busy down wants is = (λ i. up ++ ((append-nil waiting i) ++ busy) ++ down) ∙ is
moved (x ∷ []) up waiting busy down None is = absurd (let f : x ∷ (up ++ (waiting ++ busy) ++ down) ≡ [] = is in cc)
moved (x ∷ []) up waiting busy down (Some y) is =
    let none : up ++ (waiting ++ busy) ++ down ≡ [] = (let g : x ∷ (up ++ (waiting ++ busy) ++ down) ≡ y ∷ [] = is in cc) in
    let same : x ≡ y = (let g : x ∷ (up ++ (waiting ++ busy) ++ down) ≡ y ∷ [] = is in cc) in
    let p = two_empty (up ++ (waiting ++ busy)) down none in let q = two_empty up (waiting ++ busy) p.0 in let r = two_empty waiting busy q.1 in
    (λ i. q.0 i ++ ((r.0 i ++ x ∷ []) ++ r.1 i) ++ p.1 i) ∙ ap (λ (z : Bool). z ∷ []) same
moved (x ∷ y ∷ first) up waiting busy down None is = absurd (let f : x ∷ (y ∷ first ++ up ++ (waiting ++ busy) ++ down) ≡ [] = is in cc)
moved (x ∷ y ∷ first) up waiting busy down (Some z) is =
    absurd (let f : y ∷ (first ++ up ++ (waiting ++ busy) ++ down) ≡ [] = (let g : x ∷ (y ∷ (first ++ up ++ (waiting ++ busy) ++ down)) ≡ z ∷ [] = is in cc) in cc)

-- the front of a node's pipe
pub fronted : (roll : Roll) (waiting : List Request) (cell : ℕ → Cell) (node : ℕ) (body : Body) (up : List Body) → NodesFacts roll waiting cell → (cell node).to_home ≡ body ∷ up →
    NodeFacts roll node (asks_at_home node roll waiting) (record (cell node) { to_home = body ∷ up })
fronted roll waiting cell node body up is front =
    subst (λ (l : List Body). NodeFacts roll node (asks_at_home node roll waiting) (record (cell node) { to_home = l })) front (is node)

-- what stands behind the front of a node's pipe
abbrev pub behind : Cell → List Body → List Body
behind cell up = up ++ held cell.copy ++ cell.from_home

pub front_leaves : (roll new : Roll) (node : ℕ) (waiting now : List Request) (cell : ℕ → Cell) (body : Body) (up : List Body) → NodesFacts roll waiting cell → (cell node).to_home ≡ body ∷ up →
    ((other : ℕ) → asks_of_roll other new ≡ asks_of_roll other roll) →
    asks_waiting node now ≡ asks_waiting node waiting ++ asks_of body → ((other : ℕ) → (other == node) ≡ false → asks_waiting other now ≡ asks_waiting other waiting) →
    (IsLed (body ∷ behind (cell node) up) → Counts roll node (body ∷ behind (cell node) up) → Counts new node (behind (cell node) up)) →
    ((other : ℕ) → (other == node) ≡ false → Counts roll other (pipe (cell other)) → Counts new other (pipe (cell other))) →
    NodesFacts new now (with_cell node (record (cell node) { to_home = up }) cell)
front_leaves roll new node waiting now cell body up is front same mine_now theirs_now mine theirs = changed new now cell node (record (cell node) { to_home = up }) here there
  where
    old : NodeFacts roll node (asks_at_home node roll waiting) (record (cell node) { to_home = body ∷ up })
    old = fronted roll waiting cell node body up is front

    none : tokens (behind (cell node) up) ≡ 0
    none = old.led

    here : NodeFacts new node (asks_at_home node new now) (record (cell node) { to_home = up })
    here = record {
      led = led_without (behind (cell node) up) none;
      one_place = (λ i. asks up ++ (mine_now i ++ same node i) ++ asks (cell node).from_home) ∙ moved (asks_of body) (asks up) (asks_waiting node waiting) (asks_of_roll node roll) (asks (cell node).from_home) (cell node).wants old.one_place;
      no_token = λ some. none;
      counts = mine old.led old.counts;
      goes = let g = old.goes in omega (arith, g);
      comes = old.comes;
    }

    there : (other : ℕ) → (other == node) ≡ false → NodeFacts new other (asks_at_home other new now) (cell other)
    there other differ =
        under roll new other (asks_at_home other roll waiting) (asks_at_home other new now) (cell other) (is other) (λ i. theirs_now other differ i ++ same other i) (theirs other differ (is other).counts)

-- ---- a request is put in line

pub in_line : (other : ℕ) (waiting : List Request) (node : ℕ) (exclusive : Bool) →
    asks_waiting other (waiting ++ record { node = node; exclusive = exclusive } ∷ []) ≡ asks_waiting other waiting ++ (if other == node then exclusive ∷ [] else [])
in_line other [] node exclusive = append-nil (if other == node then exclusive ∷ [] else [])
in_line other (first ∷ rest) node exclusive =
    ap (λ (l : List Bool). (if other == first.node then first.exclusive ∷ [] else []) ++ l) (in_line other rest node exclusive)
    ∙ sym (append_assoc (if other == first.node then first.exclusive ∷ [] else []) (asks_waiting other rest) (if other == node then exclusive ∷ [] else []))

pub in_line_mine : (waiting : List Request) (node : ℕ) (exclusive : Bool) →
    asks_waiting node (waiting ++ record { node = node; exclusive = exclusive } ∷ []) ≡ asks_waiting node waiting ++ exclusive ∷ []
in_line_mine waiting node exclusive = in_line node waiting node exclusive ∙ (λ i. asks_waiting node waiting ++ (if eq-eqb node node refl i then exclusive ∷ [] else []))

pub in_line_theirs : (other : ℕ) (waiting : List Request) (node : ℕ) (exclusive : Bool) → (other == node) ≡ false →
    asks_waiting other (waiting ++ record { node = node; exclusive = exclusive } ∷ []) ≡ asks_waiting other waiting
in_line_theirs other waiting node exclusive differ =
    in_line other waiting node exclusive ∙ (λ i. asks_waiting other waiting ++ (if differ i then exclusive ∷ [] else [])) ∙ append-nil (asks_waiting other waiting)

pub queue_keeps : (roll : Roll) (node : ℕ) (exclusive : Bool) (waiting : List Request) (cell : ℕ → Cell) (body : Body) (up : List Body) → NodesFacts roll waiting cell → (cell node).to_home ≡ body ∷ up →
    token_of body ≡ 0 → writer_of body ≡ 0 → mark_of body ≡ 0 → asks_of body ≡ exclusive ∷ [] →
    NodesFacts roll (waiting ++ record { node = node; exclusive = exclusive } ∷ []) (with_cell node (record (cell node) { to_home = up }) cell)
queue_keeps roll node exclusive waiting cell body up is front t w m a =
    front_leaves roll roll node waiting (waiting ++ record { node = node; exclusive = exclusive } ∷ []) cell body up is front (λ other. refl)
    (in_line_mine waiting node exclusive ∙ (λ i. asks_waiting node waiting ++ sym a i)) (λ other differ. in_line_theirs other waiting node exclusive differ)
    (λ led counts. same_counts roll node (body ∷ behind (cell node) up) (behind (cell node) up) (omega (arith, t)) (omega (arith, w)) (omega (arith, m)) counts)
    (λ other differ counts. counts)

-- a request that is in line waits there, or is served at once
pub request_keeps : (node : ℕ) (exclusive : Bool) (called : List ℕ) (roll : Roll) (waiting : List Request) (memory : List ℕ) (cell : ℕ → Cell) →
    NodesFacts roll (waiting ++ record { node = node; exclusive = exclusive } ∷ []) cell → AreCalled node called roll →
    NodesFacts (request_of (record { node = node; exclusive = exclusive }) called (record { roll = roll; waiting = waiting; memory = memory })).home.roll
    (request_of (record { node = node; exclusive = exclusive }) called (record { roll = roll; waiting = waiting; memory = memory })).home.waiting
    (with_sent (request_of (record { node = node; exclusive = exclusive }) called (record { roll = roll; waiting = waiting; memory = memory })).sent cell)
request_keeps node exclusive called (Busy from for_x others) waiting memory cell is covers = to_nobody_keeps (Busy from for_x others) (waiting ++ record { node = node; exclusive = exclusive } ∷ []) cell is
request_keeps node exclusive called Idle (first ∷ rest) memory cell is covers = to_nobody_keeps Idle ((first ∷ rest) ++ record { node = node; exclusive = exclusive } ∷ []) cell is
request_keeps node exclusive called (Shared readers) (first ∷ rest) memory cell is covers = to_nobody_keeps (Shared readers) ((first ∷ rest) ++ record { node = node; exclusive = exclusive } ∷ []) cell is
request_keeps node exclusive called (Exclusive owner) (first ∷ rest) memory cell is covers = to_nobody_keeps (Exclusive owner) ((first ∷ rest) ++ record { node = node; exclusive = exclusive } ∷ []) cell is
request_keeps node exclusive called Idle [] memory cell is covers = serve_keeps node exclusive called Idle [] memory cell tt is covers
request_keeps node exclusive called (Shared readers) [] memory cell is covers = serve_keeps node exclusive called (Shared readers) [] memory cell tt is covers
request_keeps node exclusive called (Exclusive owner) [] memory cell is covers = serve_keeps node exclusive called (Exclusive owner) [] memory cell tt is covers

-- ---- PutS, and GetX with a copy had

-- where a copy to read may be given back
abbrev pub MayPutS : ℕ → Roll → Type 0
MayPutS node (Shared readers) = 1 ≤ count_of node readers
MayPutS node (Busy from exclusive called) = Unit {0}
MayPutS node _ = ⊥

pub may_put_s : (roll : Roll) (node : ℕ) (body : Body) (bodies : List Body) → token_of body ≡ 1 → writer_of body ≡ 0 → IsLed (body ∷ bodies) → Counts roll node (body ∷ bodies) → MayPutS node roll
may_put_s Idle node body bodies one w led is = absurd (let c = is.0 in omega (arith, c, one))
may_put_s (Shared readers) node body bodies one w led is = let c = is.0 in omega (arith, c, one)
may_put_s (Exclusive owner) node body bodies one w led is = absurd (let few = writers_few bodies in let c = is.1 in omega (arith, few, c, one, w, led))
may_put_s (Busy from exclusive called) node body bodies one w led is = tt

pub not_zero : (count : ℕ) → 1 ≤ count → (count == 0) ≡ false
not_zero count some = elim (cases_Bool (count == 0)) [
  | inl is ↦ absurd (let e : count ≡ 0 = eqb-true count 0 is in omega (arith, some, e))
  | inr is ↦ is
]

shared_asks : (other : ℕ) (readers : List ℕ) → asks_of_roll other (shared_by readers) ≡ []
shared_asks other [] = refl
shared_asks other (first ∷ rest) = refl

pub put_s_keeps : (roll : Roll) (node : ℕ) (waiting now : List Request) (memory : List ℕ) (cell : ℕ → Cell) (body : Body) (up : List Body) →
    NodesFacts roll waiting cell → (cell node).to_home ≡ body ∷ up → token_of body ≡ 1 → mark_of body ≡ 0 → MayPutS node roll →
    asks_waiting node now ≡ asks_waiting node waiting ++ asks_of body → ((other : ℕ) → (other == node) ≡ false → asks_waiting other now ≡ asks_waiting other waiting) →
    NodesFacts (put_s_of node (record { roll = roll; waiting = waiting; memory = memory })).home.roll now (with_cell node (record (cell node) { to_home = up }) cell)
put_s_keeps Idle node waiting now memory cell body up is front one m may mine theirs = absurd may
put_s_keeps (Exclusive owner) node waiting now memory cell body up is front one m may mine theirs = absurd may
put_s_keeps (Shared readers) node waiting now memory cell body up is front one m may mine theirs =
    rw (not_zero (count_of node readers) may)
    (front_leaves (Shared readers) (shared_by (without node readers)) node waiting now cell body up is front (λ other. shared_asks other (without node readers)) mine theirs
    (λ led counts. by_shared node (without node readers) (behind (cell node) up) (put_counts node readers body (behind (cell node) up) led one counts))
    (λ other differ counts. by_shared other (without node readers) (pipe (cell other)) (counts.0 ∙ sym (count_other other node readers differ), counts.1, counts.2)))
put_s_keeps (Busy from exclusive called) node waiting now memory cell body up is front one m may mine theirs =
    front_leaves (Busy from exclusive called) (Busy from exclusive called) node waiting now cell body up is front (λ other. refl) mine theirs
    (λ led counts. (let few = writers_few (behind (cell node) up) in (omega (arith, led), inl (omega (arith, led, few)), let c = counts.2 in omega (arith, c, m))))
    (λ other differ counts. counts)

pub put_s_waiting : (roll : Roll) (node : ℕ) (waiting : List Request) (memory : List ℕ) → MayPutS node roll →
    ((put_s_of node (record { roll = roll; waiting = waiting; memory = memory })).home.waiting ≡ waiting) × ((put_s_of node (record { roll = roll; waiting = waiting; memory = memory })).stray ≡ false)
put_s_waiting Idle node waiting memory may = absurd may
put_s_waiting (Exclusive owner) node waiting memory may = absurd may
put_s_waiting (Shared readers) node waiting memory may = rw (not_zero (count_of node readers) may) (refl, refl)
put_s_waiting (Busy from exclusive called) node waiting memory may = (refl, refl)

pub put_s_quiet : (roll : Roll) (node : ℕ) (waiting : List Request) (memory : List ℕ) → MayPutS node roll →
    put_s_of node (record { roll = roll; waiting = waiting; memory = memory }) ≡ quiet (put_s_of node (record { roll = roll; waiting = waiting; memory = memory })).home
put_s_quiet Idle node waiting memory may = absurd may
put_s_quiet (Exclusive owner) node waiting memory may = absurd may
put_s_quiet (Shared readers) node waiting memory may = rw (not_zero (count_of node readers) may) refl
put_s_quiet (Busy from exclusive called) node waiting memory may = refl

pub put_s_called : (roll : Roll) (node : ℕ) (waiting : List Request) (memory : List ℕ) (called : List ℕ) → MayPutS node roll → AreCalled node called roll →
    AreCalled node called (put_s_of node (record { roll = roll; waiting = waiting; memory = memory })).home.roll
put_s_called Idle node waiting memory called may covers = absurd may
put_s_called (Exclusive owner) node waiting memory called may covers = absurd may
put_s_called (Shared readers) node waiting memory called may covers = rw (not_zero (count_of node readers) may) (by (without node readers) (λ other differ. let c = covers other differ in let s = count_other other node readers differ in omega (arith, c, s)))
  where
    by : (list : List ℕ) → ((other : ℕ) → (other == node) ≡ false → count_of other list ≤ count_of other called) → AreCalled node called (shared_by list)
    by [] all = tt
    by (first ∷ rest) all = all
put_s_called (Busy from exclusive others) node waiting memory called may covers = tt

-- ---- PutX

abbrev pub MayPutX : ℕ → Roll → Type 0
MayPutX node (Exclusive owner) = (owner == node) ≡ true
MayPutX node (Busy from exclusive called) = Unit {0}
MayPutX node _ = ⊥

pub may_put_x : (roll : Roll) (node : ℕ) (bytes : List ℕ) (bodies : List Body) → Counts roll node (PutX bytes ∷ bodies) → MayPutX node roll
may_put_x Idle node bytes bodies is = absurd (let c = is.0 in omega (arith, c))
may_put_x (Shared readers) node bytes bodies is = absurd (let c = is.1 in omega (arith, c))
may_put_x (Exclusive owner) node bytes bodies is = elim (cases_Bool (node == owner)) [
  | inl it ↦ eq-eqb owner node (sym (eqb-true node owner it))
  | inr it ↦ absurd (let c : 1 + tokens bodies ≡ 0 = rw it at is.0 in omega (arith, c))
]
may_put_x (Busy from exclusive called) node bytes bodies is = tt

pub nothing_asked : (node : ℕ) (waiting : List Request) → asks_waiting node waiting ≡ asks_waiting node waiting ++ []
nothing_asked node waiting = sym (append-nil (asks_waiting node waiting))

pub put_x_keeps : (roll : Roll) (node : ℕ) (bytes : List ℕ) (waiting : List Request) (memory : List ℕ) (cell : ℕ → Cell) (up : List Body) →
    NodesFacts roll waiting cell → (cell node).to_home ≡ PutX bytes ∷ up → MayPutX node roll →
    NodesFacts (put_x_of node bytes (record { roll = roll; waiting = waiting; memory = memory })).home.roll
    (put_x_of node bytes (record { roll = roll; waiting = waiting; memory = memory })).home.waiting
    (with_sent (put_x_of node bytes (record { roll = roll; waiting = waiting; memory = memory })).sent (with_cell node (record (cell node) { to_home = up }) cell))
put_x_keeps Idle node bytes waiting memory cell up is front may = absurd may
put_x_keeps (Shared readers) node bytes waiting memory cell up is front may = absurd may
put_x_keeps (Exclusive owner) node bytes waiting memory cell up is front may =
    rw may
    (to_nobody_keeps Idle waiting (with_cell node (record (cell node) { to_home = up }) cell)
    (front_leaves (Exclusive owner) Idle node waiting waiting cell (PutX bytes) up is front (λ other. refl) (nothing_asked node waiting) (λ other differ. refl)
    (λ led counts. (let few = writers_few (behind (cell node) up) in (led, omega (arith, led, few), let m = counts.2 in omega (arith, m))))
    (λ other differ counts. (let differ_too : (other == owner) ≡ false = subst (λ (k : ℕ). (other == k) ≡ false) (sym (eqb-true owner node may)) differ in
    let t : tokens (pipe (cell other)) ≡ 0 = rw differ_too at counts.0 in (t, counts.1 ∙ t, counts.2)))))
put_x_keeps (Busy from exclusive called) node bytes waiting memory cell up is front may =
    to_nobody_keeps (Busy from exclusive called) waiting (with_cell node (record (cell node) { to_home = up }) cell)
    (front_leaves (Busy from exclusive called) (Busy from exclusive called) node waiting waiting cell (PutX bytes) up is front (λ other. refl) (nothing_asked node waiting) (λ other differ. refl)
    (λ led counts. (let few = writers_few (behind (cell node) up) in (omega (arith, led), inl (omega (arith, led, few)), let c = counts.2 in omega (arith, c))))
    (λ other differ counts. counts))

pub put_x_stray : (roll : Roll) (node : ℕ) (bytes : List ℕ) (waiting : List Request) (memory : List ℕ) → MayPutX node roll →
    (put_x_of node bytes (record { roll = roll; waiting = waiting; memory = memory })).stray ≡ false
put_x_stray Idle node bytes waiting memory may = absurd may
put_x_stray (Shared readers) node bytes waiting memory may = absurd may
put_x_stray (Exclusive owner) node bytes waiting memory may = rw may refl
put_x_stray (Busy from exclusive called) node bytes waiting memory may = refl

-- ---- InvAck

abbrev pub MayAnswer : ℕ → Roll → Type 0
MayAnswer node (Busy from exclusive called) = 1 ≤ count_of node called
MayAnswer node _ = ⊥

pub may_answer : (roll : Roll) (node : ℕ) (bytes : Option (List ℕ)) (bodies : List Body) → Counts roll node (InvAck bytes ∷ bodies) → MayAnswer node roll
may_answer Idle node bytes bodies is = absurd (let c = is.2 in omega (arith, c))
may_answer (Shared readers) node bytes bodies is = absurd (let c = is.2 in omega (arith, c))
may_answer (Exclusive owner) node bytes bodies is = absurd (let c = is.2 in omega (arith, c))
may_answer (Busy from exclusive called) node bytes bodies is = let c = is.2 in omega (arith, c)

-- All have answered: the request for which the entry was Busy is the next to be served.
granted : (node : ℕ) (exclusive : Bool) (waiting : List Request) (cell : ℕ → Cell) → NodesFacts (Busy node exclusive []) waiting cell →
    NodesFacts Idle (record { node = node; exclusive = exclusive } ∷ waiting) cell
granted node exclusive waiting cell is k =
    under (Busy node exclusive []) Idle k (asks_at_home k (Busy node exclusive []) waiting) (asks_at_home k Idle (record { node = node; exclusive = exclusive } ∷ waiting)) (cell k) (is k)
    (append-nil (mine ++ asks_waiting k waiting) ∙ turned mine (asks_waiting k waiting)
    (let few = home_few (Busy node exclusive []) k (asks_at_home k (Busy node exclusive []) waiting) (cell k) (is k) in
    let a = length-append (asks_waiting k waiting) mine in let b = length-append mine (asks_waiting k waiting) in omega (arith, few, a, b)))
    (all_answered node k exclusive (pipe (cell k)) (is k).counts)
  where
    mine : List Bool
    mine = if k == node then exclusive ∷ [] else []

awaiting_keeps : (node : ℕ) (exclusive : Bool) (called : List ℕ) (roll : Roll) (waiting : List Request) (memory : List ℕ) (cell : ℕ → Cell) → NodesFacts (Busy node exclusive called) waiting cell →
    NodesFacts (awaiting_of (record { node = node; exclusive = exclusive }) called (record { roll = roll; waiting = waiting; memory = memory })).home.roll
    (awaiting_of (record { node = node; exclusive = exclusive }) called (record { roll = roll; waiting = waiting; memory = memory })).home.waiting
    (with_sent (awaiting_of (record { node = node; exclusive = exclusive }) called (record { roll = roll; waiting = waiting; memory = memory })).sent cell)
awaiting_keeps node exclusive [] roll waiting memory cell is = serve_keeps node exclusive [] Idle waiting memory cell tt (granted node exclusive waiting cell is) tt
awaiting_keeps node exclusive (first ∷ rest) roll waiting memory cell is = to_nobody_keeps (Busy node exclusive (first ∷ rest)) waiting cell is

pub inv_ack_keeps : (roll : Roll) (node : ℕ) (bytes : Option (List ℕ)) (waiting : List Request) (memory : List ℕ) (cell : ℕ → Cell) (up : List Body) →
    NodesFacts roll waiting cell → (cell node).to_home ≡ InvAck bytes ∷ up → MayAnswer node roll →
    NodesFacts (inv_ack_of node bytes (record { roll = roll; waiting = waiting; memory = memory })).home.roll
    (inv_ack_of node bytes (record { roll = roll; waiting = waiting; memory = memory })).home.waiting
    (with_sent (inv_ack_of node bytes (record { roll = roll; waiting = waiting; memory = memory })).sent (with_cell node (record (cell node) { to_home = up }) cell))
inv_ack_keeps Idle node bytes waiting memory cell up is front may = absurd may
inv_ack_keeps (Shared readers) node bytes waiting memory cell up is front may = absurd may
inv_ack_keeps (Exclusive owner) node bytes waiting memory cell up is front may = absurd may
inv_ack_keeps (Busy from exclusive called) node bytes waiting memory cell up is front may =
    awaiting_keeps from exclusive (without node called) (Busy from exclusive called) waiting (unwrap_or bytes memory) (with_cell node (record (cell node) { to_home = up }) cell)
    (front_leaves (Busy from exclusive called) (Busy from exclusive (without node called)) node waiting waiting cell (InvAck bytes) up is front (λ other. refl) (nothing_asked node waiting) (λ other differ. refl)
    (λ led counts. answered_counts from node exclusive called (InvAck bytes) (behind (cell node) up) led refl counts)
    (λ other differ counts. answered_counts_other from other node exclusive called (pipe (cell other)) differ may counts))

awaiting_stray : (node : ℕ) (exclusive : Bool) (called : List ℕ) (roll : Roll) (waiting : List Request) (memory : List ℕ) →
    (awaiting_of (record { node = node; exclusive = exclusive }) called (record { roll = roll; waiting = waiting; memory = memory })).stray ≡ false
awaiting_stray node true [] roll waiting memory = refl
awaiting_stray node false [] roll waiting memory = refl
awaiting_stray node exclusive (first ∷ rest) roll waiting memory = refl

pub inv_ack_stray : (roll : Roll) (node : ℕ) (bytes : Option (List ℕ)) (waiting : List Request) (memory : List ℕ) → MayAnswer node roll →
    (inv_ack_of node bytes (record { roll = roll; waiting = waiting; memory = memory })).stray ≡ false
inv_ack_stray Idle node bytes waiting memory may = absurd may
inv_ack_stray (Shared readers) node bytes waiting memory may = absurd may
inv_ack_stray (Exclusive owner) node bytes waiting memory may = absurd may
inv_ack_stray (Busy from exclusive called) node bytes waiting memory may = awaiting_stray from exclusive (without node called) (Busy from exclusive called) waiting (unwrap_or bytes memory)
