-- Whom the directory as it is built calls back are all that must be, and what comes to it is awaited.
use Rattle.std.proofs.Common.{◌≡◌, ◌≢◌, inl, inr, ℕ, zero, suc, ◌+◌, ◌<◌, ◌≤◌, ◌==◌, nat_lt, not, Bool, true, false, if◌then◌else◌, List, [], ◌∷◌, ◌++◌, length, get_or, None, refl, ap, sym, ◌∙◌, subst, arith, eqb-true}
use Rattle.std.specs.Prelude.{All}
use Rattle.std.specs.List.{filter, range_with_len}
use Rattle.std.proofs.lemmas.Bool.{cases_Bool, cases_lt}
use Rattle.std.proofs.lemmas.Bool.Decides.{nat_tests}
use Rattle.dir_list.specs.Lists.{in_order, with_node}
use Rattle.wt_proto.specs.declared.directory.Request.{Request}
use Rattle.wt_proto.specs.declared.message.Body.{Body}
use Rattle.wt_proto.specs.declared.message.Body.TheVariants.{GetS, GetX, PutS, PutX, DataS, DataX, Inv, InvAck, Wake, Arrive, Leave, Go}
use Rattle.dir1sw.specs.declared.home.HomeBlock.{HomeBlock}
use Rattle.dir1sw.specs.declared.home.Place.{Place}
use Rattle.coherence.specs.Pipes.{token_of, writer_of, not_to_home_of, tokens, asks}
use Rattle.coherence.specs.Block.{Cell, wanted, pipe, no_part, Roll, View, count_of, without}
use Rattle.coherence.specs.Block.Roll.{Idle, Shared, Exclusive, Busy}
use Rattle.coherence.specs.Facts.{NodeFacts, NodesFacts, asks_waiting, asks_of_roll, asks_at_home, IsCoherent}
use Rattle.coherence.specs.Rows.{shared_by, put_s_of, AreCalled, AreCalledForFirst}
use Rattle.coherence.specs.Entries.{entry_of, kept_of, called_for, called_at, called_first, IsAwaited, IsOfNodes, RowsAreSteps}
use Rattle.coherence.proofs.Pipes.{led_few, two_empty}
use Rattle.coherence.proofs.Rolls.{count_other, count_without}
use Rattle.coherence.proofs.Arrivals.{fronted, behind, MayPutS, may_put_s, put_s_waiting, MayAnswer, may_answer, not_zero}
use Rattle.coherence.proofs.Strays.{nothing_stray}
use Rattle.coherence.proofs.Built.{puts_s, rows_are_built_law}

-- ---- how often a node is called

itself : (n : ℕ) → (n == n) ≡ true
itself n = grind (arith, nat_tests)

count_first : (node : ℕ) (rest : List ℕ) → 1 ≤ count_of node (node ∷ rest)
count_first node rest = rw (itself node) (omega arith)

count_with : (node : ℕ) (xs : List ℕ) → 1 ≤ count_of node (with_node node xs)
count_with node [] = count_first node []
count_with node (first ∷ rest) = elim (cases_Bool (nat_lt node first)) [
  | inl before ↦ rw before (count_first node (first ∷ rest))
  | inr not_before ↦ elim (cases_Bool (node == first)) [
    | inl same ↦ rw (not_before, same, same) (omega arith)
    | inr apart ↦ (let later = count_with node rest in rw (not_before, apart) (omega (arith, later)))
  ]
]

count_with_more : (node other : ℕ) (xs : List ℕ) → count_of other xs ≤ count_of other (with_node node xs)
count_with_more node other [] = omega arith
count_with_more node other (first ∷ rest) = elim (cases_Bool (nat_lt node first)) [
  | inl before ↦ rw before (omega arith)
  | inr not_before ↦ elim (cases_Bool (node == first)) [
    | inl same ↦ rw (not_before, same) (omega arith)
    | inr apart ↦ (let later = count_with_more node other rest in rw (not_before, apart) (omega (arith, later)))
  ]
]

count_in_order : (node : ℕ) (xs : List ℕ) → 1 ≤ count_of node xs → 1 ≤ count_of node (in_order xs)
count_in_order node [] some = absurd (omega arith)
count_in_order node (first ∷ rest) some = elim (cases_Bool (node == first)) [
  | inl same ↦ subst (λ (n : ℕ). 1 ≤ count_of n (with_node first (in_order rest))) (sym (eqb-true node first same)) (count_with first (in_order rest))
  | inr apart ↦ (let later : 1 ≤ count_of node rest = (let s : 1 ≤ 0 + count_of node rest = rw apart at some in omega (arith, s)) in
      let there = count_in_order node rest later in let more = count_with_more first node (in_order rest) in omega (arith, there, more))
]

count_but : (other node : ℕ) (xs : List ℕ) → (other == node) ≡ false → count_of other (filter (λ k. not (k == node)) xs) ≡ count_of other xs
count_but other node [] differ = refl
count_but other node (first ∷ rest) differ = elim (cases_Bool (first == node)) [
  | inl gone ↦ (let later = count_but other node rest differ in
      let apart : (other == first) ≡ false = rw (eqb-true first node gone) differ in rw (gone, apart) (omega (arith, later)))
  | inr kept ↦ rw kept (ap (λ (n : ℕ). (if other == first then 1 else 0) + n) (count_but other node rest differ))
]

count_range : (other first count : ℕ) → first ≤ other → other < first + count → 1 ≤ count_of other (range_with_len first count)
count_range other first zero from below = absurd (omega arith)
count_range other first (suc count) from below = elim (cases_Bool (other == first)) [
  | inl same ↦ rw same (omega arith)
  | inr apart ↦ (let later = count_range other (first + 1) count (grind (arith, nat_tests)) (omega arith) in rw apart (omega (arith, later)))
]

-- ---- all that must be called are

-- each reader is one of the nodes, and reads once
abbrev pub AreFew : ℕ → Roll → Type 0
AreFew nodes (Shared readers) = (other : ℕ) → (count_of other readers ≤ 1) × (nodes ≤ other → count_of other readers ≡ 0)
AreFew nodes roll = Unit {0}

listed_called : (nodes node : ℕ) (readers : List ℕ) → AreFew nodes (Shared readers) → AreCalled node (called_for nodes node (entry_of true (Shared readers))) (Shared readers)
listed_called nodes node readers few other differ = elim (cases_Bool (count_of other readers == 0)) [
  | inl none ↦ (let zero_times : count_of other readers ≡ 0 = eqb-true _ _ none in omega (arith, zero_times))
  | inr some ↦ (let once = (few other).0 in
      let there = count_in_order other (filter (λ k. not (k == node)) readers) (let same = count_but other node readers differ in grind (arith, nat_tests)) in
      omega (arith, once, there))
]

counted_called : (nodes node : ℕ) (readers : List ℕ) → AreFew nodes (Shared readers) → AreCalled node (called_for nodes node (entry_of false (Shared readers))) (Shared readers)
counted_called nodes node readers few other differ = elim (cases_lt other nodes) [
  | inl below ↦ (let once = (few other).0 in
      let all = count_range other 0 nodes (omega arith) (omega arith) in
      let same = count_but other node (range_with_len 0 nodes) differ in omega (arith, once, all, same))
  | inr past ↦ (let none = (few other).1 past in omega (arith, none))
]

are_called : (nodes node : ℕ) (listed : Bool) (roll : Roll) → AreFew nodes roll → AreCalled node (called_for nodes node (entry_of listed roll)) roll
are_called nodes node listed Idle few = tt
are_called nodes node listed (Exclusive owner) few = tt
are_called nodes node listed (Busy from exclusive called) few = tt
are_called nodes node true (Shared readers) few = listed_called nodes node readers few
are_called nodes node false (Shared readers) few = counted_called nodes node readers few

-- a GetX with a copy had calls those that its PutS leaves
left_called : (nodes node : ℕ) (listed : Bool) (readers : List ℕ) → 1 ≤ count_of node readers → AreFew nodes (Shared readers) →
    AreCalled node (called_for nodes node (entry_of listed (shared_by (without node readers)))) (Shared readers)
left_called nodes node listed readers some few other differ = by (without node readers) (count_other other node readers differ) fewer
  where
    fewer : AreFew nodes (Shared (without node readers))
    fewer k = elim (cases_Bool (k == node)) [
      | inl same ↦ (let e : k ≡ node = eqb-true k node same in let less = count_without node readers some in let now = few node in
          subst (λ (n : ℕ). (count_of n (without node readers) ≤ 1) × (nodes ≤ n → count_of n (without node readers) ≡ 0)) (sym e)
          ((let once = now.0 in omega (arith, less, once)), λ past. (let none = now.1 past in omega (arith, less, none))))
      | inr apart ↦ (let same = count_other k node readers apart in let now = few k in
          ((let once = now.0 in omega (arith, same, once)), λ past. (let none = now.1 past in omega (arith, same, none))))
    ]

    by : (left : List ℕ) → count_of other left ≡ count_of other readers → AreFew nodes (Shared left) →
        count_of other readers ≤ count_of other (called_for nodes node (entry_of listed (shared_by left)))
    by [] same left_few = omega (arith, same)
    by (first ∷ rest) same left_few = let all = are_called nodes node listed (Shared (first ∷ rest)) left_few other differ in omega (arith, same, all)

had_called : (nodes node : ℕ) (listed : Bool) (roll : Roll) (waiting : List Request) (memory : List ℕ) → MayPutS node roll → AreFew nodes roll →
    AreCalled node (called_for nodes node (entry_of listed (put_s_of node (record { roll = roll; waiting = waiting; memory = memory })).home.roll)) roll
had_called nodes node listed Idle waiting memory may few = tt
had_called nodes node listed (Exclusive owner) waiting memory may few = tt
had_called nodes node listed (Busy from exclusive called) waiting memory may few = tt
had_called nodes node listed (Shared readers) waiting memory may few = rw (not_zero (count_of node readers) may) (left_called nodes node listed readers may few)

-- ---- what is known of a coherent block

readers_few : (nodes : ℕ) (readers : List ℕ) (waiting : List Request) (cell : ℕ → Cell) → NodesFacts (Shared readers) waiting cell → ((node : ℕ) → nodes ≤ node → cell node ≡ no_part) → AreFew nodes (Shared readers)
readers_few nodes readers waiting cell is past other =
    let facts = is other in
    let same = facts.counts.0 in
    let one = led_few (pipe (cell other)) facts.led in
    (omega (arith, same, one), λ beyond. (let none : tokens (pipe (cell other)) ≡ 0 = ap (λ (c : Cell). tokens (pipe c)) (past other beyond) in omega (arith, same, none)))

few_of : (nodes : ℕ) (roll : Roll) (waiting : List Request) (cell : ℕ → Cell) → NodesFacts roll waiting cell → ((node : ℕ) → nodes ≤ node → cell node ≡ no_part) → AreFew nodes roll
few_of nodes Idle waiting cell is past = tt
few_of nodes (Exclusive owner) waiting cell is past = tt
few_of nodes (Busy from exclusive called) waiting cell is past = tt
few_of nodes (Shared readers) waiting cell is past = readers_few nodes readers waiting cell is past

asks_of_each : (waiting : List Request) (k : ℕ) (d : Request) → k < length waiting → asks_waiting (get_or waiting k d).node waiting ≢ []
asks_of_each [] k d within none = absurd (omega arith)
asks_of_each (first ∷ rest) zero d within none = no (first.node == first.node) (itself first.node) none
  where
    no : (same : Bool) → same ≡ true → (if same then first.exclusive ∷ [] else []) ++ asks_waiting first.node rest ≡ [] → ⊥
    no true is empty = absurd cc
    no false is empty = absurd cc
asks_of_each (first ∷ rest) (suc k) d within none = asks_of_each rest k d (omega arith) (two_empty _ _ none).1

nodes_waiting : (nodes : ℕ) (roll : Roll) (waiting : List Request) (cell : ℕ → Cell) → NodesFacts roll waiting cell → ((node : ℕ) → nodes ≤ node → cell node ≡ no_part) → All (λ (request : Request). request.node < nodes) waiting
nodes_waiting nodes roll waiting cell is past k d within = elim (cases_lt (get_or waiting k d).node nodes) [
  | inl below ↦ below
  | inr beyond ↦ absurd (let node = (get_or waiting k d).node in
      let place = subst (λ (c : Cell). asks c.to_home ++ asks_at_home node roll waiting ++ asks c.from_home ≡ wanted c.wants) (past node beyond) (is node).one_place in
      let here = (two_empty (asks_at_home node roll waiting) [] place).0 in
      asks_of_each waiting k d within (two_empty (asks_waiting node waiting) (asks_of_roll node roll) here).0)
]

module _ (place : Place) (listed : Bool) (view : View) (is : IsCoherent view) (past : IsOfNodes place.nodes view) (below : place.from < place.nodes) where
  abbrev kept : HomeBlock
  kept = kept_of listed view.home

  readers_are_few : AreFew place.nodes view.home.roll
  readers_are_few = few_of place.nodes view.home.roll view.home.waiting view.cell is.nodes past

  module _ (rest : List Body) where
    old : (body : Body) → (view.cell place.from).to_home ≡ body ∷ rest → NodeFacts view.home.roll place.from (asks_at_home place.from view.home.roll view.home.waiting) (record (view.cell place.from) { to_home = body ∷ rest })
    old body front = fronted view.home.roll view.home.waiting view.cell place.from body rest is.nodes front

    may_put : (body : Body) → (view.cell place.from).to_home ≡ body ∷ rest → token_of body ≡ 1 → writer_of body ≡ 0 → MayPutS place.from view.home.roll
    may_put body front one w = may_put_s view.home.roll place.from body (behind (view.cell place.from) rest) one w (old body front).led (old body front).counts

    put_awaited : (body : Body) → (view.cell place.from).to_home ≡ body ∷ rest → token_of body ≡ 1 → writer_of body ≡ 0 → (put_s_of place.from view.home).stray ≡ false
    put_awaited body front one w = (put_s_waiting view.home.roll place.from view.home.waiting view.home.memory (may_put body front one w)).1

    answers : (roll : Roll) → MayAnswer place.from roll → IsAwaited place.from (InvAck None) (record { roll = roll; waiting = view.home.waiting; memory = view.home.memory })
    answers (Busy from exclusive called) may = may
    answers Idle may = tt
    answers (Shared readers) may = tt
    answers (Exclusive owner) may = tt

    goes_home : {A : Type 0} (body : Body) → (view.cell place.from).to_home ≡ body ∷ rest → not_to_home_of body ≡ 1 → A
    goes_home body front one = absurd (let g = (old body front).goes in omega (arith, g, one))

    awaited : (body : Body) → (view.cell place.from).to_home ≡ body ∷ rest → IsAwaited place.from body view.home
    awaited PutS front = put_awaited PutS front refl refl
    awaited (GetX true) front = put_awaited (GetX true) front refl refl
    awaited (InvAck bytes) front = answers view.home.roll (may_answer view.home.roll place.from bytes (behind (view.cell place.from) rest) (old (InvAck bytes) front).counts)
    awaited Wake front = goes_home Wake front refl
    awaited GetS front = tt
    awaited (GetX false) front = tt
    awaited (PutX bytes) front = tt
    awaited (DataS bytes) front = tt
    awaited (DataX bytes) front = tt
    awaited Inv front = tt
    awaited Arrive front = tt
    awaited Leave front = tt
    awaited Go front = tt

    calls_had : (view.cell place.from).to_home ≡ GetX true ∷ rest → AreCalled place.from (called_at place (GetX true) kept) view.home.roll
    calls_had front =
        let put = puts_s place listed view.home.roll view.home.waiting view.home.memory (put_awaited (GetX true) front refl refl) in
        subst (λ (now : HomeBlock). AreCalled place.from (called_for place.nodes place.from now.entry.state) view.home.roll) (sym put.home)
        (had_called place.nodes place.from put.listed view.home.roll view.home.waiting view.home.memory (may_put (GetX true) front refl refl) readers_are_few)

    calls : (body : Body) → (view.cell place.from).to_home ≡ body ∷ rest → AreCalled place.from (called_at place body kept) view.home.roll
    calls (GetX true) front = calls_had front
    calls (GetX false) front = are_called place.nodes place.from listed view.home.roll readers_are_few
    calls GetS front = are_called place.nodes place.from listed view.home.roll readers_are_few
    calls PutS front = are_called place.nodes place.from listed view.home.roll readers_are_few
    calls (PutX bytes) front = are_called place.nodes place.from listed view.home.roll readers_are_few
    calls (DataS bytes) front = are_called place.nodes place.from listed view.home.roll readers_are_few
    calls (DataX bytes) front = are_called place.nodes place.from listed view.home.roll readers_are_few
    calls Inv front = are_called place.nodes place.from listed view.home.roll readers_are_few
    calls (InvAck bytes) front = are_called place.nodes place.from listed view.home.roll readers_are_few
    calls Wake front = are_called place.nodes place.from listed view.home.roll readers_are_few
    calls Arrive front = are_called place.nodes place.from listed view.home.roll readers_are_few
    calls Leave front = are_called place.nodes place.from listed view.home.roll readers_are_few
    calls Go front = are_called place.nodes place.from listed view.home.roll readers_are_few

calls_first : (place : Place) (listed : Bool) (roll : Roll) (waiting : List Request) (memory : List ℕ) → AreFew place.nodes roll →
    AreCalledForFirst (called_first place (kept_of listed (record { roll = roll; waiting = waiting; memory = memory }))) (record { roll = roll; waiting = waiting; memory = memory })
calls_first place listed roll [] memory few = tt
calls_first place listed roll (first ∷ rest) memory few = are_called place.nodes first.node listed roll few

pub rows_are_steps_law : RowsAreSteps
rows_are_steps_law = record {
  arrive = λ place listed view body rest is past below front.
      let does = rows_are_built_law.arrive place listed body view.home below (awaited place listed view is past below rest body front) in
      record {
        enabled = (front, calls place listed view is past below rest body front);
        does = does;
        asked = does.stray ∙ nothing_stray.arrive view place.from body rest _ is front;
      };
  wake = λ place listed view is past some.
      let does = rows_are_built_law.wake place listed view.home (nodes_waiting place.nodes view.home.roll view.home.waiting view.cell is.nodes past) in
      record {
        enabled = (some, calls_first place listed view.home.roll view.home.waiting view.home.memory (few_of place.nodes view.home.roll view.home.waiting view.cell is.nodes past));
        does = does;
        asked = does.stray ∙ nothing_stray.wake view _ is some;
      };
}
