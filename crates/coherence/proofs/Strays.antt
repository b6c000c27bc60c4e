-- No message is stray, and a writable copy is the only copy.
use Rattle.std.proofs.Common.{◌≡◌, ℕ, ◌+◌, ◌≤◌, ◌⊎◌, inl, inr, Bool, true, false, List, [], ◌∷◌, Option, refl, ap, ◌∙◌, subst, arith, eqb-true}
use Rattle.std.specs.Prelude.{◌==◌}
use Rattle.std.proofs.lemmas.Bool.{cases_Bool}
use Rattle.wt_proto.specs.declared.directory.Request.{Request}
use Rattle.wt_proto.specs.declared.message.Body.{Body}
use Rattle.wt_proto.specs.declared.message.Body.TheVariants.{GetS, GetX, PutS, PutX, DataS, DataX, Inv, InvAck, Wake, Arrive, Leave, Go}
use Rattle.coherence.specs.Pipes.{token_of, writer_of, not_to_home_of, total, tokens, writers}
use Rattle.coherence.specs.Block.{Copy, Cell, held, pipe, Roll, Home, count_of}
use Rattle.coherence.specs.Block.Roll.{Idle, Shared, Exclusive, Busy}
use Rattle.coherence.specs.Facts.{Counts, NodeFacts, NodesFacts, asks_at_home, wakes_due}
use Rattle.coherence.specs.Rows.{serve_of, request_of, put_s_of, arrive_of, wake_of}
use Rattle.coherence.specs.Laws.{NothingIsStray, OneWriter}
use Rattle.coherence.proofs.Pipes.{total_parts, held_none}
use Rattle.coherence.proofs.Cells.{fill_is_asked}
use Rattle.coherence.proofs.Rolls.{count_another}
use Rattle.coherence.proofs.Serving.{IsFree}
use Rattle.coherence.proofs.Arrivals.{fronted, behind, may_put_s, put_s_waiting, may_put_x, put_x_stray, may_answer, inv_ack_stray}

abbrev home_by : Roll → List Request → List ℕ → Home
home_by roll waiting memory = record { roll = roll; waiting = waiting; memory = memory }

serve_stray : (node : ℕ) (exclusive : Bool) (called : List ℕ) (roll : Roll) (waiting : List Request) (memory : List ℕ) → IsFree roll →
    (serve_of (record { node = node; exclusive = exclusive }) called (home_by roll waiting memory)).stray ≡ false
serve_stray node exclusive called (Busy from for_x others) waiting memory free = absurd free
serve_stray node false called Idle waiting memory free = refl
serve_stray node false called (Shared readers) waiting memory free = refl
serve_stray node true called Idle waiting memory free = refl
serve_stray node true [] (Shared readers) waiting memory free = refl
serve_stray node true (first ∷ rest) (Shared readers) waiting memory free = refl
serve_stray node false called (Exclusive owner) waiting memory free = refl
serve_stray node true called (Exclusive owner) waiting memory free = refl

request_stray : (node : ℕ) (exclusive : Bool) (called : List ℕ) (roll : Roll) (waiting : List Request) (memory : List ℕ) →
    (request_of (record { node = node; exclusive = exclusive }) called (home_by roll waiting memory)).stray ≡ false
request_stray node exclusive called (Busy from for_x others) waiting memory = refl
request_stray node exclusive called Idle (first ∷ rest) memory = refl
request_stray node exclusive called (Shared readers) (first ∷ rest) memory = refl
request_stray node exclusive called (Exclusive owner) (first ∷ rest) memory = refl
request_stray node exclusive called Idle [] memory = serve_stray node exclusive called Idle [] memory tt
request_stray node exclusive called (Shared readers) [] memory = serve_stray node exclusive called (Shared readers) [] memory tt
request_stray node exclusive called (Exclusive owner) [] memory = serve_stray node exclusive called (Exclusive owner) [] memory tt

module _ (roll : Roll) (waiting : List Request) (memory : List ℕ) (cell : ℕ → Cell) (is : NodesFacts roll waiting cell) (node : ℕ) (rest : List Body) (called : List ℕ) where
  old : (body : Body) → (cell node).to_home ≡ body ∷ rest → NodeFacts roll node (asks_at_home node roll waiting) (record (cell node) { to_home = body ∷ rest })
  old body front = fronted roll waiting cell node body rest is front

  put_stray : (body : Body) → (cell node).to_home ≡ body ∷ rest → token_of body ≡ 1 → writer_of body ≡ 0 → (put_s_of node (home_by roll waiting memory)).stray ≡ false
  put_stray body front one w =
      (put_s_waiting roll node waiting memory (may_put_s roll node body (behind (cell node) rest) one w (old body front).led (old body front).counts)).1

  astray : {A : Type 0} (body : Body) → (cell node).to_home ≡ body ∷ rest → not_to_home_of body ≡ 1 → A
  astray body front one = absurd (let g = (old body front).goes in omega (arith, g, one))

  arrive_stray : (body : Body) → (cell node).to_home ≡ body ∷ rest → (arrive_of node called body (home_by roll waiting memory)).stray ≡ false
  arrive_stray GetS front = request_stray node false called roll waiting memory
  arrive_stray (GetX false) front = request_stray node true called roll waiting memory
  arrive_stray (GetX true) front = let put = (put_s_of node (home_by roll waiting memory)).home in request_stray node true called put.roll put.waiting put.memory
  arrive_stray PutS front = put_stray PutS front refl refl
  arrive_stray (PutX bytes) front = put_x_stray roll node bytes waiting memory (may_put_x roll node bytes (behind (cell node) rest) (old (PutX bytes) front).counts)
  arrive_stray (InvAck bytes) front = inv_ack_stray roll node bytes waiting memory (may_answer roll node bytes (behind (cell node) rest) (old (InvAck bytes) front).counts)
  arrive_stray (DataS bytes) front = astray (DataS bytes) front refl
  arrive_stray (DataX bytes) front = astray (DataX bytes) front refl
  arrive_stray Inv front = astray Inv front refl
  arrive_stray Wake front = astray Wake front refl
  arrive_stray Arrive front = astray Arrive front refl
  arrive_stray Leave front = astray Leave front refl
  arrive_stray Go front = astray Go front refl

wake_stray : (called : List ℕ) (roll : Roll) (waiting : List Request) (memory : List ℕ) → 1 ≤ wakes_due (home_by roll waiting memory) →
    (wake_of called (home_by roll waiting memory)).stray ≡ false
wake_stray called (Busy from exclusive others) waiting memory some = absurd (omega arith)
wake_stray called Idle [] memory some = absurd (omega arith)
wake_stray called (Shared readers) [] memory some = absurd (omega arith)
wake_stray called (Exclusive owner) [] memory some = absurd (omega arith)
wake_stray called Idle (first ∷ rest) memory some = serve_stray first.node first.exclusive called Idle rest memory tt
wake_stray called (Shared readers) (first ∷ rest) memory some = serve_stray first.node first.exclusive called (Shared readers) rest memory tt
wake_stray called (Exclusive owner) (first ∷ rest) memory some = serve_stray first.node first.exclusive called (Exclusive owner) rest memory tt

pub nothing_stray : NothingIsStray
nothing_stray = record {
  arrive = λ view node body rest called is front. arrive_stray view.home.roll view.home.waiting view.home.memory view.cell is.nodes node rest called body front;
  had = λ view node rest is front. put_stray view.home.roll view.home.waiting view.home.memory view.cell is.nodes node rest [] (GetX true) front refl refl;
  wake = λ view called is some. wake_stray called view.home.roll view.home.waiting view.home.memory (let e = is.wakes in omega (arith, e, some));
  filled = λ view node exclusive bytes rest is front.
      (fill_is_asked view.home.roll node (asks_at_home node view.home.roll view.home.waiting) exclusive bytes (view.cell node).wants (view.cell node).copy (view.cell node).to_home rest
      (subst (λ (l : List Body). NodeFacts view.home.roll node (asks_at_home node view.home.roll view.home.waiting) (record (view.cell node) { from_home = l })) front (is.nodes node))).0;
}

-- ---- one writer

pub sole : (roll : Roll) (node other : ℕ) (mine theirs : List Body) → (other == node) ≡ false → 1 ≤ writers mine → Counts roll node mine → Counts roll other theirs → tokens theirs ≡ 0
sole Idle node other mine theirs differ some one two = two.0
sole (Shared readers) node other mine theirs differ some one two = absurd (let w = one.1 in omega (arith, w, some))
sole (Exclusive owner) node other mine theirs differ some one two = elim (cases_Bool (node == owner)) [
  | inl is ↦ (let e : node ≡ owner = eqb-true node owner is in let no_owner : (other == owner) ≡ false = subst (λ (k : ℕ). (other == k) ≡ false) e differ in
      let none : tokens theirs ≡ 0 = rw no_owner at two.0 in none)
  | inr is ↦ absurd (let none : tokens mine ≡ 0 = rw is at one.0 in let w = one.1 in omega (arith, none, w, some))
]
sole (Busy from exclusive called) node other mine theirs differ some one two = by one.1
  where
    by : (writers mine ≡ 0) ⊎ (called ≡ node ∷ []) → tokens theirs ≡ 0
    by (inl none) = absurd (omega (arith, none, some))
    by (inr alone) =
        let zero_calls : count_of other called ≡ 0 = ap (count_of other) alone ∙ count_another other node differ in let m = two.2 in let t = two.0 in omega (arith, zero_calls, m, t)

pub one_writer : OneWriter
one_writer view node other bytes is distinct copy = held_none (view.cell other).copy (let all = total_parts token_of theirs.to_home (held theirs.copy) theirs.from_home in omega (arith, all, none))
  where
    theirs : Cell
    theirs = view.cell other

    mine : Cell
    mine = view.cell node

    differ : (other == node) ≡ false
    differ = elim (cases_Bool (other == node)) [
      | inl same ↦ absurd (distinct (eqb-true other node same))
      | inr same ↦ same
    ]

    some : 1 ≤ writers (pipe mine)
    some = let all = total_parts writer_of mine.to_home (held mine.copy) mine.from_home in
        let one : total writer_of (held mine.copy) ≡ 1 + 0 = ap (λ (c : Option Copy). total writer_of (held c)) copy in omega (arith, all, one)

    none : tokens (pipe theirs) ≡ 0
    none = sole view.home.roll node other (pipe mine) (pipe theirs) differ some (is.nodes node).counts (is.nodes other).counts
