-- What a home sends about a block goes to nodes to which no Inv is under way.
use Rattle.std.proofs.Common.{◌≡◌, ℕ, ◌+◌, ◌⊎◌, inl, inr, Bool, true, false, List, [], ◌∷◌, Option, refl, ap, sym, ◌∙◌, arith}
use Rattle.std.specs.Prelude.{◌==◌, unwrap_or}
use Rattle.std.proofs.lemmas.Bool.{cases_Bool, eqb-true}
use Rattle.wt_proto.specs.declared.directory.Request.{Request}
use Rattle.wt_proto.specs.declared.message.Body.{Body}
use Rattle.wt_proto.specs.declared.message.Body.TheVariants.{GetS, GetX, PutS, PutX, DataS, DataX, Inv, InvAck, Wake, Arrive, Leave, Go}
use Rattle.coherence.specs.Pipes.{mark_of, total, marks}
use Rattle.coherence.specs.Block.{Cell, held, pipe, Roll, Home, View, count_of, without}
use Rattle.coherence.specs.Block.Roll.{Idle, Shared, Exclusive, Busy}
use Rattle.coherence.specs.Facts.{NodesFacts, IsCoherent}
use Rattle.coherence.specs.Rows.{with_memory, awaiting_of, arrive_of, wake_of}
use Rattle.coherence.proofs.Pipes.{total_parts}

-- Nothing is sent to a node, or no call is under way to it.
abbrev pub IsUnmarked : List Body → Cell → Type 0
IsUnmarked sent cell = (sent ≡ []) ⊎ (total mark_of cell.from_home ≡ 0)

abbrev home_by : Roll → List Request → List ℕ → Home
home_by roll waiting memory = record { roll = roll; waiting = waiting; memory = memory }

unmarked_pipe : (cell : Cell) → marks (pipe cell) ≡ 0 → total mark_of cell.from_home ≡ 0
unmarked_pipe cell none = let all = total_parts mark_of cell.to_home (held cell.copy) cell.from_home in omega (arith, all, none)

-- who is left when one is taken out
left_alone : (node to : ℕ) (called : List ℕ) → without node called ≡ [] → (count_of to called ≡ 0) ⊎ ((to ≡ node) × (count_of to called ≡ 1))
left_alone node to [] none = inl refl
left_alone node to (first ∷ rest) none = elim (cases_Bool (node == first)) [
  | inl here ↦
      let empty : rest ≡ [] = rw here at none in
      elim (cases_Bool (to == first)) [
        | inl same ↦ inr (eqb-true to first same ∙ sym (eqb-true node first here), rw (same, empty) refl)
        | inr apart ↦ inl (rw (apart, empty) refl)
      ]
  | inr apart ↦ absurd (let e : first ∷ without node rest ≡ [] = rw apart at none in cc)
]

module _ (waiting : List Request) (memory : List ℕ) (cell : ℕ → Cell) (node : ℕ) (rest : List Body) (called : List ℕ) (to : ℕ) where
  -- The last answer has come.
  answered : (from : ℕ) (exclusive : Bool) (others : List ℕ) → NodesFacts (Busy from exclusive others) waiting cell → (bytes : Option (List ℕ)) → (cell node).to_home ≡ InvAck bytes ∷ rest → without node others ≡ [] →
      total mark_of (cell to).from_home ≡ 0
  answered from exclusive others is bytes front none = by (left_alone node to others none)
    where
      by : (count_of to others ≡ 0) ⊎ ((to ≡ node) × (count_of to others ≡ 1)) → total mark_of (cell to).from_home ≡ 0
      by (inl zero_calls) = unmarked_pipe (cell to) ((is to).counts.2 ∙ zero_calls)
      by (inr one) =
          let all = total_parts mark_of (cell to).to_home (held (cell to).copy) (cell to).from_home in
          let m : marks (pipe (cell to)) ≡ 1 = (is to).counts.2 ∙ one.1 in
          let f : total mark_of (cell to).to_home ≡ 1 + total mark_of rest = ap (λ (n : ℕ). total mark_of (cell n).to_home) one.0 ∙ ap (total mark_of) front in
          omega (arith, all, m, f)

  busy : (from : ℕ) (exclusive : Bool) (others : List ℕ) → NodesFacts (Busy from exclusive others) waiting cell → (body : Body) → (cell node).to_home ≡ body ∷ rest →
      IsUnmarked ((arrive_of node called body (home_by (Busy from exclusive others) waiting memory)).sent to) (cell to)
  busy from exclusive others is GetS front = inl refl
  busy from exclusive others is (GetX false) front = inl refl
  busy from exclusive others is (GetX true) front = inl refl
  busy from exclusive others is PutS front = inl refl
  busy from exclusive others is (PutX bytes) front = inl refl
  busy from exclusive others is (InvAck bytes) front = by (without node others) refl
    where
      by : (left : List ℕ) → without node others ≡ left →
          IsUnmarked ((awaiting_of (record { node = from; exclusive = exclusive }) left (with_memory (unwrap_or bytes memory) (home_by (Busy from exclusive others) waiting memory))).sent to) (cell to)
      by [] e = inr (answered from exclusive others is bytes front e)
      by (first ∷ more) e = inl refl
  busy from exclusive others is (DataS bytes) front = inl refl
  busy from exclusive others is (DataX bytes) front = inl refl
  busy from exclusive others is Inv front = inl refl
  busy from exclusive others is Wake front = inl refl
  busy from exclusive others is Arrive front = inl refl
  busy from exclusive others is Leave front = inl refl
  busy from exclusive others is Go front = inl refl

  arrives : (roll : Roll) → NodesFacts roll waiting cell → (body : Body) → (cell node).to_home ≡ body ∷ rest → IsUnmarked ((arrive_of node called body (home_by roll waiting memory)).sent to) (cell to)
  arrives Idle is body front = inr (unmarked_pipe (cell to) (is to).counts.2)
  arrives (Shared readers) is body front = inr (unmarked_pipe (cell to) (is to).counts.2)
  arrives (Exclusive owner) is body front = inr (unmarked_pipe (cell to) (is to).counts.2)
  arrives (Busy from exclusive others) is body front = busy from exclusive others is body front

  wakes : (roll : Roll) → NodesFacts roll waiting cell → IsUnmarked ((wake_of called (home_by roll waiting memory)).sent to) (cell to)
  wakes Idle is = inr (unmarked_pipe (cell to) (is to).counts.2)
  wakes (Shared readers) is = inr (unmarked_pipe (cell to) (is to).counts.2)
  wakes (Exclusive owner) is = inr (unmarked_pipe (cell to) (is to).counts.2)
  wakes (Busy from exclusive others) is = inl refl

pub arrive_unmarked : (view : View) (node : ℕ) (body : Body) (rest : List Body) (called : List ℕ) (to : ℕ) → IsCoherent view → (view.cell node).to_home ≡ body ∷ rest → IsUnmarked ((arrive_of node called body view.home).sent to) (view.cell to)
arrive_unmarked view node body rest called to is front = arrives view.home.waiting view.home.memory view.cell node rest called to view.home.roll is.nodes body front

pub wake_unmarked : (view : View) (called : List ℕ) (to : ℕ) → IsCoherent view → IsUnmarked ((wake_of called view.home).sent to) (view.cell to)
wake_unmarked view called to is = wakes view.home.waiting view.home.memory view.cell to [] called to view.home.roll is.nodes
