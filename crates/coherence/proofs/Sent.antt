-- What holds of each message that a node sends, before it is stamped and after.
use Rattle.std.proofs.Common.{◌≡◌, ℕ, ◌+◌, Bool, true, false, cond, List, [], ◌∷◌, Option, Some, None, refl, ap, arith}
use Rattle.std.specs.Prelude.{⊤}
use Rattle.std.specs.List.{AllByRecursion}
use Rattle.wt_params.specs.declared.parts.MachineParts.{MachineParts}
use Rattle.wt_network.specs.Stamps.{stamp_of}
use Rattle.wt_proto.specs.declared.message.Body.{Body}
use Rattle.wt_proto.specs.declared.message.Body.TheVariants.{GetS, GetX, PutS, PutX, DataS, DataX, Inv, InvAck, Wake, Arrive, Leave, Go}
use Rattle.target_cache.specs.declared.line.Line.{Line}
use Rattle.node.specs.declared.state.Send.{Send}
use Rattle.node.specs.Handled.{to_home, gives_back}
use Rattle.node.specs.React.{stamped_from}
use Rattle.coherence.specs.Moves.{arrive_in, leave_in, go_in, Tells}
use Rattle.coherence.specs.Sends.{GoesRight, LeavesAt, IsRightSend, is_of_home, IsNotOfHome}
use Rattle.coherence.proofs.RowSends.{is_of_barrier}

-- A message goes right, and leaves at this time of an event.
pub record IsRight (machine : MachineParts) (from time at : ℕ) (send : Send) : Type 0 where
  pub leaving : send.at ≡ at
  pub leaves : LeavesAt time at send.msg.body
  pub goes : GoesRight machine from send.to send.msg.block send.msg.body

-- All do.
abbrev pub AreRight : MachineParts → ℕ → ℕ → ℕ → List Send → Type 0
AreRight machine from time at [] = ⊤
AreRight machine from time at (first ∷ rest) = IsRight machine from time at first × AreRight machine from time at rest

-- None is of those that only a home sends.
abbrev pub AreOwn : List Send → Type 0
AreOwn [] = ⊤
AreOwn (first ∷ rest) = (is_of_home first.msg.body ≡ false) × AreOwn rest

-- None is about the barrier.
abbrev pub AreOthers : List Send → Type 0
AreOthers [] = ⊤
AreOthers (first ∷ rest) = (is_of_barrier first.msg.body ≡ false) × AreOthers rest

-- A message to a home leaves at once: a request, a copy that is given back, or an answer.
pub record IsPlain (machine : MachineParts) (from time : ℕ) (send : Send) : Type 0 where
  pub right : IsRight machine from time time send
  pub own : is_of_home send.msg.body ≡ false
  pub other : is_of_barrier send.msg.body ≡ false

abbrev pub ArePlain : MachineParts → ℕ → ℕ → List Send → Type 0
ArePlain machine from time [] = ⊤
ArePlain machine from time (first ∷ rest) = IsPlain machine from time first × ArePlain machine from time rest

pub plain_right : (machine : MachineParts) (from time : ℕ) (sends : List Send) → ArePlain machine from time sends → AreRight machine from time time sends
plain_right machine from time [] plain = tt
plain_right machine from time (first ∷ rest) plain = (plain.0.right, plain_right machine from time rest plain.1)

pub plain_own : (machine : MachineParts) (from time : ℕ) (sends : List Send) → ArePlain machine from time sends → AreOwn sends
plain_own machine from time [] plain = tt
plain_own machine from time (first ∷ rest) plain = (plain.0.own, plain_own machine from time rest plain.1)

pub plain_others : (machine : MachineParts) (from time : ℕ) (sends : List Send) → ArePlain machine from time sends → AreOthers sends
plain_others machine from time [] plain = tt
plain_others machine from time (first ∷ rest) plain = (plain.0.other, plain_others machine from time rest plain.1)

pub back_plain : (machine : MachineParts) (from time : ℕ) (line : Option Line) → ArePlain machine from time (gives_back machine time line)
back_plain machine from time None = tt
back_plain machine from time (Some line) = (by line.writable, tt)
  where
    by : (writable : Bool) → IsPlain machine from time (to_home machine time line.block (cond writable (PutX line.bytes) PutS))
    by true = record { right = record { leaving = refl; leaves = refl; goes = refl }; own = refl; other = refl }
    by false = record { right = record { leaving = refl; leaves = refl; goes = refl }; own = refl; other = refl }

-- ---- after the stamp

pub stamped_right : (machine : MachineParts) (from time at sequence : ℕ) (sends : List Send) → AreRight machine from time at sends →
    AllByRecursion (IsRightSend machine time at) (stamped_from machine from sequence sends)
stamped_right machine from time at sequence [] right = tt
stamped_right machine from time at sequence (first ∷ rest) right = (
  record { stamp = ap (λ (t : ℕ). stamp_of machine from first.to t) right.0.leaving; leaves = right.0.leaves; goes = right.0.goes },
  stamped_right machine from time at (sequence + 1) rest right.1,
)

pub stamped_own : (machine : MachineParts) (from sequence : ℕ) (sends : List Send) → AreOwn sends → AllByRecursion IsNotOfHome (stamped_from machine from sequence sends)
stamped_own machine from sequence [] own = tt
stamped_own machine from sequence (first ∷ rest) own = (own.0, stamped_own machine from (sequence + 1) rest own.1)

none_told : (body : Body) → is_of_barrier body ≡ false → (arrive_in body ≡ 0) × (leave_in body ≡ 0) × ((node to : ℕ) → go_in node to body ≡ 0)
none_told GetS is = (refl, refl, λ node to. refl)
none_told (GetX had) is = (refl, refl, λ node to. refl)
none_told PutS is = (refl, refl, λ node to. refl)
none_told (PutX bytes) is = (refl, refl, λ node to. refl)
none_told (DataS bytes) is = (refl, refl, λ node to. refl)
none_told (DataX bytes) is = (refl, refl, λ node to. refl)
none_told Inv is = (refl, refl, λ node to. refl)
none_told (InvAck bytes) is = (refl, refl, λ node to. refl)
none_told Wake is = (refl, refl, λ node to. refl)
none_told Arrive is = absurd cc
none_told Leave is = absurd cc
none_told Go is = absurd cc

pub tells_none : (machine : MachineParts) (from sequence : ℕ) (sends : List Send) → AreOthers sends → Tells 0 0 [] (stamped_from machine from sequence sends)
tells_none machine from sequence [] others = record { arrives_is = refl; leaves_is = refl; gos_are = λ node. refl }
tells_none machine from sequence (first ∷ rest) others =
    let later = tells_none machine from (sequence + 1) rest others.1 in
    let none = none_told first.msg.body others.0 in
    record {
      arrives_is = let a = later.arrives_is in let n = none.0 in omega (arith, a, n);
      leaves_is = let a = later.leaves_is in let n = none.1 in omega (arith, a, n);
      gos_are = λ node. let a = later.gos_are node in let n = none.2 node first.to in omega (arith, a, n);
    }

-- one message that may be about the barrier, but is no Go
pub one_told : (send : Send) (arrives leaves : ℕ) (machine : MachineParts) (from sequence : ℕ) → arrive_in send.msg.body ≡ arrives → leave_in send.msg.body ≡ leaves → ((node to : ℕ) → go_in node to send.msg.body ≡ 0) →
    Tells arrives leaves [] (stamped_from machine from sequence (send ∷ []))
one_told send arrives leaves machine from sequence a l g = record {
  arrives_is = omega (arith, a);
  leaves_is = omega (arith, l);
  gos_are = λ node. let n = g node send.to in omega (arith, n);
}
