-- How many Wakes are under way after a row.
use Rattle.std.proofs.Common.{◌≡◌, ℕ, ◌+◌, ◌-◌, ◌≤◌, inl, inr, Bool, true, false, List, [], ◌∷◌, refl, arith}
use Rattle.std.specs.Prelude.{◌==◌, unwrap_or}
use Rattle.std.proofs.lemmas.Bool.{cases_Bool}
use Rattle.wt_proto.specs.declared.directory.Request.{Request}
use Rattle.wt_proto.specs.declared.message.Body.{Body}
use Rattle.wt_proto.specs.declared.message.Body.TheVariants.{GetS, GetX, PutS, PutX, DataS, DataX, Inv, InvAck, Wake, Arrive, Leave, Go}
use Rattle.coherence.specs.Block.{Roll, Home, count_of, without}
use Rattle.coherence.specs.Block.Roll.{Idle, Shared, Exclusive, Busy}
use Rattle.coherence.specs.Facts.{wakes_due}
use Rattle.coherence.specs.Rows.{Row, shared_by, quiet, stray_at, serve_of, request_of, put_s_of, put_x_of, awaiting_of, arrive_of, wake_of}

-- what was due and what is sent is what is due then
abbrev pub KeepsWakes : Home → Row → Type 0
KeepsWakes home row = wakes_due home + row.wakes ≡ wakes_due row.home

abbrev home_by : Roll → List Request → List ℕ → Home
home_by roll waiting memory = record { roll = roll; waiting = waiting; memory = memory }

stray_wakes : (home : Home) → KeepsWakes home (stray_at home)
stray_wakes home = omega arith

quiet_wakes : (home new : Home) → wakes_due home ≡ wakes_due new → KeepsWakes home (quiet new)
quiet_wakes home new same = omega (arith, same)

-- A request is served where nobody else waits.
serve_wakes : (request : Request) (exclusive : Bool) → request.exclusive ≡ exclusive → (called : List ℕ) (roll : Roll) (memory : List ℕ) →
    KeepsWakes (home_by roll [] memory) (serve_of (record { node = request.node; exclusive = exclusive }) called (home_by roll [] memory))
serve_wakes request exclusive e called (Busy from for_x others) memory = by exclusive
  where
    by : (x : Bool) → KeepsWakes (home_by (Busy from for_x others) [] memory) (serve_of (record { node = request.node; exclusive = x }) called (home_by (Busy from for_x others) [] memory))
    by true = omega arith
    by false = omega arith
serve_wakes request false e called Idle memory = omega arith
serve_wakes request false e called (Shared readers) memory = omega arith
serve_wakes request true e called Idle memory = omega arith
serve_wakes request true e [] (Shared readers) memory = omega arith
serve_wakes request true e (first ∷ rest) (Shared readers) memory = omega arith
serve_wakes request false e called (Exclusive owner) memory = omega arith
serve_wakes request true e called (Exclusive owner) memory = omega arith

request_wakes : (request : Request) (called : List ℕ) (roll : Roll) (waiting : List Request) (memory : List ℕ) →
    KeepsWakes (home_by roll waiting memory) (request_of request called (home_by roll waiting memory))
request_wakes request called (Busy from for_x others) waiting memory = omega arith
request_wakes request called Idle (first ∷ rest) memory = omega arith
request_wakes request called (Shared readers) (first ∷ rest) memory = omega arith
request_wakes request called (Exclusive owner) (first ∷ rest) memory = omega arith
request_wakes request called Idle [] memory = serve_wakes request request.exclusive refl called Idle memory
request_wakes request called (Shared readers) [] memory = serve_wakes request request.exclusive refl called (Shared readers) memory
request_wakes request called (Exclusive owner) [] memory = serve_wakes request request.exclusive refl called (Exclusive owner) memory

shared_due : (list : List ℕ) (readers : List ℕ) (waiting : List Request) (memory : List ℕ) → wakes_due (home_by (Shared readers) waiting memory) ≡ wakes_due (home_by (shared_by list) waiting memory)
shared_due [] readers [] memory = refl
shared_due [] readers (w ∷ waiting) memory = refl
shared_due (first ∷ rest) readers [] memory = refl
shared_due (first ∷ rest) readers (w ∷ waiting) memory = refl

owned_due : (owner : ℕ) (waiting : List Request) (memory bytes : List ℕ) → wakes_due (home_by (Exclusive owner) waiting memory) ≡ wakes_due (home_by Idle waiting bytes)
owned_due owner [] memory bytes = refl
owned_due owner (w ∷ waiting) memory bytes = refl

put_s_wakes : (node : ℕ) (roll : Roll) (waiting : List Request) (memory : List ℕ) →
    KeepsWakes (home_by roll waiting memory) (put_s_of node (home_by roll waiting memory))
put_s_wakes node Idle waiting memory = stray_wakes (home_by Idle waiting memory)
put_s_wakes node (Exclusive owner) waiting memory = stray_wakes (home_by (Exclusive owner) waiting memory)
put_s_wakes node (Busy from exclusive called) waiting memory = omega arith
put_s_wakes node (Shared readers) waiting memory = elim (cases_Bool (count_of node readers == 0)) [
  | inl is ↦ rw is (stray_wakes (home_by (Shared readers) waiting memory))
  | inr is ↦ rw is (quiet_wakes (home_by (Shared readers) waiting memory) (home_by (shared_by (without node readers)) waiting memory) (shared_due (without node readers) readers waiting memory))
]

-- The first part of a GetX with a copy had sends nothing.
put_s_none : (node : ℕ) (roll : Roll) (waiting : List Request) (memory : List ℕ) → (put_s_of node (home_by roll waiting memory)).wakes ≡ 0
put_s_none node Idle waiting memory = refl
put_s_none node (Exclusive owner) waiting memory = refl
put_s_none node (Busy from exclusive called) waiting memory = refl
put_s_none node (Shared readers) waiting memory = elim (cases_Bool (count_of node readers == 0)) [
  | inl is ↦ rw is refl
  | inr is ↦ rw is refl
]

put_x_wakes : (node : ℕ) (bytes : List ℕ) (roll : Roll) (waiting : List Request) (memory : List ℕ) →
    KeepsWakes (home_by roll waiting memory) (put_x_of node bytes (home_by roll waiting memory))
put_x_wakes node bytes Idle waiting memory = stray_wakes (home_by Idle waiting memory)
put_x_wakes node bytes (Shared readers) waiting memory = stray_wakes (home_by (Shared readers) waiting memory)
put_x_wakes node bytes (Busy from exclusive called) waiting memory = omega arith
put_x_wakes node bytes (Exclusive owner) waiting memory = elim (cases_Bool (owner == node)) [
  | inl is ↦ rw is (quiet_wakes (home_by (Exclusive owner) waiting memory) (home_by Idle waiting bytes) (owned_due owner waiting memory bytes))
  | inr is ↦ rw is (stray_wakes (home_by (Exclusive owner) waiting memory))
]

awaiting_wakes : (from : ℕ) (exclusive : Bool) (called others : List ℕ) (waiting : List Request) (memory bytes : List ℕ) →
    KeepsWakes (home_by (Busy from exclusive called) waiting memory) (awaiting_of (record { node = from; exclusive = exclusive }) others (home_by (Busy from exclusive called) waiting bytes))
awaiting_wakes from exclusive called [] waiting memory bytes = omega arith
awaiting_wakes from exclusive called (first ∷ rest) waiting memory bytes = omega arith

pub arrive_wakes : (node : ℕ) (called : List ℕ) (body : Body) (roll : Roll) (waiting : List Request) (memory : List ℕ) →
    KeepsWakes (home_by roll waiting memory) (arrive_of node called body (home_by roll waiting memory))
arrive_wakes node called GetS roll waiting memory = request_wakes (record { node = node; exclusive = false }) called roll waiting memory
arrive_wakes node called (GetX false) roll waiting memory = request_wakes (record { node = node; exclusive = true }) called roll waiting memory
arrive_wakes node called (GetX true) roll waiting memory =
    let first = put_s_wakes node roll waiting memory in let none = put_s_none node roll waiting memory in
    let second = request_wakes (record { node = node; exclusive = true }) called put.roll put.waiting put.memory in omega (arith, first, none, second)
  where
    put : Home
    put = (put_s_of node (home_by roll waiting memory)).home
arrive_wakes node called PutS roll waiting memory = put_s_wakes node roll waiting memory
arrive_wakes node called (PutX bytes) roll waiting memory = put_x_wakes node bytes roll waiting memory
arrive_wakes node called (InvAck bytes) Idle waiting memory = stray_wakes (home_by Idle waiting memory)
arrive_wakes node called (InvAck bytes) (Shared readers) waiting memory = stray_wakes (home_by (Shared readers) waiting memory)
arrive_wakes node called (InvAck bytes) (Exclusive owner) waiting memory = stray_wakes (home_by (Exclusive owner) waiting memory)
arrive_wakes node called (InvAck bytes) (Busy from exclusive others) waiting memory = awaiting_wakes from exclusive others (without node others) waiting memory (unwrap_or bytes memory)
arrive_wakes node called (DataS bytes) roll waiting memory = stray_wakes (home_by roll waiting memory)
arrive_wakes node called (DataX bytes) roll waiting memory = stray_wakes (home_by roll waiting memory)
arrive_wakes node called Inv roll waiting memory = stray_wakes (home_by roll waiting memory)
arrive_wakes node called Wake roll waiting memory = stray_wakes (home_by roll waiting memory)
arrive_wakes node called Arrive roll waiting memory = stray_wakes (home_by roll waiting memory)
arrive_wakes node called Leave roll waiting memory = stray_wakes (home_by roll waiting memory)
arrive_wakes node called Go roll waiting memory = stray_wakes (home_by roll waiting memory)

-- The Wake that comes is used up.
pub wake_wakes : (called : List ℕ) (roll : Roll) (waiting : List Request) (memory : List ℕ) (wakes : ℕ) → wakes ≡ wakes_due (home_by roll waiting memory) → 1 ≤ wakes →
    wakes - 1 + (wake_of called (home_by roll waiting memory)).wakes ≡ wakes_due (wake_of called (home_by roll waiting memory)).home
wake_wakes called (Busy from exclusive others) waiting memory wakes e some = absurd (omega (arith, e, some))
wake_wakes called Idle [] memory wakes e some = absurd (omega (arith, e, some))
wake_wakes called (Shared readers) [] memory wakes e some = absurd (omega (arith, e, some))
wake_wakes called (Exclusive owner) [] memory wakes e some = absurd (omega (arith, e, some))
wake_wakes called Idle (first ∷ rest) memory wakes e some = omega (arith, e)
wake_wakes called (Shared readers) (first ∷ rest) memory wakes e some = omega (arith, e)
wake_wakes called (Exclusive owner) (first ∷ rest) memory wakes e some = omega (arith, e)
