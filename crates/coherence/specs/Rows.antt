-- The directory's tables over the full roll: what a message does to what the home keeps of the block, and what is sent.
-- A row of a table is a clause. They stand for the rows of `dir1sw`, whatever its entries keep of the roll: those who are
-- called back are handed in. Own, after Dir1SW.
use Rattle.std.specs.Prelude.{◌≡◌, ℕ, ◌≤◌, ◌==◌, Bool, true, false, List, [], ◌∷◌, ◌++◌, Option, unwrap_or, if◌then◌else◌}
use Rattle.wt_proto.specs.declared.directory.Request.{Request}
use Rattle.wt_proto.specs.declared.message.Body.{Body}
use Rattle.wt_proto.specs.declared.message.Body.TheVariants.{GetS, GetX, PutS, PutX, Inv, InvAck}
use Rattle.dir1sw.specs.Table.{grant_body}
use Rattle.coherence.specs.Block.{Roll, Home, count_of, without}
use Rattle.coherence.specs.Block.Roll.{Idle, Shared, Exclusive, Busy}
use Rattle.coherence.specs.Facts.{wakes_due}

-- what a row gives: what the home keeps, the messages to each node, how many Wakes, and whether the message is stray
pub record Row : Type 0 where
  pub home : Home
  pub sent : ℕ → List Body
  pub wakes : ℕ
  pub stray : Bool

abbrev pub to_nobody : ℕ → List Body
to_nobody node = []

abbrev pub to_one : ℕ → Body → ℕ → List Body
to_one one body node = if node == one then body ∷ [] else []

-- an Inv for each time that a node is called
abbrev pub to_called : List ℕ → ℕ → List Body
to_called [] node = []
to_called (first ∷ rest) node = (if node == first then Inv ∷ [] else []) ++ to_called rest node

abbrev pub with_roll : Roll → Home → Home
with_roll roll home = record home { roll = roll }

abbrev pub with_waiting : List Request → Home → Home
with_waiting waiting home = record home { waiting = waiting }

abbrev pub with_memory : List ℕ → Home → Home
with_memory memory home = record home { memory = memory }

-- nothing is sent
abbrev pub quiet : Home → Row
quiet home = record { home = home; sent = to_nobody; wakes = 0; stray = false }

abbrev pub stray_at : Home → Row
stray_at home = record { home = home; sent = to_nobody; wakes = 0; stray = true }

-- DataS or DataX to who asked, with the memory
abbrev pub answer_of : Request → Roll → Home → Row
answer_of request roll home = record (quiet (with_roll roll home)) {
  sent = to_one request.node (grant_body request.exclusive home.memory);
}

-- copies are called back from some nodes
abbrev pub call_back_of : Request → List ℕ → Home → Row
call_back_of request called home = record (quiet (with_roll (Busy request.node request.exclusive called) home)) {
  sent = to_called called;
}

-- Where nobody is to be called, the block is granted alone.
abbrev pub take_over_of : Request → List ℕ → Home → Row
take_over_of request [] home = answer_of request (Exclusive request.node) home
take_over_of request (first ∷ rest) home = call_back_of request (first ∷ rest) home

-- The first table: a request is served, at an entry that isn't Busy.
--     request, state          new state, sent
abbrev pub serve_of : Request → List ℕ → Home → Row
serve_of request called home = row request.exclusive home.roll
  where
    row : Bool → Roll → Row
    row false Idle = answer_of request (Shared (request.node ∷ [])) home
    row false (Shared readers) = answer_of request (Shared (readers ++ request.node ∷ [])) home
    row true Idle = answer_of request (Exclusive request.node) home
    row true (Shared readers) = take_over_of request called home
    row _ (Exclusive owner) = call_back_of request (owner ∷ []) home
    row _ (Busy from exclusive called) = stray_at home

-- The second table: a message arrives.

-- GetS, and GetX without a copy had
abbrev pub request_of : Request → List ℕ → Home → Row
request_of request called home = row home.roll home.waiting
  where
    row : Roll → List Request → Row
    row (Busy from exclusive others) waiting = quiet (with_waiting (waiting ++ request ∷ []) home)
    row roll (first ∷ rest) = quiet (with_waiting ((first ∷ rest) ++ request ∷ []) home)
    row roll [] = serve_of request called home

abbrev pub shared_by : List ℕ → Roll
shared_by [] = Idle
shared_by (first ∷ rest) = Shared (first ∷ rest)

-- PutS
abbrev pub put_s_of : ℕ → Home → Row
put_s_of from home = row home.roll
  where
    row : Roll → Row
    row (Shared readers) =
        if count_of from readers == 0 then stray_at home else quiet (with_roll (shared_by (without from readers)) home)
    row (Busy node exclusive called) = quiet home
    row Idle = stray_at home
    row (Exclusive owner) = stray_at home

-- PutX
abbrev pub put_x_of : ℕ → List ℕ → Home → Row
put_x_of from bytes home = row home.roll
  where
    row : Roll → Row
    row (Exclusive owner) =
        if owner == from then quiet (with_roll Idle (with_memory bytes home)) else stray_at home
    row (Busy node exclusive called) = quiet (with_memory bytes home)
    row Idle = stray_at home
    row (Shared readers) = stray_at home

-- A Wake is sent where somebody waits and the entry isn't Busy.
abbrev pub with_wake : Row → Row
with_wake row = record row { wakes = wakes_due row.home }

-- Who has waited for copies to come back is granted the block.
abbrev pub grant_of : Request → Home → Row
grant_of request home = with_wake (serve_of request [] (with_roll Idle home))

-- These have still to answer.
abbrev pub awaiting_of : Request → List ℕ → Home → Row
awaiting_of request [] home = grant_of request home
awaiting_of request (first ∷ rest) home = quiet (with_roll (Busy request.node request.exclusive (first ∷ rest)) home)

-- InvAck
abbrev pub inv_ack_of : ℕ → Option (List ℕ) → Home → Row
inv_ack_of from bytes home = row home.roll
  where
    row : Roll → Row
    row (Busy node exclusive called) =
        awaiting_of (record { node = node; exclusive = exclusive }) (without from called)
        (with_memory (unwrap_or bytes home.memory) home)
    row _ = stray_at home

-- Wake
abbrev pub wake_of : List ℕ → Home → Row
wake_of called home = row home.roll home.waiting
  where
    row : Roll → List Request → Row
    row (Busy from exclusive others) waiting = stray_at home
    row roll [] = stray_at home
    row roll (first ∷ rest) = with_wake (serve_of first called (with_waiting rest home))

-- GetX with a copy had is PutS, stray or not, and then GetX without. No other message comes to a directory.
abbrev pub arrive_of : ℕ → List ℕ → Body → Home → Row
arrive_of from called GetS home = request_of (record { node = from; exclusive = false }) called home
arrive_of from called (GetX false) home = request_of (record { node = from; exclusive = true }) called home
arrive_of from called (GetX true) home =
    request_of (record { node = from; exclusive = true }) called (put_s_of from home).home
arrive_of from called PutS home = put_s_of from home
arrive_of from called (PutX bytes) home = put_x_of from bytes home
arrive_of from called (InvAck bytes) home = inv_ack_of from bytes home
arrive_of from called _ home = stray_at home

-- ---- who is called

-- All readers but one are among them.
abbrev pub AreCalled : ℕ → List ℕ → Roll → Type 0
AreCalled node called (Shared readers) =
    (other : ℕ) → (other == node) ≡ false → count_of other readers ≤ count_of other called
AreCalled node called _ = Unit {0}

-- all but who waits first
abbrev pub AreCalledForFirst : List ℕ → Home → Type 0
AreCalledForFirst called home = by home.waiting
  where
    by : List Request → Type 0
    by [] = Unit {0}
    by (first ∷ rest) = AreCalled first.node called home.roll
