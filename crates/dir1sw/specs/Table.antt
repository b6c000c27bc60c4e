-- The directory's two tables: what a message does to a block's entry and memory, what is sent, and what else is to be
-- done. A row of a table is a clause. After Dir1SW (Hill, Larus, Reinhardt, Wood, Cooperative Shared Memory, 1993);
-- own in all details.
use Rattle.std.specs.Prelude.{◌≡◌, ℕ, ◌-◌, ◌%◌, ◌≤◌, ◌==◌, Bool, true, false, if◌then◌else◌, List, [], ◌∷◌, ◌++◌, length, map, Option, Some, None, unwrap_or}
use Rattle.dir_list.specs.declared.readers.Removed.{Removed}
use Rattle.dir_list.specs.declared.readers.Removed.TheVariants.{Left, Empty, Absent}
use Rattle.dir_list.specs.Known.{AreSome, count_of, first_of, add_of, remove_of, others_of}
use Rattle.wt_proto.specs.declared.directory.DirState.{DirState}
use Rattle.wt_proto.specs.declared.directory.DirState.TheVariants.{Idle, Shared, Exclusive, Busy}
use Rattle.wt_proto.specs.declared.directory.Request.{Request}
use Rattle.wt_proto.specs.declared.directory.Targets.{Targets}
use Rattle.wt_proto.specs.declared.directory.Targets.TheVariants.{AllBut, One}
use Rattle.wt_proto.specs.declared.message.Body.{Body}
use Rattle.wt_proto.specs.declared.message.Body.TheVariants.{GetS, GetX, PutS, PutX, DataS, DataX, Inv, InvAck, Wake}
use Rattle.wt_proto.specs.declared.message.Outgoing.{Outgoing}
use Rattle.dir1sw.specs.declared.home.DirAct.{DirAct}
use Rattle.dir1sw.specs.declared.home.DirAct.TheVariants.{Done, Trap, Stray}
use Rattle.dir1sw.specs.declared.home.HomeBlock.{HomeBlock}
use Rattle.dir1sw.specs.declared.home.Place.{Place}

-- what a row of a table gives: the block's entry and memory, the messages that are sent, and the act
pub record Row : Type 0 where
  pub home : HomeBlock
  pub sends : List Outgoing
  pub act : DirAct

-- A row was carried out: this is the block's entry and memory, these messages were added, this is the act.
pub record IsRow (row : Row) (now : HomeBlock) (before after : List Outgoing) (done : DirAct) : Type 0 where
  pub home : now ≡ row.home
  pub sends : after ≡ before ++ row.sends
  pub act : done ≡ row.act

-- No entry is shared by nobody, lists more nodes than there are pointers, or waits for no answer.
abbrev pub IsSound : ℕ → DirState → Type 0
IsSound pointers (Shared readers) = AreSome pointers readers
IsSound pointers (Busy from exclusive left) = 1 ≤ left
IsSound pointers _ = Unit {0}

-- how many copies to read an entry knows of
abbrev pub copies_of : DirState → ℕ
copies_of (Shared readers) = count_of readers
copies_of _ = 0

abbrev pub is_busy_state : DirState → Bool
is_busy_state (Busy from exclusive left) = true
is_busy_state _ = false

-- nothing is sent, and all is done or the message is stray
abbrev pub quiet : DirAct → HomeBlock → Row
quiet act home = record { home = home; sends = []; act = act }

abbrev pub with_state : DirState → HomeBlock → HomeBlock
with_state state home = record home { entry = record (home.entry) { state = state } }

abbrev pub with_waiting : List Request → HomeBlock → HomeBlock
with_waiting waiting home = record home { entry = record (home.entry) { waiting = waiting } }

abbrev pub with_memory : List ℕ → HomeBlock → HomeBlock
with_memory bytes home = record home { memory = bytes }

-- DataS or DataX
abbrev pub grant_body : Bool → List ℕ → Body
grant_body exclusive bytes = if exclusive then DataX bytes else DataS bytes

-- DataS or DataX to who asked, with the memory
abbrev pub data_to : Place → Request → HomeBlock → Outgoing
data_to place request home = record {
  to = request.node;
  msg = record { block = place.block; body = grant_body request.exclusive home.memory };
}

-- the memory is sent, and the entry is in a new state
abbrev pub answer_of : Place → Request → DirState → HomeBlock → Row
answer_of place request state home = record {
  home = with_state state home;
  sends = data_to place request home ∷ [];
  act = Done;
}

-- copies are called back by software, and so many answers are awaited
abbrev pub call_back_of : Place → Request → Targets → ℕ → HomeBlock → Row
call_back_of place request targets left home =
    quiet (Trap (record { block = place.block; targets = targets }))
    (with_state (Busy request.node request.exclusive left) home)

abbrev pub invalidation_to : Place → ℕ → Outgoing
invalidation_to place node = record { to = node; msg = record { block = place.block; body = Inv } }

-- The copies of a few nodes are called back by the home itself, at once; with no other nodes the block is granted.
abbrev pub invalidate_of : Place → Request → List ℕ → HomeBlock → Row
invalidate_of place request [] home = answer_of place request (Exclusive request.node) home
invalidate_of place request (first ∷ rest) home = record {
  home = with_state (Busy request.node request.exclusive (length (first ∷ rest))) home;
  sends = map (invalidation_to place) (first ∷ rest);
  act = Done;
}

-- a request to write at a shared entry: who else reads is listed, or isn't known
abbrev pub take_over_of : Place → Request → Option (List ℕ) → HomeBlock → Row
take_over_of place request (Some others) home = invalidate_of place request others home
take_over_of place request None home =
    if place.nodes == 1 then answer_of place request (Exclusive request.node) home
    else call_back_of place request (AllBut request.node) (place.nodes - 1) home

-- The first table: a request is served, at an entry that isn't Busy.
--     request, state          new state, sent, act
abbrev pub serve_of : Place → Request → HomeBlock → Row
serve_of place request home = row request.exclusive home.entry.state
  where
    row : Bool → DirState → Row
    row false Idle = answer_of place request (Shared (first_of request.node place.pointers)) home
    row false (Shared readers) =
        answer_of place request (Shared (add_of request.node place.pointers readers)) home
    row true Idle = answer_of place request (Exclusive request.node) home
    row true (Shared readers) = take_over_of place request (others_of request.node readers) home
    row _ (Exclusive owner) = call_back_of place request (One owner) 1 home
    row _ (Busy from exclusive left) = quiet Stray home

-- The second table: a message arrives.

-- GetS, and GetX without a copy had
abbrev pub request_of : Place → Bool → HomeBlock → Row
request_of place exclusive home = row home.entry.state home.entry.waiting
  where
    request : Request
    request = record { node = place.from; exclusive = exclusive }

    row : DirState → List Request → Row
    row (Busy from for_x left) waiting = quiet Done (with_waiting (waiting ++ request ∷ []) home)
    row state (first ∷ rest) = quiet Done (with_waiting ((first ∷ rest) ++ request ∷ []) home)
    row state [] = serve_of place request home

-- a reader less
abbrev pub left_of : Removed → HomeBlock → Row
left_of Empty home = quiet Done (with_state Idle home)
left_of (Left readers) home = quiet Done (with_state (Shared readers) home)
left_of Absent home = quiet Stray home

-- PutS
abbrev pub put_s_of : ℕ → HomeBlock → Row
put_s_of from home = row home.entry.state
  where
    row : DirState → Row
    row (Shared readers) = left_of (remove_of from readers) home
    row (Busy from exclusive left) = quiet Done home
    row Idle = quiet Stray home
    row (Exclusive owner) = quiet Stray home

-- PutX
abbrev pub put_x_of : ℕ → List ℕ → HomeBlock → Row
put_x_of from bytes home = row home.entry.state
  where
    row : DirState → Row
    row (Exclusive owner) =
        if owner == from then quiet Done (with_state Idle (with_memory bytes home)) else quiet Stray home
    row (Busy node exclusive left) = quiet Done (with_memory bytes home)
    row Idle = quiet Stray home
    row (Shared readers) = quiet Stray home

-- A Wake for the block goes to the home itself, after the Data message, where the entry isn't Busy and somebody waits.
abbrev pub wake_after : Place → HomeBlock → List Outgoing
wake_after place home = wake home.entry.state home.entry.waiting
  where
    wake : DirState → List Request → List Outgoing
    wake (Busy from exclusive left) waiting = []
    wake state [] = []
    wake state (first ∷ rest) =
        record { to = place.block % place.nodes; msg = record { block = place.block; body = Wake } } ∷ []

abbrev pub with_wake : Place → Row → Row
with_wake place row = record row { sends = row.sends ++ wake_after place row.home }

abbrev pub granted_to : Place → Request → DirState
granted_to place request =
    if request.exclusive then Exclusive request.node else Shared (first_of request.node place.pointers)

-- Who has waited for copies to come back is granted the block.
abbrev pub grant_of : Place → Request → HomeBlock → Row
grant_of place request home =
    with_wake place (answer_of place request (granted_to place request) home)

-- InvAck
abbrev pub inv_ack_of : Place → Option (List ℕ) → HomeBlock → Row
inv_ack_of place bytes home = row home.entry.state
  where
    kept : HomeBlock
    kept = with_memory (unwrap_or bytes home.memory) home

    row : DirState → Row
    row (Busy from exclusive left) =
        if left == 1 then grant_of place (record { node = from; exclusive = exclusive }) kept
        else quiet Done (with_state (Busy from exclusive (left - 1)) kept)
    row _ = quiet Stray home

-- Wake
abbrev pub wake_of : Place → HomeBlock → Row
wake_of place home = row home.entry.state home.entry.waiting
  where
    row : DirState → List Request → Row
    row (Busy from exclusive left) waiting = quiet Stray home
    row state [] = quiet Stray home
    row state (first ∷ rest) = with_wake place (serve_of place first (with_waiting rest home))

-- GetX with a copy had is PutS, stray or not, and then GetX without. No other message comes to a directory.
abbrev pub arrive_of : Place → Body → HomeBlock → Row
arrive_of place GetS home = request_of place false home
arrive_of place (GetX false) home = request_of place true home
arrive_of place (GetX true) home = request_of place true (put_s_of place.from home).home
arrive_of place PutS home = put_s_of place.from home
arrive_of place (PutX bytes) home = put_x_of place.from bytes home
arrive_of place (InvAck bytes) home = inv_ack_of place bytes home
arrive_of place Wake home = wake_of place home
arrive_of place _ home = quiet Stray home
