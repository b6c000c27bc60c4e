-- The directory's two tables of the older machine, whose homes count the readers of a block and list none. Own, after
-- Dir1SW.
use Rattle.std.specs.Prelude.{◌≡◌, ℕ, ◌+◌, ◌-◌, ◌%◌, ◌==◌, Bool, true, false, if◌then◌else◌, List, [], ◌∷◌, ◌++◌, Option, unwrap_or}
use Rattle.dir_list.specs.declared.readers.Readers.TheVariants.{Counted}
use Rattle.wt_proto.specs.declared.directory.DirState.{DirState}
use Rattle.wt_proto.specs.declared.directory.DirState.TheVariants.{Idle, Shared, Exclusive, Busy}
use Rattle.wt_proto.specs.declared.directory.Request.{Request}
use Rattle.wt_proto.specs.declared.directory.Targets.TheVariants.{AllBut, One}
use Rattle.wt_proto.specs.declared.message.Body.{Body}
use Rattle.wt_proto.specs.declared.message.Body.TheVariants.{GetS, GetX, PutS, PutX, InvAck, Wake}
use Rattle.wt_proto.specs.declared.message.Outgoing.{Outgoing}
use Rattle.dir1sw.specs.declared.home.DirAct.{DirAct}
use Rattle.dir1sw.specs.declared.home.DirAct.TheVariants.{Done, Stray}
use Rattle.dir1sw.specs.declared.home.HomeBlock.{HomeBlock}
use Rattle.dir1sw.specs.declared.home.Place.{Place}
use Rattle.dir1sw.specs.Table.{Row, IsSound, answer_of, call_back_of, quiet, with_memory, with_state, with_waiting, put_x_of, arrive_of}

-- so many copies to read
abbrev pub counted : ℕ → DirState
counted count = Shared (Counted count)

-- a request is served
abbrev pub serve_1 : Place → Request → HomeBlock → Row
serve_1 place request home = row request.exclusive home.entry.state
  where
    row : Bool → DirState → Row
    row false Idle = answer_of place request (counted 1) home
    row false (Shared (Counted count)) = answer_of place request (counted (count + 1)) home
    row true Idle = answer_of place request (Exclusive request.node) home
    row true (Shared (Counted count)) =
        if place.nodes == 1 then answer_of place request (Exclusive request.node) home
        else call_back_of place request (AllBut request.node) (place.nodes - 1) home
    row _ (Exclusive owner) = call_back_of place request (One owner) 1 home
    row _ _ = quiet Stray home

-- GetS, and GetX without a copy had
abbrev pub request_1 : Place → Bool → HomeBlock → Row
request_1 place exclusive home = row home.entry.state home.entry.waiting
  where
    request : Request
    request = record { node = place.from; exclusive = exclusive }

    row : DirState → List Request → Row
    row (Busy from for_x left) waiting = quiet Done (with_waiting (waiting ++ request ∷ []) home)
    row state (first ∷ rest) = quiet Done (with_waiting ((first ∷ rest) ++ request ∷ []) home)
    row state [] = serve_1 place request home

-- PutS
abbrev pub put_s_1 : HomeBlock → Row
put_s_1 home = row home.entry.state
  where
    row : DirState → Row
    row (Shared (Counted count)) =
        if count == 1 then quiet Done (with_state Idle home) else quiet Done (with_state (counted (count - 1)) home)
    row (Busy from exclusive left) = quiet Done home
    row _ = quiet Stray home

-- a Wake after a request was granted, where somebody waits
abbrev pub with_wake_1 : Place → Row → Row
with_wake_1 place row = record row { sends = row.sends ++ wake row.act row.home.entry.waiting }
  where
    wake : DirAct → List Request → List Outgoing
    wake Done (first ∷ rest) =
        record { to = place.block % place.nodes; msg = record { block = place.block; body = Wake } } ∷ []
    wake _ _ = []

-- InvAck
abbrev pub inv_ack_1 : Place → Option (List ℕ) → HomeBlock → Row
inv_ack_1 place bytes home = row home.entry.state
  where
    kept : HomeBlock
    kept = with_memory (unwrap_or bytes home.memory) home

    granted : ℕ → Bool → DirState
    granted node exclusive = if exclusive then Exclusive node else counted 1

    row : DirState → Row
    row (Busy from exclusive left) =
        if left == 1
        then with_wake_1 place (answer_of place (record { node = from; exclusive = exclusive }) (granted from exclusive) kept)
        else quiet Done (with_state (Busy from exclusive (left - 1)) kept)
    row _ = quiet Stray home

-- Wake
abbrev pub wake_1 : Place → HomeBlock → Row
wake_1 place home = row home.entry.state home.entry.waiting
  where
    row : DirState → List Request → Row
    row (Busy from exclusive left) waiting = quiet Stray home
    row state [] = quiet Stray home
    row state (first ∷ rest) = with_wake_1 place (serve_1 place first (with_waiting rest home))

abbrev pub arrive_1 : Place → Body → HomeBlock → Row
arrive_1 place GetS home = request_1 place false home
arrive_1 place (GetX false) home = request_1 place true home
arrive_1 place (GetX true) home = request_1 place true (put_s_1 home).home
arrive_1 place PutS home = put_s_1 home
arrive_1 place (PutX bytes) home = put_x_of place.from bytes home
arrive_1 place (InvAck bytes) home = inv_ack_1 place bytes home
arrive_1 place Wake home = wake_1 place home
arrive_1 place _ home = quiet Stray home

-- Without pointers each row is that of the older machine.
abbrev pub AreRowsOfVersion1 : Type 0
AreRowsOfVersion1 =
    (place : Place) (body : Body) (home : HomeBlock) → place.pointers ≡ 0 → IsSound 0 home.entry.state
    → arrive_of place body home ≡ arrive_1 place body home
