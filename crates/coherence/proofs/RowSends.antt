-- What a row of the directory sends is about its block, and never goes to a home.
use Rattle.std.proofs.Common.{◌≡◌, ℕ, ◌-◌, ◌%◌, Bool, true, false, cond, List, [], ◌∷◌, ◌++◌, map, Option, refl}
use Rattle.std.specs.Prelude.{⊤, ◌==◌, unwrap_or}
use Rattle.dir_list.specs.declared.readers.Readers.{Readers}
use Rattle.dir_list.specs.declared.readers.Readers.TheVariants.{Listed, Counted}
use Rattle.dir_list.specs.declared.readers.Removed.{Removed}
use Rattle.dir_list.specs.declared.readers.Removed.TheVariants.{Left, Empty, Absent}
use Rattle.dir_list.specs.Known.{first_of, add_of, others_of, remove_of}
use Rattle.wt_proto.specs.declared.directory.DirState.{DirState}
use Rattle.wt_proto.specs.declared.directory.DirState.TheVariants.{Idle, Shared, Exclusive, Busy}
use Rattle.wt_proto.specs.declared.directory.Request.{Request}
use Rattle.wt_proto.specs.declared.message.Body.{Body}
use Rattle.wt_proto.specs.declared.message.Body.TheVariants.{GetS, GetX, PutS, PutX, DataS, DataX, Inv, InvAck, Wake, Arrive, Leave, Go}
use Rattle.wt_proto.specs.declared.message.Outgoing.{Outgoing}
use Rattle.trap_handler.specs.Trap.{invalidation, targets_of}
use Rattle.dir1sw.specs.declared.home.DirAct.{DirAct}
use Rattle.dir1sw.specs.declared.home.DirAct.TheVariants.{Done, Trap, Stray}
use Rattle.dir1sw.specs.declared.home.HomeBlock.{HomeBlock}
use Rattle.dir1sw.specs.declared.home.Place.{Place}
use Rattle.dir1sw.specs.Table.{Row, quiet, grant_body, granted_to, answer_of, invalidation_to, invalidate_of, take_over_of, left_of, serve_of, request_of, put_s_of, put_x_of, with_wake, wake_after, grant_of, inv_ack_of, wake_of, arrive_of, with_state, with_memory}
use Rattle.coherence.specs.Entries.{called_by, all_sends}
use Rattle.coherence.specs.Pipes.{not_to_home_of}

-- a message about the barrier
abbrev pub is_of_barrier : Body → Bool
is_of_barrier Arrive = true
is_of_barrier Leave = true
is_of_barrier Go = true
is_of_barrier body = false

-- Copies and calls come to any node, a Wake to the home itself.
abbrev pub ComesBack : ℕ → ℕ → ℕ → Body → Type 0
ComesBack nodes about to (DataS bytes) = ⊤
ComesBack nodes about to (DataX bytes) = ⊤
ComesBack nodes about to Inv = ⊤
ComesBack nodes about to Wake = to ≡ about % nodes
ComesBack nodes about to body = ⊥

pub record GoesBack (nodes about : ℕ) (outgoing : Outgoing) : Type 0 where
  pub block : outgoing.msg.block ≡ about
  pub back : not_to_home_of outgoing.msg.body ≡ 1
  pub other : is_of_barrier outgoing.msg.body ≡ false
  pub comes : ComesBack nodes about outgoing.to outgoing.msg.body

abbrev pub AllGoBack : ℕ → ℕ → List Outgoing → Type 0
AllGoBack nodes about [] = ⊤
AllGoBack nodes about (first ∷ rest) = GoesBack nodes about first × AllGoBack nodes about rest

-- A row all of whose messages do.
abbrev RowGoesBack : ℕ → ℕ → Row → Type 0
RowGoesBack nodes about row = AllGoBack nodes about row.sends

both_back : (nodes about : ℕ) (one other : List Outgoing) → AllGoBack nodes about one → AllGoBack nodes about other → AllGoBack nodes about (one ++ other)
both_back nodes about [] other is_one is_other = is_other
both_back nodes about (first ∷ rest) other is_one is_other = (is_one.0, both_back nodes about rest other is_one.1 is_other)

pub calls_back : (limit block : ℕ) (nodes : List ℕ) → AllGoBack limit block (map (invalidation block) nodes)
calls_back limit block [] = tt
calls_back limit block (first ∷ rest) = (record { block = refl; back = refl; other = refl; comes = tt }, calls_back limit block rest)

calls_listed : (place : Place) (nodes : List ℕ) → AllGoBack place.nodes place.block (map (invalidation_to place) nodes)
calls_listed place [] = tt
calls_listed place (first ∷ rest) = (record { block = refl; back = refl; other = refl; comes = tt }, calls_listed place rest)

grant_back : (exclusive : Bool) (bytes : List ℕ) → not_to_home_of (grant_body exclusive bytes) ≡ 1
grant_back true bytes = refl
grant_back false bytes = refl

grant_other : (exclusive : Bool) (bytes : List ℕ) → is_of_barrier (grant_body exclusive bytes) ≡ false
grant_other true bytes = refl
grant_other false bytes = refl

grant_comes : (nodes about to : ℕ) (exclusive : Bool) (bytes : List ℕ) → ComesBack nodes about to (grant_body exclusive bytes)
grant_comes nodes about to true bytes = tt
grant_comes nodes about to false bytes = tt

either : (nodes about : ℕ) (test : Bool) (one other : Row) → RowGoesBack nodes about one → RowGoesBack nodes about other → RowGoesBack nodes about (cond test one other)
either nodes about true one other is_one is_other = is_one
either nodes about false one other is_one is_other = is_other

abbrev block : DirState → List Request → List ℕ → HomeBlock
block state waiting memory = record { entry = record { state = state; waiting = waiting }; memory = memory }

answers : (place : Place) (request : Request) (state : DirState) (home : HomeBlock) → RowGoesBack place.nodes place.block (answer_of place request state home)
answers place request state home = (record { block = refl; back = grant_back request.exclusive home.memory; other = grant_other request.exclusive home.memory; comes = grant_comes place.nodes place.block request.node request.exclusive home.memory }, tt)

invalidates : (place : Place) (request : Request) (others : List ℕ) (home : HomeBlock) → RowGoesBack place.nodes place.block (invalidate_of place request others home)
invalidates place request [] home = answers place request (Exclusive request.node) home
invalidates place request (first ∷ rest) home = calls_listed place (first ∷ rest)

takes_over : (place : Place) (request : Request) (readers : Readers) (home : HomeBlock) → RowGoesBack place.nodes place.block (take_over_of place request (others_of request.node readers) home)
takes_over place request (Listed nodes) home = invalidates place request _ home
takes_over place request (Counted count) home = either place.nodes place.block (place.nodes == 1) _ _ (answers place request (Exclusive request.node) home) tt

serves : (place : Place) (request : Request) (state : DirState) (waiting : List Request) (memory : List ℕ) → RowGoesBack place.nodes place.block (serve_of place request (block state waiting memory))
serves place request state waiting memory = by request.exclusive state
  where
    by : (x : Bool) (state : DirState) → RowGoesBack place.nodes place.block (serve_of place (record { node = request.node; exclusive = x }) (block state waiting memory))
    by false Idle = answers place (record { node = request.node; exclusive = false }) (Shared (first_of request.node place.pointers)) (block Idle waiting memory)
    by false (Shared readers) = answers place (record { node = request.node; exclusive = false }) (Shared (add_of request.node place.pointers readers)) (block (Shared readers) waiting memory)
    by true Idle = answers place (record { node = request.node; exclusive = true }) (Exclusive request.node) (block Idle waiting memory)
    by true (Shared readers) = takes_over place (record { node = request.node; exclusive = true }) readers (block (Shared readers) waiting memory)
    by false (Exclusive owner) = tt
    by true (Exclusive owner) = tt
    by false (Busy from for_x left) = tt
    by true (Busy from for_x left) = tt

requests : (place : Place) (exclusive : Bool) (state : DirState) (waiting : List Request) (memory : List ℕ) → RowGoesBack place.nodes place.block (request_of place exclusive (block state waiting memory))
requests place exclusive (Busy from for_x left) waiting memory = tt
requests place exclusive Idle [] memory = serves place (record { node = place.from; exclusive = exclusive }) Idle [] memory
requests place exclusive (Shared readers) [] memory = serves place (record { node = place.from; exclusive = exclusive }) (Shared readers) [] memory
requests place exclusive (Exclusive owner) [] memory = serves place (record { node = place.from; exclusive = exclusive }) (Exclusive owner) [] memory
requests place exclusive Idle (first ∷ rest) memory = tt
requests place exclusive (Shared readers) (first ∷ rest) memory = tt
requests place exclusive (Exclusive owner) (first ∷ rest) memory = tt

wake_back : (place : Place) (state : DirState) (waiting : List Request) (memory : List ℕ) → AllGoBack place.nodes place.block (wake_after place (block state waiting memory))
wake_back place (Busy from for_x left) waiting memory = tt
wake_back place Idle [] memory = tt
wake_back place (Shared readers) [] memory = tt
wake_back place (Exclusive owner) [] memory = tt
wake_back place Idle (first ∷ rest) memory = (record { block = refl; back = refl; other = refl; comes = refl }, tt)
wake_back place (Shared readers) (first ∷ rest) memory = (record { block = refl; back = refl; other = refl; comes = refl }, tt)
wake_back place (Exclusive owner) (first ∷ rest) memory = (record { block = refl; back = refl; other = refl; comes = refl }, tt)

wakes : (place : Place) (row : Row) → RowGoesBack place.nodes place.block row → RowGoesBack place.nodes place.block (with_wake place row)
wakes place row back = both_back place.nodes place.block row.sends _ back (wake_back place row.home.entry.state row.home.entry.waiting row.home.memory)

leaves : (nodes about : ℕ) (left : Removed) (home : HomeBlock) → RowGoesBack nodes about (left_of left home)
leaves nodes about Empty home = tt
leaves nodes about Absent home = tt
leaves nodes about (Left readers) home = tt

puts_s : (place : Place) (from : ℕ) (state : DirState) (waiting : List Request) (memory : List ℕ) → RowGoesBack place.nodes place.block (put_s_of from (block state waiting memory))
puts_s place from (Shared readers) waiting memory = leaves place.nodes place.block (remove_of from readers) (block (Shared readers) waiting memory)
puts_s place from (Busy node for_x left) waiting memory = tt
puts_s place from Idle waiting memory = tt
puts_s place from (Exclusive owner) waiting memory = tt

puts_x : (place : Place) (from : ℕ) (bytes : List ℕ) (state : DirState) (waiting : List Request) (memory : List ℕ) → RowGoesBack place.nodes place.block (put_x_of from bytes (block state waiting memory))
puts_x place from bytes (Exclusive owner) waiting memory = either place.nodes place.block (owner == from) _ _ tt tt
puts_x place from bytes (Busy node for_x left) waiting memory = tt
puts_x place from bytes Idle waiting memory = tt
puts_x place from bytes (Shared readers) waiting memory = tt

acks : (place : Place) (bytes : Option (List ℕ)) (state : DirState) (waiting : List Request) (memory : List ℕ) → RowGoesBack place.nodes place.block (inv_ack_of place bytes (block state waiting memory))
acks place bytes (Busy from for_x left) waiting memory =
    let request : Request = record { node = from; exclusive = for_x } in
    let kept = with_memory (unwrap_or bytes memory) (block (Busy from for_x left) waiting memory) in
    let answer = answer_of place request (granted_to place request) kept in
    either place.nodes place.block (left == 1) (grant_of place request kept) (quiet Done (with_state (Busy from for_x (left - 1)) kept)) (wakes place answer (answers place request (granted_to place request) kept)) tt
acks place bytes Idle waiting memory = tt
acks place bytes (Shared readers) waiting memory = tt
acks place bytes (Exclusive owner) waiting memory = tt

wakings : (place : Place) (state : DirState) (waiting : List Request) (memory : List ℕ) → RowGoesBack place.nodes place.block (wake_of place (block state waiting memory))
wakings place (Busy from for_x left) waiting memory = tt
wakings place Idle [] memory = tt
wakings place (Shared readers) [] memory = tt
wakings place (Exclusive owner) [] memory = tt
wakings place Idle (first ∷ rest) memory = wakes place (serve_of place first (block Idle rest memory)) (serves place first Idle rest memory)
wakings place (Shared readers) (first ∷ rest) memory = wakes place (serve_of place first (block (Shared readers) rest memory)) (serves place first (Shared readers) rest memory)
wakings place (Exclusive owner) (first ∷ rest) memory = wakes place (serve_of place first (block (Exclusive owner) rest memory)) (serves place first (Exclusive owner) rest memory)

after_put : (place : Place) (home : HomeBlock) → RowGoesBack place.nodes place.block (request_of place true home)
after_put place home = requests place true home.entry.state home.entry.waiting home.memory

pub row_goes_back : (place : Place) (body : Body) (home : HomeBlock) → RowGoesBack place.nodes place.block (arrive_of place body home)
row_goes_back place GetS home = requests place false home.entry.state home.entry.waiting home.memory
row_goes_back place (GetX false) home = requests place true home.entry.state home.entry.waiting home.memory
row_goes_back place (GetX true) home = after_put place (put_s_of place.from home).home
row_goes_back place PutS home = puts_s place place.from home.entry.state home.entry.waiting home.memory
row_goes_back place (PutX bytes) home = puts_x place place.from bytes home.entry.state home.entry.waiting home.memory
row_goes_back place (InvAck bytes) home = acks place bytes home.entry.state home.entry.waiting home.memory
row_goes_back place Wake home = wakings place home.entry.state home.entry.waiting home.memory
row_goes_back place (DataS bytes) home = tt
row_goes_back place (DataX bytes) home = tt
row_goes_back place Inv home = tt
row_goes_back place Arrive home = tt
row_goes_back place Leave home = tt
row_goes_back place Go home = tt

-- with the calls of its trap
called_back : (nodes block : ℕ) (act : DirAct) → AllGoBack nodes block (called_by nodes block act)
called_back nodes block Done = tt
called_back nodes block Stray = tt
called_back nodes block (Trap plan) = calls_back nodes block (targets_of nodes plan.targets)

pub all_go_back : (place : Place) (body : Body) (home : HomeBlock) → AllGoBack place.nodes place.block (all_sends place (arrive_of place body home))
all_go_back place body home =
    both_back place.nodes place.block (arrive_of place body home).sends _ (row_goes_back place body home) (called_back place.nodes place.block (arrive_of place body home).act)
