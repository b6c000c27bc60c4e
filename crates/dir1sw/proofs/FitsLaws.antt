-- The rows of the directory's tables leave and send what fits a machine.
use Rattle.std.proofs.Common.{◌≡◌, ℕ, zero, suc, ◌+◌, ◌%◌, ◌<◌, ◌≤◌, Bool, true, false, cond, List, [], ◌∷◌, ◌++◌, length, length-append, mod-lt, arith}
use Rattle.std.specs.Prelude.{All, IfSome, unwrap_or, Option, Some, None, ◌==◌}
use Rattle.std.proofs.lemmas.List.{length-map}
use Rattle.std.proofs.lemmas.List.Elements.{All-append, All-map}
use Rattle.wt_params.specs.declared.parts.MachineParts.{MachineParts}
use Rattle.dir_list.specs.declared.readers.Readers.{Readers}
use Rattle.dir_list.specs.declared.readers.Readers.TheVariants.{Listed, Counted}
use Rattle.dir_list.specs.declared.readers.Removed.{Removed}
use Rattle.dir_list.specs.declared.readers.Removed.TheVariants.{Left, Empty, Absent}
use Rattle.dir_list.specs.Known.{AreBelow, IfLeft, count_of, first_of, add_of, remove_of, others_of}
use Rattle.dir_list.proofs.KnownLaws.{below_first, below_add, below_left, below_others, count_first, count_add, count_left, few_others}
use Rattle.wt_proto.specs.declared.directory.DirState.{DirState}
use Rattle.wt_proto.specs.declared.directory.DirState.TheVariants.{Idle, Shared, Exclusive, Busy}
use Rattle.wt_proto.specs.declared.directory.Request.{Request}
use Rattle.wt_proto.specs.declared.message.Body.{Body}
use Rattle.wt_proto.specs.declared.message.Body.TheVariants.{GetS, GetX, PutS, PutX, DataS, DataX, Inv, InvAck, Wake, Arrive, Leave, Go}
use Rattle.wt_proto.specs.Messages.{MsgFits}
use Rattle.dir1sw.specs.declared.home.DirAct.{DirAct}
use Rattle.dir1sw.specs.declared.home.DirAct.TheVariants.{Done, Stray}
use Rattle.dir1sw.specs.declared.home.HomeBlock.{HomeBlock}
use Rattle.dir1sw.specs.declared.home.Place.{Place}
use Rattle.dir1sw.specs.Table.{Row, copies_of, grant_body, quiet, data_to, answer_of, invalidation_to, invalidate_of, take_over_of, serve_of, request_of, left_of, put_s_of, put_x_of, wake_after, with_wake, grant_of, inv_ack_of, wake_of, arrive_of}
use Rattle.dir1sw.specs.Fits.{StateFits, HomeFits, SendFits, ActFits, PlaceFits, BytesFit, RowFits, RowsFit}

-- a block by its parts
abbrev block : DirState → List Request → List ℕ → HomeBlock
block state waiting memory = record { entry = record { state = state; waiting = waiting }; memory = memory }

all_none : {X : Type 0} (P : X → Type 0) → All P []
all_none P k d below = absurd (omega arith)

all_one : {X : Type 0} (P : X → Type 0) (x : X) → P x → All P (x ∷ [])
all_one P x holds zero d below = holds
all_one P x holds (suc k) d below = absurd (omega arith)

either_fits : (machine : MachineParts) (before : HomeBlock) (most : ℕ) (test : Bool) (one other : Row) → RowFits machine before most one → RowFits machine before most other → RowFits machine before most (cond test one other)
either_fits machine before most true one other first second = first
either_fits machine before most false one other first second = second

narrow : (machine : MachineParts) (place : Place) (before : HomeBlock) (row : Row) → PlaceFits machine place → RowFits machine before 1 row → RowFits machine before machine.nodes row
narrow machine place before row at fits = record { home = fits.home; sends = fits.sends; few = let one = at.some in omega arith; act = fits.act; copies = fits.copies }

wider : (machine : MachineParts) (before : HomeBlock) (row : Row) → RowFits machine before machine.nodes row → RowFits machine before (machine.nodes + 1) row
wider machine before row fits = record { home = fits.home; sends = fits.sends; few = omega arith; act = fits.act; copies = fits.copies }

weaker : (machine : MachineParts) (before : HomeBlock) (row : Row) → RowFits machine before 1 row → RowFits machine before (machine.nodes + 1) row
weaker machine before row fits = record { home = fits.home; sends = fits.sends; few = omega arith; act = fits.act; copies = fits.copies }

quiet_fits : (machine : MachineParts) (before home : HomeBlock) (act : DirAct) → HomeFits machine home → ActFits machine act → copies_of home.entry.state ≤ copies_of before.entry.state + 1 → RowFits machine before 1 (quiet act home)
quiet_fits machine before home act fits acts copies = record { home = fits; sends = all_none (SendFits machine); few = omega arith; act = acts; copies = copies }

grant_fits : (machine : MachineParts) (place : Place) (exclusive : Bool) (memory : List ℕ) → place.block < machine.blocks → length memory ≡ machine.block_bytes → MsgFits machine (record { block = place.block; body = grant_body exclusive memory })
grant_fits machine place true memory at fits = record { block = at; «data» = fits }
grant_fits machine place false memory at fits = record { block = at; «data» = fits }

answer_fits : (machine : MachineParts) (place : Place) (request : Request) (state : DirState) (before home : HomeBlock) → PlaceFits machine place → request.node < machine.nodes → StateFits machine state → copies_of state ≤ copies_of before.entry.state + 1 → HomeFits machine home → RowFits machine before 1 (answer_of place request state home)
answer_fits machine place request state before home at asks new copies fits = record {
  home = record { state = new; waiting = fits.waiting; memory = fits.memory };
  sends = all_one (SendFits machine) (data_to place request home) (record { to = asks; msg = grant_fits machine place request.exclusive home.memory at.block fits.memory });
  few = omega arith;
  act = tt;
  copies = copies;
}

invalidation_fits : (machine : MachineParts) (place : Place) (node : ℕ) → PlaceFits machine place → node < machine.nodes → SendFits machine (invalidation_to place node)
invalidation_fits machine place node at below = record { to = below; msg = record { block = at.block; «data» = tt } }

invalidate_fits : (machine : MachineParts) (place : Place) (before : HomeBlock) (node : ℕ) (others : List ℕ) (state : DirState) (waiting : List Request) (memory : List ℕ) → PlaceFits machine place → node < machine.nodes → HomeFits machine (block state waiting memory) → All (λ reader. reader < machine.nodes) others → length others ≤ machine.nodes → RowFits machine before machine.nodes (invalidate_of place (record { node = node; exclusive = true }) others (block state waiting memory))
invalidate_fits machine place before node [] state waiting memory at asks fits below few =
    narrow machine place before _ at
    (answer_fits machine place (record { node = node; exclusive = true }) (Exclusive node) before (block state waiting memory) at asks asks (omega arith) fits)
invalidate_fits machine place before node (first ∷ rest) state waiting memory at asks fits below few = record {
  home = record { state = asks; waiting = fits.waiting; memory = fits.memory };
  sends = All-map (SendFits machine) (invalidation_to place) (first ∷ rest) (λ k d within. invalidation_fits machine place _ at (below k d within));
  few = omega (arith, few, length-map (first ∷ rest) (invalidation_to place));
  act = tt;
  copies = omega arith;
}

take_over_fits : (machine : MachineParts) (place : Place) (before : HomeBlock) (node : ℕ) (readers : Readers) (state : DirState) (waiting : List Request) (memory : List ℕ) → PlaceFits machine place → node < machine.nodes → HomeFits machine (block state waiting memory) → AreBelow machine.nodes readers → RowFits machine before machine.nodes (take_over_of place (record { node = node; exclusive = true }) (others_of node readers) (block state waiting memory))
take_over_fits machine place before node (Listed nodes) state waiting memory at asks fits below =
    invalidate_fits machine place before node _ state waiting memory at asks fits (below_others machine.nodes node nodes below) (few_others machine.nodes node nodes below)
take_over_fits machine place before node (Counted count) state waiting memory at asks fits below =
    narrow machine place before _ at
    (either_fits machine before 1 (place.nodes == 1) _ _
    (answer_fits machine place (record { node = node; exclusive = true }) (Exclusive node) before (block state waiting memory) at asks asks (omega arith) fits)
    (quiet_fits machine before _ _ (record { state = asks; waiting = fits.waiting; memory = fits.memory }) asks (omega arith)))

serve_fits : (machine : MachineParts) (place : Place) (before : HomeBlock) (node : ℕ) (exclusive : Bool) (state : DirState) (waiting : List Request) (memory : List ℕ) → PlaceFits machine place → node < machine.nodes → HomeFits machine (block state waiting memory) → copies_of state ≤ copies_of before.entry.state → RowFits machine before machine.nodes (serve_of place (record { node = node; exclusive = exclusive }) (block state waiting memory))
serve_fits machine place before node false Idle waiting memory at asks fits copies =
    let one = count_first node place.pointers in
    narrow machine place before _ at
    (answer_fits machine place (record { node = node; exclusive = false }) (Shared (first_of node place.pointers)) before _ at asks (below_first machine.nodes node place.pointers asks) (omega arith) fits)
serve_fits machine place before node false (Shared readers) waiting memory at asks fits copies =
    let more = count_add node place.pointers readers in
    narrow machine place before _ at
    (answer_fits machine place (record { node = node; exclusive = false }) (Shared (add_of node place.pointers readers)) before _ at asks (below_add machine.nodes node place.pointers readers asks fits.state) (omega arith) fits)
serve_fits machine place before node true Idle waiting memory at asks fits copies =
    narrow machine place before _ at
    (answer_fits machine place (record { node = node; exclusive = true }) (Exclusive node) before _ at asks asks (omega arith) fits)
serve_fits machine place before node true (Shared readers) waiting memory at asks fits copies =
    take_over_fits machine place before node readers (Shared readers) waiting memory at asks fits fits.state
serve_fits machine place before node false (Exclusive owner) waiting memory at asks fits copies =
    narrow machine place before _ at (quiet_fits machine before _ _ (record { state = asks; waiting = fits.waiting; memory = fits.memory }) fits.state (omega arith))
serve_fits machine place before node true (Exclusive owner) waiting memory at asks fits copies =
    narrow machine place before _ at (quiet_fits machine before _ _ (record { state = asks; waiting = fits.waiting; memory = fits.memory }) fits.state (omega arith))
serve_fits machine place before node false (Busy from for_x left) waiting memory at asks fits copies =
    narrow machine place before _ at (quiet_fits machine before _ Stray fits tt (omega arith))
serve_fits machine place before node true (Busy from for_x left) waiting memory at asks fits copies =
    narrow machine place before _ at (quiet_fits machine before _ Stray fits tt (omega arith))

-- a request that joins those that wait
queue_fits : (machine : MachineParts) (place : Place) (exclusive : Bool) (waiting : List Request) → place.from < machine.nodes → All (λ (request : Request). request.node < machine.nodes) waiting → All (λ (request : Request). request.node < machine.nodes) (waiting ++ record { node = place.from; exclusive = exclusive } ∷ [])
queue_fits machine place exclusive waiting from fits =
    All-append (λ (request : Request). request.node < machine.nodes) waiting _ fits
    (all_one (λ (request : Request). request.node < machine.nodes) (record { node = place.from; exclusive = exclusive }) from)

request_fits : (machine : MachineParts) (place : Place) (before : HomeBlock) (exclusive : Bool) (state : DirState) (waiting : List Request) (memory : List ℕ) → PlaceFits machine place → HomeFits machine (block state waiting memory) → copies_of state ≤ copies_of before.entry.state → RowFits machine before machine.nodes (request_of place exclusive (block state waiting memory))
request_fits machine place before exclusive (Busy from for_x left) waiting memory at fits copies =
    narrow machine place before _ at (quiet_fits machine before _ Done (record { state = fits.state; waiting = queue_fits machine place exclusive waiting at.from fits.waiting; memory = fits.memory }) tt (omega arith))
request_fits machine place before exclusive Idle (first ∷ rest) memory at fits copies =
    narrow machine place before _ at (quiet_fits machine before _ Done (record { state = fits.state; waiting = queue_fits machine place exclusive (first ∷ rest) at.from fits.waiting; memory = fits.memory }) tt (omega arith))
request_fits machine place before exclusive (Shared readers) (first ∷ rest) memory at fits copies =
    narrow machine place before _ at (quiet_fits machine before _ Done (record { state = fits.state; waiting = queue_fits machine place exclusive (first ∷ rest) at.from fits.waiting; memory = fits.memory }) tt (omega arith))
request_fits machine place before exclusive (Exclusive owner) (first ∷ rest) memory at fits copies =
    narrow machine place before _ at (quiet_fits machine before _ Done (record { state = fits.state; waiting = queue_fits machine place exclusive (first ∷ rest) at.from fits.waiting; memory = fits.memory }) tt (omega arith))
request_fits machine place before exclusive Idle [] memory at fits copies =
    serve_fits machine place before place.from exclusive Idle [] memory at at.from fits copies
request_fits machine place before exclusive (Shared readers) [] memory at fits copies =
    serve_fits machine place before place.from exclusive (Shared readers) [] memory at at.from fits copies
request_fits machine place before exclusive (Exclusive owner) [] memory at fits copies =
    serve_fits machine place before place.from exclusive (Exclusive owner) [] memory at at.from fits copies

left_fits : (machine : MachineParts) (readers : Readers) (waiting : List Request) (memory : List ℕ) (left : Removed) → HomeFits machine (block (Shared readers) waiting memory) → IfLeft left (AreBelow machine.nodes) → IfLeft left (λ rest. count_of rest ≤ count_of readers) → RowFits machine (block (Shared readers) waiting memory) 1 (left_of left (block (Shared readers) waiting memory))
left_fits machine readers waiting memory Empty fits below less = quiet_fits machine _ _ Done (record { state = tt; waiting = fits.waiting; memory = fits.memory }) tt (omega arith)
left_fits machine readers waiting memory Absent fits below less = quiet_fits machine _ _ Stray fits tt (omega arith)
left_fits machine readers waiting memory (Left rest) fits below less = quiet_fits machine _ _ Done (record { state = below; waiting = fits.waiting; memory = fits.memory }) tt (omega arith)

put_s_fits : (machine : MachineParts) (from : ℕ) (state : DirState) (waiting : List Request) (memory : List ℕ) → HomeFits machine (block state waiting memory) → RowFits machine (block state waiting memory) 1 (put_s_of from (block state waiting memory))
put_s_fits machine from Idle waiting memory fits = quiet_fits machine _ _ Stray fits tt (omega arith)
put_s_fits machine from (Exclusive owner) waiting memory fits = quiet_fits machine _ _ Stray fits tt (omega arith)
put_s_fits machine from (Busy node exclusive left) waiting memory fits = quiet_fits machine _ _ Done fits tt (omega arith)
put_s_fits machine from (Shared readers) waiting memory fits =
    left_fits machine readers waiting memory (remove_of from readers) fits (below_left machine.nodes from readers fits.state) (count_left from readers)

-- a copy that comes back is no longer known
left_counts : (readers : Readers) (waiting : List Request) (memory : List ℕ) (left : Removed) → IfLeft left (λ rest. count_of rest ≤ count_of readers) → copies_of (left_of left (block (Shared readers) waiting memory)).home.entry.state ≤ count_of readers
left_counts readers waiting memory Empty less = omega arith
left_counts readers waiting memory Absent less = omega arith
left_counts readers waiting memory (Left rest) less = less

put_s_counts : (from : ℕ) (state : DirState) (waiting : List Request) (memory : List ℕ) → copies_of (put_s_of from (block state waiting memory)).home.entry.state ≤ copies_of state
put_s_counts from Idle waiting memory = omega arith
put_s_counts from (Exclusive owner) waiting memory = omega arith
put_s_counts from (Busy node exclusive left) waiting memory = omega arith
put_s_counts from (Shared readers) waiting memory = left_counts readers waiting memory (remove_of from readers) (count_left from readers)

put_x_fits : (machine : MachineParts) (from : ℕ) (bytes : List ℕ) (state : DirState) (waiting : List Request) (memory : List ℕ) → length bytes ≡ machine.block_bytes → HomeFits machine (block state waiting memory) → RowFits machine (block state waiting memory) 1 (put_x_of from bytes (block state waiting memory))
put_x_fits machine from bytes Idle waiting memory size fits = quiet_fits machine _ _ Stray fits tt (omega arith)
put_x_fits machine from bytes (Shared readers) waiting memory size fits = quiet_fits machine _ _ Stray fits tt (omega arith)
put_x_fits machine from bytes (Busy node exclusive left) waiting memory size fits =
    quiet_fits machine _ _ Done (record { state = fits.state; waiting = fits.waiting; memory = size }) tt (omega arith)
put_x_fits machine from bytes (Exclusive owner) waiting memory size fits =
    either_fits machine (block (Exclusive owner) waiting memory) 1 (owner == from) _ _
    (quiet_fits machine _ _ Done (record { state = tt; waiting = fits.waiting; memory = size }) tt (omega arith))
    (quiet_fits machine _ _ Stray fits tt (omega arith))

wake_to_home : (machine : MachineParts) (place : Place) → PlaceFits machine place → SendFits machine (record { to = place.block % place.nodes; msg = record { block = place.block; body = Wake } })
wake_to_home machine place at = record { to = rw at.nodes (mod-lt place.block at.some); msg = record { block = at.block; «data» = tt } }

wakes_fit : (machine : MachineParts) (place : Place) (state : DirState) (waiting : List Request) (memory : List ℕ) → PlaceFits machine place → All (SendFits machine) (wake_after place (block state waiting memory)) × (length (wake_after place (block state waiting memory)) ≤ 1)
wakes_fit machine place state waiting memory at = by state waiting
  where
    one : All (SendFits machine) (record { to = place.block % place.nodes; msg = record { block = place.block; body = Wake } } ∷ [])
    one = all_one (SendFits machine) (record { to = place.block % place.nodes; msg = record { block = place.block; body = Wake } }) (wake_to_home machine place at)

    by : (s : DirState) (w : List Request) → All (SendFits machine) (wake_after place (block s w memory)) × (length (wake_after place (block s w memory)) ≤ 1)
    by (Busy from exclusive left) w = (all_none (SendFits machine), omega arith)
    by Idle [] = (all_none (SendFits machine), omega arith)
    by (Shared readers) [] = (all_none (SendFits machine), omega arith)
    by (Exclusive owner) [] = (all_none (SendFits machine), omega arith)
    by Idle (first ∷ rest) = (one, omega arith)
    by (Shared readers) (first ∷ rest) = (one, omega arith)
    by (Exclusive owner) (first ∷ rest) = (one, omega arith)

with_wake_fits : (machine : MachineParts) (place : Place) (before : HomeBlock) (row : Row) → PlaceFits machine place → RowFits machine before machine.nodes row → RowFits machine before (machine.nodes + 1) (with_wake place row)
with_wake_fits machine place before row at fits =
    let wakes = wake_after place row.home in
    let wake = wakes_fit machine place row.home.entry.state row.home.entry.waiting row.home.memory at in
    let one : length wakes ≤ 1 = wake.1 in
    record {
      home = fits.home;
      sends = All-append (SendFits machine) row.sends wakes fits.sends wake.0;
      few = omega (arith, fits.few, length-append row.sends wakes);
      act = fits.act;
      copies = fits.copies;
    }

grant_fits_all : (machine : MachineParts) (place : Place) (before : HomeBlock) (node : ℕ) (exclusive : Bool) (state : DirState) (waiting : List Request) (memory : List ℕ) → PlaceFits machine place → node < machine.nodes → HomeFits machine (block state waiting memory) → RowFits machine before (machine.nodes + 1) (grant_of place (record { node = node; exclusive = exclusive }) (block state waiting memory))
grant_fits_all machine place before node true state waiting memory at asks fits =
    with_wake_fits machine place before _ at
    (narrow machine place before _ at (answer_fits machine place (record { node = node; exclusive = true }) (Exclusive node) before (block state waiting memory) at asks asks (omega arith) fits))
grant_fits_all machine place before node false state waiting memory at asks fits =
    let one = count_first node place.pointers in
    with_wake_fits machine place before _ at
    (narrow machine place before _ at (answer_fits machine place (record { node = node; exclusive = false }) (Shared (first_of node place.pointers)) before (block state waiting memory) at asks (below_first machine.nodes node place.pointers asks) (omega arith) fits))

kept_size : (machine : MachineParts) (bytes : Option (List ℕ)) (memory : List ℕ) → IfSome bytes (λ (bytes : List ℕ). length bytes ≡ machine.block_bytes) → length memory ≡ machine.block_bytes → length (unwrap_or bytes memory) ≡ machine.block_bytes
kept_size machine None memory new old = old
kept_size machine (Some bytes) memory new old = new

inv_ack_fits : (machine : MachineParts) (place : Place) (bytes : Option (List ℕ)) (state : DirState) (waiting : List Request) (memory : List ℕ) → PlaceFits machine place → IfSome bytes (λ (bytes : List ℕ). length bytes ≡ machine.block_bytes) → HomeFits machine (block state waiting memory) → RowFits machine (block state waiting memory) (machine.nodes + 1) (inv_ack_of place bytes (block state waiting memory))
inv_ack_fits machine place bytes Idle waiting memory at size fits = weaker machine _ _ (quiet_fits machine _ _ Stray fits tt (omega arith))
inv_ack_fits machine place bytes (Shared readers) waiting memory at size fits = weaker machine _ _ (quiet_fits machine _ _ Stray fits tt (omega arith))
inv_ack_fits machine place bytes (Exclusive owner) waiting memory at size fits = weaker machine _ _ (quiet_fits machine _ _ Stray fits tt (omega arith))
inv_ack_fits machine place bytes (Busy from exclusive left) waiting memory at size fits =
    let held : length (unwrap_or bytes memory) ≡ machine.block_bytes = kept_size machine bytes memory size fits.memory in
    let kept : HomeFits machine (block (Busy from exclusive left) waiting (unwrap_or bytes memory)) = record { state = fits.state; waiting = fits.waiting; memory = held } in
    either_fits machine (block (Busy from exclusive left) waiting memory) (machine.nodes + 1) (left == 1) _ _
    (grant_fits_all machine place (block (Busy from exclusive left) waiting memory) from exclusive (Busy from exclusive left) waiting (unwrap_or bytes memory) at fits.state kept)
    (weaker machine _ _ (quiet_fits machine _ _ Done (record { state = fits.state; waiting = fits.waiting; memory = held }) tt (omega arith)))

-- what is left of those that wait
rest_fits : (machine : MachineParts) (first : Request) (rest : List Request) → All (λ (request : Request). request.node < machine.nodes) (first ∷ rest) → All (λ (request : Request). request.node < machine.nodes) rest
rest_fits machine first rest fits k d below = fits (suc k) d (omega arith)

next_fits : (machine : MachineParts) (place : Place) (state : DirState) (first : Request) (rest : List Request) (memory : List ℕ) → PlaceFits machine place → HomeFits machine (block state (first ∷ rest) memory) → RowFits machine (block state (first ∷ rest) memory) (machine.nodes + 1) (with_wake place (serve_of place first (block state rest memory)))
next_fits machine place state first rest memory at fits =
    with_wake_fits machine place _ _ at
    (serve_fits machine place _ first.node first.exclusive state rest memory at (fits.waiting 0 first (omega arith)) (record { state = fits.state; waiting = rest_fits machine first rest fits.waiting; memory = fits.memory }) (omega arith))

wake_fits : (machine : MachineParts) (place : Place) (state : DirState) (waiting : List Request) (memory : List ℕ) → PlaceFits machine place → HomeFits machine (block state waiting memory) → RowFits machine (block state waiting memory) (machine.nodes + 1) (wake_of place (block state waiting memory))
wake_fits machine place (Busy from exclusive left) waiting memory at fits = weaker machine _ _ (quiet_fits machine _ _ Stray fits tt (omega arith))
wake_fits machine place Idle [] memory at fits = weaker machine _ _ (quiet_fits machine _ _ Stray fits tt (omega arith))
wake_fits machine place (Shared readers) [] memory at fits = weaker machine _ _ (quiet_fits machine _ _ Stray fits tt (omega arith))
wake_fits machine place (Exclusive owner) [] memory at fits = weaker machine _ _ (quiet_fits machine _ _ Stray fits tt (omega arith))
wake_fits machine place Idle (first ∷ rest) memory at fits = next_fits machine place Idle first rest memory at fits
wake_fits machine place (Shared readers) (first ∷ rest) memory at fits = next_fits machine place (Shared readers) first rest memory at fits
wake_fits machine place (Exclusive owner) (first ∷ rest) memory at fits = next_fits machine place (Exclusive owner) first rest memory at fits

arrive_fits : (machine : MachineParts) (place : Place) (body : Body) (state : DirState) (waiting : List Request) (memory : List ℕ) → PlaceFits machine place → BytesFit machine body → HomeFits machine (block state waiting memory) → RowFits machine (block state waiting memory) (machine.nodes + 1) (arrive_of place body (block state waiting memory))
arrive_fits machine place GetS state waiting memory at size fits = wider machine _ _ (request_fits machine place _ false state waiting memory at fits (omega arith))
arrive_fits machine place (GetX false) state waiting memory at size fits = wider machine _ _ (request_fits machine place _ true state waiting memory at fits (omega arith))
arrive_fits machine place (GetX true) state waiting memory at size fits =
    let put = put_s_fits machine place.from state waiting memory fits in
    let home = (put_s_of place.from (block state waiting memory)).home in
    wider machine _ _ (request_fits machine place (block state waiting memory) true home.entry.state home.entry.waiting home.memory at put.home (put_s_counts place.from state waiting memory))
arrive_fits machine place PutS state waiting memory at size fits = weaker machine _ _ (put_s_fits machine place.from state waiting memory fits)
arrive_fits machine place (PutX bytes) state waiting memory at size fits = weaker machine _ _ (put_x_fits machine place.from bytes state waiting memory size fits)
arrive_fits machine place (InvAck bytes) state waiting memory at size fits = inv_ack_fits machine place bytes state waiting memory at size fits
arrive_fits machine place Wake state waiting memory at size fits = wake_fits machine place state waiting memory at fits
arrive_fits machine place (DataS bytes) state waiting memory at size fits = weaker machine _ _ (quiet_fits machine _ _ Stray fits tt (omega arith))
arrive_fits machine place (DataX bytes) state waiting memory at size fits = weaker machine _ _ (quiet_fits machine _ _ Stray fits tt (omega arith))
arrive_fits machine place Inv state waiting memory at size fits = weaker machine _ _ (quiet_fits machine _ _ Stray fits tt (omega arith))
arrive_fits machine place Arrive state waiting memory at size fits = weaker machine _ _ (quiet_fits machine _ _ Stray fits tt (omega arith))
arrive_fits machine place Leave state waiting memory at size fits = weaker machine _ _ (quiet_fits machine _ _ Stray fits tt (omega arith))
arrive_fits machine place Go state waiting memory at size fits = weaker machine _ _ (quiet_fits machine _ _ Stray fits tt (omega arith))

pub rows_fit_law : RowsFit
rows_fit_law machine place body home at size fits = arrive_fits machine place body home.entry.state home.entry.waiting home.memory at size fits
