-- The rows of the directory as it is built do what the rows over the full roll do.
use Rattle.std.proofs.Common.{◌≡◌, inl, inr, ℕ, zero, suc, ◌+◌, ◌-◌, ◌<◌, ◌≤◌, ◌==◌, nat_lt, not, Bool, true, false, if◌then◌else◌, List, [], ◌∷◌, ◌++◌, length, length-append, map, Option, Some, None, refl, ap, sym, ◌∙◌, subst, arith, eqb-true, append_assoc}
use Rattle.std.specs.Prelude.{⊤, All, unwrap_or}
use Rattle.std.specs.List.{filter, range_with_len, remove}
use Rattle.std.proofs.lemmas.List.{append-nil}
use Rattle.std.proofs.lemmas.Bool.{cases_Bool}
use Rattle.std.proofs.lemmas.Bool.Decides.{nat_tests}
use Rattle.dir_list.specs.declared.readers.Readers.TheVariants.{Listed, Counted}
use Rattle.dir_list.specs.Lists.{first_place, taken_out}
use Rattle.dir_list.specs.Known.{first_of, left_of, remove_of}
use Rattle.wt_proto.specs.declared.directory.DirState.{DirState}
use Rattle.wt_proto.specs.declared.directory.DirState.TheVariants as entries
use Rattle.wt_proto.specs.declared.directory.Request.{Request}
use Rattle.wt_proto.specs.declared.directory.Targets.TheVariants.{AllBut, One}
use Rattle.wt_proto.specs.declared.message.Body.{Body}
use Rattle.wt_proto.specs.declared.message.Body.TheVariants.{GetS, GetX, PutS, PutX, DataS, DataX, Inv, InvAck, Wake, Arrive, Leave, Go}
use Rattle.wt_proto.specs.declared.message.Outgoing.{Outgoing}
use Rattle.trap_handler.specs.Trap.{targets_of, invalidation}
use Rattle.dir1sw.specs.declared.home.DirAct.TheVariants.{Done, Stray}
use Rattle.dir1sw.specs.declared.home.HomeBlock.{HomeBlock}
use Rattle.dir1sw.specs.declared.home.Place.{Place}
use Rattle.dir1sw.specs.Table as table
use Rattle.coherence.specs.Block.{Roll, Home, count_of, without}
use Rattle.coherence.specs.Block.Roll.{Idle, Shared, Exclusive, Busy}
use Rattle.coherence.specs.Facts.{wakes_due}
use Rattle.coherence.specs.Rows.{Row, to_one, to_called, with_roll, quiet, stray_at, answer_of, call_back_of, take_over_of, serve_of, request_of, shared_by, put_s_of, put_x_of, with_wake, grant_of, awaiting_of, inv_ack_of, wake_of, arrive_of}
use Rattle.coherence.specs.Entries.{entry_of, kept_of, called_by, all_sends, news_of, news_to, wake_in, wakes_in, is_stray, DoesAs, called_for, called_at, called_first, Answers, IsAwaited, RowsAreBuilt}

abbrev home_by : Roll → List Request → List ℕ → Home
home_by roll waiting memory = record { roll = roll; waiting = waiting; memory = memory }

abbrev block_by : DirState → List Request → List ℕ → HomeBlock
block_by state waiting memory = record { entry = record { state = state; waiting = waiting }; memory = memory }

-- ---- lists of messages

or_nothing : (test : Bool) (bodies : List Body) → (if test then bodies else []) ++ [] ≡ (if test then bodies else [])
or_nothing true bodies = append-nil bodies
or_nothing false bodies = refl

news_more : (node : ℕ) (one other : List Outgoing) → news_to node (one ++ other) ≡ news_to node one ++ news_to node other
news_more node [] other = refl
news_more node (first ∷ rest) other =
    ap (λ (l : List Body). (if node == first.to then news_of first.msg.body else []) ++ l) (news_more node rest other)
    ∙ sym (append_assoc (if node == first.to then news_of first.msg.body else []) (news_to node rest) (news_to node other))

wakes_more : (one other : List Outgoing) → wakes_in (one ++ other) ≡ wakes_in one + wakes_in other
wakes_more [] other = omega arith
wakes_more (first ∷ rest) other = let more = wakes_more rest other in omega (arith, more)

-- an invalidation to each node that is called
called_news : (node block : ℕ) (called : List ℕ) → news_to node (map (invalidation block) called) ≡ to_called called node
called_news node block [] = refl
called_news node block (first ∷ rest) = ap (λ (l : List Body). (if node == first then Inv ∷ [] else []) ++ l) (called_news node block rest)

called_wakes : (block : ℕ) (called : List ℕ) → wakes_in (map (invalidation block) called) ≡ 0
called_wakes block [] = refl
called_wakes block (first ∷ rest) = let none = called_wakes block rest in omega (arith, none)

-- ---- an answer, and copies that are called back

answer_news : (node to block : ℕ) (exclusive : Bool) (bytes : List ℕ) →
    news_to node (record { to = to; msg = record { block = block; body = table.grant_body exclusive bytes } } ∷ []) ≡ to_one to (table.grant_body exclusive bytes) node
answer_news node to block true bytes = or_nothing (node == to) (DataX bytes ∷ [])
answer_news node to block false bytes = or_nothing (node == to) (DataS bytes ∷ [])

grant_wakes : (exclusive : Bool) (bytes : List ℕ) → wake_in (table.grant_body exclusive bytes) + 0 ≡ 0
grant_wakes true bytes = refl
grant_wakes false bytes = refl

module _ (place : Place) where
  answers : (request : Request) (roll : Roll) (listed now_listed : Bool) (state : DirState) (home : Home) → state ≡ entry_of now_listed roll →
      DoesAs place (answer_of request roll home) (table.answer_of place request state (kept_of listed home))
  answers request roll listed now_listed state home is = record {
    listed = now_listed;
    home = ap (λ (s : DirState). block_by s home.waiting home.memory) is;
    sent = λ node. answer_news node request.node place.block request.exclusive home.memory;
    wakes = grant_wakes request.exclusive home.memory;
    stray = refl;
  }

  -- by a trap
  calls_back : (request : Request) (called : List ℕ) (listed : Bool) (plan : table.Row) (home : Home) → plan.home ≡ kept_of listed (with_roll (Busy request.node request.exclusive called) home) →
      ((node : ℕ) → news_to node (all_sends place plan) ≡ to_called called node) → wakes_in plan.sends ≡ 0 → is_stray plan.act ≡ false →
      DoesAs place (call_back_of request called home) plan
  calls_back request called listed plan home home_is sent wakes stray = record { listed = listed; home = home_is; sent = sent; wakes = wakes; stray = stray }

  calls_owner : (request : Request) (owner : ℕ) (listed : Bool) (home : Home) → DoesAs place (call_back_of request (owner ∷ []) home) (table.call_back_of place request (One owner) 1 (kept_of listed home))
  calls_owner request owner listed home = calls_back request (owner ∷ []) listed _ home refl (λ node. called_news node place.block (owner ∷ [])) refl refl

  -- by the home itself
  invalidates : (node : ℕ) (others : List ℕ) (listed : Bool) (home : Home) →
      DoesAs place (take_over_of (record { node = node; exclusive = true }) others home) (table.invalidate_of place (record { node = node; exclusive = true }) others (kept_of listed home))
  invalidates node [] listed home = answers (record { node = node; exclusive = true }) (Exclusive node) listed listed (entries.Exclusive node) home refl
  invalidates node (first ∷ rest) listed home =
      calls_back (record { node = node; exclusive = true }) (first ∷ rest) listed _ home refl
      (λ to. append-nil_news to (first ∷ rest)) (called_wakes place.block (first ∷ rest)) refl
    where
      append-nil_news : (to : ℕ) (called : List ℕ) → news_to to (map (table.invalidation_to place) called ++ []) ≡ to_called called to
      append-nil_news to called = ap (news_to to) (append-nil (map (table.invalidation_to place) called)) ∙ called_news to place.block called

-- ---- all others

others_from : ℕ → ℕ → ℕ → List ℕ
others_from node first count = filter (λ other. not (other == node)) (range_with_len first count)

all_others : (node first count : ℕ) → node < first → length (others_from node first count) ≡ count
unfolding others_from
all_others node first zero before = refl
all_others node first (suc count) before =
    let other : (first == node) ≡ false = grind (arith, nat_tests) in
    let more = all_others node (first + 1) count (omega arith) in
    rw other (omega (arith, more))

others_but_one : (node first count : ℕ) → first ≤ node → node < first + count → length (others_from node first count) + 1 ≡ count
unfolding others_from
others_but_one node first zero from below = absurd (omega arith)
others_but_one node first (suc count) from below = elim (cases_Bool (first == node)) [
  | inl is ↦ (let e : first ≡ node = eqb-true first node is in let more = all_others node (first + 1) count (omega arith) in rw is (omega (arith, more)))
  | inr is ↦ (let later : first + 1 ≤ node = grind (arith, nat_tests) in let more = others_but_one node (first + 1) count later (omega arith) in rw is (omega (arith, more)))
]

count_others : (nodes node : ℕ) → node < nodes → length (targets_of nodes (AllBut node)) + 1 ≡ nodes
unfolding others_from
count_others nodes node below = others_but_one node 0 nodes (omega arith) (omega arith)

module _ (place : Place) where
  takes_all : (node : ℕ) (called : List ℕ) (listed : Bool) (home : Home) → called ≡ targets_of place.nodes (AllBut node) → length called + 1 ≡ place.nodes →
      DoesAs place (take_over_of (record { node = node; exclusive = true }) called home)
      (if place.nodes == 1 then table.answer_of place (record { node = node; exclusive = true }) (entries.Exclusive node) (kept_of listed home)
      else table.call_back_of place (record { node = node; exclusive = true }) (AllBut node) (place.nodes - 1) (kept_of listed home))
  takes_all node [] listed home is many =
      let alone : (place.nodes == 1) ≡ true = grind (arith, nat_tests) in
      rw alone (answers place (record { node = node; exclusive = true }) (Exclusive node) listed listed (entries.Exclusive node) home refl)
  takes_all node (first ∷ rest) listed home is many =
      let others : (place.nodes == 1) ≡ false = grind (arith, nat_tests) in
      let left : place.nodes - 1 ≡ length (first ∷ rest) = omega (arith, many) in
      rw others
      (calls_back place (record { node = node; exclusive = true }) (first ∷ rest) listed _ home (ap (λ (n : ℕ). block_by (entries.Busy node true n) home.waiting home.memory) left)
      (λ to. called_news to place.block (targets_of place.nodes (AllBut node)) ∙ ap (λ (l : List ℕ). to_called l to) (sym is)) refl refl)

  -- ---- a request is served

  first_kept : (node pointers : ℕ) → entries.Shared (first_of node pointers) ≡ entry_of (not (pointers == 0)) (Shared (node ∷ []))
  first_kept node pointers = by (pointers == 0)
    where
      by : (none : Bool) → entries.Shared (if none then Counted 1 else Listed (node ∷ [])) ≡ entry_of (not none) (Shared (node ∷ []))
      by true = refl
      by false = refl

  counted_more : (node : ℕ) (readers : List ℕ) → entries.Shared (Counted (length readers + 1)) ≡ entry_of false (Shared (readers ++ node ∷ []))
  counted_more node readers = ap (λ (n : ℕ). entries.Shared (Counted n)) (sym (length-append readers (node ∷ [])))

  reads_more : (node : ℕ) (listed : Bool) (readers : List ℕ) (waiting : List Request) (memory : List ℕ) →
      DoesAs place (answer_of (record { node = node; exclusive = false }) (Shared (readers ++ node ∷ [])) (home_by (Shared readers) waiting memory))
      (table.serve_of place (record { node = node; exclusive = false }) (kept_of listed (home_by (Shared readers) waiting memory)))
  reads_more node false readers waiting memory =
      answers place (record { node = node; exclusive = false }) (Shared (readers ++ node ∷ [])) false false _ (home_by (Shared readers) waiting memory) (counted_more node readers)
  reads_more node true readers waiting memory = by (nat_lt (length readers) place.pointers)
    where
      by : (room : Bool) → DoesAs place (answer_of (record { node = node; exclusive = false }) (Shared (readers ++ node ∷ [])) (home_by (Shared readers) waiting memory))
          (table.answer_of place (record { node = node; exclusive = false }) (entries.Shared (if room then Listed (readers ++ node ∷ []) else Counted (length readers + 1))) (kept_of true (home_by (Shared readers) waiting memory)))
      by true = answers place (record { node = node; exclusive = false }) (Shared (readers ++ node ∷ [])) true true _ (home_by (Shared readers) waiting memory) refl
      by false = answers place (record { node = node; exclusive = false }) (Shared (readers ++ node ∷ [])) true false _ (home_by (Shared readers) waiting memory) (counted_more node readers)

  abbrev is_free : Roll → Type 0
  is_free (Busy from exclusive called) = ⊥
  is_free roll = ⊤

  serves : (node : ℕ) (exclusive listed : Bool) (roll : Roll) (waiting : List Request) (memory : List ℕ) → node < place.nodes → is_free roll →
      DoesAs place (serve_of (record { node = node; exclusive = exclusive }) (called_for place.nodes node (entry_of listed roll)) (home_by roll waiting memory))
      (table.serve_of place (record { node = node; exclusive = exclusive }) (kept_of listed (home_by roll waiting memory)))
  serves node exclusive listed (Busy from for_x called) waiting memory below free = absurd free
  serves node false listed Idle waiting memory below free = answers place (record { node = node; exclusive = false }) (Shared (node ∷ [])) listed _ _ (home_by Idle waiting memory) (first_kept node place.pointers)
  serves node true listed Idle waiting memory below free = answers place (record { node = node; exclusive = true }) (Exclusive node) listed listed _ (home_by Idle waiting memory) refl
  serves node false true (Shared readers) waiting memory below free = reads_more node true readers waiting memory
  serves node false false (Shared readers) waiting memory below free = reads_more node false readers waiting memory
  serves node true true (Shared readers) waiting memory below free = invalidates place node _ true (home_by (Shared readers) waiting memory)
  serves node true false (Shared readers) waiting memory below free =
      takes_all node (targets_of place.nodes (AllBut node)) false (home_by (Shared readers) waiting memory) refl (count_others place.nodes node below)
  serves node false listed (Exclusive owner) waiting memory below free = calls_owner place (record { node = node; exclusive = false }) owner listed (home_by (Exclusive owner) waiting memory)
  serves node true listed (Exclusive owner) waiting memory below free = calls_owner place (record { node = node; exclusive = true }) owner listed (home_by (Exclusive owner) waiting memory)

  quiets : (listed : Bool) (home : Home) → DoesAs place (quiet home) (table.quiet Done (kept_of listed home))
  quiets listed home = record { listed = listed; home = refl; sent = λ node. refl; wakes = refl; stray = refl }

  strays : (listed : Bool) (home : Home) → DoesAs place (stray_at home) (table.quiet Stray (kept_of listed home))
  strays listed home = record { listed = listed; home = refl; sent = λ node. refl; wakes = refl; stray = refl }

  requests : (exclusive listed : Bool) (roll : Roll) (waiting : List Request) (memory : List ℕ) → place.from < place.nodes →
      DoesAs place (request_of (record { node = place.from; exclusive = exclusive }) (called_for place.nodes place.from (entry_of listed roll)) (home_by roll waiting memory))
      (table.request_of place exclusive (kept_of listed (home_by roll waiting memory)))
  requests exclusive listed (Busy from for_x called) waiting memory below = quiets listed (home_by (Busy from for_x called) (waiting ++ record { node = place.from; exclusive = exclusive } ∷ []) memory)
  requests exclusive listed Idle (first ∷ rest) memory below = quiets listed (home_by Idle ((first ∷ rest) ++ record { node = place.from; exclusive = exclusive } ∷ []) memory)
  requests exclusive true (Shared readers) (first ∷ rest) memory below = quiets true (home_by (Shared readers) ((first ∷ rest) ++ record { node = place.from; exclusive = exclusive } ∷ []) memory)
  requests exclusive false (Shared readers) (first ∷ rest) memory below = quiets false (home_by (Shared readers) ((first ∷ rest) ++ record { node = place.from; exclusive = exclusive } ∷ []) memory)
  requests exclusive listed (Exclusive owner) (first ∷ rest) memory below = quiets listed (home_by (Exclusive owner) ((first ∷ rest) ++ record { node = place.from; exclusive = exclusive } ∷ []) memory)
  requests exclusive listed Idle [] memory below = serves place.from exclusive listed Idle [] memory below tt
  requests exclusive true (Shared readers) [] memory below = serves place.from exclusive true (Shared readers) [] memory below tt
  requests exclusive false (Shared readers) [] memory below = serves place.from exclusive false (Shared readers) [] memory below tt
  requests exclusive listed (Exclusive owner) [] memory below = serves place.from exclusive listed (Exclusive owner) [] memory below tt

-- ---- a reader less, and an answer less

length_without : (node : ℕ) (xs : List ℕ) → 1 ≤ count_of node xs → length (without node xs) + 1 ≡ length xs
length_without node [] some = absurd (omega arith)
length_without node (first ∷ rest) some = by (node == first) some (length_without node rest)
  where
    by : (same : Bool) → 1 ≤ (if same then 1 else 0) + count_of node rest → (1 ≤ count_of node rest → length (without node rest) + 1 ≡ length rest) →
        length (if same then rest else first ∷ without node rest) + 1 ≡ length (first ∷ rest)
    by true more later = omega arith
    by false more later = let shorter = later (omega (arith, more)) in omega (arith, shorter)

taken_first : (node : ℕ) (xs : List ℕ) → 1 ≤ count_of node xs → (first_place node xs < length xs) × (remove xs (first_place node xs) ≡ without node xs)
taken_first node [] some = absurd (omega arith)
taken_first node (first ∷ rest) some = by (node == first) some (taken_first node rest)
  where
    by : (same : Bool) → 1 ≤ (if same then 1 else 0) + count_of node rest →
        (1 ≤ count_of node rest → (first_place node rest < length rest) × (remove rest (first_place node rest) ≡ without node rest)) →
        ((if same then 0 else suc (first_place node rest)) < length (first ∷ rest)) × (remove (first ∷ rest) (if same then 0 else suc (first_place node rest)) ≡ (if same then rest else first ∷ without node rest))
    by true more later = (omega arith, refl)
    by false more later = let tail = later (omega (arith, more)) in (let there = tail.0 in omega (arith, there), ap (λ (l : List ℕ). first ∷ l) tail.1)

no_place : (node : ℕ) (xs : List ℕ) → count_of node xs ≡ 0 → first_place node xs ≡ length xs
no_place node [] none = refl
no_place node (first ∷ rest) none = by (node == first) none (no_place node rest)
  where
    by : (same : Bool) → (if same then 1 else 0) + count_of node rest ≡ 0 → (count_of node rest ≡ 0 → first_place node rest ≡ length rest) →
        (if same then 0 else suc (first_place node rest)) ≡ length (first ∷ rest)
    by true more later = absurd (omega (arith, more))
    by false more later = ap (λ (n : ℕ). suc n) (later (omega (arith, more)))

taken_out_of : (node : ℕ) (xs : List ℕ) → taken_out node xs ≡ (if count_of node xs == 0 then None else Some (without node xs))
taken_out_of node xs = elim (cases_Bool (count_of node xs == 0)) [
  | inl none ↦ (let place : first_place node xs ≡ length xs = no_place node xs (eqb-true _ _ none) in let past : nat_lt (first_place node xs) (length xs) ≡ false = grind (arith, nat_tests) in rw (none, past) refl)
  | inr some ↦ (let there = taken_first node xs (grind (arith, nat_tests)) in let before : nat_lt (first_place node xs) (length xs) ≡ true = (let b = there.0 in grind (arith, nat_tests)) in rw (some, before) (ap (λ (l : List ℕ). Some l) there.1))
]

module _ (place : Place) where
  leaves_listed : (readers left : List ℕ) (waiting : List Request) (memory : List ℕ) →
      DoesAs place (quiet (with_roll (shared_by left) (home_by (Shared readers) waiting memory))) (table.left_of (left_of (Some left)) (kept_of true (home_by (Shared readers) waiting memory)))
  leaves_listed readers [] waiting memory = quiets place true (home_by Idle waiting memory)
  leaves_listed readers (first ∷ rest) waiting memory = quiets place true (home_by (Shared (first ∷ rest)) waiting memory)

  leaves_counted : (readers left : List ℕ) (waiting : List Request) (memory : List ℕ) → length left + 1 ≡ length readers →
      DoesAs place (quiet (with_roll (shared_by left) (home_by (Shared readers) waiting memory))) (table.left_of (remove_of place.from (Counted (length readers))) (kept_of false (home_by (Shared readers) waiting memory)))
  leaves_counted readers [] waiting memory many =
      let last : nat_lt 1 (length readers) ≡ false = grind (arith, nat_tests) in
      rw last (quiets place false (home_by Idle waiting memory))
  leaves_counted readers (first ∷ rest) waiting memory many =
      let more : nat_lt 1 (length readers) ≡ true = grind (arith, nat_tests) in
      let left : length readers - 1 ≡ length (first ∷ rest) = omega (arith, many) in
      rw (more, left) (quiets place false (home_by (Shared (first ∷ rest)) waiting memory))

  puts_listed : (readers : List ℕ) (waiting : List Request) (memory : List ℕ) →
      DoesAs place (put_s_of place.from (home_by (Shared readers) waiting memory)) (table.put_s_of place.from (kept_of true (home_by (Shared readers) waiting memory)))
  puts_listed readers waiting memory = rw (taken_out_of place.from readers) (by (count_of place.from readers == 0))
    where
      by : (none : Bool) → DoesAs place (if none then stray_at (home_by (Shared readers) waiting memory) else quiet (with_roll (shared_by (without place.from readers)) (home_by (Shared readers) waiting memory)))
          (table.left_of (left_of (if none then None else Some (without place.from readers))) (kept_of true (home_by (Shared readers) waiting memory)))
      by true = strays place true (home_by (Shared readers) waiting memory)
      by false = leaves_listed readers (without place.from readers) waiting memory

  puts_counted : (readers : List ℕ) (waiting : List Request) (memory : List ℕ) → (put_s_of place.from (home_by (Shared readers) waiting memory)).stray ≡ false →
      DoesAs place (put_s_of place.from (home_by (Shared readers) waiting memory)) (table.put_s_of place.from (kept_of false (home_by (Shared readers) waiting memory)))
  puts_counted readers waiting memory asked = elim (cases_Bool (count_of place.from readers == 0)) [
    | inl none ↦ absurd (let stray : true ≡ false = rw none at asked in cc)
    | inr some ↦ rw some (leaves_counted readers (without place.from readers) waiting memory (length_without place.from readers (grind (arith, nat_tests))))
  ]

  pub puts_s : (listed : Bool) (roll : Roll) (waiting : List Request) (memory : List ℕ) → (put_s_of place.from (home_by roll waiting memory)).stray ≡ false →
      DoesAs place (put_s_of place.from (home_by roll waiting memory)) (table.put_s_of place.from (kept_of listed (home_by roll waiting memory)))
  puts_s listed Idle waiting memory asked = strays place listed (home_by Idle waiting memory)
  puts_s listed (Exclusive owner) waiting memory asked = strays place listed (home_by (Exclusive owner) waiting memory)
  puts_s listed (Busy from exclusive called) waiting memory asked = quiets place listed (home_by (Busy from exclusive called) waiting memory)
  puts_s true (Shared readers) waiting memory asked = puts_listed readers waiting memory
  puts_s false (Shared readers) waiting memory asked = puts_counted readers waiting memory asked

  puts_x : (listed : Bool) (bytes : List ℕ) (roll : Roll) (waiting : List Request) (memory : List ℕ) →
      DoesAs place (put_x_of place.from bytes (home_by roll waiting memory)) (table.put_x_of place.from bytes (kept_of listed (home_by roll waiting memory)))
  puts_x listed bytes Idle waiting memory = strays place listed (home_by Idle waiting memory)
  puts_x true bytes (Shared readers) waiting memory = strays place true (home_by (Shared readers) waiting memory)
  puts_x false bytes (Shared readers) waiting memory = strays place false (home_by (Shared readers) waiting memory)
  puts_x listed bytes (Busy from exclusive called) waiting memory = quiets place listed (home_by (Busy from exclusive called) waiting bytes)
  puts_x listed bytes (Exclusive owner) waiting memory = by (owner == place.from)
    where
      by : (own : Bool) → DoesAs place (if own then quiet (home_by Idle waiting bytes) else stray_at (home_by (Exclusive owner) waiting memory))
          (if own then table.quiet Done (kept_of listed (home_by Idle waiting bytes)) else table.quiet Stray (kept_of listed (home_by (Exclusive owner) waiting memory)))
      by true = quiets place listed (home_by Idle waiting bytes)
      by false = strays place listed (home_by (Exclusive owner) waiting memory)

  -- ---- Wakes

  no_news : (test : Bool) → (if test then news_of Wake else []) ++ [] ≡ []
  no_news true = refl
  no_news false = refl

  wake_news : (node : ℕ) (state : DirState) (waiting : List Request) (memory : List ℕ) → news_to node (table.wake_after place (block_by state waiting memory)) ≡ []
  wake_news node (entries.Busy from exclusive left) waiting memory = refl
  wake_news node entries.Idle [] memory = refl
  wake_news node (entries.Shared readers) [] memory = refl
  wake_news node (entries.Exclusive owner) [] memory = refl
  wake_news node entries.Idle (first ∷ rest) memory = no_news _
  wake_news node (entries.Shared readers) (first ∷ rest) memory = no_news _
  wake_news node (entries.Exclusive owner) (first ∷ rest) memory = no_news _

  wake_count : (listed : Bool) (roll : Roll) (waiting : List Request) (memory : List ℕ) → wakes_in (table.wake_after place (kept_of listed (home_by roll waiting memory))) ≡ wakes_due (home_by roll waiting memory)
  wake_count listed (Busy from exclusive called) waiting memory = refl
  wake_count listed Idle [] memory = refl
  wake_count true (Shared readers) [] memory = refl
  wake_count false (Shared readers) [] memory = refl
  wake_count listed (Exclusive owner) [] memory = refl
  wake_count listed Idle (first ∷ rest) memory = refl
  wake_count true (Shared readers) (first ∷ rest) memory = refl
  wake_count false (Shared readers) (first ∷ rest) memory = refl
  wake_count listed (Exclusive owner) (first ∷ rest) memory = refl

  news_between : (node : ℕ) (sends after trap : List Outgoing) → news_to node after ≡ [] → news_to node ((sends ++ after) ++ trap) ≡ news_to node (sends ++ trap)
  news_between node sends after trap none =
      news_more node (sends ++ after) trap
      ∙ ap (λ (l : List Body). l ++ news_to node trap)
      (news_more node sends after ∙ ap (λ (l : List Body). news_to node sends ++ l) none ∙ append-nil (news_to node sends))
      ∙ sym (news_more node sends trap)

  wakes : (row : Row) (built : table.Row) → row.wakes ≡ 0 → DoesAs place row built → DoesAs place (with_wake row) (table.with_wake place built)
  wakes row built none does = record {
    listed = does.listed;
    home = does.home;
    sent = λ node. news_between node built.sends (table.wake_after place built.home) (called_by place.nodes place.block built.act)
        (wake_news node built.home.entry.state built.home.entry.waiting built.home.memory) ∙ does.sent node;
    wakes =
        let before : wakes_in built.sends ≡ 0 = does.wakes ∙ none in
        let more = wakes_more built.sends (table.wake_after place built.home) in
        let due : wakes_in (table.wake_after place built.home) ≡ wakes_due row.home = ap (λ (b : HomeBlock). wakes_in (table.wake_after place b)) does.home ∙ wake_count does.listed row.home.roll row.home.waiting row.home.memory in
        omega (arith, before, more, due);
    stray = does.stray;
  }

  serve_wakes : (request : Request) (called : List ℕ) (roll : Roll) (waiting : List Request) (memory : List ℕ) → (serve_of request called (home_by roll waiting memory)).wakes ≡ 0
  serve_wakes request called roll waiting memory = by request.exclusive roll called
    where
      by : (x : Bool) (r : Roll) (c : List ℕ) → (serve_of (record { node = request.node; exclusive = x }) c (home_by r waiting memory)).wakes ≡ 0
      by false Idle c = refl
      by true Idle c = refl
      by false (Shared readers) c = refl
      by true (Shared readers) [] = refl
      by true (Shared readers) (first ∷ rest) = refl
      by false (Exclusive owner) c = refl
      by true (Exclusive owner) c = refl
      by false (Busy from exclusive called) c = refl
      by true (Busy from exclusive called) c = refl

  -- ---- an answer

  grants : (node : ℕ) (exclusive listed : Bool) (roll : Roll) (waiting : List Request) (memory : List ℕ) →
      DoesAs place (grant_of (record { node = node; exclusive = exclusive }) (home_by roll waiting memory))
      (table.grant_of place (record { node = node; exclusive = exclusive }) (kept_of listed (home_by roll waiting memory)))
  grants node true listed roll waiting memory =
      wakes _ _ refl (answers place (record { node = node; exclusive = true }) (Exclusive node) listed listed _ (home_by Idle waiting memory) refl)
  grants node false listed roll waiting memory =
      wakes _ _ refl (answers place (record { node = node; exclusive = false }) (Shared (node ∷ [])) listed _ _ (home_by Idle waiting memory) (first_kept place node place.pointers))

  awaits : (node : ℕ) (exclusive listed : Bool) (called left : List ℕ) (waiting : List Request) (memory : List ℕ) → length left + 1 ≡ length called →
      DoesAs place (awaiting_of (record { node = node; exclusive = exclusive }) left (home_by (Busy node exclusive called) waiting memory))
      (if length called == 1 then table.grant_of place (record { node = node; exclusive = exclusive }) (kept_of listed (home_by (Busy node exclusive called) waiting memory))
      else table.quiet Done (table.with_state (entries.Busy node exclusive (length called - 1)) (kept_of listed (home_by (Busy node exclusive called) waiting memory))))
  awaits node exclusive listed called [] waiting memory many =
      let last : (length called == 1) ≡ true = grind (arith, nat_tests) in
      rw last (grants node exclusive listed (Busy node exclusive called) waiting memory)
  awaits node exclusive listed called (first ∷ rest) waiting memory many =
      let more : (length called == 1) ≡ false = grind (arith, nat_tests) in
      let left : length called - 1 ≡ length (first ∷ rest) = omega (arith, many) in
      rw (more, left) (quiets place listed (home_by (Busy node exclusive (first ∷ rest)) waiting memory))

  acks : (listed : Bool) (bytes : Option (List ℕ)) (roll : Roll) (waiting : List Request) (memory : List ℕ) → Answers place.from roll →
      DoesAs place (inv_ack_of place.from bytes (home_by roll waiting memory)) (table.inv_ack_of place bytes (kept_of listed (home_by roll waiting memory)))
  acks listed bytes Idle waiting memory due = strays place listed (home_by Idle waiting memory)
  acks true bytes (Shared readers) waiting memory due = strays place true (home_by (Shared readers) waiting memory)
  acks false bytes (Shared readers) waiting memory due = strays place false (home_by (Shared readers) waiting memory)
  acks listed bytes (Exclusive owner) waiting memory due = strays place listed (home_by (Exclusive owner) waiting memory)
  acks listed bytes (Busy node exclusive called) waiting memory due =
      awaits node exclusive listed called (without place.from called) waiting (unwrap_or bytes memory) (length_without place.from called due)

  -- ---- all of both tables

  had_asks : (listed : Bool) (home : Home) → place.from < place.nodes → (put_s_of place.from home).stray ≡ false →
      DoesAs place (arrive_of place.from (called_at place (GetX true) (kept_of listed home)) (GetX true) home) (table.arrive_of place (GetX true) (kept_of listed home))
  had_asks listed home below asked =
      let put = puts_s listed home.roll home.waiting home.memory asked in
      let now = (put_s_of place.from home).home in
      subst (λ (kept : HomeBlock). DoesAs place (request_of (record { node = place.from; exclusive = true }) (called_for place.nodes place.from kept.entry.state) now) (table.request_of place true kept))
      (sym put.home) (requests place true put.listed now.roll now.waiting now.memory below)

  arrives : (listed : Bool) (body : Body) (home : Home) → place.from < place.nodes → IsAwaited place.from body home →
      DoesAs place (arrive_of place.from (called_at place body (kept_of listed home)) body home) (table.arrive_of place body (kept_of listed home))
  arrives listed GetS home below due = requests place false listed home.roll home.waiting home.memory below
  arrives listed (GetX false) home below due = requests place true listed home.roll home.waiting home.memory below
  arrives listed (GetX true) home below due = had_asks listed home below due
  arrives listed PutS home below due = puts_s listed home.roll home.waiting home.memory due
  arrives listed (PutX bytes) home below due = puts_x listed bytes home.roll home.waiting home.memory
  arrives listed (InvAck bytes) home below due = acks listed bytes home.roll home.waiting home.memory due
  arrives listed Wake home below due = absurd due
  arrives listed (DataS bytes) home below due = strays place listed home
  arrives listed (DataX bytes) home below due = strays place listed home
  arrives listed Inv home below due = strays place listed home
  arrives listed Arrive home below due = strays place listed home
  arrives listed Leave home below due = strays place listed home
  arrives listed Go home below due = strays place listed home

  woken : (listed : Bool) (roll : Roll) (first : Request) (rest : List Request) (memory : List ℕ) → first.node < place.nodes → is_free place roll →
      DoesAs place (with_wake (serve_of first (called_for place.nodes first.node (entry_of listed roll)) (home_by roll rest memory)))
      (table.with_wake place (table.serve_of place first (kept_of listed (home_by roll rest memory))))
  woken listed roll first rest memory below free =
      wakes _ _ (serve_wakes first (called_for place.nodes first.node (entry_of listed roll)) roll rest memory)
      (serves place first.node first.exclusive listed roll rest memory below free)

  wakings : (listed : Bool) (roll : Roll) (waiting : List Request) (memory : List ℕ) → All (λ (request : Request). request.node < place.nodes) waiting →
      DoesAs place (wake_of (called_first place (kept_of listed (home_by roll waiting memory))) (home_by roll waiting memory)) (table.wake_of place (kept_of listed (home_by roll waiting memory)))
  wakings listed (Busy from exclusive called) waiting memory below = strays place listed (home_by (Busy from exclusive called) waiting memory)
  wakings listed Idle [] memory below = strays place listed (home_by Idle [] memory)
  wakings true (Shared readers) [] memory below = strays place true (home_by (Shared readers) [] memory)
  wakings false (Shared readers) [] memory below = strays place false (home_by (Shared readers) [] memory)
  wakings listed (Exclusive owner) [] memory below = strays place listed (home_by (Exclusive owner) [] memory)
  wakings listed Idle (first ∷ rest) memory below = woken listed Idle first rest memory (below zero first (omega arith)) tt
  wakings true (Shared readers) (first ∷ rest) memory below = woken true (Shared readers) first rest memory (below zero first (omega arith)) tt
  wakings false (Shared readers) (first ∷ rest) memory below = woken false (Shared readers) first rest memory (below zero first (omega arith)) tt
  wakings listed (Exclusive owner) (first ∷ rest) memory below = woken listed (Exclusive owner) first rest memory (below zero first (omega arith)) tt

pub rows_are_built_law : RowsAreBuilt
rows_are_built_law = record {
  arrive = λ place listed body home below due. arrives place listed body home below due;
  wake = λ place listed home below. wakings place listed home.roll home.waiting home.memory below;
}
