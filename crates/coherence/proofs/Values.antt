-- Every copy has the value that the last store left.
use Rattle.std.proofs.Common.{◌≡◌, ◌⊎◌, inl, inr, ℕ, ◌+◌, ◌≤◌, ◌==◌, Bool, true, false, cond, if◌then◌else◌, List, [], ◌∷◌, ◌++◌, Option, Some, None, refl, ap, sym, ◌∙◌, subst, arith, eqb-true}
use Rattle.std.specs.Prelude.{⊤, unwrap_or}
use Rattle.std.proofs.lemmas.Bool.{cases_Bool}
use Rattle.std.proofs.lemmas.Bool.Decides.{nat_tests}
use Rattle.wt_proto.specs.declared.directory.Request.{Request}
use Rattle.wt_proto.specs.declared.message.Body.{Body}
use Rattle.wt_proto.specs.declared.message.Body.TheVariants.{GetS, GetX, PutS, PutX, DataS, DataX, Inv, InvAck, Wake, Arrive, Leave, Go}
use Rattle.dir1sw.specs.Table.{grant_body}
use Rattle.coherence.specs.Pipes.{token_of, writer_of, not_to_home_of, tokens, writers, IsLed}
use Rattle.coherence.specs.Block.{Copy, Cell, held, pipe, Roll, Home, View, count_of, without}
use Rattle.coherence.specs.Block.Roll.{Idle, Shared, Exclusive, Busy}
use Rattle.coherence.specs.Facts.{Counts, NodeFacts, asks_at_home, IsCoherent}
use Rattle.coherence.specs.Rows.{Row, to_called, quiet, stray_at, answer_of, call_back_of, take_over_of, with_roll, serve_of, request_of, shared_by, put_s_of, put_x_of, awaiting_of, inv_ack_of, wake_of, arrive_of}
use Rattle.coherence.specs.Steps.Step.{Ask, Upgrade, Give, Write, Fill, Drop, Arrive as ArriveComes, Wake as WakeComes}
use Rattle.coherence.specs.Steps.{Step, step_of, IsEnabled, with_cell, with_sent, at_node, put_body, ack_body, get_body}
use Rattle.coherence.specs.Values.{Carries, AllCarry, HasValue, value_after, ValuesAreKept}
use Rattle.coherence.proofs.Pipes.{total_append, total_parts, writers_few, led_few, is_grant, held_none}
use Rattle.coherence.proofs.Arrivals.{fronted, behind, MayPutX, may_put_x, MayAnswer, may_answer}
use Rattle.coherence.proofs.Rolls.{count_another, differs}
use Rattle.coherence.proofs.Strays.{sole}

itself : (n : ℕ) → (n == n) ≡ true
itself n = grind (arith, nat_tests)

-- ---- what lists carry

carry_both : (value : List ℕ) (first second : List Body) → AllCarry value first → AllCarry value second → AllCarry value (first ++ second)
carry_both value [] second one two = two
carry_both value (body ∷ bodies) second one two = (one.0, carry_both value bodies second one.1 two)

carry_parts : (value : List ℕ) (first second : List Body) → AllCarry value (first ++ second) → AllCarry value first × AllCarry value second
carry_parts value [] second all = (tt, all)
carry_parts value (body ∷ bodies) second all = (let rest = carry_parts value bodies second all.1 in ((all.0, rest.0), rest.1))

carries_nothing : (value : List ℕ) (body : Body) → token_of body ≡ 0 → Carries value body
carries_nothing value GetS none = tt
carries_nothing value (GetX had) none = tt
carries_nothing value PutS none = tt
carries_nothing value (PutX bytes) none = absurd (omega (arith, none))
carries_nothing value (DataS bytes) none = absurd (omega (arith, none))
carries_nothing value (DataX bytes) none = absurd (omega (arith, none))
carries_nothing value Inv none = tt
carries_nothing value (InvAck None) none = tt
carries_nothing value (InvAck (Some bytes)) none = absurd (omega (arith, none))
carries_nothing value Wake none = tt
carries_nothing value Arrive none = tt
carries_nothing value Leave none = tt
carries_nothing value Go none = tt

carry_nothing : (value : List ℕ) (bodies : List Body) → tokens bodies ≡ 0 → AllCarry value bodies
carry_nothing value [] none = tt
carry_nothing value (body ∷ bodies) none = (carries_nothing value body (omega (arith, none)), carry_nothing value bodies (omega (arith, none)))

carries_grant : (value : List ℕ) (exclusive : Bool) (bytes : List ℕ) → bytes ≡ value → Carries value (grant_body exclusive bytes)
carries_grant value true bytes is = is
carries_grant value false bytes is = is

-- what a copy carries
copy_carries : (value : List ℕ) (copy : Copy) → AllCarry value (held (Some copy)) → copy.bytes ≡ value
copy_carries value copy all = by copy.writable copy.bytes all.0
  where
    by : (w : Bool) (bytes : List ℕ) → Carries value (grant_body w bytes) → bytes ≡ value
    by true bytes is = is
    by false bytes is = is

-- ---- of a node's part

cell_parts : (value : List ℕ) (cell : Cell) → AllCarry value (pipe cell) → AllCarry value cell.to_home × AllCarry value (held cell.copy) × AllCarry value cell.from_home
cell_parts value cell all = (let one = carry_parts value (cell.to_home ++ held cell.copy) cell.from_home all in let two = carry_parts value cell.to_home (held cell.copy) one.0 in (two.0, two.1, one.1))

cell_whole : (value : List ℕ) (cell : Cell) → AllCarry value cell.to_home → AllCarry value (held cell.copy) → AllCarry value cell.from_home → AllCarry value (pipe cell)
cell_whole value cell up copy down = carry_both value (cell.to_home ++ held cell.copy) cell.from_home (carry_both value cell.to_home (held cell.copy) up copy) down

-- a node's part changes, and none of its rights to write does
part_keeps : (value : List ℕ) (view : View) (node : ℕ) (now : Cell) → HasValue value view → AllCarry value (pipe now) → writers (pipe now) ≡ writers (pipe (view.cell node)) → HasValue value (at_node node now view)
part_keeps value view node now has carry same = record {
  copies = λ other. by_copies other (other == node) refl;
  memory = λ none. has.memory (λ other. by_memory other (other == node) refl (none other));
}
  where
    by_copies : (other : ℕ) (is_node : Bool) → (other == node) ≡ is_node → AllCarry value (pipe (cond is_node now (view.cell other)))
    by_copies other true e = carry
    by_copies other false e = has.copies other

    by_memory : (other : ℕ) (is_node : Bool) → (other == node) ≡ is_node → writers (pipe (cond is_node now (view.cell other))) ≡ 0 → writers (pipe (view.cell other)) ≡ 0
    by_memory other true e none = subst (λ (k : ℕ). writers (pipe (view.cell k)) ≡ 0) (sym (eqb-true other node e)) (sym same ∙ none)
    by_memory other false e none = none

-- a message joins those to the home, and the copy becomes another or none
pub sends_keeps : (value : List ℕ) (view : View) (node : ℕ) (wants : Option Bool) (copy : Option Copy) (body : Body) (down : List Body) → HasValue value view →
    Carries value body → AllCarry value (held copy) → AllCarry value down →
    writer_of body + writers (held copy) + writers down ≡ writers (held (view.cell node).copy) + writers (view.cell node).from_home →
    HasValue value (at_node node (record { wants = wants; copy = copy; to_home = (view.cell node).to_home ++ body ∷ []; from_home = down }) view)
sends_keeps value view node wants copy body down has sent held_carry down_carry same =
    let old = view.cell node in
    let parts = cell_parts value old (has.copies node) in
    part_keeps value view node (record { wants = wants; copy = copy; to_home = old.to_home ++ body ∷ []; from_home = down }) has
    (cell_whole value (record { wants = wants; copy = copy; to_home = old.to_home ++ body ∷ []; from_home = down }) (carry_both value old.to_home (body ∷ []) parts.0 (sent, tt)) held_carry down_carry)
    (let new_parts = total_parts writer_of (old.to_home ++ body ∷ []) (held copy) down in
    let old_parts = total_parts writer_of old.to_home (held old.copy) old.from_home in
    let more = total_append writer_of old.to_home (body ∷ []) in
    omega (arith, new_parts, old_parts, more, same))

-- ---- what a processor does

get_carries : (value : List ℕ) (exclusive : Bool) → Carries value (get_body exclusive) × (writer_of (get_body exclusive) ≡ 0)
get_carries value true = (tt, refl)
get_carries value false = (tt, refl)

asks_keep : (value : List ℕ) (view : View) (node : ℕ) (exclusive : Bool) → HasValue value view → (view.cell node).copy ≡ None → HasValue value (step_of (Ask node exclusive) view)
asks_keep value view node exclusive has none =
    let old = view.cell node in
    let parts = cell_parts value old (has.copies node) in
    let get = get_carries value exclusive in
    sends_keeps value view node (Some exclusive) old.copy (get_body exclusive) old.from_home has get.0 parts.1 parts.2 (let w = get.1 in omega (arith, w))

upgrade_keeps : (value : List ℕ) (view : View) (node : ℕ) (bytes : List ℕ) → HasValue value view → (view.cell node).copy ≡ Some (record { writable = false; bytes = bytes }) → HasValue value (step_of (Upgrade node bytes) view)
upgrade_keeps value view node bytes has copy =
    let old = view.cell node in
    let parts = cell_parts value old (has.copies node) in
    let none : writers (held old.copy) ≡ 0 = ap (λ (c : Option Copy). writers (held c)) copy in
    sends_keeps value view node (Some true) None (GetX true) old.from_home has tt tt parts.2 (omega (arith, none))

put_carries : (value : List ℕ) (copy : Copy) → copy.bytes ≡ value → Carries value (put_body copy) × (writer_of (put_body copy) ≡ writers (held (Some copy)))
put_carries value copy is = by copy.writable
  where
    by : (w : Bool) → Carries value (put_body (record { writable = w; bytes = copy.bytes })) × (writer_of (put_body (record { writable = w; bytes = copy.bytes })) ≡ writers (held (Some (record { writable = w; bytes = copy.bytes }))))
    by true = (is, refl)
    by false = (tt, refl)

held_carries : (value : List ℕ) (view : View) (node : ℕ) (copy : Copy) → HasValue value view → (view.cell node).copy ≡ Some copy → copy.bytes ≡ value
held_carries value view node copy has is =
    copy_carries value copy (subst (λ (c : Option Copy). AllCarry value (held c)) is (cell_parts value (view.cell node) (has.copies node)).1)

gives_keep : (value : List ℕ) (view : View) (node : ℕ) (copy : Copy) → HasValue value view → (view.cell node).copy ≡ Some copy → HasValue value (step_of (Give node copy) view)
gives_keep value view node copy has is =
    let old = view.cell node in
    let parts = cell_parts value old (has.copies node) in
    let put = put_carries value copy (held_carries value view node copy has is) in
    let same : writers (held old.copy) ≡ writers (held (Some copy)) = ap (λ (c : Option Copy). writers (held c)) is in
    sends_keeps value view node old.wants None (put_body copy) old.from_home has put.0 tt parts.2 (let w = put.1 in omega (arith, w, same))

ack_carries : (value : List ℕ) (copy : Option Copy) → AllCarry value (held copy) → Carries value (ack_body copy) × (writer_of (ack_body copy) ≡ writers (held copy))
ack_carries value None all = (tt, refl)
ack_carries value (Some copy) all = by copy.writable copy.bytes (copy_carries value copy all)
  where
    by : (w : Bool) (bytes : List ℕ) → bytes ≡ value → Carries value (ack_body (Some (record { writable = w; bytes = bytes }))) × (writer_of (ack_body (Some (record { writable = w; bytes = bytes }))) ≡ writers (held (Some (record { writable = w; bytes = bytes }))))
    by true bytes is = (is, refl)
    by false bytes is = (tt, refl)

drops_keep : (value : List ℕ) (view : View) (node : ℕ) (rest : List Body) → HasValue value view → (view.cell node).from_home ≡ Inv ∷ rest → HasValue value (step_of (Drop node rest) view)
drops_keep value view node rest has front =
    let old = view.cell node in
    let parts = cell_parts value old (has.copies node) in
    let ack = ack_carries value old.copy parts.1 in
    let down : AllCarry value (Inv ∷ rest) = subst (λ (l : List Body). AllCarry value l) front parts.2 in
    let less : writers old.from_home ≡ 0 + writers rest = ap writers front in
    sends_keeps value view node old.wants None (ack_body old.copy) rest has ack.0 tt down.1 (let w = ack.1 in omega (arith, w, less))

fills_keep : (value : List ℕ) (view : View) (node : ℕ) (exclusive : Bool) (bytes : List ℕ) (rest : List Body) → HasValue value view → (view.cell node).copy ≡ None →
    (view.cell node).from_home ≡ grant_body exclusive bytes ∷ rest → HasValue value (step_of (Fill node exclusive bytes rest) view)
fills_keep value view node exclusive bytes rest has none front =
    let old = view.cell node in
    let parts = cell_parts value old (has.copies node) in
    let down : AllCarry value (grant_body exclusive bytes ∷ rest) = subst (λ (l : List Body). AllCarry value l) front parts.2 in
    let now : Cell = record { wants = None; copy = Some (record { writable = exclusive; bytes = bytes }); to_home = old.to_home; from_home = rest } in
    part_keeps value view node now has (cell_whole value now parts.0 (down.0, tt) down.1)
    (let new_parts = total_parts writer_of old.to_home (grant_body exclusive bytes ∷ []) rest in
    let old_parts = total_parts writer_of old.to_home (held old.copy) old.from_home in
    let no_copy : writers (held old.copy) ≡ 0 = ap (λ (c : Option Copy). writers (held c)) none in
    let less : writers old.from_home ≡ writer_of (grant_body exclusive bytes) + writers rest = ap writers front in
    omega (arith, new_parts, old_parts, no_copy, less))

-- a store: there is no other copy
writes_keep : (view : View) (node : ℕ) (old new value : List ℕ) → IsCoherent view → (view.cell node).copy ≡ Some (record { writable = true; bytes = old }) → HasValue new (step_of (Write node old new) view)
writes_keep view node old new value is copy = record {
  copies = λ other. by_copies other (other == node) refl;
  memory = λ none. absurd (let mine_none : writers (pipe now) ≡ 0 = subst (λ (same : Bool). writers (pipe (cond same now (view.cell node))) ≡ 0) (itself node) (none node) in omega (arith, mine_none, now_parts));
}
  where
    mine : Cell
    mine = view.cell node

    now : Cell
    now = record (view.cell node) { copy = Some (record { writable = true; bytes = new }) }

    now_parts : writers (pipe (record (view.cell node) { copy = Some (record { writable = true; bytes = new }) })) ≡ writers (view.cell node).to_home + (1 + 0) + writers (view.cell node).from_home
    now_parts = total_parts writer_of (view.cell node).to_home (DataX new ∷ []) (view.cell node).from_home

    old_tokens : tokens (pipe (view.cell node)) ≡ tokens (view.cell node).to_home + tokens (held (view.cell node).copy) + tokens (view.cell node).from_home
    old_tokens = total_parts token_of (view.cell node).to_home (held (view.cell node).copy) (view.cell node).from_home

    one_token : tokens (held (view.cell node).copy) ≡ 1
    one_token = ap (λ (c : Option Copy). tokens (held c)) copy

    one_writer : writers (held (view.cell node).copy) ≡ 1
    one_writer = ap (λ (c : Option Copy). writers (held c)) copy

    few : tokens (pipe (view.cell node)) ≤ 1
    few = led_few (pipe (view.cell node)) (is.nodes node).led

    by_copies : (other : ℕ) (same : Bool) → (other == node) ≡ same → AllCarry new (pipe (cond same (record (view.cell node) { copy = Some (record { writable = true; bytes = new }) }) (view.cell other)))
    by_copies other true e =
        cell_whole new (record (view.cell node) { copy = Some (record { writable = true; bytes = new }) })
        (carry_nothing new (view.cell node).to_home (omega (arith, old_tokens, one_token, few))) (refl, tt) (carry_nothing new (view.cell node).from_home (omega (arith, old_tokens, one_token, few)))
    by_copies other false e =
        carry_nothing new (pipe (view.cell other))
        (sole view.home.roll node other (pipe (view.cell node)) (pipe (view.cell other)) e
        (let w = total_parts writer_of (view.cell node).to_home (held (view.cell node).copy) (view.cell node).from_home in omega (arith, w, one_writer)) (is.nodes node).counts (is.nodes other).counts)

-- ---- what a row sends

abbrev home_by : Roll → List Request → List ℕ → Home
home_by roll waiting memory = record { roll = roll; waiting = waiting; memory = memory }

-- nobody may write
abbrev IsOpen : Roll → Type 0
IsOpen Idle = ⊤
IsOpen (Shared readers) = ⊤
IsOpen roll = ⊥

-- What is sent has the value, and the memory stays.
pub record IsMild (value memory : List ℕ) (row : Row) : Type 0 where
  pub sent : (node : ℕ) → AllCarry value (row.sent node)
  pub memory_is : row.home.memory ≡ memory

one_carries : (value : List ℕ) (test : Bool) (body : Body) → Carries value body → AllCarry value (if test then body ∷ [] else [])
one_carries value true body carries = (carries, tt)
one_carries value false body carries = tt

called_carry : (value : List ℕ) (called : List ℕ) (node : ℕ) → AllCarry value (to_called called node)
called_carry value [] node = tt
called_carry value (first ∷ rest) node = carry_both value (if node == first then Inv ∷ [] else []) (to_called rest node) (one_carries value (node == first) Inv tt) (called_carry value rest node)

answer_mild : (value : List ℕ) (request : Request) (roll : Roll) (home : Home) → home.memory ≡ value → IsMild value home.memory (answer_of request roll home)
answer_mild value request roll home is = record {
  sent = λ node. one_carries value (node == request.node) (grant_body request.exclusive home.memory) (carries_grant value request.exclusive home.memory is);
  memory_is = refl;
}

calls_mild : (value : List ℕ) (request : Request) (called : List ℕ) (home : Home) → IsMild value home.memory (call_back_of request called home)
calls_mild value request called home = record { sent = λ node. called_carry value called node; memory_is = refl }

quiet_mild : (value : List ℕ) (home : Home) → IsMild value home.memory (quiet home)
quiet_mild value home = record { sent = λ node. tt; memory_is = refl }

stray_mild : (value : List ℕ) (home : Home) → IsMild value home.memory (stray_at home)
stray_mild value home = record { sent = λ node. tt; memory_is = refl }

takes_mild : (value : List ℕ) (request : Request) (called : List ℕ) (home : Home) → home.memory ≡ value → IsMild value home.memory (take_over_of request called home)
takes_mild value request [] home is = answer_mild value request (Exclusive request.node) home is
takes_mild value request (first ∷ rest) home is = calls_mild value request (first ∷ rest) home

serve_mild : (value : List ℕ) (node : ℕ) (exclusive : Bool) (called : List ℕ) (roll : Roll) (waiting : List Request) (memory : List ℕ) → (IsOpen roll → memory ≡ value) →
    IsMild value memory (serve_of (record { node = node; exclusive = exclusive }) called (home_by roll waiting memory))
serve_mild value node false called Idle waiting memory opened = answer_mild value (record { node = node; exclusive = false }) (Shared (node ∷ [])) (home_by Idle waiting memory) (opened tt)
serve_mild value node true called Idle waiting memory opened = answer_mild value (record { node = node; exclusive = true }) (Exclusive node) (home_by Idle waiting memory) (opened tt)
serve_mild value node false called (Shared readers) waiting memory opened = answer_mild value (record { node = node; exclusive = false }) (Shared (readers ++ node ∷ [])) (home_by (Shared readers) waiting memory) (opened tt)
serve_mild value node true called (Shared readers) waiting memory opened = takes_mild value (record { node = node; exclusive = true }) called (home_by (Shared readers) waiting memory) (opened tt)
serve_mild value node false called (Exclusive owner) waiting memory opened = calls_mild value (record { node = node; exclusive = false }) (owner ∷ []) (home_by (Exclusive owner) waiting memory)
serve_mild value node true called (Exclusive owner) waiting memory opened = calls_mild value (record { node = node; exclusive = true }) (owner ∷ []) (home_by (Exclusive owner) waiting memory)
serve_mild value node false called (Busy from for_x others) waiting memory opened = stray_mild value (home_by (Busy from for_x others) waiting memory)
serve_mild value node true called (Busy from for_x others) waiting memory opened = stray_mild value (home_by (Busy from for_x others) waiting memory)

request_mild : (value : List ℕ) (node : ℕ) (exclusive : Bool) (called : List ℕ) (roll : Roll) (waiting : List Request) (memory : List ℕ) → (IsOpen roll → memory ≡ value) →
    IsMild value memory (request_of (record { node = node; exclusive = exclusive }) called (home_by roll waiting memory))
request_mild value node exclusive called (Busy from for_x others) waiting memory opened = quiet_mild value (home_by (Busy from for_x others) (waiting ++ record { node = node; exclusive = exclusive } ∷ []) memory)
request_mild value node exclusive called Idle (first ∷ rest) memory opened = quiet_mild value (home_by Idle ((first ∷ rest) ++ record { node = node; exclusive = exclusive } ∷ []) memory)
request_mild value node exclusive called (Shared readers) (first ∷ rest) memory opened = quiet_mild value (home_by (Shared readers) ((first ∷ rest) ++ record { node = node; exclusive = exclusive } ∷ []) memory)
request_mild value node exclusive called (Exclusive owner) (first ∷ rest) memory opened = quiet_mild value (home_by (Exclusive owner) ((first ∷ rest) ++ record { node = node; exclusive = exclusive } ∷ []) memory)
request_mild value node exclusive called Idle [] memory opened = serve_mild value node exclusive called Idle [] memory opened
request_mild value node exclusive called (Shared readers) [] memory opened = serve_mild value node exclusive called (Shared readers) [] memory opened
request_mild value node exclusive called (Exclusive owner) [] memory opened = serve_mild value node exclusive called (Exclusive owner) [] memory opened

put_s_mild : (value : List ℕ) (node : ℕ) (roll : Roll) (waiting : List Request) (memory : List ℕ) →
    IsMild value memory (put_s_of node (home_by roll waiting memory)) × (IsOpen (put_s_of node (home_by roll waiting memory)).home.roll → IsOpen roll)
put_s_mild value node Idle waiting memory = (stray_mild value (home_by Idle waiting memory), λ opened. opened)
put_s_mild value node (Exclusive owner) waiting memory = (stray_mild value (home_by (Exclusive owner) waiting memory), λ opened. opened)
put_s_mild value node (Busy from exclusive called) waiting memory = (quiet_mild value (home_by (Busy from exclusive called) waiting memory), λ opened. opened)
put_s_mild value node (Shared readers) waiting memory = (by (count_of node readers == 0), λ opened. tt)
  where
    by : (none : Bool) → IsMild value memory (if none then stray_at (home_by (Shared readers) waiting memory) else quiet (with_roll (shared_by (without node readers)) (home_by (Shared readers) waiting memory)))
    by true = stray_mild value (home_by (Shared readers) waiting memory)
    by false = quiet_mild value (with_roll (shared_by (without node readers)) (home_by (Shared readers) waiting memory))

had_mild : (value : List ℕ) (node : ℕ) (called : List ℕ) (home : Home) → (IsOpen home.roll → home.memory ≡ value) → IsMild value home.memory (arrive_of node called (GetX true) home)
had_mild value node called home opened =
    let put = put_s_mild value node home.roll home.waiting home.memory in
    let now = (put_s_of node home).home in
    let mild = request_mild value node true called now.roll now.waiting now.memory (λ now_open. put.0.memory_is ∙ opened (put.1 now_open)) in
    record { sent = mild.sent; memory_is = mild.memory_is ∙ put.0.memory_is }

wake_mild : (value : List ℕ) (called : List ℕ) (roll : Roll) (waiting : List Request) (memory : List ℕ) → (IsOpen roll → memory ≡ value) → IsMild value memory (wake_of called (home_by roll waiting memory))
wake_mild value called (Busy from exclusive others) waiting memory opened = stray_mild value (home_by (Busy from exclusive others) waiting memory)
wake_mild value called Idle [] memory opened = stray_mild value (home_by Idle [] memory)
wake_mild value called (Shared readers) [] memory opened = stray_mild value (home_by (Shared readers) [] memory)
wake_mild value called (Exclusive owner) [] memory opened = stray_mild value (home_by (Exclusive owner) [] memory)
wake_mild value called Idle (first ∷ rest) memory opened = (let mild = serve_mild value first.node first.exclusive called Idle rest memory opened in record { sent = mild.sent; memory_is = mild.memory_is })
wake_mild value called (Shared readers) (first ∷ rest) memory opened = (let mild = serve_mild value first.node first.exclusive called (Shared readers) rest memory opened in record { sent = mild.sent; memory_is = mild.memory_is })
wake_mild value called (Exclusive owner) (first ∷ rest) memory opened = (let mild = serve_mild value first.node first.exclusive called (Exclusive owner) rest memory opened in record { sent = mild.sent; memory_is = mild.memory_is })

-- an answer, of those who have still to answer
awaiting_mild : (value : List ℕ) (node : ℕ) (exclusive : Bool) (left : List ℕ) (roll : Roll) (waiting : List Request) (memory : List ℕ) → (left ≡ [] → memory ≡ value) →
    IsMild value memory (awaiting_of (record { node = node; exclusive = exclusive }) left (home_by roll waiting memory))
awaiting_mild value node exclusive [] roll waiting memory all = (let mild = serve_mild value node exclusive [] Idle waiting memory (λ now_open. all refl) in record { sent = mild.sent; memory_is = mild.memory_is })
awaiting_mild value node exclusive (first ∷ rest) roll waiting memory all = quiet_mild value (home_by (Busy node exclusive (first ∷ rest)) waiting memory)

-- what the memory becomes by an answer
abbrev answered_memory : Roll → Option (List ℕ) → List ℕ → List ℕ
answered_memory (Busy from exclusive called) bytes memory = unwrap_or bytes memory
answered_memory roll bytes memory = memory

ack_mild : (value : List ℕ) (node : ℕ) (bytes : Option (List ℕ)) (roll : Roll) (waiting : List Request) (memory : List ℕ) →
    ((from : ℕ) (exclusive : Bool) (called : List ℕ) → roll ≡ Busy from exclusive called → without node called ≡ [] → unwrap_or bytes memory ≡ value) →
    IsMild value (answered_memory roll bytes memory) (inv_ack_of node bytes (home_by roll waiting memory))
ack_mild value node bytes Idle waiting memory all = stray_mild value (home_by Idle waiting memory)
ack_mild value node bytes (Shared readers) waiting memory all = stray_mild value (home_by (Shared readers) waiting memory)
ack_mild value node bytes (Exclusive owner) waiting memory all = stray_mild value (home_by (Exclusive owner) waiting memory)
ack_mild value node bytes (Busy from exclusive called) waiting memory all =
    awaiting_mild value from exclusive (without node called) (Busy from exclusive called) waiting (unwrap_or bytes memory) (all from exclusive called refl)

-- ---- what comes to the home

-- a row over parts of nodes that have the value
over_parts : (value : List ℕ) (cell : ℕ → Cell) (wakes : ℕ) (row : Row) → ((node : ℕ) → AllCarry value (pipe (cell node))) → ((node : ℕ) → AllCarry value (row.sent node)) →
    (((node : ℕ) → writers (pipe (cell node)) ≡ 0) → row.home.memory ≡ value) → HasValue value (record { home = row.home; wakes = wakes; cell = with_sent row.sent cell })
over_parts value cell wakes row carry sent memory = record {
  copies = λ node. (let parts = cell_parts value (cell node) (carry node) in
      cell_whole value (with_sent row.sent cell node) parts.0 parts.1 (carry_both value (cell node).from_home (row.sent node) parts.2 (sent node)));
  memory = λ none. memory (λ node. (let now = total_parts writer_of (cell node).to_home (held (cell node).copy) ((cell node).from_home ++ row.sent node) in
      let old = total_parts writer_of (cell node).to_home (held (cell node).copy) (cell node).from_home in
      let more = total_append writer_of (cell node).from_home (row.sent node) in
      let zero_now = none node in omega (arith, now, old, more, zero_now)));
}

module _ (value : List ℕ) (view : View) (is : IsCoherent view) (has : HasValue value view) where
  -- where nobody may write, the memory has the value
  memory_open : IsOpen view.home.roll → view.home.memory ≡ value
  memory_open is_open = has.memory (λ node. by view.home.roll node is_open (is.nodes node).counts)
    where
      by : (roll : Roll) (node : ℕ) → IsOpen roll → Counts roll node (pipe (view.cell node)) → writers (pipe (view.cell node)) ≡ 0
      by Idle node o counts = counts.1
      by (Shared readers) node o counts = counts.1
      by (Exclusive owner) node o counts = absurd o
      by (Busy from exclusive called) node o counts = absurd o

  wake_keeps : (called : List ℕ) → HasValue value (step_of (WakeComes called) view)
  wake_keeps called =
      let mild = wake_mild value called view.home.roll view.home.waiting view.home.memory memory_open in
      over_parts value view.cell _ (wake_of called view.home) has.copies mild.sent (λ none. mild.memory_is ∙ has.memory none)

  module _ (node : ℕ) (body : Body) (rest : List Body) (front : (view.cell node).to_home ≡ body ∷ rest) where
    left : ℕ → Cell
    left = with_cell node (record (view.cell node) { to_home = rest }) view.cell

    old_front : AllCarry value (body ∷ rest)
    old_front = subst (λ (l : List Body). AllCarry value l) front (cell_parts value (view.cell node) (has.copies node)).0

    left_carry : (other : ℕ) → AllCarry value (pipe (with_cell node (record (view.cell node) { to_home = rest }) view.cell other))
    left_carry other = by (other == node)
      where
        by : (same : Bool) → AllCarry value (pipe (cond same (record (view.cell node) { to_home = rest }) (view.cell other)))
        by true = (let parts = cell_parts value (view.cell node) (has.copies node) in cell_whole value (record (view.cell node) { to_home = rest }) old_front.1 parts.1 parts.2)
        by false = has.copies other

    -- where the message is no right to write, those that are left tell of all
    none_left : writer_of body ≡ 0 → ((other : ℕ) → writers (pipe (with_cell node (record (view.cell node) { to_home = rest }) view.cell other)) ≡ 0) → view.home.memory ≡ value
    none_left no_writer none = has.memory (λ other. by other (other == node) refl (none other))
      where
        by : (other : ℕ) (same : Bool) → (other == node) ≡ same → writers (pipe (cond same (record (view.cell node) { to_home = rest }) (view.cell other))) ≡ 0 → writers (pipe (view.cell other)) ≡ 0
        by other false e zero_left = zero_left
        by other true e zero_left =
            subst (λ (k : ℕ). writers (pipe (view.cell k)) ≡ 0) (sym (eqb-true other node e))
            (let now = total_parts writer_of rest (held (view.cell node).copy) (view.cell node).from_home in
            let old = total_parts writer_of (view.cell node).to_home (held (view.cell node).copy) (view.cell node).from_home in
            let first : writers (view.cell node).to_home ≡ writer_of body + writers rest = ap writers front in
            omega (arith, now, old, first, no_writer, zero_left))

    by_mild : (called : List ℕ) → writer_of body ≡ 0 → IsMild value view.home.memory (arrive_of node called body view.home) → HasValue value (step_of (ArriveComes node body rest called) view)
    by_mild called no_writer mild = over_parts value (with_cell node (record (view.cell node) { to_home = rest }) view.cell) _ (arrive_of node called body view.home) left_carry mild.sent (λ none. mild.memory_is ∙ none_left no_writer none)

    -- the memory becomes what has come
    by_new : (called : List ℕ) → ((other : ℕ) → AllCarry value ((arrive_of node called body view.home).sent other)) → (arrive_of node called body view.home).home.memory ≡ value → HasValue value (step_of (ArriveComes node body rest called) view)
    by_new called sent memory_is = over_parts value (with_cell node (record (view.cell node) { to_home = rest }) view.cell) _ (arrive_of node called body view.home) left_carry sent (λ none. memory_is)

    goes_home : {A : Type 0} → not_to_home_of body ≡ 1 → A
    goes_home one = absurd (let g = (fronted view.home.roll view.home.waiting view.cell node body rest is.nodes front).goes in omega (arith, g, one))

put_x_new : (value : List ℕ) (node : ℕ) (bytes : List ℕ) (roll : Roll) (waiting : List Request) (memory : List ℕ) → MayPutX node roll → bytes ≡ value →
    ((other : ℕ) → AllCarry value ((put_x_of node bytes (home_by roll waiting memory)).sent other)) × ((put_x_of node bytes (home_by roll waiting memory)).home.memory ≡ value)
put_x_new value node bytes Idle waiting memory may has = absurd may
put_x_new value node bytes (Shared readers) waiting memory may has = absurd may
put_x_new value node bytes (Exclusive owner) waiting memory may has = rw may (λ other. tt, has)
put_x_new value node bytes (Busy from exclusive called) waiting memory may has = (λ other. tt, has)

-- an answer without bytes of the last who had to answer: nobody may write
last_answer : (node from other : ℕ) (exclusive : Bool) (called : List ℕ) (mine theirs : List Body) → 1 ≤ count_of node called → without node called ≡ [] →
    IsLed (InvAck None ∷ mine) → Counts (Busy from exclusive called) other theirs → ((other == node) ≡ true → theirs ≡ InvAck None ∷ mine) → writers theirs ≡ 0
last_answer node from other exclusive called mine theirs some gone led counts same = by counts.1
  where
    by : (writers theirs ≡ 0) ⊎ (called ≡ other ∷ []) → writers theirs ≡ 0
    by (inl none) = none
    by (inr alone) = elim (cases_Bool (other == node)) [
      | inl is_node ↦ (let it = same is_node in let few = writers_few mine in let w : writers theirs ≡ 0 + writers mine = ap writers it in omega (arith, w, few, led))
      | inr apart ↦ absurd (let one : 1 ≤ count_of node (other ∷ []) = subst (λ (l : List ℕ). 1 ≤ count_of node l) alone some in
          let none = count_another node other (differs node other apart) in omega (arith, one, none))
    ]

acks_keep : (value : List ℕ) (view : View) (is : IsCoherent view) (has : HasValue value view) (node : ℕ) (bytes : Option (List ℕ)) (rest : List Body) (called : List ℕ) →
    (view.cell node).to_home ≡ InvAck bytes ∷ rest → HasValue value (step_of (ArriveComes node (InvAck bytes) rest called) view)
acks_keep value view is has node (Some bytes) rest called front =
    (let mild = ack_mild value node (Some bytes) view.home.roll view.home.waiting view.home.memory (λ from exclusive others busy gone. now) in
    by_new value view is has node (InvAck (Some bytes)) rest front called mild.sent (mild.memory_is ∙ by view.home.roll (may_answer view.home.roll node (Some bytes) (behind (view.cell node) rest) (fronted view.home.roll view.home.waiting view.cell node (InvAck (Some bytes)) rest is.nodes front).counts)))
  where
    now : bytes ≡ value
    now = (old_front value view is has node (InvAck (Some bytes)) rest front).0

    by : (roll : Roll) → MayAnswer node roll → answered_memory roll (Some bytes) view.home.memory ≡ value
    by (Busy from exclusive others) may = now
    by Idle may = absurd may
    by (Shared readers) may = absurd may
    by (Exclusive owner) may = absurd may
acks_keep value view is has node None rest called front =
    by_mild value view is has node (InvAck None) rest front called refl
    (let mild = ack_mild value node None view.home.roll view.home.waiting view.home.memory all_gone in record { sent = mild.sent; memory_is = mild.memory_is ∙ same view.home.roll })
  where
    same : (roll : Roll) → answered_memory roll None view.home.memory ≡ view.home.memory
    same Idle = refl
    same (Shared readers) = refl
    same (Exclusive owner) = refl
    same (Busy from exclusive others) = refl

    mine : NodeFacts view.home.roll node (asks_at_home node view.home.roll view.home.waiting) (record (view.cell node) { to_home = InvAck None ∷ rest })
    mine = fronted view.home.roll view.home.waiting view.cell node (InvAck None) rest is.nodes front

    its_pipe : (other : ℕ) → (other == node) ≡ true → pipe (view.cell other) ≡ InvAck None ∷ behind (view.cell node) rest
    its_pipe other e = ap (λ (k : ℕ). pipe (view.cell k)) (eqb-true other node e) ∙ ap (λ (l : List Body). l ++ held (view.cell node).copy ++ (view.cell node).from_home) front

    all_gone : (from : ℕ) (exclusive : Bool) (others : List ℕ) → view.home.roll ≡ Busy from exclusive others → without node others ≡ [] → view.home.memory ≡ value
    all_gone from exclusive others busy gone = has.memory (λ other.
        last_answer node from other exclusive others (behind (view.cell node) rest) (pipe (view.cell other))
        (subst (λ (r : Roll). MayAnswer node r) busy (may_answer view.home.roll node None (behind (view.cell node) rest) mine.counts)) gone mine.led
        (subst (λ (r : Roll). Counts r other (pipe (view.cell other))) busy (is.nodes other).counts) (its_pipe other))

arrives_keep : (value : List ℕ) (view : View) (is : IsCoherent view) (has : HasValue value view) (node : ℕ) (body : Body) (rest : List Body) (called : List ℕ) →
    (view.cell node).to_home ≡ body ∷ rest → HasValue value (step_of (ArriveComes node body rest called) view)
arrives_keep value view is has node GetS rest called front = by_mild value view is has node GetS rest front called refl (request_mild value node false called view.home.roll view.home.waiting view.home.memory (memory_open value view is has))
arrives_keep value view is has node (GetX false) rest called front = by_mild value view is has node (GetX false) rest front called refl (request_mild value node true called view.home.roll view.home.waiting view.home.memory (memory_open value view is has))
arrives_keep value view is has node (GetX true) rest called front = by_mild value view is has node (GetX true) rest front called refl (had_mild value node called view.home (memory_open value view is has))
arrives_keep value view is has node PutS rest called front = by_mild value view is has node PutS rest front called refl (put_s_mild value node view.home.roll view.home.waiting view.home.memory).0
arrives_keep value view is has node (PutX bytes) rest called front =
    let may = may_put_x view.home.roll node bytes (behind (view.cell node) rest) (fronted view.home.roll view.home.waiting view.cell node (PutX bytes) rest is.nodes front).counts in
    let new = put_x_new value node bytes view.home.roll view.home.waiting view.home.memory may (old_front value view is has node (PutX bytes) rest front).0 in
    by_new value view is has node (PutX bytes) rest front called new.0 new.1
arrives_keep value view is has node (InvAck bytes) rest called front = acks_keep value view is has node bytes rest called front
arrives_keep value view is has node (DataS bytes) rest called front = goes_home value view is has node (DataS bytes) rest front refl
arrives_keep value view is has node (DataX bytes) rest called front = goes_home value view is has node (DataX bytes) rest front refl
arrives_keep value view is has node Inv rest called front = goes_home value view is has node Inv rest front refl
arrives_keep value view is has node Wake rest called front = goes_home value view is has node Wake rest front refl
arrives_keep value view is has node Arrive rest called front = goes_home value view is has node Arrive rest front refl
arrives_keep value view is has node Leave rest called front = goes_home value view is has node Leave rest front refl
arrives_keep value view is has node Go rest called front = goes_home value view is has node Go rest front refl

-- ---- the law

-- who waits for Data has no copy
no_copy : (view : View) (is : IsCoherent view) (node : ℕ) (exclusive : Bool) (bytes : List ℕ) (rest : List Body) → (view.cell node).from_home ≡ grant_body exclusive bytes ∷ rest → (view.cell node).copy ≡ None
no_copy view is node exclusive bytes rest front =
    held_none (view.cell node).copy
    (let few = led_few (pipe (view.cell node)) (is.nodes node).led in
    let all = total_parts token_of (view.cell node).to_home (held (view.cell node).copy) (view.cell node).from_home in
    let down : tokens (view.cell node).from_home ≡ token_of (grant_body exclusive bytes) + tokens rest = ap tokens front in
    let one = (is_grant exclusive bytes).token in
    omega (arith, few, all, down, one))

keeps : (view : View) (step : Step) (value : List ℕ) → IsCoherent view → IsEnabled view step → HasValue value view → HasValue (value_after step value) (step_of step view)
keeps view (Ask node exclusive) value is may has = asks_keep value view node exclusive has may.1
keeps view (Upgrade node bytes) value is may has = upgrade_keeps value view node bytes has may.1
keeps view (Give node copy) value is may has = gives_keep value view node copy has may
keeps view (Write node old new) value is may has = writes_keep view node old new value is may
keeps view (Fill node exclusive bytes rest) value is may has = fills_keep value view node exclusive bytes rest has (no_copy view is node exclusive bytes rest may.1) may.1
keeps view (Drop node rest) value is may has = drops_keep value view node rest has may
keeps view (ArriveComes node body rest called) value is may has = arrives_keep value view is has node body rest called may.0
keeps view (WakeComes called) value is may has = wake_keeps value view is has called

pub values_kept : ValuesAreKept
values_kept = record {
  start = λ view first. record {
    copies = λ node. subst (λ (c : Cell). AllCarry view.home.memory (pipe c)) (sym (first.cells node)) tt;
    memory = λ none. refl;
  };
  step = keeps;
  read = λ view value node copy has is. held_carries value view node copy has is;
}
