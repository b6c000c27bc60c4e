-- A request that is first in line is served, and the facts of all nodes are kept.
use Rattle.std.proofs.Common.{◌≡◌, ℕ, ◌≤◌, inl, inr, Bool, true, false, List, [], ◌∷◌, ◌++◌, length, length-append, Option, Some, None, refl, ap, sym, ◌∙◌, subst, arith, append-nil, append_assoc, eq-eqb, eqb-true}
use Rattle.std.specs.Prelude.{◌==◌, if◌then◌else◌}
use Rattle.std.proofs.lemmas.Bool.{cases_Bool}
use Rattle.wt_proto.specs.declared.directory.Request.{Request}
use Rattle.wt_proto.specs.declared.message.Body.{Body}
use Rattle.dir1sw.specs.Table.{grant_body}
use Rattle.coherence.specs.Pipes.{token_of, mark_of, not_from_home_of, tokens, marks, asks, IsLed}
use Rattle.coherence.specs.Block.{Cell, held, wanted, pipe, Roll, count_of}
use Rattle.coherence.specs.Block.Roll.{Idle, Shared, Exclusive, Busy}
use Rattle.coherence.specs.Facts.{Counts, NodeFacts, asks_waiting, asks_of_roll, asks_at_home, NodesFacts}
use Rattle.coherence.specs.Rows.{to_nobody, to_one, to_called, serve_of, AreCalled}
use Rattle.coherence.specs.Steps.{with_sent}
use Rattle.coherence.proofs.Pipes.{total_append, total_parts, asks_append, nothing_goes, nothing_comes, held_none, is_grant}
use Rattle.coherence.proofs.Cells.{part}
use Rattle.coherence.proofs.Rolls.{AreCalls, are_calls, read_counts, read_counts_other, owned_counts, owned_counts_other, no_reader, called_counts, owner_counts}

-- ---- the same node under another roll

pub under : (roll new : Roll) (node : ℕ) (before now : List Bool) (cell : Cell) → NodeFacts roll node before cell → now ≡ before → Counts new node (pipe cell) → NodeFacts new node now cell
under roll new node before now cell is same counts = record {
  led = is.led;
  one_place = (λ i. asks cell.to_home ++ same i ++ asks cell.from_home) ∙ is.one_place;
  no_token = λ some. is.no_token (λ e. some (same ∙ e));
  counts = counts;
  goes = is.goes;
  comes = is.comes;
}

pub sent_nothing : (cell : Cell) (bodies : List Body) → bodies ≡ [] → cell ≡ record cell { from_home = cell.from_home ++ bodies }
sent_nothing cell bodies none =
    (λ i. record cell { from_home = sym (append-nil cell.from_home) i }) ∙ (λ i. record cell { from_home = cell.from_home ++ sym none i })

pub to_nobody_keeps : (roll : Roll) (waiting : List Request) (cell : ℕ → Cell) → NodesFacts roll waiting cell → NodesFacts roll waiting (with_sent to_nobody cell)
to_nobody_keeps roll waiting cell is node =
    subst (λ (c : Cell). NodeFacts roll node (asks_at_home node roll waiting) c) (sent_nothing (cell node) [] refl) (is node)

-- ---- requests at the home

-- a list of one at most may be turned
pub turned : (first second : List Bool) → length (first ++ second) ≤ 1 → first ++ second ≡ second ++ first
turned [] second few = sym (append-nil second)
turned (x ∷ []) [] few = refl
turned (x ∷ []) (y ∷ second) few = absurd (omega arith)
turned (x ∷ y ∷ first) second few = absurd (omega arith)

wants_few : (wants : Option Bool) → length (wanted wants) ≤ 1
wants_few None = omega arith
wants_few (Some exclusive) = omega arith

pub home_few : (roll : Roll) (node : ℕ) (at_home : List Bool) (cell : Cell) → NodeFacts roll node at_home cell → length at_home ≤ 1
home_few roll node at_home cell is =
    let a = length-append (asks cell.to_home ++ at_home) (asks cell.from_home) in let b = length-append (asks cell.to_home) at_home in
    let e : length (asks cell.to_home ++ at_home ++ asks cell.from_home) ≡ length (wanted cell.wants) = ap length is.one_place in
    let w = wants_few cell.wants in omega arith

no_more : (list : List Bool) → length list ≤ 0 → list ≡ []
no_more [] few = refl
no_more (x ∷ list) few = absurd (omega arith)

-- The first in line has no other request at the home.
pub first_alone : (roll : Roll) (node : ℕ) (exclusive : Bool) (rest : List Request) (cell : Cell) → asks_of_roll node roll ≡ [] →
    NodeFacts roll node (asks_at_home node roll (record { node = node; exclusive = exclusive } ∷ rest)) cell →
    (asks_at_home node roll (record { node = node; exclusive = exclusive } ∷ rest) ≡ exclusive ∷ []) × (asks_waiting node rest ≡ [])
first_alone roll node exclusive rest cell none is = (shape ∙ ap (λ (l : List Bool). exclusive ∷ l) empty, empty)
  where
    all : List Bool
    all = asks_at_home node roll (record { node = node; exclusive = exclusive } ∷ rest)

    shape : all ≡ exclusive ∷ asks_waiting node rest
    shape = (λ i. (if eq-eqb node node refl i then exclusive ∷ [] else []) ++ asks_waiting node rest ++ none i) ∙ append-nil (exclusive ∷ asks_waiting node rest)

    empty : asks_waiting node rest ≡ []
    empty = let few : length all ≤ 1 = home_few roll node all cell is in let same : length all ≡ length (exclusive ∷ asks_waiting node rest) = ap length shape in
        no_more (asks_waiting node rest) (omega (arith, few, same))

one_alone : (exclusive : Bool) (before after : List Bool) (wants : Option Bool) → before ++ exclusive ∷ [] ++ after ≡ wanted wants → (before ≡ []) × (after ≡ [])
one_alone x [] after None e = absurd (let f : x ∷ after ≡ [] = e in cc)
one_alone x [] after (Some y) e = let f : x ∷ after ≡ y ∷ [] = e in (refl, cc)
one_alone x (b ∷ before) after None e = absurd (let f : b ∷ (before ++ x ∷ [] ++ after) ≡ [] = e in cc)
one_alone x (b ∷ before) after (Some y) e =
    absurd (let l : length (b ∷ (before ++ x ∷ [] ++ after)) ≡ 1 = ap length e in let m = length-append (before ++ x ∷ []) after in let n = length-append before (x ∷ []) in omega (arith, l, m, n))

-- ---- The crux: the pipe of a node whose request is served is empty.

pub record IsEmpty (cell : Cell) : Type 0 where
  pub up : cell.to_home ≡ []
  pub copy : cell.copy ≡ None
  pub down : cell.from_home ≡ []

pub served_pipe : (roll : Roll) (node : ℕ) (exclusive : Bool) (cell : Cell) → NodeFacts roll node (exclusive ∷ []) cell → marks (pipe cell) ≡ 0 → IsEmpty cell
served_pipe roll node exclusive cell is none = record {
  up = let t = total_parts token_of cell.to_home (held cell.copy) cell.from_home in let m = total_parts mark_of cell.to_home (held cell.copy) cell.from_home in
      nothing_goes cell.to_home (omega (arith, t, no_tokens)) (omega (arith, m, none)) (one_alone exclusive (asks cell.to_home) (asks cell.from_home) cell.wants is.one_place).0 is.goes;
  copy = let t = total_parts token_of cell.to_home (held cell.copy) cell.from_home in held_none cell.copy (omega (arith, t, no_tokens));
  down = let t = total_parts token_of cell.to_home (held cell.copy) cell.from_home in let m = total_parts mark_of cell.to_home (held cell.copy) cell.from_home in
      nothing_comes cell.from_home (omega (arith, t, no_tokens)) (omega (arith, m, none)) (one_alone exclusive (asks cell.to_home) (asks cell.from_home) cell.wants is.one_place).1 is.comes;
}
  where
    no_tokens : tokens (pipe cell) ≡ 0
    no_tokens = is.no_token (λ e. cc)

-- ---- Data is sent

pub answer_keeps : (roll new : Roll) (node : ℕ) (exclusive : Bool) (bytes : List ℕ) (rest : List Request) (cell : ℕ → Cell) →
    NodesFacts roll (record { node = node; exclusive = exclusive } ∷ rest) cell →
    ((other : ℕ) → asks_of_roll other roll ≡ []) → ((other : ℕ) → asks_of_roll other new ≡ []) → marks (pipe (cell node)) ≡ 0 →
    (Counts roll node [] → Counts new node (grant_body exclusive bytes ∷ [])) →
    ((other : ℕ) → (other == node) ≡ false → Counts roll other (pipe (cell other)) → Counts new other (pipe (cell other))) →
    NodesFacts new rest (with_sent (to_one node (grant_body exclusive bytes)) cell)
answer_keeps roll new node exclusive bytes rest cell is idle still none mine theirs k = elim (cases_Bool (k == node)) [
  | inl it ↦ subst (λ (j : ℕ). NodeFacts new j (asks_at_home j new rest) (with_sent (to_one node body) cell j)) (sym (eqb-true k node it)) here
  | inr it ↦ there k it
]
  where
    body : Body
    body = grant_body exclusive bytes

    line : List Request
    line = record { node = node; exclusive = exclusive } ∷ rest

    alone : (asks_at_home node roll line ≡ exclusive ∷ []) × (asks_waiting node rest ≡ [])
    alone = first_alone roll node exclusive rest (cell node) (idle node) (is node)

    facts : NodeFacts roll node (exclusive ∷ []) (cell node)
    facts = subst (λ (l : List Bool). NodeFacts roll node l (cell node)) alone.0 (is node)

    empty : IsEmpty (cell node)
    empty = served_pipe roll node exclusive (cell node) facts none

    nobody : asks_at_home node new rest ≡ []
    nobody = (λ i. alone.1 i ++ still node i)

    now : Cell
    now = part (cell node).wants None [] (body ∷ [])

    granted : NodeFacts new node (asks_at_home node new rest) now
    granted = record {
      led = refl;
      one_place = (λ i. nobody i ++ ((is_grant exclusive bytes).asks i ++ [])) ∙ (λ i. asks (sym empty.up i) ++ exclusive ∷ [] ++ asks (sym empty.down i)) ∙ facts.one_place;
      no_token = λ some. absurd (some nobody);
      counts = mine (subst (λ (l : List Body). Counts roll node l) (λ i. empty.up i ++ held (empty.copy i) ++ empty.down i) facts.counts);
      goes = refl;
      comes = let c = (is_grant exclusive bytes).comes in omega (arith, c);
    }

    same : now ≡ with_sent (to_one node body) cell node
    same = λ i. part (cell node).wants (sym empty.copy i) (sym empty.up i) (sym empty.down i ++ (if sym (eq-eqb node node refl) i then body ∷ [] else []))

    here : NodeFacts new node (asks_at_home node new rest) (with_sent (to_one node body) cell node)
    here = subst (λ (c : Cell). NodeFacts new node (asks_at_home node new rest) c) same granted

    there : (other : ℕ) → (other == node) ≡ false → NodeFacts new other (asks_at_home other new rest) (with_sent (to_one node body) cell other)
    there other differ =
        subst (λ (c : Cell). NodeFacts new other (asks_at_home other new rest) c) (sent_nothing (cell other) (to_one node body other) (λ i. if differ i then body ∷ [] else []))
        (under roll new other (asks_at_home other roll line) (asks_at_home other new rest) (cell other) (is other)
        (λ i. (if sym differ i then exclusive ∷ [] else []) ++ asks_waiting other rest ++ (still other ∙ sym (idle other)) i)
        (theirs other differ (is other).counts))

-- ---- copies are called back

pub call_back_keeps : (roll : Roll) (node : ℕ) (exclusive : Bool) (rest : List Request) (called : List ℕ) (cell : ℕ → Cell) →
    NodesFacts roll (record { node = node; exclusive = exclusive } ∷ rest) cell → ((other : ℕ) → asks_of_roll other roll ≡ []) →
    ((other : ℕ) → Counts (Busy node exclusive called) other (pipe (cell other) ++ to_called called other)) →
    NodesFacts (Busy node exclusive called) rest (with_sent (to_called called) cell)
call_back_keeps roll node exclusive rest called cell is idle counts k = record {
  led = subst IsLed longer (led (pipe (cell k)) (is k).led);
  one_place = (λ i. asks (cell k).to_home ++ at_home i ++ (asks_append (cell k).from_home new ∙ (λ j. asks (cell k).from_home ++ calls.asks j) ∙ append-nil (asks (cell k).from_home)) i) ∙ (is k).one_place;
  no_token = λ some. (ap tokens (sym longer) ∙ tokens_same) ∙ (is k).no_token (λ e. some (at_home ∙ e));
  counts = subst (λ (l : List Body). Counts (Busy node exclusive called) k l) longer (counts k);
  goes = (is k).goes;
  comes = let a = total_append not_from_home_of (cell k).from_home new in let b = calls.comes in let c = (is k).comes in omega (arith, a, b, c);
}
  where
    new : List Body
    new = to_called called k

    calls : AreCalls (count_of k called) new
    calls = are_calls called k

    longer : pipe (cell k) ++ new ≡ (cell k).to_home ++ held (cell k).copy ++ ((cell k).from_home ++ new)
    longer = append_assoc ((cell k).to_home ++ held (cell k).copy) (cell k).from_home new

    tokens_same : tokens (pipe (cell k) ++ new) ≡ tokens (pipe (cell k))
    tokens_same = let a = total_append token_of (pipe (cell k)) new in let b = calls.tokens in omega (arith, a, b)

    led : (bodies : List Body) → IsLed bodies → IsLed (bodies ++ new)
    led [] l = only new calls.tokens
      where
        only : (bodies : List Body) → tokens bodies ≡ 0 → IsLed bodies
        only [] t = tt
        only (body ∷ bodies) t = omega (arith, t)
    led (body ∷ bodies) l = let a = total_append token_of bodies new in let b = calls.tokens in omega (arith, a, b, l)

    mine : List Bool
    mine = if k == node then exclusive ∷ [] else []

    at_home : asks_at_home k (Busy node exclusive called) rest ≡ asks_at_home k roll (record { node = node; exclusive = exclusive } ∷ rest)
    at_home =
        turned (asks_waiting k rest) mine
        (let few = home_few roll k (asks_at_home k roll (record { node = node; exclusive = exclusive } ∷ rest)) (cell k) (is k) in
        let a = length-append (asks_waiting k rest) mine in let b = length-append (mine ++ asks_waiting k rest) (asks_of_roll k roll) in
        let c = length-append mine (asks_waiting k rest) in omega (arith, few, a, b, c))
        ∙ sym ((λ i. mine ++ asks_waiting k rest ++ idle k i) ∙ append-nil (mine ++ asks_waiting k rest))

-- ---- the first table

-- the entry isn't Busy
abbrev pub IsFree : Roll → Type 0
IsFree (Busy from exclusive called) = ⊥
IsFree _ = Unit {0}

pub serve_keeps : (node : ℕ) (exclusive : Bool) (called : List ℕ) (roll : Roll) (rest : List Request) (memory : List ℕ) (cell : ℕ → Cell) →
    IsFree roll → NodesFacts roll (record { node = node; exclusive = exclusive } ∷ rest) cell → AreCalled node called roll →
    NodesFacts (serve_of (record { node = node; exclusive = exclusive }) called (record { roll = roll; waiting = rest; memory = memory })).home.roll
    (serve_of (record { node = node; exclusive = exclusive }) called (record { roll = roll; waiting = rest; memory = memory })).home.waiting
    (with_sent (serve_of (record { node = node; exclusive = exclusive }) called (record { roll = roll; waiting = rest; memory = memory })).sent cell)
serve_keeps node exclusive called (Busy from for_x others) rest memory cell free is covers = absurd free
serve_keeps node false called Idle rest memory cell free is covers =
    answer_keeps Idle (Shared (node ∷ [])) node false memory rest cell is (λ other. refl) (λ other. refl) (is node).counts.2
    (read_counts node [] memory) (λ other differ. read_counts_other other node [] (pipe (cell other)) differ)
serve_keeps node false called (Shared readers) rest memory cell free is covers =
    answer_keeps (Shared readers) (Shared (readers ++ node ∷ [])) node false memory rest cell is (λ other. refl) (λ other. refl) (is node).counts.2
    (read_counts node readers memory) (λ other differ. read_counts_other other node readers (pipe (cell other)) differ)
serve_keeps node true called Idle rest memory cell free is covers =
    answer_keeps Idle (Exclusive node) node true memory rest cell is (λ other. refl) (λ other. refl) (is node).counts.2
    (λ counts. owned_counts node memory) (λ other differ. owned_counts_other other node (pipe (cell other)) differ)
serve_keeps node true [] (Shared readers) rest memory cell free is covers =
    answer_keeps (Shared readers) (Exclusive node) node true memory rest cell is (λ other. refl) (λ other. refl) (is node).counts.2
    (λ counts. owned_counts node memory)
    (λ other differ counts. owned_counts_other other node (pipe (cell other)) differ
    (no_reader other readers (pipe (cell other)) (let c = covers other differ in omega (arith, c)) counts))
serve_keeps node true (first ∷ called) (Shared readers) rest memory cell free is covers =
    call_back_keeps (Shared readers) node true rest (first ∷ called) cell is (λ other. refl)
    (λ other. called_counts node other true readers (first ∷ called) (pipe (cell other)) (covered other) (is other).counts)
  where
    none : tokens (pipe (cell node)) ≡ 0
    none = (is node).no_token (λ e. let f : (if node == node then true ∷ [] else []) ++ asks_waiting node rest ++ [] ≡ [] = e in let g : true ∷ (asks_waiting node rest ++ []) ≡ [] = rw (eq-eqb node node refl) at f in cc)

    covered : (other : ℕ) → tokens (pipe (cell other)) ≤ count_of other (first ∷ called)
    covered other = elim (cases_Bool (other == node)) [
      | inl it ↦ let z : tokens (pipe (cell other)) ≡ 0 = subst (λ (j : ℕ). tokens (pipe (cell j)) ≡ 0) (sym (eqb-true other node it)) none in omega (arith, z)
      | inr it ↦ let c = covers other it in let t = (is other).counts.0 in omega (arith, c, t)
    ]
serve_keeps node false called (Exclusive owner) rest memory cell free is covers =
    call_back_keeps (Exclusive owner) node false rest (owner ∷ []) cell is (λ other. refl)
    (λ other. owner_counts node other owner false (pipe (cell other)) (is other).counts)
serve_keeps node true called (Exclusive owner) rest memory cell free is covers =
    call_back_keeps (Exclusive owner) node true rest (owner ∷ []) cell is (λ other. refl)
    (λ other. owner_counts node other owner true (pipe (cell other)) (is other).counts)
