-- How often nodes stand in the lists of a roll, and what a change of the roll allows.
use Rattle.std.proofs.Common.{◌≡◌, ℕ, ◌+◌, ◌≤◌, ◌⊎◌, inl, inr, Bool, true, false, List, [], ◌∷◌, ◌++◌, refl, ap, sym, ◌∙◌, subst, arith, eq-eqb, eqb-true}
use Rattle.std.specs.Prelude.{◌==◌, if◌then◌else◌}
use Rattle.std.proofs.lemmas.Bool.{cases_Bool}
use Rattle.wt_proto.specs.declared.message.Body.{Body}
use Rattle.wt_proto.specs.declared.message.Body.TheVariants.{DataS, DataX, Inv}
use Rattle.coherence.specs.Pipes.{token_of, writer_of, mark_of, not_from_home_of, total, tokens, writers, asks, IsLed}
use Rattle.coherence.specs.Block.{count_of, without}
use Rattle.coherence.specs.Block.Roll.{Idle, Shared, Exclusive, Busy}
use Rattle.coherence.specs.Facts.{Counts}
use Rattle.coherence.specs.Rows.{to_called, shared_by}
use Rattle.coherence.proofs.Pipes.{total_append, writers_few}

-- ---- lists of nodes

pub count_append : (node : ℕ) (first second : List ℕ) → count_of node (first ++ second) ≡ count_of node first + count_of node second
count_append node [] second = omega arith
count_append node (x ∷ first) second = let rest = count_append node first second in omega arith

pub count_without : (node : ℕ) (list : List ℕ) → 1 ≤ count_of node list → count_of node (without node list) + 1 ≡ count_of node list
count_without node [] some = absurd (omega arith)
count_without node (x ∷ list) some = elim (cases_Bool (node == x)) [
  | inl is ↦ rw is (omega arith)
  | inr is ↦ let rest = count_without node list (let s : 1 ≤ 0 + count_of node list = rw is at some in omega arith) in rw is (rw is (omega arith))
]

pub count_other : (other node : ℕ) (list : List ℕ) → (other == node) ≡ false → count_of other (without node list) ≡ count_of other list
count_other other node [] differ = refl
count_other other node (x ∷ list) differ = elim (cases_Bool (node == x)) [
  | inl is ↦ let e : x ≡ node = sym (eqb-true node x is) in let nil : (other == x) ≡ false = subst (λ (k : ℕ). (other == k) ≡ false) (sym e) differ in rw is (rw nil (omega arith))
  | inr is ↦ let rest = count_other other node list differ in rw is (omega arith)
]

pub count_itself : (node : ℕ) → count_of node (node ∷ []) ≡ 1
count_itself node = rw (eq-eqb node node refl) refl

pub count_another : (other node : ℕ) → (other == node) ≡ false → count_of other (node ∷ []) ≡ 0
count_another other node differ = rw differ refl

-- the other way round
pub differs : (node other : ℕ) → (other == node) ≡ false → (node == other) ≡ false
differs node other differ = elim (cases_Bool (node == other)) [
  | inl is ↦ absurd (let e : other ≡ node = sym (eqb-true node other is) in let same : (other == node) ≡ true = eq-eqb other node e in let no_way : true ≡ false = sym same ∙ differ in cc)
  | inr is ↦ is
]

-- ---- calls

-- so many Invs
pub record AreCalls (count : ℕ) (bodies : List Body) : Type 0 where
  pub tokens : total token_of bodies ≡ 0
  pub writers : total writer_of bodies ≡ 0
  pub marks : total mark_of bodies ≡ count
  pub comes : total not_from_home_of bodies ≡ 0
  pub asks : asks bodies ≡ []

pub are_calls : (called : List ℕ) (node : ℕ) → AreCalls (count_of node called) (to_called called node)
are_calls [] node = record { tokens = refl; writers = refl; marks = refl; comes = refl; asks = refl }
are_calls (first ∷ rest) node = by (node == first) (are_calls rest node)
  where
    by : (is_it : Bool) → AreCalls (count_of node rest) (to_called rest node) → AreCalls ((if is_it then 1 else 0) + count_of node rest) ((if is_it then Inv ∷ [] else []) ++ to_called rest node)
    by true are = record {
      tokens = let a = are.tokens in omega (arith, a);
      writers = let a = are.writers in omega (arith, a);
      marks = let a = are.marks in omega (arith, a);
      comes = let a = are.comes in omega (arith, a);
      asks = are.asks;
    }
    by false are = record {
      tokens = are.tokens;
      writers = are.writers;
      marks = let a = are.marks in omega (arith, a);
      comes = are.comes;
      asks = are.asks;
    }

-- ---- what a change of the roll allows

pub by_shared : (node : ℕ) (readers : List ℕ) (bodies : List Body) → Counts (Shared readers) node bodies → Counts (shared_by readers) node bodies
by_shared node [] bodies is = is
by_shared node (first ∷ rest) bodies is = is

-- PutS is taken, or a GetX with a copy had
pub put_counts : (node : ℕ) (readers : List ℕ) (body : Body) (bodies : List Body) → IsLed (body ∷ bodies) → token_of body ≡ 1 →
    Counts (Shared readers) node (body ∷ bodies) → Counts (Shared (without node readers)) node bodies
put_counts node readers body bodies led one is =
    let c = is.0 in let w = is.1 in let m = is.2 in let gone = count_without node readers (omega (arith, one, c)) in let few = writers_few bodies in
    (omega (arith, one, c, gone, led), omega (arith, w), omega (arith, m))

-- a copy to read is granted
pub read_counts : (node : ℕ) (readers : List ℕ) (bytes : List ℕ) → Counts (Shared readers) node [] → Counts (Shared (readers ++ node ∷ [])) node (DataS bytes ∷ [])
read_counts node readers bytes is =
    let c = is.0 in let more = count_append node readers (node ∷ []) in let one = count_itself node in
    (omega (arith, c, more, one), omega arith, omega arith)

pub read_counts_other : (other node : ℕ) (readers : List ℕ) (bodies : List Body) → (other == node) ≡ false →
    Counts (Shared readers) other bodies → Counts (Shared (readers ++ node ∷ [])) other bodies
read_counts_other other node readers bodies differ is =
    let c = is.0 in let more = count_append other readers (node ∷ []) in let none = count_another other node differ in
    (omega (arith, c, more, none), is.1, is.2)

-- the block is granted alone
pub owned_counts : (node : ℕ) (bytes : List ℕ) → Counts (Exclusive node) node (DataX bytes ∷ [])
owned_counts node bytes = (first, refl, refl)
  where
    first : 1 + 0 ≡ (if node == node then 1 else 0)
    first = rw (eq-eqb node node refl) refl

pub owned_counts_other : (other node : ℕ) (bodies : List Body) → (other == node) ≡ false → Counts Idle other bodies → Counts (Exclusive node) other bodies
owned_counts_other other node bodies differ is = (rw differ is.0, is.1 ∙ sym is.0, is.2)

-- nobody reads
pub no_reader : (node : ℕ) (readers : List ℕ) (bodies : List Body) → count_of node readers ≡ 0 → Counts (Shared readers) node bodies → Counts Idle node bodies
no_reader node readers bodies none is = (is.0 ∙ none, is.1, is.2)

-- readers are called back
pub called_counts : (from node : ℕ) (exclusive : Bool) (readers called : List ℕ) (bodies : List Body) → tokens bodies ≤ count_of node called →
    Counts (Shared readers) node bodies → Counts (Busy from exclusive called) node (bodies ++ to_called called node)
called_counts from node exclusive readers called bodies covers is =
    let calls = are_calls called node in
    let t = total_append token_of bodies (to_called called node) in let w = total_append writer_of bodies (to_called called node) in let m = total_append mark_of bodies (to_called called node) in
    let ct = calls.tokens in let cw = calls.writers in let cm = calls.marks in let iw = is.1 in let im = is.2 in
    (omega (arith, t, m, ct, cm, im, covers), inl (omega (arith, w, cw, iw)), omega (arith, m, cm, im))

-- an owner is called back
pub owner_counts : (from node owner : ℕ) (exclusive : Bool) (bodies : List Body) →
    Counts (Exclusive owner) node bodies → Counts (Busy from exclusive (owner ∷ [])) node (bodies ++ to_called (owner ∷ []) node)
owner_counts from node owner exclusive bodies is =
    let calls = are_calls (owner ∷ []) node in
    let t = total_append token_of bodies (to_called (owner ∷ []) node) in let m = total_append mark_of bodies (to_called (owner ∷ []) node) in
    let ct = calls.tokens in let cm = calls.marks in let it = is.0 in let im = is.2 in
    (omega (arith, t, m, ct, cm, im, it), alone, omega (arith, m, cm, im))
  where
    alone : (writers (bodies ++ to_called (owner ∷ []) node) ≡ 0) ⊎ (owner ∷ [] ≡ node ∷ [])
    alone = elim (cases_Bool (node == owner)) [
      | inl is_it ↦ inr (ap (λ (k : ℕ). k ∷ []) (sym (eqb-true node owner is_it)))
      | inr is_it ↦ inl
          (let calls = are_calls (owner ∷ []) node in let w = total_append writer_of bodies (to_called (owner ∷ []) node) in let cw = calls.writers in
          let none : tokens bodies ≡ 0 = rw is_it at is.0 in let iw = is.1 in omega (arith, w, cw, none, iw))
    ]

-- an answer is taken
pub answered_counts : (from node : ℕ) (exclusive : Bool) (called : List ℕ) (body : Body) (bodies : List Body) → IsLed (body ∷ bodies) → mark_of body ≡ 1 →
    Counts (Busy from exclusive called) node (body ∷ bodies) → Counts (Busy from exclusive (without node called)) node bodies
answered_counts from node exclusive called body bodies led one is =
    let m = is.2 in let gone = count_without node called (omega (arith, one, m)) in let few = writers_few bodies in
    (omega (arith, led), inl (omega (arith, led, few)), omega (arith, one, m, gone))

-- of another node than the one that answers
pub answered_counts_other : (from other node : ℕ) (exclusive : Bool) (called : List ℕ) (bodies : List Body) → (other == node) ≡ false → 1 ≤ count_of node called →
    Counts (Busy from exclusive called) other bodies → Counts (Busy from exclusive (without node called)) other bodies
answered_counts_other from other node exclusive called bodies differ some is = (is.0, alone is.1, is.2 ∙ sym (count_other other node called differ))
  where
    alone : (writers bodies ≡ 0) ⊎ (called ≡ other ∷ []) → (writers bodies ≡ 0) ⊎ (without node called ≡ other ∷ [])
    alone (inl none) = inl none
    alone (inr e) = absurd (let z : count_of node called ≡ 0 = ap (count_of node) e ∙ count_another node other (differs node other differ) in omega (arith, some, z))

-- All have answered: nobody has a token or a mark.
pub all_answered : (from node : ℕ) (exclusive : Bool) (bodies : List Body) → Counts (Busy from exclusive []) node bodies → Counts Idle node bodies
all_answered from node exclusive bodies is =
    let t = is.0 in let m = is.2 in let few = writers_few bodies in (omega (arith, t, m), omega (arith, t, m, few), omega (arith, m))
