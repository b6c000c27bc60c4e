-- The test of each field is passed exactly where a machine's numbers are in their ranges.
use Rattle.std.proofs.Common.{◌≡◌, ℕ, Bool, true, false, not, ◌&&◌, ◌||◌, zero, suc, List, [], ◌∷◌, Option, Some, None, cond, refl, ap, eqb-true, eq-eqb}
use Rattle.std.specs.Prelude.{find, slice_get, ◌==◌}
use Rattle.std.proofs.lemmas.Bool.{and_parts, or_cases, leb-true, le-leb}
use mathlib.Core.Logic.{inl, inr}
use Rattle.wt_params.specs.declared.parts.MachineParts.{MachineParts}
use Rattle.wt_params.specs.declared.parts.Field.{Field}
use Rattle.wt_params.specs.declared.parts.Field.TheVariants.{Nodes, PrivateBytes, BlockBytes, Blocks, Sets, Ways, Latency, SelfLatency, Hop, Width, Pointers, Quantum, EventLimit, Budget, Op, Taken, Mem, Hit, Cico, Call, Fill, Trap, TrapEach}
use Rattle.wt_params.specs.Machine.{InRange, IsMachine, IsBlockSize}
use Rattle.wt_params.specs.Fields.{fields, is_within, is_in_range, fault_at, fault_of}

within : (least greatest value : ℕ) → is_within least greatest value ≡ true → InRange least greatest value
within least greatest value h =
    let parts = and_parts _ _ h in
    record { at_least = leb-true _ _ parts.0; at_most = leb-true _ _ parts.1 }

tested : (least greatest value : ℕ) → InRange least greatest value → is_within least greatest value ≡ true
tested least greatest value h =
    simp (le-leb _ _ h.at_least, le-leb _ _ h.at_most)

-- what a search says of the first element
head_of_none : {X : Type 0} (b : Bool) (x : X) (rest : Option X) → cond (not b) (Some x) rest ≡ None → (b ≡ true) × (rest ≡ None)
head_of_none true x rest none = (refl, none)
head_of_none false x rest none = cc

-- a search that finds nothing passes over each element
pub none-at : {X : Type 0} (p : X → Bool) (xs : List X) → find (λ x. not (p x)) xs ≡ None → (i : ℕ) (x : X) → slice_get xs i ≡ Some x → p x ≡ true
none-at p [] none i x at = cc
none-at p (y ∷ ys) none zero x at =
    let e : y ≡ x = cc in
    rw (← e) ((head_of_none (p y) y (find (λ x. not (p x)) ys) none).0)
none-at p (y ∷ ys) none (suc i) x at =
    none-at p ys ((head_of_none (p y) y (find (λ x. not (p x)) ys) none).1) i x at

pub find-none : {X : Type 0} (p : X → Bool) → ((x : X) → p x ≡ true) → (xs : List X) → find (λ x. not (p x)) xs ≡ None
find-none p all [] = refl
find-none p all (x ∷ xs) = simp (all x) (find-none p all xs)

-- no fault was found, so nothing was
nothing_at : (machine : MachineParts) (found : Option Field) → fault_at machine found ≡ None → found ≡ None
nothing_at machine None h = refl
nothing_at machine (Some field) h = cc

block_size : (bytes : ℕ) → ((bytes == 16) || (bytes == 32) || (bytes == 64) || (bytes == 128)) ≡ true → IsBlockSize bytes
block_size bytes h =
    elim (or_cases _ _ h) [
      | inl a ↦ elim (or_cases _ _ a) [
        | inl b ↦ elim (or_cases _ _ b) [ inl c ↦ inl (eqb-true _ _ c) | inr c ↦ inr (inl (eqb-true _ _ c)) ]
        | inr b ↦ inr (inr (inl (eqb-true _ _ b)))
      ]
      | inr a ↦ inr (inr (inr (eqb-true _ _ a)))
    ]

-- a machine without a fault has each number in its range
pub ranges_from_none : (machine : MachineParts) → fault_of machine ≡ None → IsMachine machine
ranges_from_none machine none =
    let nothing = nothing_at machine _ none in
    let passed = λ (i : ℕ) (field : Field) (at : slice_get fields i ≡ Some field). none-at (is_in_range machine) fields nothing i field at in
    let private = and_parts _ _ (passed 1 PrivateBytes refl) in
    let ways = and_parts _ _ (passed 5 Ways refl) in
    record {
      nodes = within _ _ _ (passed 0 Nodes refl);
      private_bytes = record { range = within _ _ _ private.0; pages = eqb-true _ _ private.1 };
      block_bytes = block_size _ (passed 2 BlockBytes refl);
      blocks = within _ _ _ (passed 3 Blocks refl);
      sets = within _ _ _ (passed 4 Sets refl);
      ways = within _ _ _ ways.0;
      lines = leb-true _ _ ways.1;
      latency = within _ _ _ (passed 6 Latency refl);
      self_latency = within _ _ _ (passed 7 SelfLatency refl);
      hop = within _ _ _ (passed 8 Hop refl);
      width = within _ _ _ (passed 9 Width refl);
      pointers = within _ _ _ (passed 10 Pointers refl);
      quantum = within _ _ _ (passed 11 Quantum refl);
      event_limit = within _ _ _ (passed 12 EventLimit refl);
      budget = within _ _ _ (passed 13 Budget refl);
      costs = record {
        op = within _ _ _ (passed 14 Op refl);
        taken = within _ _ _ (passed 15 Taken refl);
        mem = within _ _ _ (passed 16 Mem refl);
        hit = within _ _ _ (passed 17 Hit refl);
        cico = within _ _ _ (passed 18 Cico refl);
        call = within _ _ _ (passed 19 Call refl);
        fill = within _ _ _ (passed 20 Fill refl);
        trap = within _ _ _ (passed 21 Trap refl);
        trap_each = within _ _ _ (passed 22 TrapEach refl);
      };
    }

is_block_size : (bytes : ℕ) → IsBlockSize bytes → ((bytes == 16) || (bytes == 32) || (bytes == 64) || (bytes == 128)) ≡ true
is_block_size bytes (inl e) = rw e refl
is_block_size bytes (inr (inl e)) = rw e refl
is_block_size bytes (inr (inr (inl e))) = rw e refl
is_block_size bytes (inr (inr (inr e))) = rw e refl

both : (a b : Bool) → a ≡ true → b ≡ true → (a && b) ≡ true
both a b h k = rw (h, k) refl

-- each field of a machine passes its test
passes : (machine : MachineParts) → IsMachine machine → (field : Field) → is_in_range machine field ≡ true
passes machine h Nodes = tested _ _ _ h.nodes
passes machine h PrivateBytes = both _ _ (tested _ _ _ h.private_bytes.range) (eq-eqb _ _ h.private_bytes.pages)
passes machine h BlockBytes = is_block_size _ h.block_bytes
passes machine h Blocks = tested _ _ _ h.blocks
passes machine h Sets = tested _ _ _ h.sets
passes machine h Ways = both _ _ (tested _ _ _ h.ways) (le-leb _ _ h.lines)
passes machine h Latency = tested _ _ _ h.latency
passes machine h SelfLatency = tested _ _ _ h.self_latency
passes machine h Hop = tested _ _ _ h.hop
passes machine h Width = tested _ _ _ h.width
passes machine h Pointers = tested _ _ _ h.pointers
passes machine h Quantum = tested _ _ _ h.quantum
passes machine h EventLimit = tested _ _ _ h.event_limit
passes machine h Budget = tested _ _ _ h.budget
passes machine h Op = tested _ _ _ h.costs.op
passes machine h Taken = tested _ _ _ h.costs.taken
passes machine h Mem = tested _ _ _ h.costs.mem
passes machine h Hit = tested _ _ _ h.costs.hit
passes machine h Cico = tested _ _ _ h.costs.cico
passes machine h Call = tested _ _ _ h.costs.call
passes machine h Fill = tested _ _ _ h.costs.fill
passes machine h Trap = tested _ _ _ h.costs.trap
passes machine h TrapEach = tested _ _ _ h.costs.trap_each

-- a machine with each number in its range has no fault
pub none_from_ranges : (machine : MachineParts) → IsMachine machine → fault_of machine ≡ None
none_from_ranges machine h = ap (fault_at machine) (find-none (is_in_range machine) (passes machine h) fields)
