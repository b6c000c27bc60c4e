-- What a step of a processor does with the bytes of shared memory.
use Rattle.std.proofs.Common.{◌≡◌, ℕ, ◌%◌, ◌<◌, ◌≤◌, Bool, true, false, cond, List, [], ◌∷◌, length, Option, Some, None, Result, Ok, Err, refl, ap, sym, ◌∙◌, subst, inl, inr, arith}
use Rattle.std.specs.Prelude.{◌==◌, ⊤, ◌/◌}
use Rattle.std.proofs.lemmas.Bool.Decides.{nat_tests}
use Rattle.wt_params.specs.declared.parts.CostParts.{CostParts}
use Rattle.wt_params.specs.declared.parts.MachineParts.{MachineParts}
use Rattle.wt_params.specs.Machine.{IsMachine, shared_block}
use Rattle.rv_decode.specs.Table.{decode_of}
use Rattle.rv_decode.specs.declared.instr.CicoOp.{CicoOp}
use Rattle.rv_decode.specs.declared.instr.CicoOp.TheVariants.{CheckOutS, CheckOutX, CheckIn}
use Rattle.rv_decode.specs.declared.instr.Instr.{Instr}
use Rattle.rv_decode.specs.declared.instr.Instr.TheVariants as instrs
use Rattle.rv_decode.specs.declared.instr.LoadOp.{LoadOp}
use Rattle.rv_decode.specs.declared.instr.LoadOp.TheVariants.{Lb, Lh, Lw, Lbu, Lhu}
use Rattle.rv_decode.specs.declared.instr.StoreOp.{StoreOp}
use Rattle.rv_decode.specs.declared.instr.StoreOp.TheVariants.{Sb, Sh, Sw}
use Rattle.rv_exec.specs.declared.effect.Effect.{Effect}
use Rattle.rv_exec.specs.declared.effect.Effect.TheVariants.{Next, Load, Store, Cico, Call, Break, BadTarget, Illegal}
use Rattle.rv_exec.specs.Meaning.{meaning_of, transferred, offset_from}
use Rattle.rv_exec.specs.Widths.{load_width_of, store_width_of, widened}
use Rattle.priv_mem.specs.declared.fault.MemFault.{MemFault}
use Rattle.priv_mem.specs.declared.fault.MemFault.TheVariants.{Misaligned, Outside}
use Rattle.priv_mem.specs.Memory.{IsWidth, load_of, store_of, access_gives, is_outside, is_misaligned, low_bytes, overwritten}
use Rattle.wt_proto.specs.declared.mode.Mode.{Mode}
use Rattle.wt_proto.specs.declared.mode.Mode.TheVariants.{Running, Waiting}
use Rattle.wt_trace.specs.declared.record.Deed.TheVariants.{Loaded, Stored}
use Rattle.block_tags.specs.declared.tag.Tag.{Tag}
use Rattle.block_tags.specs.declared.tag.Tag.TheVariants.{Invalid, ReadOnly, Writable}
use Rattle.cico_ops.specs.Annotations.{action_of}
use Rattle.target_cache.specs.declared.line.Line.{Line}
use Rattle.target_cache.specs.Lines.{number_in}
use Rattle.target_cache.specs.Cached.{line_of, tag_of, read_of}
use Rattle.node.specs.declared.state.NodeState.{NodeState}
use Rattle.node.specs.State.{register, step_time, next_key}
use Rattle.node.specs.Handled.{Handled}
use Rattle.node.specs.SharedAccess.{offset_of, stored_value, hit_load_by, shared_load_of, hit_store_by, shared_store_of}
use Rattle.node.specs.PrivateAccess.{load_by, load_from, store_by, store_to}
use Rattle.node.specs.Annotation.{annotate_by, annotate_block, annotate_of}
use Rattle.node.specs.Call.{call_of}
use Rattle.node.specs.Processor.{fetch_of, meaning_in, effect_by, execute_of, step_by, step_of}
use Rattle.node.specs.React.{react, react_to_step, record_of, next_handled, counted_step}
use Rattle.node.specs.Sound.{CacheFits, IsNode}
use Rattle.discrete_events.specs.Simulation.{Step}
use Rattle.node.proofs.Accesses.{in_block, some_sets}
use Rattle.node.proofs.Memory.{load_outside, store_outside}
use Rattle.coherence.specs.Block.{Copy}
use Rattle.coherence.specs.Deals.{copy_by}
use Rattle.coherence.specs.Traces.{is_shared, load_by as load_op_by, load_in}
use Rattle.coherence.specs.Accesses.{IsLoadOf, StoresInCopy, IsDone}
use Rattle.coherence.proofs.CacheCopies.{line_writable, line_written}

-- ---- words

-- only a load's effect is a load
transferred_loads : (before after : List ℕ) (target : ℕ) (costs : CostParts) (op : LoadOp) (rd address : ℕ) → (transferred before after target costs).1 ≡ Load op rd address → ⊥
transferred_loads before after target costs op rd address is = by (target % 4 == 0) is
  where
    by : (b : Bool) → (cond {A = List ℕ × Effect} b (after, Next target costs.taken) (before, BadTarget target)).1 ≡ Load op rd address → ⊥
    by true e = cc
    by false e = cc

-- what of a meaning is a load is a load of the instruction
record IsLoadIn (instr : Instr) (meaning : List ℕ × Effect) : Type 0 where
  of : (op : LoadOp) (rd address : ℕ) → meaning.1 ≡ Load op rd address → load_op_by instr ≡ Some op

transferred_in : (instr : Instr) (before after : List ℕ) (target : ℕ) (costs : CostParts) → IsLoadIn instr (transferred before after target costs)
transferred_in instr before after target costs = record { of = λ op rd address is. absurd (transferred_loads before after target costs op rd address is) }

next_in : (instr : Instr) (x : List ℕ) (pc cost : ℕ) → IsLoadIn instr (x, Next pc cost)
next_in instr x pc cost = record { of = λ op rd address is. absurd cc }

branched_in : (instr : Instr) (b : Bool) (one other : List ℕ × Effect) → IsLoadIn instr one → IsLoadIn instr other → IsLoadIn instr (cond b one other)
branched_in instr true one other is_one is_other = is_one
branched_in instr false one other is_one is_other = is_other

meaning_in_load : (x : List ℕ) (pc : ℕ) (instr : Instr) (costs : CostParts) → IsLoadIn instr (meaning_of x pc instr costs)
unfolding meaning_of
meaning_in_load x pc (instrs.Branch kind rs1 rs2 imm) costs = branched_in _ _ _ _ (transferred_in _ x x (offset_from pc imm) costs) (next_in _ x _ _)
meaning_in_load x pc (instrs.Load one rd1 rs1 imm) costs = record { of = λ op rd address is. cc }
meaning_in_load x pc (instrs.Jal rd1 imm) costs = transferred_in _ _ _ _ costs
meaning_in_load x pc (instrs.Jalr rd1 rs1 imm) costs = transferred_in _ _ _ _ costs
meaning_in_load x pc (instrs.Lui rd1 imm) costs = record { of = λ op rd address is. absurd cc }
meaning_in_load x pc (instrs.Auipc rd1 imm) costs = record { of = λ op rd address is. absurd cc }
meaning_in_load x pc (instrs.Store one rs1 rs2 imm) costs = record { of = λ op rd address is. absurd cc }
meaning_in_load x pc (instrs.OpImm one rd1 rs1 imm) costs = record { of = λ op rd address is. absurd cc }
meaning_in_load x pc (instrs.Op one rd1 rs1 rs2) costs = record { of = λ op rd address is. absurd cc }
meaning_in_load x pc instrs.Fence costs = record { of = λ op rd address is. absurd cc }
meaning_in_load x pc instrs.Ecall costs = record { of = λ op rd address is. absurd cc }
meaning_in_load x pc instrs.Ebreak costs = record { of = λ op rd address is. absurd cc }
meaning_in_load x pc (instrs.Cico one rs1 imm) costs = record { of = λ op rd address is. absurd cc }
meaning_in_load x pc instrs.Illegal costs = record { of = λ op rd address is. absurd cc }

pub meaning_loads : (x : List ℕ) (pc : ℕ) (instr : Instr) (costs : CostParts) (op : LoadOp) (rd address : ℕ) → (meaning_of x pc instr costs).1 ≡ Load op rd address → load_op_by instr ≡ Some op
meaning_loads x pc instr costs op rd address is = (meaning_in_load x pc instr costs).of op rd address is

-- ---- widths

pub load_width : (op : LoadOp) → IsWidth (load_width_of op)
load_width Lb = inl refl
load_width Lh = inr (inl refl)
load_width Lw = inr (inr refl)
load_width Lbu = inl refl
load_width Lhu = inr (inl refl)

pub store_width : (op : StoreOp) → IsWidth (store_width_of op)
store_width Sb = inl refl
store_width Sh = inr (inl refl)
store_width Sw = inr (inr refl)

-- The bytes that a store writes are those of the number that is recorded.
pub low_stored : (op : StoreOp) (value : ℕ) → low_bytes (store_width_of op) (stored_value op value) ≡ low_bytes (store_width_of op) value
low_stored Sb value = let a : value % 256 % 256 ≡ value % 256 = omega arith in ap (λ (x : ℕ). x ∷ []) a
low_stored Sh value =
    let a : value % 65536 % 256 ≡ value % 256 = omega arith in
    let b : value % 65536 / 256 % 256 ≡ value / 256 % 256 = omega arith in
    (λ i. a i ∷ b i ∷ [])
low_stored Sw value =
    let a : value % 4294967296 % 256 ≡ value % 256 = omega arith in
    let b : value % 4294967296 / 256 % 256 ≡ value / 256 % 256 = omega arith in
    let c : value % 4294967296 / 256 / 256 % 256 ≡ value / 256 / 256 % 256 = omega arith in
    let d : value % 4294967296 / 256 / 256 / 256 % 256 ≡ value / 256 / 256 / 256 % 256 = omega arith in
    (λ i. a i ∷ b i ∷ c i ∷ d i ∷ [])

-- ---- private memory

-- What private memory answers lies in it.
answered : {A : Type 0} (given : ℕ → A) (misaligned : Bool) (size address width : ℕ) (answer : A) → 1 ≤ width →
    access_gives given (cond misaligned (Err Misaligned) (cond (is_outside size address width) (Err Outside) (Ok address))) ≡ Ok answer → address < size
answered given true size address width answer some is = absurd (let e : Err Misaligned ≡ Ok answer = is in cc)
answered given false size address width answer some is = by (is_outside size address width) refl is
  where
    by : (b : Bool) → is_outside size address width ≡ b → access_gives given (cond b (Err Outside) (Ok address)) ≡ Ok answer → address < size
    by true t e = absurd (let f : Err Outside ≡ Ok answer = e in cc)
    by false f e = grind (arith, nat_tests)

some_width : (width : ℕ) → IsWidth width → 1 ≤ width
some_width width (inl is) = omega (arith, is)
some_width width (inr (inl is)) = omega (arith, is)
some_width width (inr (inr is)) = omega (arith, is)

load_inside : (memory : List ℕ) (address width number : ℕ) → 1 ≤ width → load_of memory address width ≡ Ok number → address < length memory
unfolding load_of
load_inside memory address width number some is = answered _ (is_misaligned address width) (length memory) address width number some is

store_inside : (memory after : List ℕ) (address width number : ℕ) → 1 ≤ width → store_of memory address width number ≡ Ok after → address < length memory
unfolding store_of
store_inside memory after address width number some is = answered _ (is_misaligned address width) (length memory) address width after some is

-- ---- a step

-- what it does with bytes of shared memory, and who begins to wait is still at its word
pub record IsRight (machine : MachineParts) (old : NodeState) (handled : Handled) : Type 0 where
  pub load : (address value : ℕ) → handled.deed ≡ Loaded address value → is_shared address ≡ true → IsLoadOf machine (fetch_of machine old) address value handled.node.cache
  pub store : (address width value : ℕ) → handled.deed ≡ Stored address width value → is_shared address ≡ true → StoresInCopy machine address width value old.cache handled.node.cache
  pub waits : (block : ℕ) (exclusive : Bool) → handled.node.mode ≡ Waiting block exclusive → fetch_of machine handled.node ≡ fetch_of machine old

abbrev pub NotWaiting : Mode → Type 0
NotWaiting (Waiting block exclusive) = ⊥
NotWaiting mode = ⊤

module _ (machine : MachineParts) (time : ℕ) (old : NodeState) (is : IsMachine machine) (fits : CacheFits machine old.cache) (whole : length old.private ≡ machine.private_bytes) (running : old.mode ≡ Running) where
  abbrev Right : Handled → Type 0
  Right handled = IsRight machine old handled

  some : 1 ≤ old.cache.machine.sets
  some = some_sets machine old.cache is fits

  not_waiting : (mode : Mode) (block : ℕ) (exclusive : Bool) → NotWaiting mode → mode ≡ Waiting block exclusive → ⊥
  not_waiting mode block exclusive goes e = subst NotWaiting e goes

  -- Nothing is loaded or stored, and the processor doesn't wait, or is still at its word.
  begins : (handled : Handled) → (IsDone handled.deed → ⊥) → fetch_of machine handled.node ≡ fetch_of machine old → Right handled
  begins handled none same = record {
    load = λ address value e shared. absurd (none (subst IsDone (sym e) tt));
    store = λ address width value e shared. absurd (none (subst IsDone (sym e) tt));
    waits = λ block exclusive e. same;
  }

  ends : (handled : Handled) → (IsDone handled.deed → ⊥) → NotWaiting handled.node.mode → Right handled
  ends handled none goes = record {
    load = λ address value e shared. absurd (none (subst IsDone (sym e) tt));
    store = λ address width value e shared. absurd (none (subst IsDone (sym e) tt));
    waits = λ block exclusive e. absurd (not_waiting handled.node.mode block exclusive goes e);
  }

  goes_on : (handled : Handled) → (IsDone handled.deed → ⊥) → handled.node.mode ≡ old.mode → Right handled
  goes_on handled none mode = ends handled none (subst NotWaiting (sym (mode ∙ running)) tt)

  -- ---- loads

  not_private : (address : ℕ) → address < length old.private → is_shared address ≡ true → ⊥
  not_private address inside shared =
      let most = is.private_bytes.range.at_most in
      let size = whole in
      grind (arith, nat_tests)

  loaded : (op : LoadOp) (address value : ℕ) (handled : Handled) → handled.deed ≡ Loaded address value → handled.node.mode ≡ old.mode →
      (is_shared address ≡ true → IsLoadOf machine (fetch_of machine old) address value handled.node.cache) → Right handled
  loaded op address value handled deed mode right = record {
    load = λ at number e shared.
        let f : Loaded address value ≡ Loaded at number = sym deed ∙ e in
        let a : address ≡ at = cc in
        let b : value ≡ number = cc in
        subst (λ (n : ℕ). IsLoadOf machine (fetch_of machine old) at n handled.node.cache) b
        (subst (λ (x : ℕ). IsLoadOf machine (fetch_of machine old) x value handled.node.cache) a (right (subst (λ (x : ℕ). is_shared x ≡ true) (sym a) shared)));
    store = λ at width number e shared. absurd (let f : Loaded address value ≡ Stored at width number = sym deed ∙ e in cc);
    waits = λ block exclusive e. absurd (not_waiting handled.node.mode block exclusive (subst NotWaiting (sym (mode ∙ running)) tt) e);
  }

  stored : (address width value : ℕ) (handled : Handled) → handled.deed ≡ Stored address width value → handled.node.mode ≡ old.mode →
      (is_shared address ≡ true → StoresInCopy machine address width value old.cache handled.node.cache) → Right handled
  stored address width value handled deed mode right = record {
    load = λ at number e shared. absurd (let f : Stored address width value ≡ Loaded at number = sym deed ∙ e in cc);
    store = λ at size number e shared.
        let f : Stored address width value ≡ Stored at size number = sym deed ∙ e in
        let a : address ≡ at = cc in
        let w : width ≡ size = cc in
        let b : value ≡ number = cc in
        subst (λ (n : ℕ). StoresInCopy machine at size n old.cache handled.node.cache) b
        (subst (λ (s : ℕ). StoresInCopy machine at s value old.cache handled.node.cache) w
        (subst (λ (x : ℕ). StoresInCopy machine x width value old.cache handled.node.cache) a (right (subst (λ (x : ℕ). is_shared x ≡ true) (sym a) shared))));
    waits = λ block exclusive e. absurd (not_waiting handled.node.mode block exclusive (subst NotWaiting (sym (mode ∙ running)) tt) e);
  }

  module _ (op : LoadOp) (rd address : ℕ) (word : load_in (fetch_of machine old) ≡ Some op) where
    shared_loads : (found : Option ℕ) → shared_block machine address ≡ found → address % load_width_of op ≡ 0 → Right (shared_load_of machine time op rd address old found)
    shared_loads None there aligned = ends _ (λ done. done) tt
    shared_loads (Some block) there aligned = by (line_of old.cache block) refl
      where
        by : (line : Option Line) → line_of old.cache block ≡ line → Right (hit_load_by machine time op rd address block old (read_of old.cache block (offset_of machine address) (load_width_of op)))
        by None held = rw held (begins (hit_load_by machine time op rd address block old None) (λ done. done) refl)
        by (Some line) held = rw held
            (loaded op address (widened op (number_in (offset_of machine address) (load_width_of op) line))
            (hit_load_by machine time op rd address block old (Some (number_in (offset_of machine address) (load_width_of op) line))) refl refl
            (λ shared. record {
              block = block;
              there = there;
              op = op;
              is_load = word;
              writable = line.writable;
              bytes = line.bytes;
              held = ap copy_by held;
              inside = (in_block machine.block_bytes address (load_width_of op) is.block_bytes (load_width op) aligned).1;
              reads = refl;
            }))

    loads_from : Right (load_from machine time op rd address old)
    unfolding load_from
    loads_from = by (load_of old.private address (load_width_of op)) refl
      where
        by : (answer : Result ℕ MemFault) → load_of old.private address (load_width_of op) ≡ answer → Right (load_by machine time op rd address old answer)
        by (Ok number) given = loaded op address (widened op number) _ refl refl
            (λ shared. absurd (not_private address (load_inside old.private address (load_width_of op) number (some_width (load_width_of op) (load_width op)) given) shared))
        by (Err Misaligned) given = ends _ (λ done. done) tt
        by (Err Outside) given = shared_loads (shared_block machine address) refl (load_outside old.private address (load_width_of op) given)

  -- ---- stores

  module _ (op : StoreOp) (address value : ℕ) where
    stores_hit : (block : ℕ) → shared_block machine address ≡ Some block → address % store_width_of op ≡ 0 → tag_of old.cache block ≡ Writable → Right (hit_store_by machine time op address value block old Writable)
    stores_hit block there aligned tag =
        let line = line_writable (line_of old.cache block) tag in
        let old_line = line.0 in
        let w = line.2 in
        stored address (store_width_of op) (stored_value op value) _ refl refl
        (λ shared. record {
          block = block;
          bytes = old_line.bytes;
          copy = ap copy_by line.1 ∙ ap (λ (x : Bool). let copy : Copy = record { writable = x; bytes = old_line.bytes } in Some copy) w;
          store = record {
            there = there;
            inside = (in_block machine.block_bytes address (store_width_of op) is.block_bytes (store_width op) aligned).1;
            held = ap copy_by (line_written old.cache block (offset_of machine address) (store_width_of op) value old_line fits.sound some line.1 w)
                ∙ ap (λ (x : Bool). let copy : Copy = record { writable = x; bytes = overwritten old_line.bytes (offset_of machine address) (low_bytes (store_width_of op) value) } in Some copy) w
                ∙ ap (λ (l : List ℕ). let copy : Copy = record { writable = true; bytes = overwritten old_line.bytes (offset_of machine address) l } in Some copy) (sym (low_stored op value));
          };
        })

    shared_stores : (found : Option ℕ) → shared_block machine address ≡ found → address % store_width_of op ≡ 0 → Right (shared_store_of machine time op address value old found)
    shared_stores None there aligned = ends _ (λ done. done) tt
    shared_stores (Some block) there aligned = by (tag_of old.cache block) refl
      where
        by : (tag : Tag) → tag_of old.cache block ≡ tag → Right (hit_store_by machine time op address value block old tag)
        by Writable held = stores_hit block there aligned held
        by ReadOnly held = begins _ (λ done. done) refl
        by Invalid held = begins _ (λ done. done) refl

    stores_into : Right (store_to machine time op address value old)
    unfolding store_to
    stores_into = by (store_of old.private address (store_width_of op) value) refl
      where
        by : (answer : Result (List ℕ) MemFault) → store_of old.private address (store_width_of op) value ≡ answer → Right (store_by machine time op address value old answer)
        by (Ok memory) given = stored address (store_width_of op) (stored_value op value) _ refl refl
            (λ shared. absurd (not_private address (store_inside old.private memory address (store_width_of op) value (some_width (store_width_of op) (store_width op)) given) shared))
        by (Err Misaligned) given = ends _ (λ done. done) tt
        by (Err Outside) given = shared_stores (shared_block machine address) refl (store_outside old.private address (store_width_of op) value given)

  -- ---- annotations and calls

  annotates_by : (op : CicoOp) (block : ℕ) (tag : Tag) → Right (annotate_by machine time block old (action_of op tag))
  annotates_by CheckOutS block Invalid = begins _ (λ done. done) refl
  annotates_by CheckOutS block ReadOnly = goes_on _ (λ done. done) refl
  annotates_by CheckOutS block Writable = goes_on _ (λ done. done) refl
  annotates_by CheckOutX block Invalid = begins _ (λ done. done) refl
  annotates_by CheckOutX block ReadOnly = begins _ (λ done. done) refl
  annotates_by CheckOutX block Writable = goes_on _ (λ done. done) refl
  annotates_by CheckIn block Invalid = goes_on _ (λ done. done) refl
  annotates_by CheckIn block ReadOnly = goes_on _ (λ done. done) refl
  annotates_by CheckIn block Writable = goes_on _ (λ done. done) refl

  annotates_at : (op : CicoOp) (address : ℕ) → Right (annotate_of machine time op address old)
  unfolding annotate_of
  annotates_at op address = by (shared_block machine address)
    where
      by : (found : Option ℕ) → Right (annotate_block machine time op old found)
      by None = goes_on _ (λ done. done) refl
      by (Some block) = annotates_by op block (tag_of old.cache block)

  either : (test : Bool) (one other : Handled) → Right one → Right other → Right (cond test one other)
  either true one other is_one is_other = is_one
  either false one other is_one is_other = is_other

  calls : Right (call_of machine time old)
  unfolding call_of
  calls =
      let call = register old 17 in
      either (call == 1) _ _ (goes_on _ (λ done. done) refl)
      (either (call == 2) _ _ (goes_on _ (λ done. done) refl)
      (either (call == 3) _ _ (goes_on _ (λ done. done) refl)
      (either (call == 4) _ _ (goes_on _ (λ done. done) refl)
      (either (call == 5) _ _ (either (machine.nodes == 1) _ _ (goes_on _ (λ done. done) refl) (ends _ (λ done. done) tt))
      (either (call == 93) _ _ (either (machine.nodes == 1) _ _ (ends _ (λ done. done) tt) (ends _ (λ done. done) tt)) (ends _ (λ done. done) tt))))))

  -- ---- the step

  does : (word : ℕ) → fetch_of machine old ≡ Some word → (registers : List ℕ) (effect : Effect) → (meaning_in machine word old).1 ≡ effect → Right (effect_by machine time word old registers effect)
  does word fetched registers (Next pc cost) means = goes_on _ (λ done. done) refl
  does word fetched registers (Load op rd address) means =
      loads_from op rd address (ap load_in fetched ∙ meaning_loads old.registers old.pc (decode_of word) machine.costs op rd address means)
  does word fetched registers (Store op address value) means = stores_into op address value
  does word fetched registers (Cico op address) means = annotates_at op address
  does word fetched registers Call means = calls
  does word fetched registers Break means = ends _ (λ done. done) tt
  does word fetched registers (BadTarget target) means = ends _ (λ done. done) tt
  does word fetched registers Illegal means = ends _ (λ done. done) tt

  pub step_right : Right (step_of machine time old)
  unfolding execute_of
  step_right = by (fetch_of machine old) refl
    where
      by : (found : Option ℕ) → fetch_of machine old ≡ found → Right (step_by machine time old found)
      by None fetched = ends _ (λ done. done) tt
      by (Some word) fetched = does word fetched (meaning_in machine word old).0 (meaning_in machine word old).1 refl

-- ---- the node after its step

right_step : (machine : MachineParts) (node : NodeState) → IsNode machine node → node.mode ≡ Running → IsRight machine node (next_handled machine node)
right_step machine node is running =
    let right = step_right machine (step_time node) (counted_step (next_key machine node) node) is.numbers is.cache is.private running in
    record { load = right.load; store = right.store; waits = right.waits }

pub step_load_law : (machine : MachineParts) (node : NodeState) (address value : ℕ) → IsNode machine node → node.mode ≡ Running →
    (record_of machine node Step).deed ≡ Loaded address value → is_shared address ≡ true →
    IsLoadOf machine (fetch_of machine node) address value (react machine node Step).0.cache
unfolding react_to_step record_of
step_load_law machine node address value is running deed shared = (right_step machine node is running).load address value deed shared

pub step_store_law : (machine : MachineParts) (node : NodeState) (address width value : ℕ) → IsNode machine node → node.mode ≡ Running →
    (record_of machine node Step).deed ≡ Stored address width value → is_shared address ≡ true →
    StoresInCopy machine address width value node.cache (react machine node Step).0.cache
unfolding react_to_step record_of
step_store_law machine node address width value is running deed shared = (right_step machine node is running).store address width value deed shared

pub step_waits_law : (machine : MachineParts) (node : NodeState) (block : ℕ) (exclusive : Bool) → IsNode machine node → node.mode ≡ Running →
    (react machine node Step).0.mode ≡ Waiting block exclusive → fetch_of machine (react machine node Step).0 ≡ fetch_of machine node
unfolding react_to_step
step_waits_law machine node block exclusive is running waits = (right_step machine node is running).waits block exclusive waits
