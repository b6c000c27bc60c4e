-- What a step of a processor keeps and sends, leaf by leaf.
use Rattle.std.proofs.Common.{◌≡◌, ℕ, inl, inr, Bool, true, false, cond, List, [], ◌∷◌, Option, Some, None, Result, Ok, Err, refl, ap, sym, ◌∙◌}
use Rattle.std.specs.Prelude.{◌==◌}
use Rattle.std.proofs.lemmas.Bool.{cases_Bool}
use Rattle.wt_params.specs.declared.parts.MachineParts.{MachineParts}
use Rattle.wt_params.specs.Machine.{shared_block}
use Rattle.rv_decode.specs.declared.instr.CicoOp.{CicoOp}
use Rattle.rv_decode.specs.declared.instr.LoadOp.{LoadOp}
use Rattle.rv_decode.specs.declared.instr.StoreOp.{StoreOp}
use Rattle.rv_exec.specs.declared.effect.Effect.{Effect}
use Rattle.rv_exec.specs.declared.effect.Effect.TheVariants.{Next, Load, Store, Cico, Call, Break, BadTarget, Illegal}
use Rattle.rv_exec.specs.Widths.{load_width_of, store_width_of}
use Rattle.priv_mem.specs.declared.fault.MemFault.{MemFault}
use Rattle.priv_mem.specs.declared.fault.MemFault.TheVariants.{Misaligned, Outside}
use Rattle.priv_mem.specs.Memory.{load_of, store_of}
use Rattle.wt_proto.specs.declared.message.Body.TheVariants.{GetS, GetX, Arrive, Leave}
use Rattle.wt_proto.specs.declared.mode.Mode.TheVariants.{Running}
use Rattle.block_tags.specs.declared.tag.Tag.{Tag}
use Rattle.block_tags.specs.declared.tag.Tag.TheVariants.{Invalid, ReadOnly, Writable}
use Rattle.cico_ops.specs.declared.annotation.CicoAction.{CicoAction}
use Rattle.cico_ops.specs.declared.annotation.CicoAction.TheVariants as actions
use Rattle.cico_ops.specs.Annotations.{action_of}
use Rattle.target_cache.specs.Cached.{line_of, tag_of, read_of}
use Rattle.node.specs.declared.state.NodeState.{NodeState}
use Rattle.node.specs.State.{register, step_time, next_key}
use Rattle.node.specs.declared.state.Send.{Send}
use Rattle.node.specs.Handled.{Handled, message_to, to_home}
use Rattle.node.specs.SharedAccess.{offset_of, hit_load_by, shared_load_of, hit_store_by, shared_store_of}
use Rattle.node.specs.PrivateAccess.{load_by, load_from, store_by, store_to}
use Rattle.node.specs.Annotation.{annotate_by, annotate_block, annotate_of}
use Rattle.node.specs.Call.{barrier_call_of, exit_of, call_of}
use Rattle.node.specs.Processor.{fetch_of, meaning_in, effect_by, execute_of, step_by, step_of}
use Rattle.node.specs.React.{stamped_from, counted_step}
use Rattle.coherence.specs.Meetings.{waits_once, gone_once}
use Rattle.coherence.specs.Meetings.Stand.{Away}
use Rattle.coherence.specs.Moves.{stand_in, Tells, IsLeft}
use Rattle.coherence.proofs.Sent.{AreRight, AreOwn, ArePlain, plain_right, plain_own, plain_others, back_plain, tells_none, one_told}

-- A node keeps its number and all but its processor and its copies, and what it sends is right and no home's. Where there
-- are several nodes, nothing is told but by who comes to the barrier or leaves.
pub record IsWalked (machine : MachineParts) (time : ℕ) (old : NodeState) (handled : Handled) : Type 0 where
  pub number : handled.node.number ≡ old.number
  pub left : IsLeft old handled.node
  pub right : AreRight machine old.number time time handled.sends
  pub own : AreOwn handled.sends
  pub told : (machine.nodes == 1) ≡ false → old.mode ≡ Running → (m : MachineParts) (from sequence : ℕ) →
      Tells (waits_once (stand_in handled.node.mode)) (gone_once (stand_in handled.node.mode)) [] (stamped_from m from sequence handled.sends)

module _ (machine : MachineParts) (time : ℕ) (old : NodeState) where
  abbrev Walked : Handled → Type 0
  Walked handled = IsWalked machine time old handled

  abbrev Plain : List Send → Type 0
  Plain sends = ArePlain machine old.number time sends

  -- who isn't at the barrier, and sends nothing about it
  away : (handled : Handled) → handled.node.number ≡ old.number → IsLeft old handled.node → (old.mode ≡ Running → stand_in handled.node.mode ≡ Away) → Plain handled.sends → Walked handled
  away handled number left stand plain = record {
    number = number;
    left = left;
    right = plain_right machine old.number time handled.sends plain;
    own = plain_own machine old.number time handled.sends plain;
    told = λ several running m from sequence. rw (stand running) (tells_none m from sequence handled.sends (plain_others machine old.number time handled.sends plain));
  }

  -- who runs on
  stays : (handled : Handled) → handled.node.number ≡ old.number → handled.node.directory ≡ old.directory → handled.node.barrier ≡ old.barrier → handled.node.counters.stray ≡ old.counters.stray → handled.node.mode ≡ old.mode → Plain handled.sends → Walked handled
  stays handled number directory unit stray mode plain =
      away handled number (record { directory = directory; unit = unit; stray = stray }) (λ running. ap stand_in (mode ∙ running)) plain

  -- who waits or stops
  stops : (handled : Handled) → handled.node.number ≡ old.number → handled.node.directory ≡ old.directory → handled.node.barrier ≡ old.barrier → handled.node.counters.stray ≡ old.counters.stray → stand_in handled.node.mode ≡ Away → Plain handled.sends → Walked handled
  stops handled number directory unit stray stand plain = away handled number (record { directory = directory; unit = unit; stray = stray }) (λ running. stand) plain

  get_s : (target : ℕ) → Plain (to_home machine time target GetS ∷ [])
  get_s target = (record { right = record { leaving = refl; leaves = refl; goes = refl }; own = refl; other = refl }, tt)

  get_x : (target : ℕ) (had : Bool) → Plain (to_home machine time target (GetX had) ∷ [])
  get_x target had = (record { right = record { leaving = refl; leaves = refl; goes = refl }; own = refl; other = refl }, tt)

  shared_loads : (op : LoadOp) (rd address : ℕ) (found : Option ℕ) → Walked (shared_load_of machine time op rd address old found)
  shared_loads op rd address None = stops _ refl refl refl refl refl tt
  shared_loads op rd address (Some target) = by (read_of old.cache target (offset_of machine address) (load_width_of op))
    where
      by : (number : Option ℕ) → Walked (hit_load_by machine time op rd address target old number)
      by (Some number) = stays _ refl refl refl refl refl tt
      by None = stops _ refl refl refl refl refl (get_s target)

  loads_from : (op : LoadOp) (rd address : ℕ) → Walked (load_from machine time op rd address old)
  unfolding load_from
  loads_from op rd address = by (load_of old.private address (load_width_of op))
    where
      by : (answer : Result ℕ MemFault) → Walked (load_by machine time op rd address old answer)
      by (Ok number) = stays _ refl refl refl refl refl tt
      by (Err Misaligned) = stops _ refl refl refl refl refl tt
      by (Err Outside) = shared_loads op rd address (shared_block machine address)

  shared_stores : (op : StoreOp) (address value : ℕ) (found : Option ℕ) → Walked (shared_store_of machine time op address value old found)
  shared_stores op address value None = stops _ refl refl refl refl refl tt
  shared_stores op address value (Some target) = by (tag_of old.cache target)
    where
      by : (tag : Tag) → Walked (hit_store_by machine time op address value target old tag)
      by Writable = stays _ refl refl refl refl refl tt
      by ReadOnly = stops _ refl refl refl refl refl (get_x target true)
      by Invalid = stops _ refl refl refl refl refl (get_x target false)

  stores_to : (op : StoreOp) (address value : ℕ) → Walked (store_to machine time op address value old)
  unfolding store_to
  stores_to op address value = by (store_of old.private address (store_width_of op) value)
    where
      by : (answer : Result (List ℕ) MemFault) → Walked (store_by machine time op address value old answer)
      by (Ok memory) = stays _ refl refl refl refl refl tt
      by (Err Misaligned) = stops _ refl refl refl refl refl tt
      by (Err Outside) = shared_stores op address value (shared_block machine address)

  annotates_by : (target : ℕ) (action : CicoAction) → Walked (annotate_by machine time target old action)
  annotates_by target actions.Nothing = stays _ refl refl refl refl refl tt
  annotates_by target actions.GetS = stops _ refl refl refl refl refl (get_s target)
  annotates_by target (actions.GetX true) = stops _ refl refl refl refl refl (get_x target true)
  annotates_by target (actions.GetX false) = stops _ refl refl refl refl refl (get_x target false)
  annotates_by target actions.PutS = stays _ refl refl refl refl refl (back_plain machine old.number time (line_of old.cache target))
  annotates_by target actions.PutX = stays _ refl refl refl refl refl (back_plain machine old.number time (line_of old.cache target))

  annotates_at : (op : CicoOp) (address : ℕ) → Walked (annotate_of machine time op address old)
  unfolding annotate_of
  annotates_at op address = by (shared_block machine address)
    where
      by : (found : Option ℕ) → Walked (annotate_block machine time op old found)
      by None = stays _ refl refl refl refl refl tt
      by (Some target) = annotates_by target (action_of op (tag_of old.cache target))

  barriers : Walked (barrier_call_of machine time old)
  barriers = elim (cases_Bool (machine.nodes == 1)) [
    | inl alone ↦ rw alone (record {
      number = refl;
      left = record { directory = refl; unit = refl; stray = refl };
      right = tt;
      own = tt;
      told = λ several. absurd (let e : true ≡ false = sym alone ∙ several in cc);
    })
    | inr several ↦ rw several (record {
      number = refl;
      left = record { directory = refl; unit = refl; stray = refl };
      right = (record { leaving = refl; leaves = refl; goes = (refl, several) }, tt);
      own = (refl, tt);
      told = λ several running m from sequence. one_told (message_to time 0 0 Arrive) 1 0 m from sequence refl refl (λ node to. refl);
    })
  ]

  exits : (code : ℕ) → Walked (exit_of machine time code old)
  exits code = elim (cases_Bool (machine.nodes == 1)) [
    | inl alone ↦ rw alone (record {
      number = refl;
      left = record { directory = refl; unit = refl; stray = refl };
      right = tt;
      own = tt;
      told = λ several. absurd (let e : true ≡ false = sym alone ∙ several in cc);
    })
    | inr several ↦ rw several (record {
      number = refl;
      left = record { directory = refl; unit = refl; stray = refl };
      right = (record { leaving = refl; leaves = refl; goes = (refl, several) }, tt);
      own = (refl, tt);
      told = λ several running m from sequence. one_told (message_to time 0 0 Leave) 0 1 m from sequence refl refl (λ node to. refl);
    })
  ]

  either : (test : Bool) (one other : Handled) → Walked one → Walked other → Walked (cond test one other)
  either true one other is_one is_other = is_one
  either false one other is_one is_other = is_other

  calls : Walked (call_of machine time old)
  unfolding call_of
  calls =
      let call = register old 17 in
      either (call == 1) _ _ (stays _ refl refl refl refl refl tt)
      (either (call == 2) _ _ (stays _ refl refl refl refl refl tt)
      (either (call == 3) _ _ (stays _ refl refl refl refl refl tt)
      (either (call == 4) _ _ (stays _ refl refl refl refl refl tt)
      (either (call == 5) _ _ barriers
      (either (call == 93) _ _ (exits (register old 10)) (stops _ refl refl refl refl refl tt))))))

  does : (word : ℕ) (registers : List ℕ) (effect : Effect) → Walked (effect_by machine time word old registers effect)
  does word registers (Next pc cost) = stays _ refl refl refl refl refl tt
  does word registers (Load op rd address) = loads_from op rd address
  does word registers (Store op address value) = stores_to op address value
  does word registers (Cico op address) = annotates_at op address
  does word registers Call = calls
  does word registers Break = stops _ refl refl refl refl refl tt
  does word registers (BadTarget target) = stops _ refl refl refl refl refl tt
  does word registers Illegal = stops _ refl refl refl refl refl tt

  step_walked : Walked (step_of machine time old)
  unfolding execute_of
  step_walked = by (fetch_of machine old)
    where
      by : (found : Option ℕ) → Walked (step_by machine time old found)
      by None = stops _ refl refl refl refl refl tt
      by (Some word) = does word (meaning_in machine word old).0 (meaning_in machine word old).1

-- the next step of a node
pub walked : (machine : MachineParts) (node : NodeState) → IsWalked machine (step_time node) (counted_step (next_key machine node) node) (step_of machine (step_time node) (counted_step (next_key machine node) node))
walked machine node = step_walked machine (step_time node) (counted_step (next_key machine node) node)
