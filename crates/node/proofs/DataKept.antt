-- What the coming of a block keeps of its node.
use Rattle.std.proofs.Common.{◌≡◌, ℕ, ◌+◌, ◌^◌, ◌<◌, ◌≤◌, max, Bool, true, false, List, [], ◌∷◌, length, Option, Some, None, refl, ap, subst, arith, inl, inr}
use Rattle.std.specs.Prelude.{All, ◌==◌}
use Rattle.std.proofs.lemmas.Bool.{cases_Bool, eqb-true}
use Rattle.wt_params.specs.declared.parts.MachineParts.{MachineParts}
use Rattle.rv_exec.specs.declared.effect.Effect.{Effect}
use Rattle.rv_exec.specs.declared.effect.Effect.TheVariants.{Next, Load, Store, Cico, Call, Break, BadTarget, Illegal}
use Rattle.rv_exec.specs.Meaning.{address_after}
use Rattle.rv_exec.specs.Widths.{store_width_of}
use Rattle.wt_proto.specs.declared.mode.Mode.{Mode}
use Rattle.wt_proto.specs.declared.mode.Mode.TheVariants.{Running, Waiting, InBarrier, Stopped}
use Rattle.wt_stats.specs.declared.counters.Counters.{Counters}
use Rattle.target_cache.specs.declared.line.Line.{Line}
use Rattle.target_cache.specs.Cached.{Cached, write_of, replaced_of, install_of}
use Rattle.node.specs.declared.state.NodeState.{NodeState}
use Rattle.node.specs.State.{next_step_of, in_mode, with_cache, one_done, one_stray}
use Rattle.node.specs.Handled.{Handled, quiet, sending, give_back_of, gives_back}
use Rattle.node.specs.SharedAccess.{offset_of}
use Rattle.node.specs.DataMessage.{asks_for, effect_at, resumed, replacing, installed, fill_with, data_message_of}
use Rattle.node.specs.Sound.{CountsFit, CacheFits, ModeFits, WaitsFor, Asks, IsAskedFor, SendFits}
use Rattle.node.proofs.Accesses.{installed_fits, replaced_fits, written_fits}
use Rattle.node.proofs.Kept.{HasBegun, Went, went_on, after_aligned, step_in_is}
use Rattle.node.proofs.StepKept.{gives_back_fits, store_width_is}

-- a processor that asks for a block waits for it
pub asked : (machine : MachineParts) (node : NodeState) (block : ℕ) (exclusive : Bool) → ModeFits machine node node.mode → asks_for node.mode block exclusive ≡ true → WaitsFor machine node block exclusive
asked machine node block exclusive fits asks = by node.mode exclusive fits asks
  where
    by : (mode : Mode) (x : Bool) → ModeFits machine node mode → asks_for mode block x ≡ true → WaitsFor machine node block x
    by (Waiting wanted true) true fit is = elim (cases_Bool (wanted == block)) [
      | inl same ↦ subst (λ (b : ℕ). WaitsFor machine node b true) (eqb-true wanted block same) fit
      | inr apart ↦ absurd (let e : false ≡ true = rw apart at is in cc)
    ]
    by (Waiting wanted false) false fit is = elim (cases_Bool (wanted == block)) [
      | inl same ↦ subst (λ (b : ℕ). WaitsFor machine node b false) (eqb-true wanted block same) fit
      | inr apart ↦ absurd (let e : false ≡ true = rw apart at is in cc)
    ]
    by (Waiting wanted true) false fit is = elim (cases_Bool (wanted == block)) [
      | inl same ↦ absurd (let e : false ≡ true = rw same at is in cc)
      | inr apart ↦ absurd (let e : false ≡ true = rw apart at is in cc)
    ]
    by (Waiting wanted false) true fit is = elim (cases_Bool (wanted == block)) [
      | inl same ↦ absurd (let e : false ≡ true = rw same at is in cc)
      | inr apart ↦ absurd (let e : false ≡ true = rw apart at is in cc)
    ]
    by Running x fit is = absurd (let e : false ≡ true = is in cc)
    by InBarrier x fit is = absurd (let e : false ≡ true = is in cc)
    by (Stopped cause) x fit is = absurd (let e : false ≡ true = is in cc)

-- what a waiting instruction asks for is an access to the block
pub asked_for : (machine : MachineParts) (block : ℕ) (exclusive : Bool) (effect : Option Effect) → Asks machine block exclusive effect → IsAskedFor machine block effect
asked_for machine block exclusive (Some (Load op rd address)) asks = asks.1
asked_for machine block exclusive (Some (Store op address value)) asks = asks.1
asked_for machine block exclusive (Some (Cico op address)) asks = tt
asked_for machine block exclusive (Some (Next pc cost)) asks = tt
asked_for machine block exclusive (Some Call) asks = tt
asked_for machine block exclusive (Some Break) asks = tt
asked_for machine block exclusive (Some (BadTarget target)) asks = tt
asked_for machine block exclusive (Some Illegal) asks = tt
asked_for machine block exclusive None asks = tt

module _ (machine : MachineParts) (time seen : ℕ) (old : NodeState) (is : HasBegun machine seen old) (early : time < 2 ^ 40) (due : (next : ℕ) → next_step_of old ≡ Some next → time ≤ next) where
  -- the processor has gone on with the block, and runs
  resumes : (registers : List ℕ) (cache : Cached) (counters : Counters) (handled : Handled) → handled.node ≡ record old { registers = registers; pc = address_after old.pc; mode = Running; ready = time + machine.costs.fill; cache = cache; counters = counters } →
      CacheFits machine cache → CountsFit machine counters → counters.steps ≡ old.counters.steps → counters.messages ≡ old.counters.messages → counters.sent ≡ old.counters.sent →
      All (SendFits machine time) handled.sends → length handled.sends ≤ machine.nodes + 1 → Went machine time time old handled
  resumes registers cache counters handled node fits counts steps messages sent sends few = record {
    still = rw node (record { number = refl; steps = steps; messages = messages; sent = sent; last = refl; traced = refl; log = refl });
    sound = rw node (went_on machine seen old is registers (address_after old.pc) (time + machine.costs.fill) old.private cache counters old.output (after_aligned old.pc is.aligned)
        (let most = is.numbers.costs.fill.at_most in omega arith) is.private fits counts messages (omega (arith, steps, messages)) Running refl);
    sends = sends;
    few = few;
    later = λ next e. let n : max (time + machine.costs.fill) old.busy ≡ next = step_in_is Running (max (time + machine.costs.fill) old.busy) next (rw node at e) in omega arith;
  }

  -- the counters with a line that may be replaced, and one more instruction done
  replacing_counts : (line : Option Line) → CountsFit machine (one_done (replacing line old)).counters
  replacing_counts None = let room = is.counts in grind arith
  replacing_counts (Some line) = let room = is.counts in grind arith

  replacing_steps : (line : Option Line) → (replacing line old).counters.steps ≡ old.counters.steps
  replacing_steps None = refl
  replacing_steps (Some line) = refl

  replacing_messages : (line : Option Line) → (replacing line old).counters.messages ≡ old.counters.messages
  replacing_messages None = refl
  replacing_messages (Some line) = refl

  replacing_sent : (line : Option Line) → (replacing line old).counters.sent ≡ old.counters.sent
  replacing_sent None = refl
  replacing_sent (Some line) = refl

  -- an installed line changes the cache, the mode and the count of replaced lines
  installed_is : (line : Line) (replaced : Option Line) → in_mode Running (replacing replaced (with_cache (install_of line old.cache) old)) ≡ record old { mode = Running; cache = install_of line old.cache; counters = (replacing replaced old).counters }
  installed_is line None = refl
  installed_is line (Some other) = refl

  fills : (line : Line) → length line.bytes ≡ machine.block_bytes → WaitsFor machine old line.block line.writable → Went machine time time old (fill_with machine time line old)
  fills line size waiting = by (effect_at machine old) (asked_for machine line.block line.writable (effect_at machine old) waiting.asks)
    where
      fits : CacheFits machine (install_of line old.cache)
      fits = installed_fits machine old.cache line is.numbers is.cache waiting.exists size waiting.absent

      back : All (SendFits machine time) (gives_back machine time (replaced_of line old.cache)) × (length (gives_back machine time (replaced_of line old.cache)) ≤ machine.nodes + 1)
      back = gives_back_fits machine time (replaced_of line old.cache) is.numbers early (replaced_fits machine old.cache line is.numbers is.cache)

      ends : (registers : List ℕ) (cache : Cached) (handled : Handled) →
          handled.node ≡ record old { registers = registers; pc = address_after old.pc; mode = Running; ready = time + machine.costs.fill; cache = cache; counters = (one_done (replacing (replaced_of line old.cache) old)).counters } →
          handled.sends ≡ gives_back machine time (replaced_of line old.cache) → CacheFits machine cache → Went machine time time old handled
      ends registers cache handled node sends fit =
          resumes registers cache (one_done (replacing (replaced_of line old.cache) old)).counters handled node fit (replacing_counts (replaced_of line old.cache)) (replacing_steps (replaced_of line old.cache))
          (replacing_messages (replaced_of line old.cache)) (replacing_sent (replaced_of line old.cache)) (rw sends back.0) (rw sends back.1)

      node_is : installed line old ≡ record old { mode = Running; cache = install_of line old.cache; counters = (replacing (replaced_of line old.cache) old).counters }
      node_is = installed_is line (replaced_of line old.cache)

      by : (effect : Option Effect) → IsAskedFor machine line.block effect → Went machine time time old (sending (gives_back machine time (replaced_of line old.cache)) (resumed machine time line.block (installed line old) effect))
      by (Some (Load op rd address)) asks = ends _ (install_of line old.cache) _ (ap (λ (n : NodeState). (resumed machine time line.block n (Some (Load op rd address))).node) node_is) refl fits
      by (Some (Store op address value)) asks =
          ends old.registers (write_of line.block (offset_of machine address) (store_width_of op) value (install_of line old.cache)) _ (ap (λ (n : NodeState). (resumed machine time line.block n (Some (Store op address value))).node) node_is) refl
          (written_fits machine (install_of line old.cache) line.block address (store_width_of op) value is.numbers fits (store_width_is op) asks.aligned)
      by (Some (Cico op address)) asks =
          ends old.registers (install_of line old.cache) _ (ap (λ (n : NodeState). (resumed machine time line.block n (Some (Cico op address))).node) node_is) refl fits
      by (Some (Next pc cost)) asks = ends old.registers (install_of line old.cache) _ (ap (λ (n : NodeState). (resumed machine time line.block n (Some (Next pc cost))).node) node_is) refl fits
      by (Some Call) asks = ends old.registers (install_of line old.cache) _ (ap (λ (n : NodeState). (resumed machine time line.block n (Some Call)).node) node_is) refl fits
      by (Some Break) asks = ends old.registers (install_of line old.cache) _ (ap (λ (n : NodeState). (resumed machine time line.block n (Some Break)).node) node_is) refl fits
      by (Some (BadTarget target)) asks = ends old.registers (install_of line old.cache) _ (ap (λ (n : NodeState). (resumed machine time line.block n (Some (BadTarget target))).node) node_is) refl fits
      by (Some Illegal) asks = ends old.registers (install_of line old.cache) _ (ap (λ (n : NodeState). (resumed machine time line.block n (Some Illegal)).node) node_is) refl fits
      by None asks = ends old.registers (install_of line old.cache) _ (ap (λ (n : NodeState). (resumed machine time line.block n None).node) node_is) refl fits

  pub data_kept : (line : Line) → line.block < machine.blocks → length line.bytes ≡ machine.block_bytes → (stray : (handled : Handled) → handled.node ≡ one_stray old → All (SendFits machine time) handled.sends → length handled.sends ≤ machine.nodes + 1 → Went machine time time old handled) →
      Went machine time time old (data_message_of machine time line old)
  unfolding data_message_of
  data_kept line exists size stray = elim (cases_Bool (asks_for old.mode line.block line.writable)) [
    | inl asks ↦ rw asks (fills line size (asked machine old line.block line.writable is.mode asks))
    | inr astray ↦
        let back = gives_back_fits machine time (Some line) is.numbers early (exists, size) in
        rw astray (stray (sending (give_back_of machine time line ∷ []) (quiet (one_stray old))) refl back.0 back.1)
  ]
