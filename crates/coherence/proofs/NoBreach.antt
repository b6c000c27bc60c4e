-- Where a writable copy is the only copy and no message was stray, there is no breach.
use Rattle.std.proofs.Common.{◌≡◌, ◌≢◌, ℕ, zero, suc, ◌+◌, ◌<◌, Bool, true, false, List, [], ◌++◌, map, None, refl, ap, sym, ◌∙◌, inl, inr, arith, eq-eqb}
use Rattle.std.specs.Prelude.{◌==◌, ◌&&◌, ◌||◌, not, slice_get}
use Rattle.std.specs.List.{filter, range_with_len}
use Rattle.std.proofs.lemmas.Bool.{cases_Bool}
use Rattle.wt_params.specs.declared.parts.MachineParts.{MachineParts}
use Rattle.wt_params.specs.Machine.{IsMachine}
use Rattle.block_tags.specs.declared.tag.Tag.{Tag}
use Rattle.block_tags.specs.declared.tag.Tag.TheVariants.{Invalid, ReadOnly, Writable}
use Rattle.target_cache.specs.Cached.{tag_of}
use Rattle.discrete_events.specs.Laws.{IsIn}
use Rattle.discrete_events.proofs.Lists.{from_map, from_filter, filter_none}
use Rattle.node.specs.declared.state.NodeState.{NodeState}
use Rattle.coherence.specs.Copies.{is_writable, is_read_only, writes, number_of, writers_of, is_stray, stray, strays, is_beside, two, beside, twos_of, twos, breaches_of, breach_of, AreOfSerialRun}
use Rattle.coherence.specs.declared.breaches.Breach.{Breach}
use Rattle.coherence.specs.Traces.{Known, known_at_start, after_records}
use Rattle.coherence.specs.Runs.{world_after, records_until, HasOneWriter, HasNoStray}
use Rattle.coherence.specs.Worlds.{World, IsCoherentWorld}
use Rattle.coherence.proofs.WorldSerial.{serial_coherent, serial_world, has_one_writer}
use Rattle.coherence.proofs.Firsts.{flat_none}

below_end : (from count k : ℕ) → IsIn k (range_with_len from count) → k < from + count
below_end from zero k is = absurd is
below_end from (suc count) k (inl e) = omega arith
below_end from (suc count) k (inr h) = let more = below_end (from + 1) count k h in omega arith

writable_is : (tag : Tag) → is_writable tag ≡ true → tag ≡ Writable
writable_is Writable e = refl
writable_is ReadOnly e = absurd cc
writable_is Invalid e = absurd cc

module _ (machine : MachineParts) (world : World) (one : HasOneWriter machine world) (no_stray : HasNoStray machine world) where
  no_strays : strays world.nodes ≡ []
  no_strays = ap (map stray) (filter_none is_stray world.nodes (λ node h. ap (λ (n : ℕ). not (n == 0)) (no_stray node h)))

  -- No other node holds a block beside its writer.
  none_beside : (block : ℕ) (writer other : NodeState) → block < machine.blocks → IsIn writer world.nodes → writes block writer ≡ true → IsIn other world.nodes → is_beside block writer.number other ≡ false
  none_beside block writer other exists member writable another = elim (cases_Bool (other.number == writer.number)) [
    | inl same ↦ rw same (by (is_writable (tag_of other.cache block)) (is_read_only (tag_of other.cache block)))
    | inr apart ↦
        let differ : other.number ≢ writer.number = λ e. (let t : (other.number == writer.number) ≡ true = eq-eqb other.number writer.number e in let f : true ≡ false = sym t ∙ apart in cc) in
        let absent : tag_of other.cache block ≡ Invalid = one writer other block member another differ exists (writable_is (tag_of writer.cache block) writable) in
        rw absent refl
  ]
    where
      by : (w r : Bool) → ((w || r) && false) ≡ false
      by true r = refl
      by false true = refl
      by false false = refl

  no_twos : twos machine world.nodes ≡ []
  no_twos = flat_none (twos_of world.nodes) (range_with_len 0 machine.blocks) (λ block h. of_block block (let b = below_end 0 machine.blocks block h in omega (arith, b)))
    where
      of_writer : (block writer : ℕ) → block < machine.blocks → (node : NodeState) × IsIn node (filter (writes block) world.nodes) × (writer ≡ number_of node) → beside world.nodes block writer ≡ []
      of_writer block writer exists (node, member, is) =
          let from = from_filter (writes block) node world.nodes member in
          ap (beside world.nodes block) is
          ∙ ap (map (two block node.number)) (filter_none (is_beside block node.number) world.nodes (λ other h. none_beside block node other exists from.0 from.1 h))

      of_block : (block : ℕ) → block < machine.blocks → twos_of world.nodes block ≡ []
      of_block block exists = flat_none (beside world.nodes block) (writers_of world.nodes block) (λ writer h. of_writer block writer exists (from_map number_of writer (filter (writes block) world.nodes) h))

  pub no_breaches : breaches_of machine world.nodes ≡ []
  no_breaches = (λ i. no_strays i ++ no_twos i)

-- ---- of a serial run

pub no_breach_of_run : (machine : MachineParts) (nodes : List NodeState) → IsMachine machine → AreOfSerialRun machine nodes → breach_of machine nodes ≡ None
no_breach_of_run machine nodes is run = ap (breach_of machine) run.nodes_are ∙ ap (λ (l : List Breach). slice_get l 0) (no_breaches machine world one none)
  where
    world : World
    world = world_after machine run.loaded run.traced run.events

    known : Known
    known = after_records (records_until machine run.loaded run.traced run.events) (known_at_start run.loaded)

    good : IsCoherentWorld machine world known
    good = serial_coherent machine run.loaded run.traced run.events is run.is_for run.loads

    one : HasOneWriter machine world
    one = has_one_writer machine world (serial_world machine run.loaded run.traced run.events is run.is_for run.loads) known good

    none : HasNoStray machine world
    none = good.none_stray
