-- The merged logs of a traced run are its records in the order of the serial run.
use Rattle.std.proofs.Common.{◌≡◌, ◌≢◌, ℕ, zero, suc, ◌+◌, ◌<◌, ◌*◌, Bool, true, false, cond, eqb, List, [], ◌∷◌, ◌++◌, map, Option, Some, None, inl, inr, refl, ap, sym, ◌∙◌, subst, arith, append-nil, eq-eqb}
use Rattle.std.specs.Prelude.{All, flat_map}
use Rattle.std.specs.List.{AllByRecursion, range_with_len}
use Rattle.std.specs.List.Sorted.{IsStrictlySortedBy}
use Rattle.std.specs.declared.cmp.Ordering.TheVariants.{Less}
use Rattle.std.proofs.lemmas.Bool.{ne_eqb, eqb-false}
use Rattle.std.proofs.lemmas.List.Elements.{All-nil, All-append, All-weaker, filter-append}
use Rattle.wt_params.specs.declared.parts.MachineParts.{MachineParts}
use Rattle.wt_params.specs.Machine.{IsMachine}
use Rattle.wt_proto.specs.declared.key.Key.{Key}
use Rattle.wt_proto.specs.declared.message.Msg.{Msg}
use Rattle.wt_proto.specs.KeyOrder.{key_cmp}
use Rattle.wt_trace.specs.declared.record.Record.{Record}
use Rattle.wt_trace.specs.EventLine.{line_of}
use Rattle.wt_trace.specs.Merged.{merge_of, KeysRise, log_of}
use Rattle.wt_trace.proofs.StableSorts.{all_of_each}
use Rattle.wt_trace.proofs.EventLaws.{merge_laws}
use Rattle.discrete_events.specs.Simulation.{Event}
use Rattle.discrete_events.specs.World.{events_in, least}
use Rattle.discrete_events.specs.Serial.{is_for, after_least, serial_step, serial}
use Rattle.discrete_events.specs.Laws.{IsIn, IsNumbered}
use Rattle.discrete_events.proofs.Lists.{from_map}
use Rattle.discrete_events.proofs.Keys.{less_trans}
use Rattle.discrete_events.proofs.Events.{IsEventBelow, least_in}
use Rattle.discrete_events.proofs.Numbered.{numbered_up_to, numbered_below, single_flat}
use Rattle.discrete_events.proofs.SerialRun.{serial-zero, serial-suc, stepped_rises, world_of_serial}
use Rattle.image_loader.specs.Images.{LoadedImages, IsFor}
use Rattle.image_loader.specs.Loading.{AreLoaded}
use Rattle.node.specs.declared.state.NodeState.{NodeState}
use Rattle.node.specs.React.{logged, react, record_of, wind_tunnel}
use Rattle.node.specs.Sound.{IsNode}
use Rattle.node.specs.Laws.{Fits}
use Rattle.node.specs.Start.{start_node}
use Rattle.quantum.specs.World.{World}
use Rattle.quantum.specs.Starts.{IsWorldOf}
use Rattle.quantum.proofs.AtStart.{starts_are_worlds}
use Rattle.wt_report.specs.Report.{logs_of}
use Rattle.wt_report.specs.Trace.{recorded_by, recorded_of, handled_at, history, IsTracedStart, traced_start, traced_end, whole_history, TraceIsSerial}
use Rattle.wt_report.proofs.TraceLemmas.{each_of_all}
use Rattle.wt_report.proofs.TraceLaws as at_least

-- ---- one more record at the end

abbrev IsBelow : Key → Record → Type 0
IsBelow key item = key_cmp item.key key ≡ Less

one_more : (P : Record → Type 0) (items : List Record) (item : Record) → All P items → P item → All P (items ++ item ∷ [])
one_more P items item all one = All-append P items (item ∷ []) all (each_of_all P (item ∷ []) (one, tt))

keys_more : (x : Record) (items : List Record) (item : Record) → AllByRecursion (λ k. key_cmp x.key k ≡ Less) (map (λ (y : Record). y.key) items) → key_cmp x.key item.key ≡ Less → AllByRecursion (λ k. key_cmp x.key k ≡ Less) (map (λ (y : Record). y.key) (items ++ item ∷ []))
keys_more x [] item all one = (one, tt)
keys_more x (y ∷ items) item all one = (all.0, keys_more x items item all.1 one)

rises_more : (items : List Record) (item : Record) → KeysRise items → AllByRecursion (IsBelow item.key) items → KeysRise (items ++ item ∷ [])
unfolding IsStrictlySortedBy
rises_more [] item up below = (tt, tt)
rises_more (x ∷ items) item up below = (keys_more x items item up.0 below.0, rises_more items item up.1 below.1)

log_more : (number : ℕ) (items : List Record) (item : Record) (here : Bool) → eqb item.key.to number ≡ here → log_of number (items ++ item ∷ []) ≡ log_of number items ++ cond here (item ∷ []) []
log_more number items item here is =
    filter-append (λ (x : Record). eqb x.key.to number) items (item ∷ [])
    ∙ ap (λ (b : Bool). log_of number items ++ cond b (item ∷ []) []) is

-- the logs of nodes in the order of their numbers
logs_by_number : (machine : MachineParts) (items : List Record) (count from : ℕ) (nodes : List NodeState) → IsNumbered (wind_tunnel machine) from nodes → from + count ≡ machine.nodes → ((node : NodeState) → IsIn node nodes → node.log ≡ log_of node.number items) → logs_of nodes ≡ map (λ number. log_of number items) (range_with_len from count)
logs_by_number machine items zero from [] numbered end logs = refl
logs_by_number machine items (suc count) from [] numbered end logs = absurd (let all : from ≡ machine.nodes = numbered in omega (arith, all, end))
logs_by_number machine items zero from (node ∷ nodes) numbered end logs = absurd (let few = numbered_up_to (wind_tunnel machine) (suc from) nodes numbered.1 in omega (arith, end, few))
logs_by_number machine items (suc count) from (node ∷ nodes) numbered end logs =
    let next : suc from ≡ from + 1 = omega arith in
    let here : node.log ≡ log_of from items = logs node (inl refl) ∙ ap (λ number. log_of number items) numbered.0 in
    let rest = logs_by_number machine items count (from + 1) nodes (subst (λ k. IsNumbered (wind_tunnel machine) k nodes) next numbered.1) (omega (arith, end)) (λ n member. logs n (inr member)) in
    λ i. here i ∷ rest i

-- ---- along the run

-- What was recorded up to a world: all of it is in the logs, its keys rise, and they are below those of the events that
-- are due.
record HasRecorded (machine : MachineParts) (items : List Record) (world : World) : Type 0 where
  traced : (node : NodeState) → IsIn node world.nodes → node.traced ≡ true
  logs : (node : NodeState) → IsIn node world.nodes → node.log ≡ log_of node.number items
  rise : KeysRise items
  below : (key : Key) (event : Event Msg) → IsIn (key, event) (events_in (wind_tunnel machine) world) → All (IsBelow key) items
  at_nodes : All (λ (item : Record). item.key.to < machine.nodes) items

module _ (machine : MachineParts) (is : IsMachine machine) where
  module _ (world : World) (ok : IsWorldOf machine world) (key : Key) (event : Event Msg) (is_least : least (events_in (wind_tunnel machine) world) ≡ Some (key, event)) (items : List Record) (so_far : HasRecorded machine items world) where
    abbrev here : IsEventBelow (wind_tunnel machine) machine.budget world.nodes world.pending key event
    here = at_least.at machine is world ok key event is_least

    abbrev item : Record
    item = record_of machine here.node event

    abbrev longer : List Record
    longer = items ++ item ∷ []

    named : key.to ≡ here.node.number
    named = at_least.named machine is world ok key event is_least

    its_key : item.key ≡ key
    its_key = (at_least.counted machine is world ok key event is_least).recorded_key

    recorded : handled_at machine world ≡ item ∷ []
    recorded =
        ap (recorded_of machine world) is_least
        ∙ single_flat (wind_tunnel machine) (recorded_by machine key event) 0 world.nodes here.node ok.numbered here.member nothing
        ∙ ap (λ (b : Bool). cond b (item ∷ []) []) (eq-eqb here.node.number key.to (sym named))
      where
        nothing : (other : NodeState) → other.number ≢ here.node.number → recorded_by machine key event other ≡ []
        nothing other apart = ap (λ (b : Bool). cond b (record_of machine other event ∷ []) []) (ne_eqb other.number key.to (λ same. apart (same ∙ named)))

    traced_then : (node : NodeState) → IsIn node (serial_step (wind_tunnel machine) world).nodes → node.traced ≡ true
    traced_then = at_least.goes_on machine is world ok key event is_least (λ n. n.traced ≡ true) (λ n. n.traced ≡ true)
        (λ traced. (at_least.counted machine is world ok key event is_least).traced ∙ traced) (λ node member other traced. traced) so_far.traced

    logs_then : (node : NodeState) → IsIn node (serial_step (wind_tunnel machine) world).nodes → node.log ≡ log_of node.number longer
    logs_then = at_least.goes_on machine is world ok key event is_least (λ n. (n.traced ≡ true) × (n.log ≡ log_of n.number items)) (λ n. n.log ≡ log_of n.number longer)
        its_own others (λ node member. (so_far.traced node member, so_far.logs node member))
      where
        its_own : (here.node.traced ≡ true) × (here.node.log ≡ log_of here.node.number items) → (react machine here.node event).0.log ≡ log_of (react machine here.node event).0.number longer
        its_own (traced, log) =
            (at_least.counted machine is world ok key event is_least).log
            ∙ ap (λ (b : Bool). logged b item here.node.log) traced
            ∙ ap (λ l. l ++ item ∷ []) log
            ∙ sym (log_more here.node.number items item true (eq-eqb item.key.to here.node.number (ap (λ (k : Key). k.to) its_key ∙ named)))
            ∙ ap (λ number. log_of number longer) (sym (at_least.reacts machine is world ok key event is_least).number)

        others : (node : NodeState) → IsIn node world.nodes → is_for (wind_tunnel machine) key node ≡ false → (node.traced ≡ true) × (node.log ≡ log_of node.number items) → node.log ≡ log_of node.number longer
        others node member other (traced, log) =
            log ∙ sym (append-nil (log_of node.number items))
            ∙ sym (log_more node.number items item false (ne_eqb item.key.to node.number (λ same. eqb-false node.number key.to other (sym same ∙ ap (λ (k : Key). k.to) its_key))))

    all_below : All (IsBelow key) items
    all_below = so_far.below key event (least_in _ (key, event) is_least)

    below_then : (k : Key) (e : Event Msg) → IsIn (k, e) (events_in (wind_tunnel machine) (serial_step (wind_tunnel machine) world)) → All (IsBelow k) longer
    below_then k e member =
        let later : key_cmp key k ≡ Less = stepped_rises (wind_tunnel machine) (IsNode machine) (Fits machine) (at_least.laws machine is) world ok key event is_least k e member in
        one_more (IsBelow k) items item
        (All-weaker (IsBelow key) (IsBelow k) (λ x less. less_trans x.key key k less later) items all_below)
        (ap (λ q. key_cmp q k) its_key ∙ later)

    recorded_then : HasRecorded machine (items ++ handled_at machine world) (serial_step (wind_tunnel machine) world)
    recorded_then = subst (λ more. HasRecorded machine (items ++ more) (serial_step (wind_tunnel machine) world)) (sym recorded) (record {
      traced = traced_then;
      logs = logs_then;
      rise = rises_more items item so_far.rise (all_of_each (IsBelow item.key) items (subst (λ k. All (IsBelow k) items) (sym its_key) all_below));
      below = below_then;
      at_nodes = one_more (λ (x : Record). x.key.to < machine.nodes) items item so_far.at_nodes
          (subst (λ number. number < machine.nodes) (sym (ap (λ (k : Key). k.to) its_key ∙ named)) (numbered_below (wind_tunnel machine) 0 world.nodes here.node ok.numbered here.member));
    })

  nothing_yet : (world : World) → IsTracedStart machine world → HasRecorded machine [] world
  unfolding IsStrictlySortedBy
  nothing_yet world start = record {
    traced = start.traced;
    logs = start.unused;
    rise = tt;
    below = λ key event member. All-nil (IsBelow key);
    at_nodes = All-nil (λ (item : Record). item.key.to < machine.nodes);
  }

  has_recorded : (n : ℕ) (world : World) → IsTracedStart machine world → HasRecorded machine (history machine n world) (serial (wind_tunnel machine) n world)
  unfolding history
  has_recorded zero world start = subst (HasRecorded machine []) (sym (serial-zero (wind_tunnel machine) world)) (nothing_yet world start)
  has_recorded (suc n) world start =
      subst (λ (w : World). HasRecorded machine (history machine n world ++ handled_at machine (serial (wind_tunnel machine) n world)) w) (sym (serial-suc (wind_tunnel machine) n world))
      (by (history machine n world) (serial (wind_tunnel machine) n world) (world_of_serial (wind_tunnel machine) (IsNode machine) (Fits machine) (at_least.laws machine is) n world start.is_world) (has_recorded n world start) (least (events_in (wind_tunnel machine) (serial (wind_tunnel machine) n world))) refl)
    where
      by : (items : List Record) (w : World) → IsWorldOf machine w → HasRecorded machine items w → (o : Option (Key × Event Msg)) → least (events_in (wind_tunnel machine) w) ≡ o → HasRecorded machine (items ++ handled_at machine w) (serial_step (wind_tunnel machine) w)
      by items w it so_far None none =
          let same : items ++ handled_at machine w ≡ items = ap (λ o. items ++ recorded_of machine w o) none ∙ append-nil items in
          subst (λ (l : List Record). HasRecorded machine l (serial_step (wind_tunnel machine) w)) (sym same)
          (subst (HasRecorded machine items) (sym (ap (after_least (wind_tunnel machine) w) none)) so_far)
      by items w it so_far (Some (key, event)) some = recorded_then w it key event some items so_far

  merged_logs : (n : ℕ) (world : World) → IsTracedStart machine world → merge_of (logs_of (serial (wind_tunnel machine) n world).nodes) ≡ history machine n world
  merged_logs n world start =
      let done = has_recorded n world start in
      let it = world_of_serial (wind_tunnel machine) (IsNode machine) (Fits machine) (at_least.laws machine is) n world start.is_world in
      ap merge_of (logs_by_number machine (history machine n world) machine.nodes 0 (serial (wind_tunnel machine) n world).nodes it.numbered (omega arith) done.logs)
      ∙ merge_laws.events machine.nodes (history machine n world) done.rise done.at_nodes

-- ---- from the start

starts_traced : (machine : MachineParts) (loaded : LoadedImages) (number : ℕ) → (start_node machine loaded true number).traced ≡ true
unfolding start_node
starts_traced machine loaded number = refl

starts_unused : (machine : MachineParts) (loaded : LoadedImages) (number : ℕ) → (start_node machine loaded true number).log ≡ []
unfolding start_node
starts_unused machine loaded number = refl

is_traced_start : (machine : MachineParts) (loaded : LoadedImages) → IsWorldOf machine (traced_start machine loaded) → IsTracedStart machine (traced_start machine loaded)
is_traced_start machine loaded ok = record {
  is_world = ok;
  traced = λ node member. let from = from_map (start_node machine loaded true) node (range_with_len 0 machine.nodes) member in ap (λ (n : NodeState). n.traced) from.2 ∙ starts_traced machine loaded from.0;
  unused = λ node member. let from = from_map (start_node machine loaded true) node (range_with_len 0 machine.nodes) member in ap (λ (n : NodeState). n.log) from.2 ∙ starts_unused machine loaded from.0;
}

pub trace_is_serial : TraceIsSerial
trace_is_serial machine is = record {
  any = merged_logs machine is;
  whole = whole;
  text = λ loaded for are. ap (flat_map (line_of machine)) (whole loaded for are);
}
  where
    whole : (loaded : LoadedImages) → IsFor machine loaded → AreLoaded loaded → merge_of (logs_of (traced_end machine loaded).nodes) ≡ whole_history machine loaded
    whole loaded for are = merged_logs machine is (machine.nodes * machine.event_limit) (traced_start machine loaded) (is_traced_start machine loaded (starts_are_worlds machine loaded true is for are).world_of)
