-- The serial run and the round on lists of messages, so that they compute.
use Rattle.std.proofs.Common.{◌≡◌, ℕ, zero, suc, ◌+◌, ◌-◌, List, [], ◌∷◌, ◌++◌, map, min, Bool, true, false, cond, not, ◌==◌, inl, inr, T, Option, Some, None, refl, ap, sym, ◌∙◌, subst}
use Rattle.std.specs.Prelude.{flat_map, nat_le}
use Rattle.std.specs.Ordering.{eq_by_cmp}
use Rattle.std.specs.FinMap.{empty, get, insert, entries, retain_keys, from_entries, from_sorted, is_sorted, put, get-empty, get-insert, get-remove, get-from_sorted, entries-from_sorted}
use Rattle.std.specs.FinMap.Entries.{where_key, find-put, find-where_key, is_sorted-put, is_sorted-where_key}
use Rattle.wt_proto.specs.declared.key.Key.{Key}
use Rattle.wt_proto.specs.KeyOrder.{key_cmp}
use Rattle.wt_proto.proofs.KeyLaws.{key_cmp_total, tied_keys}
use Rattle.discrete_events.specs.Simulation.{Simulation, Event, Step, Arrival, Message}
use Rattle.discrete_events.specs.World.{World, steps_below, reaches_below, arrival, events_below, events_in, least}
use Rattle.discrete_events.specs.Serial.{placed, taken, node_after, sent_by, with_quantum, after_least, serial_step, serial}
use Rattle.discrete_events.specs.Round.{FreeRun, to_itself, to_others, with_outs, after_own, free_run, local, to_node, runs_to, together, exchanged, round, quantum_end, after_opening, rounds}
use Rattle.discrete_events.specs.Laws.{IsIn}
use Rattle.discrete_events.proofs.Lists.{map_alike, map_map, flat_map_map, from_map}
use Rattle.discrete_events.proofs.Queues.{Queue, same_queue, get_kept}
use Rattle.discrete_events.proofs.SerialRun.{serial-zero, serial-suc}

module _ {X : Type 0} where
  abbrev pub IsRising : List (Message X) → Type 0
  IsRising ms = T (is_sorted key_cmp ms)

  abbrev pub queue_of : List (Message X) → Queue X
  queue_of ms = from_sorted ms

  -- ---- the operations on lists

  abbrev pub kept : (Key → Bool) → List (Message X) → List (Message X)
  kept p ms = where_key key_cmp p ms

  abbrev pub placed_in : List (Message X) → List (Message X) → List (Message X)
  placed_in pending [] = pending
  placed_in pending (m ∷ ms) = placed_in (put key_cmp m.0 m.1 pending) ms

  abbrev pub taken_from : Event X → List (Message X) → List (Message X)
  taken_from Step pending = pending
  taken_from (Arrival m) pending = kept (λ k. not (eq_by_cmp key_cmp k m.0)) pending

  abbrev pub sorted_of : List (Message X) → List (Message X)
  sorted_of [] = []
  sorted_of (m ∷ ms) = put key_cmp m.0 m.1 (sorted_of ms)

  -- ---- and on queues

  pub kept_rises : (p : Key → Bool) (ms : List (Message X)) → IsRising ms → IsRising (kept p ms)
  kept_rises p ms is = is_sorted-where_key key_cmp p ms is

  pub queue-kept : (p : Key → Bool) (ms : List (Message X)) → IsRising ms → retain_keys (queue_of ms) p ≡ queue_of (kept p ms)
  queue-kept p ms is = same_queue _ _ (λ q.
      get_kept (queue_of ms) p q
      ∙ ap (λ (a : Option X). cond (p q) a None) (get-from_sorted key_cmp ms q is)
      ∙ sym (find-where_key key_cmp p q (λ x t. ap p (sym (tied_keys q x t))) ms)
      ∙ sym (get-from_sorted key_cmp (kept p ms) q (kept_rises p ms is)))

  queue-put : (k : Key) (v : X) (ms : List (Message X)) → IsRising ms → insert (queue_of ms) k v ≡ queue_of (put key_cmp k v ms)
  queue-put k v ms is = same_queue _ _ (λ q.
      get-insert key_cmp_total (queue_of ms) k v q
      ∙ ap (cond (eq_by_cmp key_cmp q k) (Some v)) (get-from_sorted key_cmp ms q is)
      ∙ sym (find-put key_cmp key_cmp_total q k v ms)
      ∙ sym (get-from_sorted key_cmp (put key_cmp k v ms) q (is_sorted-put key_cmp key_cmp_total k v ms is)))

  pub placed_rises : (pending ms : List (Message X)) → IsRising pending → IsRising (placed_in pending ms)
  placed_rises pending [] is = is
  placed_rises pending (m ∷ ms) is = placed_rises (put key_cmp m.0 m.1 pending) ms (is_sorted-put key_cmp key_cmp_total m.0 m.1 pending is)

  pub queue-placed : (pending ms : List (Message X)) → IsRising pending → placed (queue_of pending) ms ≡ queue_of (placed_in pending ms)
  queue-placed pending [] is = refl
  queue-placed pending (m ∷ ms) is =
      ap (λ queue. placed queue ms) (queue-put m.0 m.1 pending is) ∙ queue-placed (put key_cmp m.0 m.1 pending) ms (is_sorted-put key_cmp key_cmp_total m.0 m.1 pending is)

  pub taken_rises : (event : Event X) (pending : List (Message X)) → IsRising pending → IsRising (taken_from event pending)
  taken_rises Step pending is = is
  taken_rises (Arrival m) pending is = kept_rises _ pending is

  turned : (b : Bool) (a : Option X) → cond b None a ≡ cond (not b) a None
  turned true a = refl
  turned false a = refl

  pub queue-taken : (event : Event X) (pending : List (Message X)) → IsRising pending → taken event (queue_of pending) ≡ queue_of (taken_from event pending)
  queue-taken Step pending is = refl
  queue-taken (Arrival m) pending is = same_queue _ _ (λ q.
      get-remove key_cmp_total (queue_of pending) m.0 q
      ∙ turned (eq_by_cmp key_cmp q m.0) (get (queue_of pending) q)
      ∙ sym (get_kept (queue_of pending) (λ k. not (eq_by_cmp key_cmp k m.0)) q))
      ∙ queue-kept (λ k. not (eq_by_cmp key_cmp k m.0)) pending is

  pub sorted_rises : (ms : List (Message X)) → IsRising (sorted_of ms)
  sorted_rises [] = tt
  sorted_rises (m ∷ ms) = is_sorted-put key_cmp key_cmp_total m.0 m.1 (sorted_of ms) (sorted_rises ms)

  queue-sorted : (ms : List (Message X)) → from_entries ms ≡ queue_of (sorted_of ms)
  queue-sorted [] = same_queue _ _ (λ q. get-empty key_cmp q ∙ sym (get-from_sorted key_cmp [] q tt))
  queue-sorted (m ∷ ms) = ap (λ queue. insert queue m.0 m.1) (queue-sorted ms) ∙ queue-put m.0 m.1 (sorted_of ms) (sorted_rises ms)

  entries-queues : (mss : List (List (Message X))) → ((ms : List (Message X)) → IsIn ms mss → IsRising ms) → flat_map entries (map queue_of mss) ≡ flat_map (λ ms. ms) mss
  entries-queues [] each = refl
  entries-queues (ms ∷ mss) each = (λ i. entries-from_sorted key_cmp ms (each ms (inl refl)) i ++ entries-queues mss (λ m h. each m (inr h)) i)

  pub queues-together : (mss : List (List (Message X))) → ((ms : List (Message X)) → IsIn ms mss → IsRising ms) → together (map queue_of mss) ≡ queue_of (sorted_of (flat_map (λ ms. ms) mss))
  queues-together mss each = ap from_entries (entries-queues mss each) ∙ queue-sorted (flat_map (λ ms. ms) mss)

  pub empty_queue : empty ≡ queue_of []
  empty_queue = queue-sorted []

-- ---- worlds

pub record Listed (S X : Type 0) : Type 0 where
  pub nodes : List S
  pub messages : List (Message X)
  pub kept_end : ℕ
  pub quanta : ℕ

abbrev pub world_of : {S X : Type 0} → Listed S X → World S X
world_of l = record { nodes = l.nodes; pending = queue_of l.messages; kept_end = l.kept_end; quanta = l.quanta }

-- a run of a node, on a list
pub record ListedRun (S X : Type 0) : Type 0 where
  pub node : S
  pub messages : List (Message X)
  pub outs : List (Message X)

abbrev pub run_of_list : {S X : Type 0} → ListedRun S X → FreeRun S X
run_of_list r = record { node = r.node; pending = queue_of r.messages; outs = r.outs }

module _ {S X : Type 0} (sim : Simulation S X) where
  abbrev pub events_of : ℕ → List S → List (Message X) → List (Key × Event X)
  events_of until nodes ms = flat_map (steps_below sim until) nodes ++ map arrival (kept (reaches_below sim until nodes) ms)

  pub events-listed : (until : ℕ) (nodes : List S) (ms : List (Message X)) → IsRising ms → events_below sim until nodes (queue_of ms) ≡ events_of until nodes ms
  events-listed until nodes ms is =
      ap (λ es. flat_map (steps_below sim until) nodes ++ map arrival es)
      (ap entries (queue-kept (reaches_below sim until nodes) ms is) ∙ entries-from_sorted key_cmp (kept (reaches_below sim until nodes) ms) (kept_rises _ ms is))

  -- ---- the serial run

  abbrev pub listed_quantum : ℕ → Listed S X → Listed S X
  listed_quantum time l = record {
    nodes = l.nodes;
    messages = l.messages;
    kept_end = cond (nat_le l.kept_end time) (min (time + sim.quantum) sim.budget) l.kept_end;
    quanta = cond (nat_le l.kept_end time) (l.quanta + 1) l.quanta;
  }

  abbrev pub listed_after : Listed S X → Option (Key × Event X) → Listed S X
  listed_after l None = l
  listed_after l (Some e) = listed_quantum e.0.time (record {
    nodes = map (node_after sim e.0 e.1) l.nodes;
    messages = placed_in (taken_from e.1 l.messages) (flat_map (sent_by sim e.0 e.1) l.nodes);
    kept_end = l.kept_end;
    quanta = l.quanta;
  })

  abbrev pub listed_step : Listed S X → Listed S X
  listed_step l = listed_after l (least (events_of sim.budget l.nodes l.messages))

  abbrev pub listed_serial : ℕ → Listed S X → Listed S X
  listed_serial zero l = l
  listed_serial (suc n) l = listed_step (listed_serial n l)

  quantum_listed : (time : ℕ) (l : Listed S X) → with_quantum sim time (world_of l) ≡ world_of (listed_quantum time l)
  quantum_listed time l = by (nat_le l.kept_end time)
    where
      by : (b : Bool) → cond b (record (world_of l) { kept_end = min (time + sim.quantum) sim.budget; quanta = l.quanta + 1 }) (world_of l) ≡ world_of (record { nodes = l.nodes; messages = l.messages; kept_end = cond b (min (time + sim.quantum) sim.budget) l.kept_end; quanta = cond b (l.quanta + 1) l.quanta })
      by true = refl
      by false = refl

  after_listed : (l : Listed S X) (o : Option (Key × Event X)) → IsRising l.messages → after_least sim (world_of l) o ≡ world_of (listed_after l o)
  after_listed l None is = refl
  after_listed l (Some e) is =
      ap (λ queue. with_quantum sim e.0.time (record { nodes = map (node_after sim e.0 e.1) l.nodes; pending = queue; kept_end = l.kept_end; quanta = l.quanta }))
      (ap (λ queue. placed queue (flat_map (sent_by sim e.0 e.1) l.nodes)) (queue-taken e.1 l.messages is) ∙ queue-placed (taken_from e.1 l.messages) (flat_map (sent_by sim e.0 e.1) l.nodes) (taken_rises e.1 l.messages is))
      ∙ quantum_listed e.0.time (record { nodes = map (node_after sim e.0 e.1) l.nodes; messages = placed_in (taken_from e.1 l.messages) (flat_map (sent_by sim e.0 e.1) l.nodes); kept_end = l.kept_end; quanta = l.quanta })

  after_rises : (l : Listed S X) (o : Option (Key × Event X)) → IsRising l.messages → IsRising (listed_after l o).messages
  after_rises l None is = is
  after_rises l (Some e) is = placed_rises (taken_from e.1 l.messages) (flat_map (sent_by sim e.0 e.1) l.nodes) (taken_rises e.1 l.messages is)

  serial_rises : (n : ℕ) (l : Listed S X) → IsRising l.messages → IsRising (listed_serial n l).messages
  serial_rises zero l is = is
  serial_rises (suc n) l is = after_rises (listed_serial n l) (least (events_of sim.budget (listed_serial n l).nodes (listed_serial n l).messages)) (serial_rises n l is)

  pub serial_listed : (n : ℕ) (l : Listed S X) → IsRising l.messages → serial sim n (world_of l) ≡ world_of (listed_serial n l)
  serial_listed zero l is = serial-zero sim (world_of l)
  serial_listed (suc n) l is =
      serial-suc sim n (world_of l) ∙ ap (serial_step sim) (serial_listed n l is)
      ∙ ap (λ es. after_least sim (world_of (listed_serial n l)) (least es)) (events-listed sim.budget (listed_serial n l).nodes (listed_serial n l).messages (serial_rises n l is))
      ∙ after_listed (listed_serial n l) (least (events_of sim.budget (listed_serial n l).nodes (listed_serial n l).messages)) (serial_rises n l is)

  -- ---- the round

  abbrev pub listed_own : (S → List (Message X) → ListedRun S X) → S → List (Message X) → Option (Key × Event X) → ListedRun S X
  listed_own rest node ms None = record { node = node; messages = ms; outs = [] }
  listed_own rest node ms (Some e) =
      let reaction = sim.react node e.1 in
      let r = rest reaction.0 (placed_in (taken_from e.1 ms) (to_itself sim node reaction.1)) in
      record { node = r.node; messages = r.messages; outs = to_others sim node reaction.1 ++ r.outs }

  abbrev pub listed_run : ℕ → ℕ → S → List (Message X) → ListedRun S X
  listed_run until zero node ms = record { node = node; messages = ms; outs = [] }
  listed_run until (suc n) node ms = listed_own (listed_run until n) node ms (least (events_of until (node ∷ []) ms))

  run_rises : (until n : ℕ) (node : S) (ms : List (Message X)) → IsRising ms → IsRising (listed_run until n node ms).messages
  run_rises until zero node ms is = is
  run_rises until (suc n) node ms is = by (run_rises until n) (least (events_of until (node ∷ []) ms))
    where
      by : ((new : S) (queue : List (Message X)) → IsRising queue → IsRising (listed_run until n new queue).messages) → (o : Option (Key × Event X)) → IsRising (listed_own (listed_run until n) node ms o).messages
      by rest None = is
      by rest (Some e) = rest _ _ (placed_rises (taken_from e.1 ms) (to_itself sim node (sim.react node e.1).1) (taken_rises e.1 ms is))

  run_listed : (until n : ℕ) (node : S) (ms : List (Message X)) → IsRising ms → free_run sim until n node (queue_of ms) ≡ run_of_list (listed_run until n node ms)
  unfolding free_run
  run_listed until zero node ms is = refl
  run_listed until (suc n) node ms is =
      ap (λ es. after_own sim (free_run sim until n) node (queue_of ms) (least es)) (events-listed until (node ∷ []) ms is)
      ∙ by (run_listed until n) (least (events_of until (node ∷ []) ms))
    where
      by : ((new : S) (queue : List (Message X)) → IsRising queue → free_run sim until n new (queue_of queue) ≡ run_of_list (listed_run until n new queue)) → (o : Option (Key × Event X)) → after_own sim (free_run sim until n) node (queue_of ms) o ≡ run_of_list (listed_own (listed_run until n) node ms o)
      by rest None = refl
      by rest (Some e) =
          ap (λ queue. with_outs (to_others sim node (sim.react node e.1).1) (free_run sim until n (sim.react node e.1).0 queue))
          (ap (λ queue. placed queue (to_itself sim node (sim.react node e.1).1)) (queue-taken e.1 ms is) ∙ queue-placed (taken_from e.1 ms) (to_itself sim node (sim.react node e.1).1) (taken_rises e.1 ms is))
          ∙ ap (with_outs (to_others sim node (sim.react node e.1).1)) (rest (sim.react node e.1).0 (placed_in (taken_from e.1 ms) (to_itself sim node (sim.react node e.1).1)) (placed_rises (taken_from e.1 ms) (to_itself sim node (sim.react node e.1).1) (taken_rises e.1 ms is)))

  abbrev pub listed_local : ℕ → List (Message X) → S → ListedRun S X
  listed_local until ms node = listed_run until (sim.event_limit - sim.handled node) node (kept (λ k. k.to == sim.number node) ms)

  abbrev pub listed_runs : ℕ → Listed S X → List (ListedRun S X)
  listed_runs until l = map (listed_local until l.messages) l.nodes

  abbrev pub listed_round : ℕ → Listed S X → Listed S X
  listed_round until l =
      let runs = listed_runs until l in
      record {
        nodes = map (λ (r : ListedRun S X). r.node) runs;
        messages = placed_in (sorted_of (flat_map (λ (r : ListedRun S X). r.messages) runs)) (flat_map (λ (r : ListedRun S X). r.outs) runs);
        kept_end = until;
        quanta = l.quanta + 1;
      }

  local_listed : (until : ℕ) (ms : List (Message X)) → IsRising ms → (node : S) → local sim until node (to_node (queue_of ms) (sim.number node)) ≡ run_of_list (listed_local until ms node)
  local_listed until ms is node =
      ap (local sim until node) (queue-kept (λ k. k.to == sim.number node) ms is)
      ∙ run_listed until (sim.event_limit - sim.handled node) node (kept (λ k. k.to == sim.number node) ms) (kept_rises (λ k. k.to == sim.number node) ms is)

  runs_listed : (until : ℕ) (l : Listed S X) → IsRising l.messages → runs_to sim until l.nodes (queue_of l.messages) ≡ map run_of_list (listed_runs until l)
  runs_listed until l is =
      map_alike (λ node. local sim until node (to_node (queue_of l.messages) (sim.number node))) (λ node. run_of_list (listed_local until l.messages node)) l.nodes (λ node m. local_listed until l.messages is node)
      ∙ sym (map_map run_of_list (listed_local until l.messages) l.nodes)

  exchanged_listed : (runs : List (ListedRun S X)) → ((ms : List (Message X)) → IsIn ms (map (λ (r : ListedRun S X). r.messages) runs) → IsRising ms) → exchanged (map run_of_list runs) ≡ queue_of (placed_in (sorted_of (flat_map (λ (r : ListedRun S X). r.messages) runs)) (flat_map (λ (r : ListedRun S X). r.outs) runs))
  exchanged_listed runs each =
      (λ i. placed (together (queues i)) (outs i))
      ∙ ap (λ queue. placed queue (flat_map (λ (r : ListedRun S X). r.outs) runs)) (queues-together (map (λ (r : ListedRun S X). r.messages) runs) each ∙ ap (λ ms. queue_of (sorted_of ms)) (flat_map_map (λ (ms : List (Message X)). ms) (λ (r : ListedRun S X). r.messages) runs))
      ∙ queue-placed (sorted_of (flat_map (λ (r : ListedRun S X). r.messages) runs)) (flat_map (λ (r : ListedRun S X). r.outs) runs) (sorted_rises (flat_map (λ (r : ListedRun S X). r.messages) runs))
    where
      queues : map (λ (r : FreeRun S X). r.pending) (map run_of_list runs) ≡ map queue_of (map (λ (r : ListedRun S X). r.messages) runs)
      queues = map_map (λ (r : FreeRun S X). r.pending) run_of_list runs ∙ sym (map_map queue_of (λ (r : ListedRun S X). r.messages) runs)

      outs : flat_map (λ (r : FreeRun S X). r.outs) (map run_of_list runs) ≡ flat_map (λ (r : ListedRun S X). r.outs) runs
      outs = flat_map_map (λ (r : FreeRun S X). r.outs) run_of_list runs

  pub round_listed : (until : ℕ) (l : Listed S X) → IsRising l.messages → round sim until (world_of l) ≡ world_of (listed_round until l)
  round_listed until l is = λ i. record {
    nodes = (ap (map (λ (r : FreeRun S X). r.node)) (runs_listed until l is) ∙ map_map (λ (r : FreeRun S X). r.node) run_of_list (listed_runs until l)) i;
    pending = (ap exchanged (runs_listed until l is) ∙ exchanged_listed (listed_runs until l) each) i;
    kept_end = until;
    quanta = l.quanta + 1;
  }
    where
      each : (ms : List (Message X)) → IsIn ms (map (λ (r : ListedRun S X). r.messages) (listed_runs until l)) → IsRising ms
      each ms h = of (from_map (λ (r : ListedRun S X). r.messages) ms (listed_runs until l) h)
        where
          of : (r : ListedRun S X) × IsIn r (listed_runs until l) × (ms ≡ r.messages) → IsRising ms
          of r = run (from_map (listed_local until l.messages) r.0 l.nodes r.1)
            where
              run : (node : S) × IsIn node l.nodes × (r.0 ≡ listed_local until l.messages node) → IsRising ms
              run n = subst IsRising (sym (r.2 ∙ ap (λ (t : ListedRun S X). t.messages) n.2))
                  (run_rises until (sim.event_limit - sim.handled n.0) n.0 (kept (λ k. k.to == sim.number n.0) l.messages) (kept_rises (λ k. k.to == sim.number n.0) l.messages is))

  -- ---- and many of them

  abbrev pub listed_opening : Listed S X → Option (Key × Event X) → Listed S X
  listed_opening l None = l
  listed_opening l (Some e) = listed_round (quantum_end sim e.0.time) l

  abbrev pub listed_rounds : ℕ → Listed S X → Listed S X
  listed_rounds zero l = l
  listed_rounds (suc n) l = let before = listed_rounds n l in listed_opening before (least (events_of sim.budget before.nodes before.messages))

  opening_rises : (l : Listed S X) (o : Option (Key × Event X)) → IsRising l.messages → IsRising (listed_opening l o).messages
  opening_rises l None is = is
  opening_rises l (Some e) is = placed_rises (sorted_of (flat_map (λ (r : ListedRun S X). r.messages) (listed_runs (quantum_end sim e.0.time) l))) (flat_map (λ (r : ListedRun S X). r.outs) (listed_runs (quantum_end sim e.0.time) l)) (sorted_rises (flat_map (λ (r : ListedRun S X). r.messages) (listed_runs (quantum_end sim e.0.time) l)))

  rounds_rise : (n : ℕ) (l : Listed S X) → IsRising l.messages → IsRising (listed_rounds n l).messages
  rounds_rise zero l is = is
  rounds_rise (suc n) l is = opening_rises (listed_rounds n l) (least (events_of sim.budget (listed_rounds n l).nodes (listed_rounds n l).messages)) (rounds_rise n l is)

  opening_listed : (l : Listed S X) (o : Option (Key × Event X)) → IsRising l.messages → after_opening sim (world_of l) o ≡ world_of (listed_opening l o)
  opening_listed l None is = refl
  opening_listed l (Some e) is = round_listed (quantum_end sim e.0.time) l is

  pub rounds_listed : (n : ℕ) (l : Listed S X) → IsRising l.messages → rounds sim n (world_of l) ≡ world_of (listed_rounds n l)
  unfolding rounds
  rounds_listed zero l is = refl
  rounds_listed (suc n) l is =
      ap (λ w. after_opening sim w (least (events_in sim w))) (rounds_listed n l is)
      ∙ ap (λ es. after_opening sim (world_of (listed_rounds n l)) (least es)) (events-listed sim.budget (listed_rounds n l).nodes (listed_rounds n l).messages (rounds_rise n l is))
      ∙ opening_listed (listed_rounds n l) (least (events_of sim.budget (listed_rounds n l).nodes (listed_rounds n l).messages)) (rounds_rise n l is)
