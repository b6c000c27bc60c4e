-- What the stations have come to is what their world has come to.
use Rattle.std.proofs.Common.{◌≡◌, ◌≢◌, List, [], ◌∷◌, length, Bool, true, false, cond, not, ◌||◌, ◌&&◌, ◌==◌, Some, None, refl, ap, sym, ◌∙◌, subst, inl, inr, arith, eqb-true, eq-eqb}
use Rattle.std.specs.List.{list_any, list_all}
use Rattle.std.specs.FinMap.{get, entries, len, len-entries, empty_of_len, get-empty}
use Rattle.wt_proto.specs.declared.key.Key.{Key}
use Rattle.wt_proto.specs.declared.message.Msg.{Msg}
use Rattle.wt_proto.specs.KeyOrder.{key_cmp}
use Rattle.discrete_events.specs.World.{is_spent}
use Rattle.discrete_events.specs.Laws.{IsIn}
use Rattle.discrete_events.proofs.Lists.{or_else}
use Rattle.discrete_events.proofs.Queues.{Queue, first_of, get_together, in_get}
use Rattle.node.specs.declared.state.NodeState.{NodeState}
use Rattle.node.specs.State.{is_running, is_stopped}
use Rattle.node.specs.React.{wind_tunnel}
use Rattle.wt_stats.specs.declared.head.Outcome.{Outcome}
use Rattle.wt_stats.specs.declared.head.Outcome.TheVariants.{Finished, Budget, EventLimit, Stalled}
use Rattle.quantum.specs.Outcome.{head_of, outcome_of}
use Rattle.quantum.specs.Stations.{StationModel}
use Rattle.engine.specs.Engine.{EngineModel, IsRunning, all_pending, events_so_far, nodes_of, world_of}
use Rattle.engine.specs.Heads.{events_in_all, has_spent, head_in, is_at_work, outcome_in}
use Rattle.engine.proofs.Deliveries.{neither, queues}
use Rattle.engine.proofs.Going.{few_times}
use Rattle.engine.proofs.Owned.{its}
use Rattle.engine.proofs.Quanta.{events_bound}

any_map : (p : NodeState → Bool) (q : StationModel → Bool) (xs : List StationModel) → ((x : StationModel) → IsIn x xs → q x ≡ p x.node.state) → list_any q xs ≡ list_any p (nodes_of xs)
any_map p q [] same = refl
any_map p q (x ∷ xs) same = λ i. same x (inl refl) i || any_map p q xs (λ y h. same y (inr h)) i

all_map : (p : NodeState → Bool) (xs : List StationModel) → list_all (λ s. p s.node.state) xs ≡ list_all p (nodes_of xs)
all_map p [] = refl
all_map p (x ∷ xs) = ap (λ b. p x.node.state && b) (all_map p xs)

any_either : (p q : StationModel → Bool) (xs : List StationModel) → list_any (λ s. p s || q s) xs ≡ (list_any p xs || list_any q xs)
any_either p q [] = refl
any_either p q (x ∷ xs) = ap (λ b. (p x || q x) || b) (any_either p q xs) ∙ by (p x) (q x) (list_any p xs) (list_any q xs)
  where
    by : (a b c d : Bool) → ((a || b) || (c || d)) ≡ ((a || c) || (b || d))
    by true b c d = refl
    by false true true d = refl
    by false true false d = refl
    by false false c d = refl

-- ---- whether messages are pending

abbrev has_some : Queue Msg → Bool
has_some queue = not (len queue == 0)

-- a queue without messages has nothing under any key, and any other has something
none_under : (queue : Queue Msg) → has_some queue ≡ false → (q : Key) → get queue q ≡ None
none_under queue none q = ap (λ (m : Queue Msg). get m q) (empty_of_len queue (by (len queue == 0) refl none)) ∙ get-empty {X = Msg} key_cmp q
  where
    by : (b : Bool) → (len queue == 0) ≡ b → not b ≡ false → len queue ≡ 0
    by true e f = eqb-true _ _ e
    by false e f = absurd (let n : true ≡ false = f in cc)

some_under : (queue : Queue Msg) → has_some queue ≡ true → (q : Key) × (v : Msg) × (get queue q ≡ Some v)
some_under queue some = by (entries queue) refl
  where
    by : (es : List (Key × Msg)) → entries queue ≡ es → (q : Key) × (v : Msg) × (get queue q ≡ Some v)
    by [] e = absurd (let n : len queue ≡ 0 = len-entries queue ∙ ap length e in let t : (len queue == 0) ≡ true = eq-eqb _ _ n in let f : not true ≡ true = ap not (sym t) ∙ some in cc)
    by (x ∷ xs) e = (x.0, x.1, in_get queue x (subst (λ (es : List (Key × Msg)). IsIn x es) (sym e) (inl refl)))

first_some : (xs : List StationModel) (q : Key) → list_any (λ s. has_some s.pending) xs ≡ false → first_of q (queues xs) ≡ None
first_some [] q e = refl
first_some (x ∷ xs) q e =
    let parts = both (has_some x.pending) (list_any (λ s. has_some s.pending) xs) e in
    (λ i. or_else (none_under x.pending parts.0 q i) (first_some xs q parts.1 i))
  where
    both : (a b : Bool) → (a || b) ≡ false → (a ≡ false) × (b ≡ false)
    both true b e = absurd (let n : true ≡ false = e in cc)
    both false b e = (refl, e)

some_first : (xs : List StationModel) → list_any (λ s. has_some s.pending) xs ≡ true → (q : Key) × (first_of q (queues xs) ≢ None)
some_first [] e = absurd (let n : false ≡ true = e in cc)
some_first (x ∷ xs) e = by (some_first xs) (has_some x.pending) refl e
  where
    here : (q : Key) × (v : Msg) × (get x.pending q ≡ Some v) → (q : Key) × (first_of q (queues (x ∷ xs)) ≢ None)
    here (q, v, is) = (q, λ none. let n : Some v ≡ None = sym is ∙ (neither (get x.pending q) _ none).0 in cc)

    by : (list_any (λ s. has_some s.pending) xs ≡ true → (q : Key) × (first_of q (queues xs) ≢ None)) → (b : Bool) → has_some x.pending ≡ b → (b || list_any (λ s. has_some s.pending) xs) ≡ true → (q : Key) × (first_of q (queues (x ∷ xs)) ≢ None)
    by rest true is f = here (some_under x.pending is)
    by rest false is f = let r = rest f in (r.0, λ none. r.1 (neither (get x.pending r.0) _ none).1)

pub pending_some : (xs : List StationModel) → list_any (λ s. has_some s.pending) xs ≡ has_some (all_pending xs)
pending_some xs = by (list_any (λ s. has_some s.pending) xs) refl (has_some (all_pending xs)) refl
  where
    by : (a : Bool) → list_any (λ s. has_some s.pending) xs ≡ a → (b : Bool) → has_some (all_pending xs) ≡ b → a ≡ b
    by true e true f = refl
    by false e false f = refl
    by true e false f = let r = some_first xs e in absurd (r.1 (sym (get_together (queues xs) r.0) ∙ none_under (all_pending xs) f r.0))
    by false e true f = let r = some_under (all_pending xs) f in let n : Some r.1 ≡ None = sym r.2 ∙ get_together (queues xs) r.0 ∙ first_some xs r.0 e in absurd cc

abbrev choice : Bool → Bool → Bool → Outcome
choice spent at_work stopped = cond spent EventLimit (cond at_work Budget (cond stopped Finished Stalled))

module _ (engine : EngineModel) (running : IsRunning engine) where
  outcome_is : outcome_in engine.stations ≡ outcome_of engine.machine (world_of engine)
  outcome_is = λ i. choice
      (any_map (is_spent (wind_tunnel engine.machine)) has_spent engine.stations (λ s member. ap (λ m. is_spent (wind_tunnel m) s.node.state) (its engine running s member).machine_is) i)
      (at_work i)
      (all_map is_stopped engine.stations i)
    where
      at_work : list_any is_at_work engine.stations ≡ (has_some (all_pending engine.stations) || list_any is_running (nodes_of engine.stations))
      at_work =
          any_either (λ s. has_some s.pending) (λ s. is_running s.node.state) engine.stations
          ∙ (λ i. pending_some engine.stations i || any_map is_running (λ s. is_running s.node.state) engine.stations (λ s member. refl) i)

  pub head_is : head_in engine.stations engine.quanta ≡ head_of engine.machine (world_of engine)
  head_is =
      let bound = events_bound engine running in
      let few = few_times engine running engine.machine.nodes engine.machine.event_limit running.numbers.nodes.at_most running.numbers.event_limit.at_most in
      let events : events_in_all engine.stations ≡ events_so_far engine = omega arith in
      λ i. record { outcome = outcome_is i; events = events i; time = (head_of engine.machine (world_of engine)).time; quanta = engine.quanta }
