-- Lists of which one place has changed, and stations by their numbers.
use Rattle.std.proofs.Common.{◌≡◌, ℕ, zero, suc, ◌+◌, ◌<◌, List, [], ◌∷◌, ◌++◌, length, get_or, set, map, take, Bool, cond, refl, ap, sym, ◌∙◌, inl, inr, ◌==◌, arith, append-nil, eq-eqb, ne_eqb}
use Rattle.std.specs.Prelude.{flat_map}
use Rattle.std.proofs.Math.Seq.{take-append_seam}
use Rattle.std.proofs.lemmas.List.{get_or-set_same, get_or-set_other}
use mathlib.Core.Logic.{dite}
use native.Mathlib.Decide.{ℕ_discrete}
use Rattle.wt_params.specs.declared.parts.MachineParts.{MachineParts}
use Rattle.wt_proto.specs.declared.message.Msg.{Msg}
use Rattle.wt_proto.specs.declared.message.Stamped.{Stamped}
use Rattle.discrete_events.specs.Simulation.{Simulation, Message}
use Rattle.discrete_events.specs.Core.{Station, with_inbox, with_messages}
use Rattle.discrete_events.specs.Laws.{IsIn, IsNumbered}
use Rattle.node.specs.declared.state.NodeState.{NodeState}
use Rattle.node.specs.React.{wind_tunnel}
use Rattle.quantum.specs.Stations.{StationModel, station_of}
use Rattle.engine.specs.Quantum.{given}
use Rattle.engine.proofs.Merges.{given_station}
use Rattle.core_steps.specs.Cores.{under_keys}

pub set_at : {A : Type 0} (xs : List A) (k n : ℕ) (b d : A) → k < length xs → get_or (set xs k b) n d ≡ cond (n == k) b (get_or xs n d)
set_at xs k n b d h = dite (ℕ_discrete n k)
    (λ e. (λ i. get_or (set xs k b) (e i) d) ∙ get_or-set_same xs k b d h ∙ ap (λ (t : Bool). cond t b (get_or xs n d)) (sym (eq-eqb n k e)))
    (λ ne. get_or-set_other xs k n b d ne ∙ ap (λ (t : Bool). cond t b (get_or xs n d)) (sym (ne_eqb n k ne)))

-- all of a list is written
pub written : {A : Type 0} (n : ℕ) (xs ys : List A) → length xs ≡ n → take n (xs ++ ys) ≡ xs
written n xs ys e = ap (λ k. take k (xs ++ ys)) (sym e) ∙ take-append_seam xs ys

pub place_in : {A : Type 0} (xs : List A) (k : ℕ) (d : A) → k < length xs → IsIn (get_or xs k d) xs
place_in [] k d h = absurd (omega arith)
place_in (x ∷ xs) zero d h = inl refl
place_in (x ∷ xs) (suc k) d h = inr (place_in xs k d (omega arith))

module _ (machine : MachineParts) where
  abbrev sim : Simulation NodeState Msg
  sim = wind_tunnel machine

  -- the stations have the numbers from one on
  abbrev pub AreNumbered : ℕ → List StationModel → Type 0
  AreNumbered from xs = IsNumbered sim from (map (λ (s : Station NodeState Msg). s.node) (map station_of xs))

  pub number_at : (from k : ℕ) (xs : List StationModel) (d : StationModel) → AreNumbered from xs → k < length xs → (get_or xs k d).node.state.number ≡ from + k
  number_at from k [] d numbered h = absurd (omega arith)
  number_at from zero (x ∷ xs) d numbered h = numbered.0 ∙ omega arith
  number_at from (suc k) (x ∷ xs) d numbered h = number_at (suc from) k xs d numbered.1 (omega arith) ∙ omega arith

  pub numbered_count : (from : ℕ) (xs : List StationModel) → AreNumbered from xs → from + length xs ≡ machine.nodes
  numbered_count from [] numbered = let e : from ≡ machine.nodes = numbered in omega (arith, e)
  numbered_count from (x ∷ xs) numbered = let rest = numbered_count (suc from) xs numbered.1 in omega arith

  -- ---- one station by its number

  module _ (f : Station NodeState Msg → Station NodeState Msg) (at : ℕ) where
    abbrev pub one : Station NodeState Msg → Station NodeState Msg
    one t = cond (t.node.number == at) (f t) t

    others : (from : ℕ) (xs : List StationModel) → at < from → AreNumbered from xs → map station_of xs ≡ map one (map station_of xs)
    others from [] low numbered = refl
    others from (x ∷ xs) low numbered =
        λ i. ap (λ (b : Bool). cond b (f (station_of x)) (station_of x)) (sym (ne_eqb x.node.state.number at (λ same. (let n = numbered.0 in omega arith)))) i ∷ others (suc from) xs (omega arith) numbered.1 i

    pub changed_map : (from k : ℕ) (xs : List StationModel) (new d : StationModel) → at ≡ from + k → AreNumbered from xs → k < length xs → station_of new ≡ f (station_of (get_or xs k d)) →
        map station_of (set xs k new) ≡ map one (map station_of xs)
    changed_map from k [] new d is numbered h e = absurd (omega arith)
    changed_map from zero (x ∷ xs) new d is numbered h e =
        λ i. (e ∙ ap (λ (b : Bool). cond b (f (station_of x)) (station_of x)) (sym (eq-eqb x.node.state.number at (let n = numbered.0 in omega arith)))) i
        ∷ others (suc from) xs (omega arith) numbered.1 i
    changed_map from (suc k) (x ∷ xs) new d is numbered h e =
        λ i. ap (λ (b : Bool). cond b (f (station_of x)) (station_of x)) (sym (ne_eqb x.node.state.number at (λ same. (let n = numbered.0 in omega arith)))) i
        ∷ changed_map (suc from) k xs new d (omega arith) numbered.1 (omega arith) e i

  module _ (g : Station NodeState Msg → List (Message Msg)) (at : ℕ) where
    abbrev pub its : Station NodeState Msg → List (Message Msg)
    its t = cond (t.node.number == at) (g t) []

    none : (from : ℕ) (xs : List StationModel) → at < from → AreNumbered from xs → flat_map its (map station_of xs) ≡ []
    none from [] low numbered = refl
    none from (x ∷ xs) low numbered =
        λ i. ap (λ (b : Bool). cond b (g (station_of x)) []) (ne_eqb x.node.state.number at (λ same. (let n = numbered.0 in omega arith))) i ++ none (suc from) xs (omega arith) numbered.1 i

    pub chosen : (from k : ℕ) (xs : List StationModel) (d : StationModel) → at ≡ from + k → AreNumbered from xs → k < length xs → flat_map its (map station_of xs) ≡ g (station_of (get_or xs k d))
    chosen from k [] d is numbered h = absurd (omega arith)
    chosen from zero (x ∷ xs) d is numbered h =
        (λ i. ap (λ (b : Bool). cond b (g (station_of x)) []) (eq-eqb x.node.state.number at (let n = numbered.0 in omega arith)) i ++ none (suc from) xs (omega arith) numbered.1 i)
        ∙ append-nil (g (station_of x))
    chosen from (suc k) (x ∷ xs) d is numbered h =
        (λ i. ap (λ (b : Bool). cond b (g (station_of x)) []) (ne_eqb x.node.state.number at (λ same. (let n = numbered.0 in omega arith))) i ++ chosen (suc from) k xs d (omega arith) numbered.1 (omega arith) i)

  -- ---- all stations with their inboxes

  pub given_map : (inboxes : List (List Stamped)) (from : ℕ) (before after : List StationModel) → AreNumbered from before → length after ≡ length before →
      ((k : ℕ) (d : StationModel) → k < length before → get_or after k d ≡ given (get_or inboxes (from + k) []) (get_or before k d)) →
      map station_of after ≡ map (with_inbox sim (λ to. under_keys (get_or inboxes to []))) (map station_of before)
  given_map inboxes from [] [] numbered count each = refl
  given_map inboxes from [] (y ∷ ys) numbered count each = absurd (omega (arith, count))
  given_map inboxes from (x ∷ xs) [] numbered count each = absurd (omega (arith, count))
  given_map inboxes from (x ∷ xs) (y ∷ ys) numbered count each =
      λ i. here i ∷ given_map inboxes (suc from) xs ys numbered.1 (omega (arith, count)) (λ k d h. each (suc k) d (omega arith) ∙ ap (λ (n : ℕ). given (get_or inboxes n []) (get_or xs k d)) (next k)) i
    where
      at : from + 0 ≡ x.node.state.number
      at = let n = numbered.0 in omega arith

      here : station_of y ≡ with_messages (under_keys (get_or inboxes x.node.state.number [])) (station_of x)
      here =
          ap station_of (each 0 x (omega arith))
          ∙ given_station (get_or inboxes (from + 0) []) x
          ∙ ap (λ (k : ℕ). with_messages (under_keys (get_or inboxes k [])) (station_of x)) at

      next : (k : ℕ) → from + suc k ≡ suc from + k
      next k = omega arith
