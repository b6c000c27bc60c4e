-- Members of lists by their places, and a list of which one place has changed.
use Rattle.std.proofs.Common.{◌≡◌, ℕ, zero, suc, ◌<◌, ◌⊎◌, List, [], ◌∷◌, length, get_or, refl, ap, sym, subst, inl, inr, arith}
use Rattle.std.proofs.Math.ListN.{set}
use Rattle.std.specs.List.{All}
use Rattle.wt_proto.specs.declared.message.Stamped.{Stamped}
use Rattle.quantum.specs.Stations.{StationModel, MayAccept, accept_of}
use Rattle.discrete_events.specs.Laws.{IsIn}
use Rattle.engine.specs.Engine.{nodes_of}
use Rattle.engine.specs.Quantum.{changed_at, MayAcceptAt}

pub in_all : {A : Type 0} (P : A → Type 0) (xs : List A) → All P xs → (x : A) → IsIn x xs → P x
in_all P [] all x is = absurd is
in_all P (y ∷ ys) all x (inl e) = subst P (sym e) (all 0 y (omega arith))
in_all P (y ∷ ys) all x (inr is) = in_all P ys (λ k d h. all (suc k) d (omega arith)) x is

pub all_by : {A : Type 0} (P : A → Type 0) (xs : List A) → ((x : A) → IsIn x xs → P x) → All P xs
all_by P [] each k d h = absurd (omega arith)
all_by P (y ∷ ys) each zero d h = each y (inl refl)
all_by P (y ∷ ys) each (suc k) d h = all_by P ys (λ x is. each x (inr is)) k d (omega arith)

pub changed_is_set : (place : ℕ) (f : StationModel → StationModel) (xs : List StationModel) (d : StationModel) → place < length xs → changed_at place f xs ≡ set xs place (f (get_or xs place d))
changed_is_set place f [] d h = absurd (omega arith)
changed_is_set zero f (x ∷ xs) d h = refl
changed_is_set (suc n) f (x ∷ xs) d h = ap (λ ys. x ∷ ys) (changed_is_set n f xs d (omega arith))

pub place_below : (place : ℕ) (letter : Stamped) (xs : List StationModel) → MayAcceptAt place letter xs → place < length xs
place_below place letter [] may = absurd may
place_below zero letter (x ∷ xs) may = omega arith
place_below (suc n) letter (x ∷ xs) may = let r = place_below n letter xs may in omega arith

pub may_accept : (place : ℕ) (letter : Stamped) (xs : List StationModel) (d : StationModel) → MayAcceptAt place letter xs → MayAccept (get_or xs place d) letter
may_accept place letter [] d may = absurd may
may_accept zero letter (x ∷ xs) d may = may
may_accept (suc n) letter (x ∷ xs) d may = may_accept n letter xs d may

pub in_changed : (place : ℕ) (f : StationModel → StationModel) (xs : List StationModel) (x : StationModel) → IsIn x (changed_at place f xs) → (y : StationModel) × IsIn y xs × ((x ≡ y) ⊎ (x ≡ f y))
in_changed place f [] x is = absurd is
in_changed zero f (y ∷ ys) x (inl e) = (y, inl refl, inr e)
in_changed zero f (y ∷ ys) x (inr is) = (x, inr is, inl refl)
in_changed (suc n) f (y ∷ ys) x (inl e) = (y, inl refl, inl e)
in_changed (suc n) f (y ∷ ys) x (inr is) = let r = in_changed n f ys x is in (r.0, inr r.1, r.2)

pub nodes_changed : (place : ℕ) (letter : Stamped) (xs : List StationModel) → nodes_of (changed_at place (accept_of letter) xs) ≡ nodes_of xs
nodes_changed place letter [] = refl
nodes_changed zero letter (x ∷ xs) = refl
nodes_changed (suc n) letter (x ∷ xs) = ap (λ ys. x.node.state ∷ ys) (nodes_changed n letter xs)
