-- Messages by the numbers that their source gave them: they rise, so no two have the same key.
use Rattle.std.proofs.Common.{◌≡◌, ◌≢◌, ℕ, suc, ◌+◌, ◌<◌, ◌≤◌, List, [], ◌∷◌, ◌++◌, length, Bool, true, false, cond, Some, None, refl, ap, ◌∙◌, subst, inl, inr, ◌⊎◌, ◌==◌, arith, eq-eqb}
use Rattle.std.specs.List.{filter}
use Rattle.std.specs.FinMap.{get, insert, get-insert}
use Rattle.wt_proto.specs.declared.key.Key.{Key}
use Rattle.wt_proto.proofs.KeyLaws.{key_cmp_total}
use Rattle.discrete_events.specs.Simulation.{Message}
use Rattle.discrete_events.specs.Core.{part_from}
use Rattle.discrete_events.specs.Laws.{IsIn, AreInSequence}
use Rattle.discrete_events.specs.Theorems.{AreNew}
use Rattle.discrete_events.proofs.Lists.{in_left, in_append, in_filter, from_filter}
use Rattle.discrete_events.proofs.Keys.{isnt_key}
use Rattle.discrete_events.proofs.Queues.{Queue}

-- sequences that rise, from one number on and below another
abbrev pub RiseBetween : {X : Type 0} → ℕ → ℕ → List (Message X) → Type 0
RiseBetween low high [] = low ≤ high
RiseBetween low high (m ∷ ms) = (low ≤ m.0.sequence) × RiseBetween (suc m.0.sequence) high ms

-- messages of which no two have the same key
abbrev pub AreApart : {X : Type 0} → List (Message X) → Type 0
AreApart {X} [] = Unit {0}
AreApart {X} (m ∷ ms) = ((n : Message X) → IsIn n ms → n.0 ≢ m.0) × AreApart ms

module _ {X : Type 0} where
  pub rise_up : (low high : ℕ) (ms : List (Message X)) → RiseBetween low high ms → low ≤ high
  rise_up low high [] rise = rise
  rise_up low high (m ∷ ms) rise = let up = rise_up (suc m.0.sequence) high ms rise.1 in let first = rise.0 in omega arith

  pub rise_lower : (less low high : ℕ) (ms : List (Message X)) → less ≤ low → RiseBetween low high ms → RiseBetween less high ms
  rise_lower less low high [] h rise = omega arith
  rise_lower less low high (m ∷ ms) h rise = (let first = rise.0 in omega arith, rise.1)

  pub rise_append : (low mid high : ℕ) (xs ys : List (Message X)) → RiseBetween low mid xs → RiseBetween mid high ys → RiseBetween low high (xs ++ ys)
  rise_append low mid high [] ys rise later = rise_lower low mid high ys rise later
  rise_append low mid high (x ∷ xs) ys rise later = (rise.0, rise_append (suc x.0.sequence) mid high xs ys rise.1 later)

  pub rise_filter : (p : Message X → Bool) (low high : ℕ) (ms : List (Message X)) → RiseBetween low high ms → RiseBetween low high (filter p ms)
  rise_filter p low high [] rise = rise
  rise_filter p low high (m ∷ ms) rise = by (p m) (rise_filter p (suc m.0.sequence) high ms rise.1)
    where
      by : (b : Bool) → RiseBetween (suc m.0.sequence) high (filter p ms) → RiseBetween low high (cond b (m ∷ filter p ms) (filter p ms))
      by true rest = (rise.0, rest)
      by false rest = rise_lower low (suc m.0.sequence) high (filter p ms) (let first = rise.0 in omega arith) rest

  pub rise_within : (low high : ℕ) (ms : List (Message X)) (m : Message X) → RiseBetween low high ms → IsIn m ms → (low ≤ m.0.sequence) × (m.0.sequence < high)
  rise_within low high [] m rise is = absurd is
  rise_within low high (n ∷ ns) m rise (inl e) =
      let same : m.0.sequence ≡ n.0.sequence = ap (λ (k : Message X). k.0.sequence) e in
      let first = rise.0 in
      let up = rise_up (suc n.0.sequence) high ns rise.1 in
      (omega arith, omega arith)
  rise_within low high (n ∷ ns) m rise (inr is) = let first = rise.0 in let r = rise_within (suc n.0.sequence) high ns m rise.1 is in (let a = r.0 in omega arith, r.1)

  pub rise_apart : (low high : ℕ) (ms : List (Message X)) → RiseBetween low high ms → AreApart ms
  rise_apart low high [] rise = tt
  rise_apart low high (m ∷ ms) rise = (
    λ n is same. let r = (rise_within (suc m.0.sequence) high ms n rise.1 is).0 in let e : n.0.sequence ≡ m.0.sequence = ap (λ (k : Key). k.sequence) same in omega arith,
    rise_apart (suc m.0.sequence) high ms rise.1,
  )

  pub numbered_rise : (low high : ℕ) (ms : List (Message X)) → AreInSequence low ms → high ≡ low + length ms → RiseBetween low high ms
  numbered_rise low high [] is e = omega arith
  numbered_rise low high (m ∷ ms) is e =
      let first = is.0 in
      (omega arith, rise_lower (suc m.0.sequence) (low + 1) high ms (omega arith) (numbered_rise (low + 1) high ms is.1 (omega arith)))

  -- ---- no two with the same key

  pub apart_append : (xs ys : List (Message X)) → AreApart xs → AreApart ys → ((a b : Message X) → IsIn a xs → IsIn b ys → b.0 ≢ a.0) → AreApart (xs ++ ys)
  apart_append [] ys one other across = other
  apart_append (x ∷ xs) ys one other across = (
    λ n is. either n (in_append n xs ys is),
    apart_append xs ys one.1 other (λ a b h k. across a b (inr h) k),
  )
    where
      either : (n : Message X) → IsIn n xs ⊎ IsIn n ys → n.0 ≢ x.0
      either n (inl h) = one.0 n h
      either n (inr h) = across x n (inl refl) h

  pub apart_left : (xs ys : List (Message X)) → AreApart (xs ++ ys) → AreApart xs
  apart_left [] ys apart = tt
  apart_left (x ∷ xs) ys apart = (λ n is. apart.0 n (in_left n xs ys is), apart_left xs ys apart.1)

  pub apart_filter : (p : Message X → Bool) (ms : List (Message X)) → AreApart ms → AreApart (filter p ms)
  apart_filter p [] apart = tt
  apart_filter p (m ∷ ms) apart = by (p m) (apart_filter p ms apart.1)
    where
      by : (b : Bool) → AreApart (filter p ms) → AreApart (cond b (m ∷ filter p ms) (filter p ms))
      by true rest = (λ n is. apart.0 n (from_filter p n ms is).0, rest)
      by false rest = rest

  -- the parts of all sources, and so the whole
  pub apart_by_source : (ms : List (Message X)) → ((from : ℕ) → AreApart (part_from from ms)) → AreApart ms
  apart_by_source [] each = tt
  apart_by_source (m ∷ ms) each = (first, apart_by_source ms (λ from. rest from (m.0.from == from) (each from)))
    where
      here : AreApart (m ∷ part_from m.0.from ms)
      here = subst (λ (b : Bool). AreApart (cond b (m ∷ part_from m.0.from ms) (part_from m.0.from ms))) (eq-eqb m.0.from m.0.from refl) (each m.0.from)

      first : (n : Message X) → IsIn n ms → n.0 ≢ m.0
      first n is same = here.0 n (in_filter (λ (k : Message X). k.0.from == m.0.from) n ms is (eq-eqb _ _ (ap (λ (k : Key). k.from) same))) same

      rest : (from : ℕ) (b : Bool) → AreApart (cond b (m ∷ part_from from ms) (part_from from ms)) → AreApart (part_from from ms)
      rest from true h = h.1
      rest from false h = h

  -- Where no two have the same key, and none has one that is pending, each is new when it is placed.
  pub new_of_apart : (pending : Queue X) (ms : List (Message X)) → AreApart ms → ((m : Message X) → IsIn m ms → get pending m.0 ≡ None) → AreNew pending ms
  new_of_apart pending [] apart none = tt
  new_of_apart pending (m ∷ ms) apart none = (
    none m (inl refl),
    new_of_apart (insert pending m.0 m.1) ms apart.1
        (λ n is. get-insert key_cmp_total pending m.0 m.1 n.0 ∙ ap (λ (b : Bool). cond b (Some m.1) (get pending n.0)) (isnt_key n.0 m.0 (apart.0 n is)) ∙ none n (inr is)),
  )
