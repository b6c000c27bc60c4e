-- Lists of messages that are stamped or sent one by one.
use Rattle.std.proofs.Common.{◌≡◌, ℕ, zero, suc, ◌+◌, List, [], ◌∷◌, ◌++◌, Some, None, refl, ap, ◌∙◌, arith}
use Rattle.std.specs.Prelude.{take, slice_get, map}
use Rattle.wt_params.specs.declared.parts.MachineParts.{MachineParts}
use Rattle.node.specs.declared.state.Send.{Send}
use Rattle.node.specs.React.{stamped, stamped_from}

more_stamped : (machine : MachineParts) (from sequence : ℕ) (sends : List Send) (i : ℕ) (send : Send) → slice_get sends i ≡ Some send →
    stamped_from machine from sequence (take (suc i) sends) ≡ stamped_from machine from sequence (take i sends) ++ stamped machine from (sequence + i) send ∷ []
more_stamped machine from sequence [] i send is = absurd (let e : None ≡ Some send = is in cc)
more_stamped machine from sequence (first ∷ rest) zero send is =
    let same : first ≡ send = (let e : Some first ≡ Some send = is in cc) in
    let at : sequence ≡ sequence + 0 = omega arith in
    ap (λ n. stamped machine from n first ∷ []) at ∙ ap (λ (s : Send). stamped machine from (sequence + 0) s ∷ []) same
more_stamped machine from sequence (first ∷ rest) (suc i) send is =
    ap (λ later. stamped machine from sequence first ∷ later) (more_stamped machine from (sequence + 1) rest i send is)
    ∙ ap (λ n. stamped machine from sequence first ∷ (stamped_from machine from (sequence + 1) (take i rest) ++ stamped machine from n send ∷ [])) (omega arith)

-- one message more
pub stamped_more : (machine : MachineParts) (from sequence : ℕ) (sends : List Send) (i : ℕ) (send : Send) → slice_get sends i ≡ Some send →
    stamped_from machine from sequence (take (i + 1) sends) ≡ stamped_from machine from sequence (take i sends) ++ stamped machine from (sequence + i) send ∷ []
stamped_more machine from sequence sends i send is =
    let next : i + 1 ≡ suc i = omega arith in
    ap (λ n. stamped_from machine from sequence (take n sends)) next ∙ more_stamped machine from sequence sends i send is

more_mapped : {A B : Type 0} (f : A → B) (xs : List A) (i : ℕ) (x : A) → slice_get xs i ≡ Some x → map f (take (suc i) xs) ≡ map f (take i xs) ++ f x ∷ []
more_mapped f [] i x is = absurd (let e : None ≡ Some x = is in cc)
more_mapped f (first ∷ rest) zero x is = ap (λ y. f y ∷ []) (let e : Some first ≡ Some x = is in cc)
more_mapped f (first ∷ rest) (suc i) x is = ap (λ later. f first ∷ later) (more_mapped f rest i x is)

-- the same of any list that is gone through
pub map_more : {A B : Type 0} (f : A → B) (xs : List A) (i : ℕ) (x : A) → slice_get xs i ≡ Some x → map f (take (i + 1) xs) ≡ map f (take i xs) ++ f x ∷ []
map_more f xs i x is =
    let next : i + 1 ≡ suc i = omega arith in
    ap (λ n. map f (take n xs)) next ∙ more_mapped f xs i x is

-- past the end nothing is left
pub all_taken : {A : Type 0} (xs : List A) (i : ℕ) → slice_get xs i ≡ None → take i xs ≡ xs
all_taken [] zero is = refl
all_taken [] (suc i) is = refl
all_taken (x ∷ xs) zero is = absurd (let e : Some x ≡ None = is in cc)
all_taken (x ∷ xs) (suc i) is = ap (λ rest. x ∷ rest) (all_taken xs i is)
