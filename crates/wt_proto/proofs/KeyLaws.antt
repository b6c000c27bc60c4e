-- The laws of the order of keys.
use Rattle.std.proofs.Common.{◌≡◌, ℕ, refl, sym}
use Rattle.std.specs.declared.cmp.Ordering.{Ordering}
use Rattle.std.specs.declared.cmp.Ordering.TheVariants.{Less, Equal, Greater}
use Rattle.std.specs.Ordering.{nat_cmp, ordering_then}
use Rattle.std.specs.Cmp.{IsTotalOrder, nat_cmp_total, on_total, then_total, ranked}
use Rattle.wt_proto.specs.declared.key.Key.{Key}
use Rattle.wt_proto.specs.KeyOrder.{key_cmp, IsKeyOrder}

pub key_cmp_total : IsTotalOrder key_cmp
key_cmp_total =
    then_total (on_total (λ (k : Key). k.time) nat_cmp_total)
    (then_total (on_total (λ (k : Key). k.to) nat_cmp_total)
    (then_total (on_total (λ (k : Key). k.from) nat_cmp_total) (on_total (λ (k : Key). k.sequence) nat_cmp_total)))

same_number : (a b : ℕ) → nat_cmp a b ≡ Equal → a ≡ b
same_number a b e = ranked a b Equal (sym e)

both_equal : (r s : Ordering) → ordering_then r s ≡ Equal → (r ≡ Equal) × (s ≡ Equal)
both_equal Less s e = cc
both_equal Equal s e = (refl, e)
both_equal Greater s e = cc

-- keys that tie are the same key
pub tied_keys : (a b : Key) → key_cmp a b ≡ Equal → a ≡ b
tied_keys a b e =
    let time = both_equal (nat_cmp a.time b.time) _ e in
    let to = both_equal (nat_cmp a.to b.to) _ time.1 in
    let from = both_equal (nat_cmp a.from b.from) _ to.1 in
    let t : a.time ≡ b.time = same_number a.time b.time time.0 in
    let d : a.to ≡ b.to = same_number a.to b.to to.0 in
    let s : a.from ≡ b.from = same_number a.from b.from from.0 in
    let n : a.sequence ≡ b.sequence = same_number a.sequence b.sequence from.1 in
    λ i. record { time = t i; to = d i; from = s i; sequence = n i }

pub key_order_laws : IsKeyOrder
key_order_laws = record { total = key_cmp_total; ties = tied_keys }
