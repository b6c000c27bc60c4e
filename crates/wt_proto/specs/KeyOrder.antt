-- The order of keys. Own.
use Rattle.std.specs.Prelude.{◌≡◌}
use Rattle.std.specs.declared.cmp.Ordering.{Ordering}
use Rattle.std.specs.declared.cmp.Ordering.TheVariants.{Equal}
use Rattle.std.specs.Ordering.{nat_cmp, then_cmp, on}
use Rattle.std.specs.Cmp.{IsTotalOrder}
use Rattle.wt_proto.specs.declared.key.Key.{Key}

-- Keys are compared from left to right.
abbrev pub key_cmp : Key → Key → Ordering
key_cmp =
    then_cmp (on (λ key. key.time) nat_cmp)
    (then_cmp (on (λ key. key.to) nat_cmp) (then_cmp (on (λ key. key.from) nat_cmp) (on (λ key. key.sequence) nat_cmp)))

-- Any two keys compare, the order is transitive, and keys that tie are the same key.
pub record IsKeyOrder : Type 0 where
  pub total : IsTotalOrder key_cmp
  pub ties : (a b : Key) → key_cmp a b ≡ Equal → a ≡ b
