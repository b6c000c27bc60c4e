-- What the order of keys says of their times.
use Rattle.std.proofs.Common.{◌≡◌, ◌≢◌, ℕ, ◌≤◌, ◌⊎◌, Bool, true, false, refl, ap, subst, inl, inr, arith}
use Rattle.std.proofs.lemmas.Bool.Decides.{nat_tests}
use Rattle.std.specs.declared.cmp.Ordering.{Ordering}
use Rattle.std.specs.declared.cmp.Ordering.TheVariants.{Less, Equal, Greater}
use Rattle.std.specs.Ordering.{nat_cmp, ordering_then, ordering_reverse, is_lt, is_gt, is_eq, eq_by_cmp}
use Rattle.std.specs.Cmp.{tied_itself, upto}
use Rattle.wt_proto.specs.declared.key.Key.{Key}
use Rattle.wt_proto.specs.KeyOrder.{key_cmp}
use Rattle.wt_proto.proofs.KeyLaws.{key_cmp_total, tied_keys}

-- a key that isn't above another
abbrev pub IsUpTo : Key → Key → Type 0
IsUpTo a b = is_gt (key_cmp a b) ≡ false

not_greater : (r s : Ordering) → is_gt (ordering_then r s) ≡ false → r ≢ Greater
not_greater Less s e h = cc
not_greater Equal s e h = cc
not_greater Greater s e h = cc

num_upto : (a b : ℕ) → nat_cmp a b ≢ Greater → a ≤ b
num_upto a b h = grind (arith, nat_tests)

pub upto_time : (a b : Key) → IsUpTo a b → a.time ≤ b.time
upto_time a b h = num_upto a.time b.time (not_greater _ _ h)

pub less_upto : (a b : Key) → key_cmp a b ≡ Less → IsUpTo a b
less_upto a b e = ap is_gt e

pub less_time : (a b : Key) → key_cmp a b ≡ Less → a.time ≤ b.time
less_time a b e = upto_time a b (less_upto a b e)

pub upto_itself : (a : Key) → IsUpTo a a
upto_itself a = ap is_gt (tied_itself key_cmp_total a)

pub upto_trans : (a b c : Key) → IsUpTo a b → IsUpTo b c → IsUpTo a c
upto_trans = upto key_cmp_total

-- one that isn't less is up to the other
turned_round : (r s : Ordering) → r ≡ ordering_reverse s → is_lt r ≡ false → is_gt s ≡ false
turned_round r Less e h = refl
turned_round r Equal e h = refl
turned_round r Greater e h = cc

pub not_less_upto : (a b : Key) → is_lt (key_cmp a b) ≡ false → IsUpTo b a
not_less_upto a b h = turned_round (key_cmp a b) (key_cmp b a) (key_cmp_total.antisymm a b) h

lesser_upto : (r : Ordering) → is_lt r ≡ true → is_gt r ≡ false
lesser_upto Less e = refl
lesser_upto Equal e = refl
lesser_upto Greater e = cc

pub lt_upto : (a b : Key) → is_lt (key_cmp a b) ≡ true → IsUpTo a b
lt_upto a b h = lesser_upto (key_cmp a b) h

both_ways : (r s : Ordering) → r ≡ ordering_reverse s → is_gt r ≡ false → is_gt s ≡ false → r ≡ Equal
both_ways r Less e h k = cc
both_ways r Equal e h k = e
both_ways r Greater e h k = cc

pub upto_both : (a b : Key) → IsUpTo a b → IsUpTo b a → a ≡ b
upto_both a b h k = tied_keys a b (both_ways (key_cmp a b) (key_cmp b a) (key_cmp_total.antisymm a b) h k)

pub less_trans : (a b c : Key) → key_cmp a b ≡ Less → key_cmp b c ≡ Less → key_cmp a c ≡ Less
less_trans = key_cmp_total.trans

less_of : (r : Ordering) → is_gt r ≡ false → r ≢ Equal → r ≡ Less
less_of Less h n = refl
less_of Equal h n = absurd (n refl)
less_of Greater h n = cc

-- what is up to another and isn't it is less
pub upto_less : (a b : Key) → IsUpTo a b → (a ≢ b) → key_cmp a b ≡ Less
upto_less a b h n = less_of (key_cmp a b) h (λ e. n (tied_keys a b e))

pub less_upto_less : (a b c : Key) → key_cmp a b ≡ Less → IsUpTo b c → key_cmp a c ≡ Less
less_upto_less a b c e h = either (is_eq (key_cmp b c)) refl
  where
    either : (t : Bool) → is_eq (key_cmp b c) ≡ t → key_cmp a c ≡ Less
    either true is = subst (λ d. key_cmp a d ≡ Less) (tied_keys b c (equal (key_cmp b c) is)) e
      where
        equal : (r : Ordering) → is_eq r ≡ true → r ≡ Equal
        equal Less s = cc
        equal Equal s = refl
        equal Greater s = cc
    either false is = less_trans a b c e (less_of (key_cmp b c) h (λ q. unequal (key_cmp b c) q is))
      where
        unequal : (r : Ordering) → r ≡ Equal → is_eq r ≡ false → ⊥
        unequal Less s t = cc
        unequal Equal s t = cc
        unequal Greater s t = cc

pub not_less_itself : (a : Key) → key_cmp a a ≢ Less
not_less_itself a e = cc (tied_itself key_cmp_total a)

tied : (r : Ordering) → is_eq r ≡ true → r ≡ Equal
tied Less s = cc
tied Equal s = refl
tied Greater s = cc

-- the test for equal keys
pub is_key : (a b : Key) → eq_by_cmp key_cmp a b ≡ true → a ≡ b
is_key a b e = tied_keys a b (tied (key_cmp a b) e)

pub same_key : (a b : Key) → a ≡ b → eq_by_cmp key_cmp a b ≡ true
same_key a b e = ap is_eq (subst (λ c. key_cmp a c ≡ Equal) e (tied_itself key_cmp_total a))

pub isnt_key : (a b : Key) → (a ≢ b) → eq_by_cmp key_cmp a b ≡ false
isnt_key a b n = either (eq_by_cmp key_cmp a b) refl
  where
    either : (t : Bool) → eq_by_cmp key_cmp a b ≡ t → t ≡ false
    either true is = absurd (n (is_key a b is))
    either false is = refl

pub key_or_not : (a b : Key) → (a ≡ b) ⊎ (a ≢ b)
key_or_not a b = either (eq_by_cmp key_cmp a b) refl
  where
    either : (t : Bool) → eq_by_cmp key_cmp a b ≡ t → (a ≡ b) ⊎ (a ≢ b)
    either true is = inl (is_key a b is)
    either false is = inr (λ e. cc (same_key a b e))
