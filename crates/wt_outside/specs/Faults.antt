-- A count of faults. It never falls, and stands still at 2^64 - 1, the end of its type. Own.
use Rattle.std.specs.Prelude.{ℕ, ◌+◌, ◌-◌, ◌^◌, ◌<◌, ◌≤◌, min, List, Bool, nat_eq}
use Rattle.std.specs.List.{list_any}

-- the greatest count
abbrev pub last_count : ℕ
last_count = 2 ^ 64 - 1

-- the count after one more fault
abbrev pub one_more : ℕ → ℕ
one_more count = min (count + 1) last_count

-- the count rose: it is greater now, or stands at its end
abbrev pub Rose : ℕ → ℕ → Type 0
Rose before now = one_more before ≤ now

-- the count didn't rise
abbrev pub Stood : ℕ → ℕ → Type 0
Stood before now = now < one_more before

-- the call with this number is one of those that are to fail
abbrev pub is_due : List ℕ → ℕ → Bool
is_due failing number = list_any (λ k. nat_eq k number) failing
