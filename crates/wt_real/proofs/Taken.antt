-- What two reads took, one after the other.
use Rattle.std.proofs.Common.{ℕ, ◌+◌, ◌≤◌, List, ◌++◌, length, take, arith, length-append}
use Rattle.std.specs.Prelude.{Option}
use Rattle.std.specs.Io.KnownBytes.{Consumes}
use Rattle.std.proofs.KnownBytes.{Consumes-trans}
use Rattle.std.proofs.lemmas.List.{length-take}
use Rattle.wt_real.specs.Takes.{TakesAtMost}

pub takes_more : (a b c : Option (List ℕ)) (taken buf : List ℕ) (n most : ℕ) → Consumes a b taken → Consumes b c (take n buf) → length taken + n ≤ most → TakesAtMost a c most
takes_more a b c taken buf n most before more within = record {
  taken = taken ++ take n buf;
  few = omega (arith, length-append taken (take n buf), length-take n buf);
  were = Consumes-trans a b c _ _ before more;
}
