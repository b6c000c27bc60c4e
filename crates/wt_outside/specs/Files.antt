-- Files by their names, as far as they are told. Own.
use Rattle.std.specs.Prelude.{◌≡◌, ℕ, ◌<◌, List, length, Option, Some, IsSomeAnd, IfSome, IsNone}
use Rattle.std.specs.Ordering.{nat_cmp}
use Rattle.std.specs.Cmp.Lexicographic.{slice_cmp}
use Rattle.std.specs.FinMap.{FinMap, get}

-- the bytes of each file, by the bytes of its name
abbrev pub Files : Type 0
Files = FinMap (slice_cmp nat_cmp) (List ℕ)

-- the files are told and this name isn't among them
abbrev pub IsMissing : Option Files → List ℕ → Type 0
IsMissing files name = IsSomeAnd files (λ told. IsNone (get told name))

-- where the files are told, this name has these bytes
abbrev pub HoldsThere : Option Files → List ℕ → List ℕ → Type 0
HoldsThere files name bytes = IfSome files (λ told. get told name ≡ Some bytes)

-- the files are told and this name has more than so many bytes
abbrev pub IsLonger : Option Files → List ℕ → ℕ → Type 0
IsLonger files name limit = IsSomeAnd files (λ told. IsSomeAnd (get told name) (λ bytes. limit < length bytes))
