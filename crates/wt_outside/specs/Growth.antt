-- A list of bytes that only grows, as far as it is told. Own.
use Rattle.std.specs.Prelude.{◌≡◌, ℕ, List, ◌++◌, take, Option}
use Rattle.std.specs.Option.{option_map}

-- what is told grew by exactly these bytes; what isn't told isn't told afterwards
pub record Grows (old new : Option (List ℕ)) (bytes : List ℕ) : Type 0 where
  pub by : new ≡ option_map (λ held. held ++ bytes) old

-- it grew by the first so many of these bytes, maybe none, maybe all
pub record GrowsByPrefix (old new : Option (List ℕ)) (bytes : List ℕ) : Type 0 where
  pub count : ℕ
  pub grew : Grows old new (take count bytes)
