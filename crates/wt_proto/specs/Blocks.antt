-- The bytes of a block, kept where there is room for the largest. Own.
use Rattle.std.specs.Prelude.{◌≡◌, ℕ, List, length}
use Rattle.wt_params.specs.Machine.{IsBlockSize}

-- of so many bytes, the first ones are those of the block
pub record AreKept (bytes : List ℕ) (len : ℕ) : Type 0 where
  pub size : IsBlockSize len
  pub room : length bytes ≡ 128
