-- What a store and a sink show of themselves to contracts. Own.
use Rattle.std.specs.Prelude.{ℕ, List, Option}
use Rattle.wt_outside.specs.Files.{Files}

pub record StoreView (S : Type 0) : Type 1 where
  -- The files, by the bytes of their names. None where the store doesn't tell.
  pub files : S → Option Files
  -- How often reading has failed. It never falls, and stands still at 2^64 - 1.
  pub faults : S → ℕ
  -- What a read of a name, up to so many bytes, makes of the store, as far as the store remembers its reads: one that
  -- counts them has one more, one that keeps the names and limits has these at the end. Code over any store can't come
  -- to it but by a read.
  pub asked : S → List ℕ → ℕ → S → Type 0

pub record SinkView (S : Type 0) : Type 0 where
  -- The bytes that were written. None where the sink doesn't tell.
  pub written : S → Option (List ℕ)
  -- How often writing has failed. It never falls, and stands still at 2^64 - 1.
  pub faults : S → ℕ
