-- The lines of a set as the code keeps them: heads by themselves, and the bytes of all the lines in one list, those of
-- one line behind those of another. Own.
use Rattle.std.specs.Prelude.{ℕ, ◌*◌, ◌≤◌, ◌==◌, Bool, List, [], ◌∷◌, length, take, drop}
use Rattle.wt_params.specs.Machine.{IsBlockSize}
use Rattle.target_cache.specs.declared.line.Head.{Head}
use Rattle.target_cache.specs.declared.line.Line.{Line}

-- whether a head is that of a line of a block
abbrev pub is_of : ℕ → Head → Bool
is_of block head = head.block == block

-- the line of a head with these bytes
abbrev pub line_with : Head → List ℕ → Line
line_with head bytes = record { block = head.block; writable = head.writable; bytes = bytes }

-- the lines of these heads: each has the next so many bytes
unfoldable pub lines_in : ℕ → List Head → List ℕ → List Line
lines_in size [] bytes = []
lines_in size (head ∷ heads) bytes = line_with head (take size bytes) ∷ lines_in size heads (drop size bytes)

-- the bytes of the line at a place
abbrev pub bytes_at : ℕ → ℕ → List ℕ → List ℕ
bytes_at size place bytes = take size (drop (place * size) bytes)

-- there are bytes for so many lines of a size
pub record HasRoom (size room : ℕ) (bytes : List ℕ) : Type 0 where
  pub sized : IsBlockSize size
  pub enough : room * size ≤ length bytes
