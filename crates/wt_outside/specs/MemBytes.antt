-- Bytes written into memory, some of whose writes fail. Own.
use Rattle.std.specs.Prelude.{ℕ, ◌+◌, ◌-◌, List, ◌++◌, length, take, min, Bool, not, ◌&&◌, nat_le, if◌then◌else◌}
use Rattle.wt_outside.specs.Faults.{one_more, is_due}

-- what was written, how much there is room for in all, the numbers of the writes that fail, how many bytes such a write keeps, how many writes there were, how many of them counted a fault
pub record MemBytes : Type 0 where
  pub bytes : List ℕ
  pub room : ℕ
  pub failing : List ℕ
  pub kept : ℕ
  pub writes : ℕ
  pub faults : ℕ

-- how many bytes a write adds: those that fit, and of a write that is to fail the kept ones
abbrev pub added : MemBytes → List ℕ → ℕ
added s bytes = min (if is_due s.failing s.writes then s.kept else length bytes) (s.room - length s.bytes)

-- a write is done whole: it isn't to fail, and it fits
abbrev pub is_done : MemBytes → List ℕ → Bool
is_done s bytes = not (is_due s.failing s.writes) && nat_le (length s.bytes + length bytes) s.room

-- after a write
abbrev pub after_write : MemBytes → List ℕ → MemBytes
after_write s bytes = record s { bytes = s.bytes ++ take (added s bytes) bytes; writes = one_more s.writes; faults = if is_done s bytes then s.faults else one_more s.faults }
