use Rattle.std.proofs.Common.{◌≡◌, ◌+◌, ◌-◌, ◌≤◌, length, vec_len}
use Rattle.std.specs.Io.KnownBytes.{Consumes}
use Rattle.wt_real.proofs.files.read_whole.Given as goal

-- the bytes so far are what was taken, and no fault came
abbrev pub invariant-loop-chunk : goal.invariant-loop-chunk
invariant-loop-chunk g l =
    record {
      taken : Consumes (g.I.Read.remaining l.fn.input) (g.I.Read.remaining l.input) l.bytes.items;
      few : length l.bytes.items ≤ l.limit + 1;
      no_fault : l.faults ≡ l.fn.faults;
    }

-- how many more bytes may be taken
abbrev pub decreases-loop-chunk : goal.decreases-loop-chunk
decreases-loop-chunk g l = (l.limit + 1) - vec_len l.bytes
