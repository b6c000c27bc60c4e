use Rattle.std.proofs.Common.{◌≡◌, drop, map}
use Rattle.std.specs.Ordering.{nat_cmp}
use Rattle.std.specs.Cmp.Lexicographic.{slice_cmp}
use Rattle.std.specs.FinMap.{get, find}
use Rattle.wt_outside.specs.MemFiles.{entry_of, files_of}
use Rattle.wt_outside.proofs.mem_store.find.Given as goal

-- none of the files so far has the name
abbrev pub invariant-loop-file : goal.invariant-loop-file
invariant-loop-file l = find (slice_cmp nat_cmp) l.name (map entry_of (drop l.file-index l.files)) ≡ get (files_of l.files) l.name
