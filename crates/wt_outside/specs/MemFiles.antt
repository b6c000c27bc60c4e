-- Files in memory, some of whose reads fail. Own.
use Rattle.std.specs.Prelude.{◌≡◌, ◌≢◌, ⊤, ℕ, List, [], ◌∷◌, length, map, All, Vec, Result, Ok, Err, refl, nat_lt, nat_le, if◌then◌else◌, IsOk, String}
use Rattle.std.specs.declared.alloc.Global.{Global}
use Rattle.std.specs.Option.{option_map_or}
use Rattle.std.specs.String.{string_bytes}
use Rattle.std.specs.Coded.{Coded, code_by, coded×, coded_list, coded_ℕ}
use Rattle.std.specs.FinMap.{from_entries, get, code}
use Rattle.wt_outside.specs.declared.store.StoreFail.{StoreFail}
use Rattle.wt_outside.specs.declared.store.StoreFail.TheVariants.{Failed, TooLong, NoMemory}
use Rattle.wt_outside.specs.Files.{Files}
use Rattle.wt_outside.specs.Faults.{one_more, last_count, is_due}

-- the files, the numbers of the reads that fail, how many reads there were, how many of them counted a fault
pub record MemFiles : Type 0 where
  pub files : Files
  pub failing : List ℕ
  pub reads : ℕ
  pub faults : ℕ

abbrev pub coded_files : Coded MemFiles
coded_files =
    code_by (Files × (List ℕ × (ℕ × ℕ))) (coded× (code (coded_list coded_ℕ) (coded_list coded_ℕ)) (coded× (coded_list coded_ℕ) (coded× coded_ℕ coded_ℕ))) (λ s. (s.files, (s.failing, (s.reads, s.faults)))) (λ t. record { files = t.0; failing = t.1.0; reads = t.1.1.0; faults = t.1.1.1 }) (λ _. refl)

-- a name and its bytes
abbrev pub entry_of : String Global × Vec ℕ Global → List ℕ × List ℕ
entry_of file = (string_bytes file.0, file.1.items)

-- the files of a list
abbrev pub files_of : List (String Global × Vec ℕ Global) → Files
files_of files = from_entries (map entry_of files)

-- no name stands twice
abbrev pub AreApart : List (List ℕ) → Type 0
AreApart [] = ⊤
AreApart (name ∷ names) = All (λ other. name ≢ other) names × AreApart names

abbrev pub AreNamedApart : List (String Global × Vec ℕ Global) → Type 0
AreNamedApart files = AreApart (map (λ file. string_bytes file.0) files)

-- a file, unless it is too long. Where the count of faults stands at its end a failure is the answer for a file that is too long, since then the count counts as risen
abbrev pub whole : ℕ → ℕ → List ℕ → Result (List ℕ) StoreFail
whole faults limit bytes = if nat_le (length bytes) limit then Ok bytes else if nat_lt faults last_count then Err TooLong else Err Failed

-- what a read gives, memory allowing
abbrev pub given : MemFiles → List ℕ → ℕ → Result (List ℕ) StoreFail
given s name limit = if is_due s.failing s.reads then Err Failed else option_map_or (whole s.faults limit) (get s.files name) (Err Failed)

-- the answer is what is given; memory is wanted only for the bytes of a file
abbrev pub IsGiven : Result (Vec ℕ Global) StoreFail → Result (List ℕ) StoreFail → Type 0
IsGiven (Ok bytes) wanted = wanted ≡ Ok bytes.items
IsGiven (Err Failed) wanted = wanted ≡ Err Failed
IsGiven (Err TooLong) wanted = wanted ≡ Err TooLong
IsGiven (Err NoMemory) wanted = IsOk wanted

-- after a read
abbrev pub after_read : MemFiles → MemFiles
after_read s = record s { reads = one_more s.reads; faults = if is_due s.failing s.reads then one_more s.faults else s.faults }
