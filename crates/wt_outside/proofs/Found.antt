-- Which of a list of files a name finds.
use Rattle.std.proofs.Common.{◌≡◌, ℕ, ◌+◌, ◌<◌, List, ◌∷◌, length, map, drop, get_or, true, false, cond, sym, ap, ◌∙◌}
use Rattle.std.specs.Prelude.{Some, Vec, String}
use Rattle.std.specs.declared.alloc.Global.{Global}
use Rattle.std.specs.String.{string_bytes}
use Rattle.std.specs.Str.{bytes_eq}
use Rattle.std.specs.Ordering.{nat_cmp}
use Rattle.std.specs.Cmp.Lexicographic.{slice_cmp}
use Rattle.std.specs.FinMap.{find}
use Rattle.std.proofs.lemmas.List.{drop_more}
use Rattle.std.proofs.lemmas.Map.Text.{is_eq-slice_cmp}
use Rattle.wt_outside.specs.MemFiles.{entry_of}

-- the file at a place, and those after it
module _ (name : List ℕ) (files : List (String Global × Vec ℕ Global)) (i : ℕ) (file : String Global × Vec ℕ Global) (within : i < length files) (is : file ≡ get_or files i file) where
  from_here : find (slice_cmp nat_cmp) name (map entry_of (drop i files)) ≡ cond (bytes_eq name (string_bytes file.0)) (Some file.1.items) (find (slice_cmp nat_cmp) name (map entry_of (drop (i + 1) files)))
  from_here =
      ap (λ fs. find (slice_cmp nat_cmp) name (map entry_of fs)) (drop_more files i file within)
      ∙ ap (λ f. find (slice_cmp nat_cmp) name (map entry_of (f ∷ drop (i + 1) files))) (sym is)
      ∙ ap (λ b. cond b (Some file.1.items) (find (slice_cmp nat_cmp) name (map entry_of (drop (i + 1) files)))) (is_eq-slice_cmp name (string_bytes file.0))

  pub found : bytes_eq name (string_bytes file.0) ≡ true → find (slice_cmp nat_cmp) name (map entry_of (drop i files)) ≡ Some file.1.items
  found same = from_here ∙ ap (λ b. cond b (Some file.1.items) (find (slice_cmp nat_cmp) name (map entry_of (drop (i + 1) files)))) same

  pub passed : bytes_eq name (string_bytes file.0) ≡ false → find (slice_cmp nat_cmp) name (map entry_of (drop i files)) ≡ find (slice_cmp nat_cmp) name (map entry_of (drop (i + 1) files))
  passed other = from_here ∙ ap (λ b. cond b (Some file.1.items) (find (slice_cmp nat_cmp) name (map entry_of (drop (i + 1) files)))) other
