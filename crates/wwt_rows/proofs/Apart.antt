-- A file of a new name leaves the names apart.
use Rattle.std.specs.Prelude.{◌≢◌, ℕ, List, [], ◌∷◌, ◌++◌, map, All, Vec, String}
use Rattle.std.specs.declared.alloc.Global.{Global}
use Rattle.std.specs.String.{string_bytes}
use Rattle.std.proofs.lemmas.List.Elements.{All-nil, All-cons, All-head, All-tail}
use Rattle.wt_outside.specs.MemFiles.{AreNamedApart}
use Rattle.wwt_rows.specs.Names.{IsNew}

module _ (name : String Global) (bytes : Vec ℕ Global) where
  abbrev names : List (String Global × Vec ℕ Global) → List (List ℕ)
  names files = map (λ file. string_bytes file.0) files

  -- a name that differs from all, and from the new one
  apart_from : (other : List ℕ) (files : List (String Global × Vec ℕ Global)) → All (λ it. other ≢ it) (names files) → other ≢ string_bytes name → All (λ it. other ≢ it) (names (files ++ (name, bytes) ∷ []))
  apart_from other [] apart new = All-cons (λ (it : List ℕ). other ≢ it) (string_bytes name) [] new (All-nil (λ (it : List ℕ). other ≢ it))
  apart_from other (file ∷ files) apart new =
      All-cons (λ (it : List ℕ). other ≢ it) (string_bytes file.0) (names (files ++ (name, bytes) ∷ []))
      (All-head (λ (it : List ℕ). other ≢ it) (string_bytes file.0) (names files) apart)
      (apart_from other files (All-tail (λ (it : List ℕ). other ≢ it) (string_bytes file.0) (names files) apart) new)

  pub apart_push : (files : List (String Global × Vec ℕ Global)) → AreNamedApart files → IsNew (string_bytes name) files → AreNamedApart (files ++ (name, bytes) ∷ [])
  apart_push [] apart new = (All-nil (λ (it : List ℕ). string_bytes name ≢ it), tt)
  apart_push (file ∷ files) apart new = (
    apart_from (string_bytes file.0) files apart.0 (All-head (λ (it : String Global × Vec ℕ Global). string_bytes it.0 ≢ string_bytes name) file files new),
    apart_push files apart.1 (All-tail (λ (it : String Global × Vec ℕ Global). string_bytes it.0 ≢ string_bytes name) file files new),
  )
