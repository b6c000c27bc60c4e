-- What two plans, one after another, come to and read.
use Rattle.std.proofs.Common.{◌≡◌, ℕ, List, ◌∷◌, ◌++◌, Result, Ok, Err, refl, ap}
use Rattle.wt_outside.specs.Files.{Files}
use Rattle.wwt_case.specs.declared.refusal.Refusal.{Refusal}
use Rattle.wwt_case.specs.Files.{file_of, and_then, names_then}
use Rattle.wwt_case.specs.Plan.{Plan, ◌>>=◌, answer_of, names_read}
use Rattle.wwt_case.specs.Plan.Plan.{Give, Ask}

module _ {A B : Type 0} (next : A → Plan B) (files : Files) where
  pub answer_then : (plan : Plan A) → answer_of (plan >>= next) files ≡ and_then (answer_of plan files) (λ value. answer_of (next value) files)
  answer_then (Give (Ok value)) = refl
  answer_then (Give (Err refusal)) = refl
  answer_then (Ask name kind after) = by (λ bytes. answer_then (after bytes)) (file_of name kind files)
    where
      by : ((bytes : List ℕ) → answer_of (after bytes >>= next) files ≡ and_then (answer_of (after bytes) files) (λ value. answer_of (next value) files)) → (read : Result (List ℕ) Refusal) → and_then read (λ bytes. answer_of (after bytes >>= next) files) ≡ and_then (and_then read (λ bytes. answer_of (after bytes) files)) (λ value. answer_of (next value) files)
      by later (Ok bytes) = later bytes
      by later (Err refusal) = refl

  pub names_after : (plan : Plan A) → names_read (plan >>= next) files ≡ names_read plan files ++ names_then (answer_of plan files) (λ value. names_read (next value) files)
  names_after (Give (Ok value)) = refl
  names_after (Give (Err refusal)) = refl
  names_after (Ask name kind after) = ap (λ (names : List (List ℕ)). name ∷ names) (by (λ bytes. names_after (after bytes)) (file_of name kind files))
    where
      by : ((bytes : List ℕ) → names_read (after bytes >>= next) files ≡ names_read (after bytes) files ++ names_then (answer_of (after bytes) files) (λ value. names_read (next value) files)) → (read : Result (List ℕ) Refusal) → names_then read (λ bytes. names_read (after bytes >>= next) files) ≡ names_then read (λ bytes. names_read (after bytes) files) ++ names_then (and_then read (λ bytes. answer_of (after bytes) files)) (λ value. names_read (next value) files)
      by later (Ok bytes) = later bytes
      by later (Err refusal) = refl
