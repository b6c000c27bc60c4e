-- What is to be done with a store: an answer, or a read and what comes after it. A plan is read three times: what it comes
-- to over some files, which names it reads of them, and whether it is refused before any read. Own.
use Rattle.std.specs.Prelude.{ℕ, List, [], ◌∷◌, Bool, true, false, Result, Ok, Err}
use Rattle.wt_outside.specs.Files.{Files}
use Rattle.wwt_case.specs.declared.refusal.Refusal.{Refusal}
use Rattle.wwt_case.specs.declared.refusal.Refusal.TheVariants.{Usage}
use Rattle.wwt_case.specs.declared.refusal.FileKind.{FileKind}
use Rattle.wwt_case.specs.Files.{file_of, and_then, names_then}

pub data Plan (A : Type 0) : Type 0 where
  Give : Result A Refusal → Plan A
  -- the file of a name is read as one of a kind, and its bytes say what comes then
  Ask : List ℕ → FileKind → (List ℕ → Plan A) → Plan A

-- one plan, and then another with its value, if it has one
infixl 10 ◌>>=◌
abbrev pub ◌>>=◌ : {A B : Type 0} → Plan A → (A → Plan B) → Plan B
Give (Ok value) >>= next = next value
Give (Err refusal) >>= next = Give (Err refusal)
Ask name kind after >>= next = Ask name kind (λ bytes. after bytes >>= next)

-- the bytes of a file
abbrev pub file : List ℕ → FileKind → Plan (List ℕ)
file name kind = Ask name kind (λ bytes. Give (Ok bytes))

-- what it comes to
abbrev pub answer_of : {A : Type 0} → Plan A → Files → Result A Refusal
answer_of (Give answer) files = answer
answer_of (Ask name kind after) files = and_then (file_of name kind files) (λ bytes. answer_of (after bytes) files)

-- the names that are read for it, in order: none after a refusal
abbrev pub names_read : {A : Type 0} → Plan A → Files → List (List ℕ)
names_read (Give answer) files = []
names_read (Ask name kind after) files = name ∷ names_then (file_of name kind files) (λ bytes. names_read (after bytes) files)

-- it is refused as the words are, before any read
abbrev pub is_usage : {A : Type 0} → Plan A → Bool
is_usage (Give (Err Usage)) = true
is_usage _ = false
