-- How the answers of calls that read go together.
use Rattle.std.proofs.Common.{◌≡◌, ◌≢◌, ℕ, ◌≤◌, ◌⊎◌, inl, inr, List, [], ◌∷◌, ◌++◌, Option, Some, None, Result, Ok, Err, IfOk, IfErr, refl, ap, ap₂, sym, subst, ◌∙◌, arith, append_assoc}
use Rattle.std.specs.Prelude.{Contains, IsNone}
use Rattle.std.specs.FinMap.{get}
use Rattle.wt_outside.specs.Faults.{Rose}
use Rattle.wt_outside.specs.Files.{Files, IsMissing}
use Rattle.wt_outside.proofs.AskedLemmas.{asked_once, asked_then}
use Rattle.wt_outside.proofs.FaultLemmas.{not_both, stood_later, rose_later}
use Rattle.std.proofs.lemmas.List.{append-nil}
use Rattle.std.proofs.lemmas.List.Elements.{Contains-append_left, Contains-append_right}
use Rattle.wt_outside.specs.Views.{StoreView}
use Rattle.wwt_case.specs.declared.refusal.Refusal.{Refusal}
use Rattle.wwt_case.specs.declared.refusal.Refusal.TheVariants.{Read, NoMemory}
use Rattle.wwt_case.specs.declared.refusal.FileKind.{FileKind}
use Rattle.wwt_case.specs.Plan.{Plan, ◌>>=◌, answer_of, file, names_read}
use Rattle.wwt_case.specs.Plan.Plan.{Give}
use Rattle.wwt_case.proofs.PlanLemmas.{answer_then, names_after}
use Rattle.wwt_case.specs.Files.{file_of, bytes_of, and_then, names_then, read_limit}
use Rattle.wwt_case.specs.Reading.{Answers, Asks, IsSound, IsThrough, Reads, ReadsAs}

missing_file : (name : List ℕ) (kind : FileKind) (found : Option (List ℕ)) → IsNone found → bytes_of name kind found ≡ Err (Read name)
missing_file name kind None none = refl
missing_file name kind (Some bytes) none = cc

missing_told : (name : List ℕ) (kind : FileKind) (told : Option Files) (files : Files) → told ≡ Some files → IsMissing told name → file_of name kind files ≡ Err (Read name)
missing_told name kind told files is missing =
    missing_file name kind (get files name) (subst (λ (t : Option Files). IsMissing t name) is missing)

module _ {S : Type 0} where
  -- one name was asked for, as it was spelt
  pub asks_one : (spelt name : List ℕ) (view : StoreView S) (old new : S) (all : Type 0) → spelt ≡ name → view.asked old spelt read_limit new → Asks (λ _. name ∷ []) view old new all
  asks_one spelt name view old new all same asked = record {
    asked = name ∷ [];
    are_asked = asked_once view read_limit old name new (subst (λ (n : List ℕ). view.asked old n read_limit new) same asked);
    part = λ files told. ([], refl);
    whole = λ files told through. refl;
  }

  -- a read that didn't fail, of the name as it was spelt
  pub other_read : (name : List ℕ) (kind : FileKind) (view : StoreView S) (old new : S) (result : Result (List ℕ) Refusal) (spelt : List ℕ)
      → ((other : List ℕ) → result ≢ Err (Read other))
      → ((files : Files) → view.files old ≡ Some files → IfOk result (λ bytes. file_of name kind files ≡ Ok bytes))
      → ((files : Files) → view.files old ≡ Some files → IsSound view old new → IfErr result (λ refusal. (refusal ≡ NoMemory) ⊎ (file_of name kind files ≡ Err refusal)))
      → spelt ≡ name → view.asked old spelt read_limit new → view.faults new ≡ view.faults old → view.files new ≡ view.files old
      → ReadsAs (file_of name kind) (λ _. name ∷ []) view old new result
  other_read name kind view old new result spelt other found refused same asked steady kept = record {
    found = found;
    refused = refused;
    named = λ files given told failed. absurd (other given failed);
    once = asks_one spelt name view old new _ same asked;
    unread = λ given failed. absurd (other given failed);
    steady = λ _. steady;
    later = omega (arith, steady);
    kept = kept;
  }

  -- a read that failed
  pub failed_read : (name : List ℕ) (kind : FileKind) (view : StoreView S) (old new : S) → Rose (view.faults old) (view.faults new) ⊎ IsMissing (view.files old) name → view.asked old name read_limit new → view.faults old ≤ view.faults new → view.files new ≡ view.files old → ReadsAs (file_of name kind) (λ _. name ∷ []) view old new (Err (Read name))
  failed_read name kind view old new failed asked later kept = record {
    found = λ files told. tt;
    refused = λ files told stood. elim failed [
      | inl rose ↦ absurd (not_both _ _ rose stood)
      | inr missing ↦ inr (missing_told name kind (view.files old) files told missing)
    ];
    named = λ files other told same. (0, omega arith, cc);
    once = asks_one name name view old new _ refl asked;
    unread = λ other same. let is : name ≡ other = cc in subst (λ (n : List ℕ). Rose (view.faults old) (view.faults new) ⊎ IsMissing (view.files old) n) is failed;
    steady = λ other. absurd (other name refl);
    later = later;
    kept = kept;
  }

module _ {S A B : Type 0} (wanted : Files → Result A Refusal) (names : Files → List (List ℕ)) (next : A → Files → Result B Refusal) (next_names : A → Files → List (List ℕ)) where
  through_later : (view : StoreView S) (s0 s1 s2 : S) (result : Result B Refusal) → view.faults s0 ≤ view.faults s1 → IsThrough view s0 s2 result → IsThrough view s1 s2 result
  through_later view s0 s1 s2 (Ok value) later through = tt
  through_later view s0 s1 s2 (Err refusal) later through = (stood_later (view.faults s0) (view.faults s1) (view.faults s2) through.0 later, through.1)

  asks_then : (view : StoreView S) (s0 s1 s2 : S) (value : A) (result : Result B Refusal)
      → ReadsAs wanted names view s0 s1 (Ok value)
      → ReadsAs (next value) (next_names value) view s1 s2 result
      → Asks (λ given. names given ++ names_then (wanted given) (λ a. next_names a given)) view s0 s2 (IsThrough view s0 s2 result)
  asks_then view s0 s1 s2 value result first second =
      let after = λ (given : Files) (e : wanted given ≡ Ok value). ap (λ (r : Result A Refusal). names_then r (λ a. next_names a given)) e in
      record {
        asked = first.once.asked ++ second.once.asked;
        are_asked = asked_then view read_limit s0 s1 s2 first.once.asked second.once.asked first.once.are_asked (first.steady (λ name e. cc)) second.once.are_asked;
        part = λ given told.
            let rest = second.once.part given (first.kept ∙ told) in (
              rest.0,
              ap₂ (λ (x y : List (List ℕ)). x ++ y) (sym (first.once.whole given told tt)) (after given (first.found given told) ∙ rest.1)
                  ∙ sym (append_assoc first.once.asked second.once.asked rest.0),
            );
        whole = λ given told through.
            ap₂ (λ (x y : List (List ℕ)). x ++ y) (first.once.whole given told tt)
            (second.once.whole given (first.kept ∙ told) (through_later view s0 s1 s2 result first.later through) ∙ sym (after given (first.found given told)));
      }

  -- one read, and then another
  pub reads_then : (view : StoreView S) (s0 s1 s2 : S) (value : A) (result : Result B Refusal)
      → ReadsAs wanted names view s0 s1 (Ok value)
      → ReadsAs (next value) (next_names value) view s1 s2 result
      → ReadsAs (λ given. and_then (wanted given) (λ a. next a given)) (λ given. names given ++ names_then (wanted given) (λ a. next_names a given)) view s0 s2 result
  reads_then view s0 s1 s2 value result first second =
      let both = λ (given : Files) (e : wanted given ≡ Ok value). ap (λ (r : Result A Refusal). and_then r (λ a. next a given)) e in
      let after = λ (given : Files) (e : wanted given ≡ Ok value). ap (λ (r : Result A Refusal). names_then r (λ a. next_names a given)) e in
      record {
        found = λ given told. subst (λ (t : Result B Refusal). IfOk result (λ v. t ≡ Ok v)) (sym (both given (first.found given told))) (second.found given (first.kept ∙ told));
        refused = λ given told stood.
            subst (λ (t : Result B Refusal). IfErr result (λ refusal. (refusal ≡ NoMemory) ⊎ (t ≡ Err refusal))) (sym (both given (first.found given told)))
            (second.refused given (first.kept ∙ told) (stood_later (view.faults s0) (view.faults s1) (view.faults s2) stood first.later));
        named = λ given name told same.
            Contains-append_right (names given) _ name
            (subst (λ (t : List (List ℕ)). Contains t name) (sym (after given (first.found given told))) (second.named given name (first.kept ∙ told) same));
        once = asks_then view s0 s1 s2 value result first second;
        unread = λ name same. elim (second.unread name same) [
          | inl rose ↦ inl (rose_later (view.faults s0) (view.faults s1) (view.faults s2) first.later rose)
          | inr missing ↦ inr (subst (λ (t : Option Files). IsMissing t name) first.kept missing)
        ];
        steady = λ other. second.steady other ∙ first.steady (λ name e. cc);
        later = omega (arith, first.later, second.later);
        kept = second.kept ∙ first.kept;
      }

  -- one read that is refused, so that there is no other
  pub reads_stopped : (view : StoreView S) (old new : S) (refusal : Refusal)
      → ReadsAs wanted names view old new (Err refusal)
      → ReadsAs (λ given. and_then (wanted given) (λ a. next a given)) (λ given. names given ++ names_then (wanted given) (λ a. next_names a given)) view old new (Err refusal)
  reads_stopped view old new refusal first = record {
    found = λ given told. tt;
    refused = λ given told stood. elim (first.refused given told stood) [
      | inl memory ↦ inl memory
      | inr e ↦ inr (ap (λ (r : Result A Refusal). and_then r (λ a. next a given)) e)
    ];
    named = λ given name told same.
        Contains-append_left (names given) _ name (first.named given name told (let is : refusal ≡ Read name = cc in ap Err is));
    once = record {
      asked = first.once.asked;
      are_asked = first.once.are_asked;
      part = λ given told.
          let rest = first.once.part given told in
          let more = names_then (wanted given) (λ a. next_names a given) in
          (rest.0 ++ more, ap (λ (l : List (List ℕ)). l ++ more) rest.1 ∙ append_assoc first.once.asked rest.0 more);
      whole = λ given told through. elim (first.refused given told through.0) [
        | inl memory ↦ absurd (through.1 memory)
        | inr e ↦
            first.once.whole given told through
            ∙ sym (append-nil (names given))
            ∙ ap (λ (r : Result A Refusal). names given ++ names_then r (λ a. next_names a given)) (sym e)
      ];
    };
    unread = λ name same. first.unread name (let is : refusal ≡ Read name = cc in ap Err is);
    steady = λ other. first.steady (λ name e. other name (let is : refusal ≡ Read name = cc in ap Err is));
    later = first.later;
    kept = first.kept;
  }

no_read : {A : Type 0} (wanted : Result A Refusal) (refusal : Refusal) (name : List ℕ) → Answers wanted (Err refusal) → ((name : List ℕ) → wanted ≢ Err (Read name)) → ◌≡◌ {A = Result A Refusal} (Err refusal) (Err (Read name)) → ⊥
no_read {A} wanted refusal name answer other same =
    let is : refusal ≡ Read name = cc in
    elim answer [ inl memory ↦ cc | inr e ↦ other name (e ∙ ap (λ (r : Refusal). Err r) is) ]

-- nothing was asked for
asks_nothing : {S : Type 0} (names : Files → List (List ℕ)) (view : StoreView S) (s : S) (all : Type 0) → ((given : Files) → all → names given ≡ []) → Asks names view s s all
asks_nothing names view s all none = record {
  asked = [];
  are_asked = refl;
  part = λ given told. (names given, refl);
  whole = λ given told through. sym (none given through);
}

-- A step that reads nothing answers what it calls for.
pub reads_nothing : {S A : Type 0} (wanted : Result A Refusal) (result : Result A Refusal) (view : StoreView S) (s : S) → Answers wanted result → ((name : List ℕ) → wanted ≢ Err (Read name)) → ReadsAs (λ _. wanted) (λ _. []) view s s result
reads_nothing wanted (Ok value) view s answer other = record {
  found = λ given told. answer;
  refused = λ given told stood. tt;
  named = λ given name told same. cc;
  once = asks_nothing (λ _. []) view s _ (λ given through. refl);
  unread = λ name same. cc;
  steady = λ _. refl;
  later = omega arith;
  kept = refl;
}
reads_nothing wanted (Err refusal) view s answer other = record {
  found = λ given told. tt;
  refused = λ given told stood. answer;
  named = λ given name told same. absurd (no_read wanted refusal name answer other same);
  once = asks_nothing (λ _. []) view s _ (λ given through. refl);
  unread = λ name same. absurd (no_read wanted refusal name answer other same);
  steady = λ _. refl;
  later = omega arith;
  kept = refl;
}

-- The same may be said otherwise.
reads_as : {S A : Type 0} (wanted asked : Files → Result A Refusal) (names others : Files → List (List ℕ)) (view : StoreView S) (old new : S) (result : Result A Refusal) → ((given : Files) → wanted given ≡ asked given) → ((given : Files) → names given ≡ others given) → ReadsAs wanted names view old new result → ReadsAs asked others view old new result
reads_as {A = A} wanted asked names others view old new result is same read = record {
  found = λ given told. subst (λ (t : Result A Refusal). IfOk result (λ value. t ≡ Ok value)) (is given) (read.found given told);
  refused = λ given told stood.
      subst (λ (t : Result A Refusal). IfErr result (λ refusal. (refusal ≡ NoMemory) ⊎ (t ≡ Err refusal))) (is given) (read.refused given told stood);
  named = λ given name told named. subst (λ (t : List (List ℕ)). Contains t name) (same given) (read.named given name told named);
  once = record {
    asked = read.once.asked;
    are_asked = read.once.are_asked;
    part = λ given told. let rest = read.once.part given told in (rest.0, sym (same given) ∙ rest.1);
    whole = λ given told through. read.once.whole given told through ∙ same given;
  };
  unread = read.unread;
  steady = read.steady;
  later = read.later;
  kept = read.kept;
}

nothing_then : {A : Type 0} (r : Result A Refusal) → names_then r (λ _. []) ≡ []
nothing_then (Ok value) = refl
nothing_then (Err refusal) = refl

only_bytes : (r : Result (List ℕ) Refusal) → r ≡ and_then r (λ bytes. Ok bytes)
only_bytes (Ok bytes) = refl
only_bytes (Err refusal) = refl

-- the file of one name
pub file_read : {S : Type 0} (name : List ℕ) (kind : FileKind) (view : StoreView S) (old new : S) (result : Result (List ℕ) Refusal) → ReadsAs (file_of name kind) (λ _. name ∷ []) view old new result → Reads (file name kind) view old new result
file_read name kind view old new result read =
    reads_as (file_of name kind) (answer_of (file name kind)) (λ _. name ∷ []) (names_read (file name kind)) view old new result
    (λ given. only_bytes (file_of name kind given))
    (λ given. ap (λ (l : List (List ℕ)). name ∷ l) (sym (nothing_then (file_of name kind given)))) read

-- one plan, and then another
pub plan_then : {S A B : Type 0} (plan : Plan A) (next : A → Plan B) (view : StoreView S) (s0 s1 s2 : S) (value : A) (result : Result B Refusal) → Reads plan view s0 s1 (Ok value) → Reads (next value) view s1 s2 result → Reads (plan >>= next) view s0 s2 result
plan_then plan next view s0 s1 s2 value result first second =
    reads_as _ (answer_of (plan >>= next)) _ (names_read (plan >>= next)) view s0 s2 result
    (λ given. sym (answer_then next given plan)) (λ given. sym (names_after next given plan))
    (reads_then (answer_of plan) (names_read plan) (λ a. answer_of (next a)) (λ a. names_read (next a)) view s0 s1 s2 value result first second)

-- one plan that is refused, so that nothing comes after it
pub plan_stopped : {S A B : Type 0} (plan : Plan A) (next : A → Plan B) (view : StoreView S) (old new : S) (refusal : Refusal) → Reads plan view old new (Err refusal) → Reads (plan >>= next) view old new (Err refusal)
plan_stopped {A = A} {B = B} plan next view old new refusal first =
    reads_as {A = B} _ (answer_of (plan >>= next)) _ (names_read (plan >>= next)) view old new (Err refusal)
    (λ given. sym (answer_then next given plan)) (λ given. sym (names_after next given plan))
    (reads_stopped {A = A} {B = B} (answer_of plan) (names_read plan) (λ a. answer_of (next a)) (λ a. names_read (next a)) view old new refusal first)

-- one plan, and then a step that reads nothing
pub plan_and : {S A B : Type 0} (plan : Plan A) (next : A → Result B Refusal) (view : StoreView S) (s0 s1 : S) (value : A) (result : Result B Refusal) → Reads plan view s0 s1 (Ok value)
    → Answers (next value) result → ((name : List ℕ) → next value ≢ Err (Read name)) → Reads (plan >>= (λ a. Give (next a))) view s0 s1 result
plan_and plan next view s0 s1 value result first answer other =
    plan_then plan (λ a. Give (next a)) view s0 s1 s1 value result first (reads_nothing (next value) result view s1 answer other)

pub plan_ended : {S A B : Type 0} (plan : Plan A) (next : A → Result B Refusal) (view : StoreView S) (old new : S) (refusal : Refusal) → Reads plan view old new (Err refusal) → Reads (plan >>= (λ a. Give (next a))) view old new (Err refusal)
plan_ended plan next view old new refusal first = plan_stopped plan (λ a. Give (next a)) view old new refusal first

-- Want of memory may come in place of any answer.
pub reads_memory : {S A : Type 0} (plan : Plan A) (view : StoreView S) (s : S) → Reads plan view s s (Err NoMemory)
reads_memory plan view s = record {
  found = λ given told. tt;
  refused = λ given told stood. inl refl;
  named = λ given name told same. cc;
  once = asks_nothing (names_read plan) view s _ (λ given through. absurd (through.1 refl));
  unread = λ name same. cc;
  steady = λ _. refl;
  later = omega arith;
  kept = refl;
}

-- the same of a name that is spelt otherwise
pub reads_named : {S A : Type 0} (plan : List ℕ → Plan A) (view : StoreView S) (old new : S) (result : Result A Refusal) (spelt name : List ℕ) → spelt ≡ name → Reads (plan spelt) view old new result → Reads (plan name) view old new result
reads_named plan view old new result spelt name same read =
    subst (λ (n : List ℕ). Reads (plan n) view old new result) same read
