-- The images of a description, one after another.
use Rattle.std.proofs.Common.{◌≡◌, ℕ, ◌+◌, ◌≤◌, ◌-◌, Bool, length, drop, take, get_or, arith, List, [], ◌∷◌, ◌++◌, Result, Ok, Err, refl, sym, ap, subst}
use Rattle.std.proofs.lemmas.List.{take_all, length-drop}
use Rattle.elf_image.specs.declared.image.Image.{Image}
use Rattle.machine_json.specs.declared.description.ImageSpec.{ImageSpec}
use Rattle.machine_json.specs.declared.description.ImageSpec.TheVariants.{File}
use Rattle.wt_outside.specs.Views.{StoreView}
use Rattle.wwt_case.specs.declared.refusal.Refusal.{Refusal}
use Rattle.wwt_case.specs.declared.refusal.Refusal.TheVariants.{NoMemory}
use Rattle.wwt_case.specs.Programs.{image_plan, file_plan, images_plan}
use Rattle.wwt_case.specs.Reading.{Reads}
use Rattle.wwt_case.proofs.ReadLemmas.{plan_then, plan_stopped, reads_nothing, reads_memory}

-- an entry that names a file
pub by_file : {S : Type 0} (number : ℕ) (entry : ImageSpec) (named name : List ℕ) (elf : Bool) (at : ℕ) (view : StoreView S) (old new : S) (result : Result Image Refusal) → entry ≡ File name elf at → named ≡ name → Reads (file_plan number named elf at) view old new result → Reads (image_plan number entry) view old new result
by_file number entry named name elf at view old new result is same read =
    subst (λ (e : ImageSpec). Reads (image_plan number e) view old new result) (sym is)
    (subst (λ (n : List ℕ). Reads (file_plan number n elf at) view old new result) same read)

-- no entry is left
pub none_left : {S : Type 0} (found : List Image) (number : ℕ) (view : StoreView S) (s : S) → Reads (images_plan found number []) view s s (Ok found)
none_left found number view s = reads_nothing (Ok found) (Ok found) view s refl (λ name e. cc)

-- one image, and then the rest
pub one_more_image : {S : Type 0} (found : List Image) (number : ℕ) (entry : ImageSpec) (rest : List ImageSpec) (image : Image) (view : StoreView S) (s0 s1 s2 : S) (result : Result (List Image) Refusal)
    → Reads (image_plan number entry) view s0 s1 (Ok image)
    → Reads (images_plan (found ++ image ∷ []) (number + 1) rest) view s1 s2 result
    → Reads (images_plan found number (entry ∷ rest)) view s0 s2 result
one_more_image found number entry rest image view s0 s1 s2 result first second =
    plan_then (image_plan number entry) (λ next. images_plan (found ++ next ∷ []) (number + 1) rest) view s0 s1 s2 image result first second

-- an image that is refused
pub image_refused : {S : Type 0} (found : List Image) (number : ℕ) (entry : ImageSpec) (rest : List ImageSpec) (view : StoreView S) (old new : S) (refusal : Refusal)
    → Reads (image_plan number entry) view old new (Err refusal)
    → Reads (images_plan found number (entry ∷ rest)) view old new (Err refusal)
image_refused found number entry rest view old new refusal first =
    plan_stopped (image_plan number entry) (λ next. images_plan (found ++ next ∷ []) (number + 1) rest) view old new refusal first

split : (all : List ImageSpec) (entry : ImageSpec) → 1 ≤ length all → entry ≡ get_or all 0 entry → all ≡ entry ∷ drop 1 all
split [] entry some at = absurd (omega arith)
split (first ∷ rest) entry some at = ap (λ (e : ImageSpec). e ∷ rest) (sym at)

rest_of : (all : List ImageSpec) → take (length all - 1) (drop 1 all) ≡ drop 1 all
rest_of all = take_all (length all - 1) (drop 1 all) (omega (arith, length-drop 1 all))

-- the same, of a list that begins with the entry
pub next_image : {S : Type 0} (all : List ImageSpec) (found more : List Image) (number : ℕ) (entry : ImageSpec) (image : Image) (view : StoreView S) (s0 s1 s2 : S) (result : Result (List Image) Refusal)
    → 1 ≤ length all → entry ≡ get_or all 0 entry → more ≡ found ++ image ∷ []
    → Reads (image_plan number entry) view s0 s1 (Ok image)
    → Reads (images_plan more (number + 1) (take (length all - 1) (drop 1 all))) view s1 s2 result
    → Reads (images_plan found number all) view s0 s2 result
next_image all found more number entry image view s0 s1 s2 result some at is first second =
    let there : Reads (images_plan more (number + 1) (drop 1 all)) view s1 s2 result =
    subst (λ (l : List ImageSpec). Reads (images_plan more (number + 1) l) view s1 s2 result) (rest_of all) second in
    let then_that : Reads (images_plan (found ++ image ∷ []) (number + 1) (drop 1 all)) view s1 s2 result =
    subst (λ (m : List Image). Reads (images_plan m (number + 1) (drop 1 all)) view s1 s2 result) is there in
    subst (λ (l : List ImageSpec). Reads (images_plan found number l) view s0 s2 result) (sym (split all entry some at))
    (one_more_image found number entry (drop 1 all) image view s0 s1 s2 result first then_that)

pub refused_image : {S : Type 0} (all : List ImageSpec) (found : List Image) (number : ℕ) (entry : ImageSpec) (view : StoreView S) (old new : S) (refusal : Refusal)
    → 1 ≤ length all → entry ≡ get_or all 0 entry
    → Reads (image_plan number entry) view old new (Err refusal)
    → Reads (images_plan found number all) view old new (Err refusal)
refused_image all found number entry view old new refusal some at first =
    subst (λ (l : List ImageSpec). Reads (images_plan found number l) view old new (Err refusal)) (sym (split all entry some at))
    (image_refused found number entry (drop 1 all) view old new refusal first)

-- an image for which there was no memory
pub image_unkept : {S : Type 0} (all : List ImageSpec) (found : List Image) (number : ℕ) (entry : ImageSpec) (image : Image) (view : StoreView S) (s0 s1 : S) (refusal : Refusal)
    → 1 ≤ length all → entry ≡ get_or all 0 entry → refusal ≡ NoMemory
    → Reads (image_plan number entry) view s0 s1 (Ok image)
    → Reads (images_plan found number all) view s0 s1 (Err refusal)
image_unkept all found number entry image view s0 s1 refusal some at is first =
    subst (λ (r : Refusal). Reads (images_plan found number all) view s0 s1 (Err r)) (sym is)
    (next_image all found (found ++ image ∷ []) number entry image view s0 s1 s1 (Err NoMemory) some at refl first
    (reads_memory _ view s1))
