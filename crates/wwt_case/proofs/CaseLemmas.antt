-- What a job's parts read is what the job reads.
use Rattle.std.proofs.Common.{◌≡◌, ◌≢◌, ℕ, ◌+◌, Bool, cond, false, List, [], ◌∷◌, Option, Some, None, Result, Ok, Err, ◌++◌, refl, sym, ap, ap₂, subst, ◌∙◌, inl, inr, true}
use Rattle.std.proofs.lemmas.Bool.{false≢true, ne_eqb}
use Rattle.elf_image.specs.declared.image.Image.{Image}
use Rattle.elf_image.specs.Flat.{flat_image}
use Rattle.image_loader.specs.Images.{LoadedImages, loaded_with}
use Rattle.image_loader.specs.declared.fault.LoadFault.{LoadFault}
use Rattle.image_loader.specs.declared.fault.LoadFault.TheVariants as faults
use Rattle.image_loader.specs.Faults.{load_fault}
use Rattle.wt_params.specs.declared.parts.MachineParts.{MachineParts}
use Rattle.wt_params.specs.Machine.{flat_machine}
use Rattle.machine_json.specs.Description.{description_of}
use Rattle.machine_json.specs.declared.description.Description.{Description}
use Rattle.machine_json.specs.declared.description.ImageSpec.{ImageSpec}
use Rattle.machine_json.specs.declared.description.ImageSpec.TheVariants.{Bytes, File}
use Rattle.wwt_words.specs.declared.command.Command.{Command}
use Rattle.wwt_words.specs.declared.command.Command.TheVariants as commands
use Rattle.wwt_words.specs.declared.command.WordFault.{WordFault}
use Rattle.wwt_words.specs.declared.command.WordFault.TheVariants as word_faults
use Rattle.wwt_words.specs.Words.{command_of, Reads as Calls}
use Rattle.gen_load.specs.Generated.{generated}
use Rattle.wt_outside.specs.Views.{StoreView}
use Rattle.wwt_case.specs.declared.job.Described.{Described}
use Rattle.wwt_case.specs.declared.job.Job.{Job}
use Rattle.wwt_case.specs.declared.refusal.Refusal.{Refusal}
use Rattle.wwt_case.specs.declared.refusal.Refusal.TheVariants as refusals
use Rattle.wwt_case.specs.Files.{and_then}
use Rattle.wwt_case.specs.Plan.{Plan, ◌>>=◌, is_usage}
use Rattle.wwt_case.specs.Plan.Plan.{Give, Ask}
use Rattle.wwt_case.specs.Programs.{image_plan, images_plan, loaded_or}
use Rattle.wwt_case.specs.Case.{command_plan, check_plan, run_plan, generated_plan, described_plan, dis_plan, flat_plan, description_plan, description_or, load_of, loaded_machine, machine_plan, input_name, IsFlat}
use Rattle.wwt_case.specs.Reading.{Answers, AnswersUsage, IsOther, IsOtherRefusal, Reads}
use Rattle.wwt_case.proofs.ReadLemmas.{plan_then, plan_stopped}

-- the images of a description, from none on
pub all_images : {S : Type 0} (description : Description) (found : List Image) (entries : List ImageSpec) (view : StoreView S) (old new : S) (result : Result (List Image) Refusal) → found ≡ [] → entries ≡ description.images → Reads (images_plan found 0 entries) view old new result → Reads (images_plan [] 0 description.images) view old new result
all_images description found entries view old new result none all read =
    subst (λ (f : List Image). Reads (images_plan f 0 description.images) view old new result) none
    (subst (λ (e : List ImageSpec). Reads (images_plan found 0 e) view old new result) all read)

-- a description, and then its machine
pub described_done : {S : Type 0} (name : List ℕ) (description : Description) (view : StoreView S) (s0 s1 s2 : S) (result : Result Described Refusal)
    → Reads (description_plan name) view s0 s1 (Ok description)
    → Reads (machine_plan description) view s1 s2 result
    → Reads (described_plan name) view s0 s2 result
described_done name description view s0 s1 s2 result first second =
    plan_then (description_plan name) machine_plan view s0 s1 s2 description result
    first second

pub described_stopped : {S : Type 0} (name : List ℕ) (view : StoreView S) (old new : S) (refusal : Refusal) → Reads (description_plan name) view old new (Err refusal) → Reads (described_plan name) view old new (Err refusal)
described_stopped name view old new refusal first =
    plan_stopped (description_plan name) machine_plan view old new refusal first

-- the machine of a generated description
pub generated_is : {S : Type 0} (number : ℕ) (description : Description) (view : StoreView S) (old new : S) (result : Result Described Refusal) → description ≡ generated number → Reads (machine_plan description) view old new result →
    Reads (machine_plan (generated number)) view old new result
generated_is number description view old new result is read = subst (λ (d : Description). Reads (machine_plan d) view old new result) is read

-- the commands
pub of_check : {S : Type 0} (command : Command) (machine name : List ℕ) (view : StoreView S) (old new : S) (result : Result Job Refusal) → command ≡ commands.Check machine → name ≡ machine → Reads (check_plan name) view old new result → Reads (command_plan (Some command)) view old new result
of_check command machine name view old new result is same read =
    subst (λ (c : Command). Reads (command_plan (Some c)) view old new result) (sym is)
    (subst (λ (n : List ℕ). Reads (check_plan n) view old new result) same read)

-- a run or a load
pub of_run : {S : Type 0} (command : Command) (workers : ℕ) (trace memory : Bool) (budget : Option ℕ) (machine name : List ℕ) (view : StoreView S) (old new : S) (result : Result Job Refusal) → command ≡ commands.Run workers trace memory budget machine → name ≡ machine →
    Reads (run_plan name workers budget trace memory) view old new result → Reads (command_plan (Some command)) view old new result
of_run command workers trace memory budget machine name view old new result is same read =
    subst (λ (c : Command). Reads (command_plan (Some c)) view old new result) (sym is)
    (subst (λ (n : List ℕ). Reads (run_plan n workers budget trace memory) view old new result) same read)

pub of_load : {S : Type 0} (command : Command) (number workers : ℕ) (view : StoreView S) (old new : S) (result : Result Job Refusal) → command ≡ commands.Load number workers →
    Reads (generated_plan number workers) view old new result → Reads (command_plan (Some command)) view old new result
of_load command number workers view old new result is read =
    subst (λ (c : Command). Reads (command_plan (Some c)) view old new result) (sym is) read

pub of_dis : {S : Type 0} (command : Command) (image name : List ℕ) (view : StoreView S) (old new : S) (result : Result Job Refusal) → command ≡ commands.Dis image → name ≡ image → Reads (dis_plan name) view old new result → Reads (command_plan (Some command)) view old new result
of_dis command image name view old new result is same read =
    subst (λ (c : Command). Reads (command_plan (Some c)) view old new result) (sym is)
    (subst (λ (n : List ℕ). Reads (dis_plan n) view old new result) same read)

pub of_flat : {S : Type 0} (command : Command) (view : StoreView S) (old new : S) (result : Result Job Refusal) → command ≡ commands.Flat → Reads (flat_plan input_name) view old new result → Reads (command_plan (Some command)) view old new result
of_flat command view old new result is read =
    subst (λ (c : Command). Reads (command_plan (Some c)) view old new result) (sym is) read

-- the words of a command
pub of_words : {S : Type 0} (words : List (List ℕ)) (command : Command) (view : StoreView S) (old new : S) (result : Result Job Refusal) → command_of words ≡ Some command → Reads (command_plan (Some command)) view old new result → Reads (command_plan (command_of words)) view old new result
of_words words command view old new result is read =
    subst (λ (c : Option Command). Reads (command_plan c) view old new result) (sym is) read

-- flat bytes are loaded alone
pub loaded_flat : (machine : MachineParts) (bytes : List ℕ) (image : Image) (none pushed images : List Image) (loaded : LoadedImages) → machine ≡ flat_machine → image ≡ flat_image bytes 0 → none ≡ [] → pushed ≡ none ++ image ∷ [] → images ≡ pushed → loaded ≡ loaded_with machine images → IsFlat loaded
loaded_flat machine bytes image none pushed images loaded flat image_is none_is more all is = record {
  bytes = bytes;
  loaded_is = is ∙ ap₂ loaded_with flat (all ∙ (more ∙ (ap (λ (t : List Image). t ++ image ∷ []) none_is ∙ ap (λ (i : Image). i ∷ []) image_is)));
}

-- the bytes of a description
pub described : (text bytes : List ℕ) (result : Result Description Refusal) → text ≡ bytes → Answers (description_or (description_of text)) result → Answers (description_or (description_of bytes)) result
described text bytes result same answer =
    subst (λ (b : List ℕ). Answers (description_or (description_of b)) result) same answer

-- ---- a plan that isn't refused as the words are

-- a plan that isn't, and then others that aren't
no_usage_then : {A B : Type 0} (plan : Plan A) (next : A → Plan B) → is_usage plan ≡ false → ((value : A) → is_usage (next value) ≡ false) → is_usage (plan >>= next) ≡ false
no_usage_then (Give (Ok value)) next first second = second value
no_usage_then (Give (Err refusals.Usage)) next first second = first
no_usage_then (Give (Err (refusals.Read name))) next first second = refl
no_usage_then (Give (Err (refusals.Machine fault))) next first second = refl
no_usage_then (Give (Err (refusals.Image number why))) next first second = refl
no_usage_then (Give (Err refusals.Write)) next first second = refl
no_usage_then (Give (Err refusals.NoMemory)) next first second = refl
no_usage_then (Ask name kind after) next first second = refl

image_no_usage : (number : ℕ) (entry : ImageSpec) → is_usage (image_plan number entry) ≡ false
image_no_usage number (Bytes at bytes) = refl
image_no_usage number (File name elf at) = refl

images_no_usage : (found : List Image) (number : ℕ) (entries : List ImageSpec) → is_usage (images_plan found number entries) ≡ false
images_no_usage found number [] = refl
images_no_usage found number (entry ∷ entries) =
    no_usage_then (image_plan number entry) (λ image. images_plan (found ++ image ∷ []) (number + 1) entries) (image_no_usage number entry)
    (λ image. images_no_usage (found ++ image ∷ []) (number + 1) entries)

load_no_usage : (loaded : LoadedImages) (fault : Option LoadFault) (made : LoadedImages → Described) → is_usage (Give (and_then (loaded_or loaded fault) (λ given. Ok (made given)))) ≡ false
load_no_usage loaded None made = refl
load_no_usage loaded (Some (faults.Outside number address)) made = refl
load_no_usage loaded (Some (faults.BadEntry number entry)) made = refl
load_no_usage loaded (Some faults.NoMemory) made = refl

generated_no_usage : (number workers : ℕ) → is_usage (generated_plan number workers) ≡ false
generated_no_usage number workers =
    no_usage_then (machine_plan (generated number)) (λ described. Give (load_of workers described))
    (no_usage_then (images_plan [] 0 (generated number).images) (λ images. Give (loaded_machine (generated number) images))
    (images_no_usage [] 0 (generated number).images)
    (λ images. load_no_usage (loaded_with (generated number).machine images) (load_fault (generated number).machine 0 images) (λ loaded. record { version = (generated number).version; machine = (generated number).machine; loaded = loaded })))
    (λ described. refl)

-- whether a command is refused, by what it is
pub usage_as : {command other : Command} → command ≡ other → is_usage (command_plan (Some command)) ≡ is_usage (command_plan (Some other))
usage_as is = ap (λ (c : Command). is_usage (command_plan (Some c))) is

pub no_usage_of_load : (command : Command) (workers number : ℕ) → command ≡ commands.Load number workers → is_usage (command_plan (Some command)) ≡ false
no_usage_of_load command workers number is = usage_as is ∙ generated_no_usage number workers

pub none_refused : {A B : Type 0} (plan : Plan A) → is_usage plan ≡ false → is_usage plan ≡ true → B
none_refused plan none usage = absurd (false≢true (sym none ∙ usage))

module _ {S A : Type 0} {plan : Plan A} where
  -- a plan that isn't refused as the words are answers otherwise
  pub accepts : (old new : S) (result : Result A Refusal) → is_usage plan ≡ false → IsOther result → AnswersUsage plan old new result
  accepts old new (Ok value) none other = record {
    accepted = none;
    usage = λ same. cc;
    refused = none_refused plan none;
    unread = none_refused plan none;
  }
  accepts old new (Err refusal) none other = record {
    accepted = tt;
    usage = λ same. let is : refusal ≡ refusals.Usage = cc in absurd (subst IsOtherRefusal is other);
    refused = none_refused plan none;
    unread = none_refused plan none;
  }

  -- one that is says so at once
  pub refuses : (s : S) → is_usage plan ≡ true → AnswersUsage plan s s (Err refusals.Usage)
  refuses s usage = record { accepted = tt; usage = λ _. usage; refused = λ _. inl refl; unread = λ _. refl }

  -- want of memory may come before
  pub refuses_memory : (s : S) → AnswersUsage plan s s (Err refusals.NoMemory)
  refuses_memory s = record { accepted = tt; usage = λ same. cc; refused = λ _. inr refl; unread = λ _. refl }

-- the words of a command are refused as it is
pub usage_of_words : {S : Type 0} (words : List (List ℕ)) (command : Command) (old new : S) (result : Result Job Refusal) → command_of words ≡ Some command → AnswersUsage (command_plan (Some command)) old new result → AnswersUsage (command_plan (command_of words)) old new result
usage_of_words words command old new result is answer =
    subst (λ (c : Option Command). AnswersUsage (command_plan c) old new result) (sym is) answer

-- words of no command are refused
pub refuses_words : {S : Type 0} (words : List (List ℕ)) (s : S) (fault : WordFault) → fault ≡ word_faults.Usage → Calls {T = Command} (command_of words) (Err fault) → AnswersUsage (command_plan (command_of words)) s s (Err refusals.Usage)
refuses_words words s fault is none =
    refuses s (ap (λ (c : Option Command). is_usage (command_plan c)) (subst (λ (f : WordFault). Calls {T = Command} (command_of words) (Err f)) is none))
