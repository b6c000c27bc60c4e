-- What is left to threads, and the engine that they have run.
use Rattle.std.proofs.Common.{◌≡◌, ◌≢◌, ◌<◌, ℕ, Bool, false, List, [], Option, Some, None, Result, Ok, Err, ◌⊎◌, inl, inr, IfSome, ap, sym, ◌∙◌, subst, refl, arith}
use Rattle.std.specs.Prelude.{IsSome, IfOk, IfErr}
use Rattle.engine.specs.Engine.{EngineModel}
use Rattle.wt_outside.specs.Files.{Files}
use Rattle.wt_outside.specs.Views.{StoreView, SinkView}
use Rattle.wwt_words.specs.Words.{Words}
use Rattle.wwt_case.specs.declared.job.Job.{Job}
use Rattle.wwt_case.specs.declared.job.Job.TheVariants.{Check, Dis, Flat, Run, Load}
use Rattle.wwt_case.specs.declared.refusal.Refusal.{Refusal}
use Rattle.wwt_case.specs.declared.refusal.Refusal.TheVariants as refusals
use Rattle.wwt_case.specs.Case.{case_of, plan_of, workers_called, workers_of_job}
use Rattle.wwt_case.specs.Reading.{AnswersUsage, Reads}
use Rattle.wwt_run.specs.declared.status.Status.{Status}
use Rattle.wwt_run.specs.declared.status.Status.TheVariants.{NoMemory}
use Rattle.wwt_run.specs.Status.{status_of_refusal}
use Rattle.wwt_run.specs.Jobs.{HaveRun, HaveRunJob, status_of_job}
use Rattle.wwt_run.specs.Answer.{IsDone, IsThreaded, HasRun, Attempts}
use Rattle.wwt_run.proofs.AnswerLemmas.{attempt_refused, job_is_done}
use Rattle.wt_params.specs.declared.parts.MachineParts.{MachineParts}
use Rattle.image_loader.specs.Images.{LoadedImages}

-- ---- memory was wanted before anything was read

nothing_read : {S : Type 0} (words : Words) (store : StoreView S) (s : S) → Reads (plan_of words) store s s (Err refusals.NoMemory)
nothing_read words store s = record {
  found = λ files told. tt;
  refused = λ files told stood. inl refl;
  named = λ files name told same. cc;
  once = record { asked = []; are_asked = refl; part = λ files told. (_, refl); whole = λ files told through. absurd (through.1 refl) };
  unread = λ name same. cc;
  steady = λ other. refl;
  later = omega arith;
  kept = refl;
}

pub wanting : {S K : Type 0} (words : Words) (store : StoreView S) (s : S) (out : SinkView K) (k : K) → Attempts words store s s out k k (Err refusals.NoMemory)
wanting words store s out k =
    attempt_refused words store s s out k refusals.NoMemory (nothing_read words store s)
    (record { accepted = tt; usage = λ same. cc; refused = λ _. inr refl; unread = λ _. refl })
    (λ same. cc) tt

-- ---- the engine of threads

refusal_isn't_done : (refusal : Refusal) → IsDone (status_of_refusal refusal) → ⊥
refusal_isn't_done refusals.Usage done = done
refusal_isn't_done (refusals.Read name) done = done
refusal_isn't_done (refusals.Machine fault) done = done
refusal_isn't_done (refusals.Image number fault) done = done
refusal_isn't_done refusals.Write done = done
refusal_isn't_done refusals.NoMemory done = done

-- A call that isn't done has none.
pub none_ran : {S : Type 0} (words : Words) (store : StoreView S) (s : S) (status : Status) → (IsThreaded words → IsDone status → ⊥) → HasRun words store s status None
none_ran words store s status not = record { some = λ threaded done. absurd (not threaded done); job = tt; told = λ files told. tt }

pub refused_ran_none : {S : Type 0} (words : Words) (store : StoreView S) (s : S) (refusal : Refusal) (status : Status) → status ≡ status_of_refusal refusal → HasRun words store s status None
refused_ran_none words store s refusal status is = none_ran words store s status (λ threaded done. refusal_isn't_done refusal (subst IsDone is done))

-- what is left to threads is answered by nothing but want of memory
pub left_ran_none : {S : Type 0} (words : Words) (store : StoreView S) (s : S) (status : Status) → (IsThreaded words → (Some status ≡ None) ⊎ (Some status ≡ Some NoMemory)) → HasRun words store s status None
left_ran_none words store s status left = none_ran words store s status
    (λ threaded done. elim (left threaded) [
      | inl none ↦ cc
      | inr memory ↦ let is : status ≡ NoMemory = cc in subst IsDone is done
    ])

has_some : (machine : MachineParts) (loaded : LoadedImages) (traced : Bool) (ran : Option EngineModel) → HaveRun machine loaded traced ran → IsSome ran
has_some machine loaded traced None have = absurd have
has_some machine loaded traced (Some engine) have = refl

job_has_some : (job : Job) (ran : Option EngineModel) → 1 < workers_of_job job → HaveRunJob job ran → IsSome ran
job_has_some (Check version machine loaded) ran many have = absurd (omega arith)
job_has_some (Dis image) ran many have = absurd (omega arith)
job_has_some (Flat loaded) ran many have = absurd (omega arith)
job_has_some (Run machine loaded workers trace memory) ran many have = has_some machine loaded trace ran have
job_has_some (Load machine loaded workers) ran many have = has_some machine loaded false ran have

-- A job that was done has the engine that threads have run.
pub job_has_run : {S : Type 0} (words : Words) (store : StoreView S) (s : S) (job : Job) (status : Status) (ran : Option EngineModel) → IsThreaded words → workers_of_job job ≡ workers_called words → status ≡ status_of_job job → HaveRunJob job ran →
    ((files : Files) → store.files s ≡ Some files → case_of words files ≡ Ok job) → HasRun words store s status ran
job_has_run words store s job status None threaded workers is have found = record {
  some = λ _ done. job_has_some job None (subst (λ n. 1 < n) (sym workers) threaded) have;
  job = tt;
  told = λ files told. tt;
}
job_has_run words store s job status (Some engine) threaded workers is have found = record {
  some = λ _ done. refl;
  job = (threaded, subst IsDone (sym is) (job_is_done job), (job, have));
  told = λ files told. (job, found files told, have);
}
