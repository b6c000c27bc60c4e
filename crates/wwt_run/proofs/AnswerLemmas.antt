-- What is shown of a call by what its parts answered.
use Rattle.std.proofs.Common.{◌≡◌, ◌≢◌, ℕ, List, [], Option, Some, Result, Ok, Err, ◌⊎◌, inl, inr, Bool, true, false, cond, ap, sym, ◌∙◌, subst, refl}
use Rattle.std.proofs.lemmas.Bool.{false≢true}
use Rattle.wt_outside.specs.Faults.{Rose}
use Rattle.wt_outside.specs.Files.{Files}
use Rattle.wt_outside.specs.Growth.{Grows, GrowsByPrefix}
use Rattle.wt_outside.specs.Views.{StoreView, SinkView}
use Rattle.wt_outside.specs.Writes.{Writes}
use Rattle.wt_outside.specs.declared.fault.WriteFault.{WriteFault}
use Rattle.wt_outside.specs.declared.fault.WriteFault.TheVariants as faults
use Rattle.wt_outside.proofs.FaultLemmas.{not_both}
use Rattle.wt_outside.proofs.GrowthLemmas.{grows_nothing, prefix_nothing}
use Rattle.wwt_case.specs.declared.job.Job.{Job}
use Rattle.wwt_case.specs.declared.job.Job.TheVariants.{Check, Dis, Flat, Run, Load}
use Rattle.wwt_case.specs.declared.refusal.Refusal.{Refusal}
use Rattle.wwt_case.specs.declared.refusal.Refusal.TheVariants as refusals
use Rattle.wwt_words.specs.Words.{Words}
use Rattle.wwt_case.specs.Case.{plan_of, case_of, names_of}
use Rattle.wwt_case.specs.Reading.{AnswersUsage, Asks, Reads, IsByItsName, IsSound, IsThrough}
use Rattle.node.specs.declared.state.NodeState.{NodeState}
use Rattle.wt_stats.specs.declared.head.Outcome.{Outcome}
use Rattle.wt_stats.specs.declared.head.Outcome.TheVariants as outcomes
use Rattle.wwt_run.specs.declared.status.Status.{Status}
use Rattle.wwt_run.specs.declared.status.Status.TheVariants.{Done, NodeFault, Usage, Budget, EventLimit, Stalled, BadMachine, BadImage, ReadFault, WriteFault as FailedWrite, NoMemory}
use Rattle.wwt_run.specs.Status.{status_of_refusal, status_after_of}
use Rattle.wt_params.specs.declared.parts.MachineParts.{MachineParts}
use Rattle.wt_params.specs.Machine.{flat_machine}
use Rattle.image_loader.specs.Images.{LoadedImages}
use Rattle.quantum.specs.Outcome.{outcome_of}
use Rattle.wt_report.specs.declared.options.Options.{Options}
use Rattle.wwt_run.specs.Jobs.{final_of, refusal_of, asked_of, summary_of, status_of_job, output_of_job, status_of, output_of, status_of_run}
use Rattle.wwt_run.specs.Answer.{IsUsage, Ends, IsDone, IsUnwritten, Headline, AsksInOrder, Untouched, Attempts}

either_done : (b : Bool) → IsDone (cond b Done NodeFault)
either_done true = tt
either_done false = tt

run_is_done : (outcome : Outcome) (nodes : List NodeState) → IsDone (status_after_of outcome nodes)
run_is_done outcomes.Finished nodes = either_done _
run_is_done outcomes.Budget nodes = tt
run_is_done outcomes.EventLimit nodes = tt
run_is_done outcomes.Stalled nodes = tt

ran_is_done : (machine : MachineParts) (loaded : LoadedImages) (options : Options) → IsDone (status_of_run machine loaded options)
unfolding status_of_run
ran_is_done machine loaded options = run_is_done (outcome_of machine (final_of machine loaded options.trace)) (final_of machine loaded options.trace).nodes

pub job_is_done : (job : Job) → IsDone (status_of_job job)
job_is_done (Check version machine loaded) = tt
job_is_done (Dis image) = tt
job_is_done (Flat loaded) = ran_is_done flat_machine loaded (asked_of false false)
job_is_done (Run machine loaded workers trace memory) = ran_is_done machine loaded (asked_of trace memory)
job_is_done (Load machine loaded workers) = ran_is_done machine loaded summary_of

done_is_written : (status : Status) → IsDone status → IsUnwritten status → ⊥
done_is_written Done done unwritten = unwritten
done_is_written NodeFault done unwritten = unwritten
done_is_written Usage done unwritten = done
done_is_written Budget done unwritten = unwritten
done_is_written EventLimit done unwritten = unwritten
done_is_written Stalled done unwritten = unwritten
done_is_written BadMachine done unwritten = done
done_is_written BadImage done unwritten = done
done_is_written ReadFault done unwritten = done
done_is_written FailedWrite done unwritten = done
done_is_written NoMemory done unwritten = done

-- all names are asked for where less is said to be needed
asks_when : {S : Type 0} (names : Files → List (List ℕ)) (view : StoreView S) (old new : S) (all more : Type 0) → (more → all) → Asks names view old new all → Asks names view old new more
asks_when names view old new all more weaker asks = record {
  asked = asks.asked;
  are_asked = asks.are_asked;
  part = asks.part;
  whole = λ files told through. asks.whole files told (weaker through);
}

-- want of memory may come in place of any end
ends_early : (called : Result Job Refusal) → Ends called (Err refusals.NoMemory)
ends_early (Ok job) = inr refl
ends_early (Err reason) = inr refl

-- ---- the words and the files are refused

module _ {S K : Type 0} (words : Words) (store : StoreView S) (s0 s1 : S) (out : SinkView K) (k : K) (refusal : Refusal) (read : Reads (plan_of words) store s0 s1 (Err refusal)) where
  same_name : (name : List ℕ) → ◌≡◌ {A = Result Status Refusal} (Err refusal) (Err (refusals.Read name)) → ◌≡◌ {A = Result Job Refusal} (Err refusal) (Err (refusals.Read name))
  same_name name same = let is : refusal ≡ refusals.Read name = cc in ap Err is

  refused_ends : (files : Files) → store.files s0 ≡ Some files → IsSound store s0 s1 → Ends (case_of words files) (Err refusal)
  refused_ends files told stood = elim (read.refused files told stood) [
    | inl memory ↦ subst (λ (r : Refusal). Ends (case_of words files) (Err r)) (sym memory) (ends_early (case_of words files))
    | inr same ↦ subst (λ (c : Result Job Refusal). Ends c (Err refusal)) (sym same) (inl refl)
  ]

  refused_headline : Headline words store s0 s1 out k k (Some (status_of_refusal refusal))
  refused_headline files told stood out_stood = elim (read.refused files told stood) [
    | inl memory ↦ inl (ap (λ (r : Refusal). Some (status_of_refusal r)) memory)
    | inr same ↦ inr (
      ap (λ (c : Result Job Refusal). Some (status_of c)) (sym same),
      subst (λ (c : Result Job Refusal). Grows (out.written k) (out.written k) (output_of c)) (sym same) (grows_nothing refl),
    )
  ]

  refused_asks : AsksInOrder words store s0 s1 (Some (status_of_refusal refusal))
  refused_asks =
      asks_when (names_of words) store s0 s1 (IsThrough {A = Job} store s0 s1 (Err refusal)) _
      (λ through. (through.0, λ memory. through.1 (ap (λ (r : Refusal). Some (status_of_refusal r)) memory)))
      read.once

  untouched : s1 ≡ s0 → (refusal ≡ refusals.Usage) ⊎ (refusal ≡ refusals.NoMemory) → Untouched s0 s1 k k (Some (status_of_refusal refusal))
  untouched unread which = record {
    status_is = elim which [
      | inl same ↦ inl (ap (λ (r : Refusal). Some (status_of_refusal r)) same)
      | inr same ↦ inr (ap (λ (r : Refusal). Some (status_of_refusal r)) same)
    ];
    store = unread;
    out = refl;
  }

  by_refusal : ◌≡◌ {A = Result Job Refusal} (Err refusal) (Err refusals.Usage) ⊎ ◌≡◌ {A = Result Job Refusal} (Err refusal) (Err refusals.NoMemory) → (refusal ≡ refusals.Usage) ⊎ (refusal ≡ refusals.NoMemory)
  by_refusal which = elim which [ inl same ↦ inl cc | inr same ↦ inr cc ]

  pub attempt_refused : AnswersUsage (plan_of words) s0 s1 (Err refusal)
      → (let answer : Result Job Refusal = Err refusal in answer ≢ Err refusals.Write) → IsByItsName refusal
      → Attempts words store s0 s1 out k k (Err refusal)
  attempt_refused answer unwritten wanting = record {
    headline = refused_headline;
    by = record {
      of_case = refused_ends;
      usage = λ same. answer.usage (let is : refusal ≡ refusals.Usage = cc in ap Err is);
      unread = λ name same. read.unread name (same_name name same);
      named = λ files name told same. read.named files name told (same_name name same);
      read = λ other. read.steady (λ name same. other name (let is : refusal ≡ refusals.Read name = cc in ap Err is));
      unwritten = λ same. absurd (unwritten (let is : refusal ≡ refusals.Write = cc in ap Err is));
      written = λ other. refl;
      done = tt;
      wanting = wanting;
    };
    asks = refused_asks;
    written = record {
      nothing = λ unwritten. grows_nothing refl;
      part = (Dis (record { entry = 0; segments = [] }), prefix_nothing refl);
      told_part = λ files told. prefix_nothing refl;
    };
    refused = λ usage. untouched (answer.unread usage) (by_refusal (answer.refused usage));
  }

-- ---- there is a job

module _ {S K : Type 0} (words : Words) (store : StoreView S) (s0 s1 : S) (out : SinkView K) (k0 k1 : K) (job : Job) (read : Reads (plan_of words) store s0 s1 (Ok job)) (usage : AnswersUsage (plan_of words) s0 s1 (Ok job)) where
  told_output : (files : Files) → store.files s0 ≡ Some files → (P : List ℕ → Type 0) → P (output_of_job job) → P (output_of (case_of words files))
  told_output files told P p = subst (λ (c : Result Job Refusal). P (output_of c)) (sym (read.found files told)) p

  job_asks : (result : Option Status) → AsksInOrder words store s0 s1 result
  job_asks result = asks_when (names_of words) store s0 s1 _ _ (λ _. tt) read.once

  not_usage : (result : Option Status) → IsUsage words → Untouched s0 s1 k0 k1 result
  not_usage result refused = absurd (false≢true (sym usage.accepted ∙ refused))

  -- and it was done
  pub attempt_done : (status : Status) → status ≡ status_of_job job → Writes (output_of_job job) (Ok status) out k0 k1 → Attempts words store s0 s1 out k0 k1 (Ok status)
  attempt_done status is writes = record {
    headline = λ files told stood out_stood.
        inr (
          ap Some is ∙ ap (λ (c : Result Job Refusal). Some (status_of c)) (sym (read.found files told)),
          told_output files told (λ text. Grows (out.written k0) (out.written k1) text) writes.whole,
        );
    by = record {
      of_case = λ files told stood. subst (λ (c : Result Job Refusal). Ends c (Ok status)) (sym (read.found files told)) is;
      usage = λ same. cc;
      unread = λ name same. cc;
      named = λ files name told same. cc;
      read = λ other. read.steady (λ name same. cc);
      unwritten = λ same. cc;
      written = λ other. writes.steady (λ same. cc);
      done = subst IsDone (sym is) (job_is_done job);
      wanting = tt;
    };
    asks = job_asks (Some status);
    written = record {
      nothing = λ unwritten. absurd (done_is_written status (subst IsDone (sym is) (job_is_done job)) unwritten);
      part = (job, writes.part);
      told_part = λ files told. told_output files told (λ text. GrowsByPrefix (out.written k0) (out.written k1) text) writes.part;
    };
    refused = not_usage (Some status);
  }

  -- or its output wasn't written whole
  cut_short : (refusal : Refusal) → (refusal ≡ refusals.Write) ⊎ (refusal ≡ refusals.NoMemory)
      → Headline words store s0 s1 out k0 k1 (Some (status_of_refusal refusal))
      → (refusal ≡ refusals.Write → Rose (out.faults k0) (out.faults k1)) → ((refusal ≢ refusals.Write) → out.faults k1 ≡ out.faults k0)
      → GrowsByPrefix (out.written k0) (out.written k1) (output_of_job job) → Attempts words store s0 s1 out k0 k1 (Err refusal)
  cut_short refusal which headline failed steady part = record {
    headline = headline;
    by = record {
      of_case = λ files told stood. subst (λ (c : Result Job Refusal). Ends c (Err refusal)) (sym (read.found files told)) which;
      usage = λ same. elim which [ inl write ↦ cc | inr memory ↦ cc ];
      unread = λ name same. elim which [ inl write ↦ cc | inr memory ↦ cc ];
      named = λ files name told same. elim which [ inl write ↦ cc | inr memory ↦ cc ];
      read = λ other. read.steady (λ name same. cc);
      unwritten = λ same. failed cc;
      written = λ other. steady (λ is. other (ap Err is));
      done = tt;
      wanting = elim which [ inl write ↦ subst IsByItsName (sym write) tt | inr memory ↦ subst IsByItsName (sym memory) tt ];
    };
    asks = job_asks _;
    written = record {
      nothing = elim which [
        | inl write ↦ λ unwritten. absurd (subst (λ (r : Refusal). IsUnwritten (status_of_refusal r)) write unwritten)
        | inr memory ↦ λ unwritten. absurd (subst (λ (r : Refusal). IsUnwritten (status_of_refusal r)) memory unwritten)
      ];
      part = (job, part);
      told_part = λ files told. told_output files told (λ text. GrowsByPrefix (out.written k0) (out.written k1) text) part;
    };
    refused = not_usage _;
  }

  stopped : (fault : WriteFault) → Writes {T = Status} (output_of_job job) (Err fault) out k0 k1 → Attempts words store s0 s1 out k0 k1 (Err (refusal_of fault))
  stopped faults.Failed writes =
      cut_short refusals.Write (inl refl) (λ files told stood out_stood. absurd (not_both _ _ (writes.failed refl) out_stood))
      (λ _. writes.failed refl) (λ other. absurd (other refl)) writes.part
  stopped faults.NoMemory writes =
      cut_short refusals.NoMemory (inr refl) (λ files told stood out_stood. inl refl)
      (λ same. cc) (λ _. writes.steady (λ same. cc)) writes.part

  pub attempt_stopped : (fault : WriteFault) (refusal : Refusal) → refusal ≡ refusal_of fault → Writes {T = Status} (output_of_job job) (Err fault) out k0 k1 → Attempts words store s0 s1 out k0 k1 (Err refusal)
  attempt_stopped fault refusal is writes =
      subst (λ (r : Refusal). Attempts words store s0 s1 out k0 k1 (Err r)) (sym is) (stopped fault writes)
