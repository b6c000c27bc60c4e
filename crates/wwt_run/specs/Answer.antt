-- What a call of the program answers, writes and says. Own.
use Rattle.std.specs.Prelude.{ℕ, ◌≡◌, ◌≢◌, ◌<◌, ◌⊎◌, List, [], true, Contains, Option, Some, None, Result, Ok, Err, IfOk, IfErr, IfSome, IsSome}
use Rattle.wt_outside.specs.Faults.{Rose, Stood}
use Rattle.wt_outside.specs.Files.{Files, IsMissing}
use Rattle.wt_outside.specs.Growth.{Grows, GrowsByPrefix}
use Rattle.wt_outside.specs.Views.{StoreView, SinkView}
use Rattle.engine.specs.Engine.{EngineModel}
use Rattle.wwt_words.specs.Words.{Words}
use Rattle.wwt_case.specs.declared.job.Job.{Job}
use Rattle.wwt_case.specs.declared.refusal.Refusal.{Refusal}
use Rattle.wwt_case.specs.declared.refusal.Refusal.TheVariants as refusals
use Rattle.wwt_case.specs.Plan.{is_usage}
use Rattle.wwt_case.specs.Case.{plan_of, case_of, names_of, workers_called}
use Rattle.wwt_case.specs.Reading.{Asks, IsByItsName, IsSound}
use Rattle.wwt_run.specs.declared.status.Status.{Status}
use Rattle.wwt_run.specs.declared.status.Status.TheVariants.{Done, NodeFault, Usage, Budget, EventLimit, Stalled, BadMachine, BadImage, ReadFault, NoMemory}
use Rattle.wwt_run.specs.Jobs.{HaveRunJob, status_of_job, status_of, output_of, output_of_job}
use Rattle.wwt_run.specs.Refused.{line_of_end}
use Rattle.wwt_run.specs.Status.{status_of_end}

-- the words are refused by themselves
abbrev pub IsUsage : Words → Type 0
IsUsage words = is_usage (plan_of words) ≡ true

-- the words are those of a run or a load by two workers or more
abbrev pub IsThreaded : Words → Type 0
IsThreaded words = 1 < workers_called words

-- How a call may end, by what it is called for: a job is done, unless its output can't be written; a refusal is that
-- refusal. Want of memory may come in place of either.
abbrev pub Ends : Result Job Refusal → Result Status Refusal → Type 0
Ends (Ok job) (Ok status) = status ≡ status_of_job job
Ends (Ok job) (Err refusal) = (refusal ≡ refusals.Write) ⊎ (refusal ≡ refusals.NoMemory)
Ends (Err reason) (Ok status) = ⊥
Ends (Err reason) (Err refusal) = (refusal ≡ reason) ⊎ (refusal ≡ refusals.NoMemory)

-- the statuses of a job that was done
abbrev pub IsDone : Status → Type 0
IsDone Done = Unit {0}
IsDone NodeFault = Unit {0}
IsDone Budget = Unit {0}
IsDone EventLimit = Unit {0}
IsDone Stalled = Unit {0}
IsDone _ = ⊥

-- the statuses of a call that has written nothing
abbrev pub IsUnwritten : Status → Type 0
IsUnwritten Usage = Unit {0}
IsUnwritten BadMachine = Unit {0}
IsUnwritten BadImage = Unit {0}
IsUnwritten ReadFault = Unit {0}
IsUnwritten _ = ⊥

-- A line was told: whole where no fault of its sink rose, and else a first part of it.
pub record Tells {E : Type 0} (line : List ℕ) (err : SinkView E) (old new : E) : Type 0 where
  pub whole : Stood (err.faults old) (err.faults new) → Grows (err.written old) (err.written new) line
  pub part : GrowsByPrefix (err.written old) (err.written new) line

-- In what follows a call takes a store from s0 to s1, its output from k0 to k1, and the sink of its line from e0 to e1.

-- The headline: what is written is the output of what the words and the files call for, a report that of the serial
-- simulation, and the status is its status. No other answer may come, but for want of memory.
abbrev pub Headline : {S K : Type 0} → Words → StoreView S → S → S → SinkView K → K → K → Option Status → Type 0
Headline words store s0 s1 out k0 k1 result =
    (files : Files) → store.files s0 ≡ Some files → IsSound store s0 s1 → Stood (out.faults k0) (out.faults k1)
    → (result ≡ Some NoMemory)
    ⊎ ((result ≡ Some (status_of (case_of words files)))
    × Grows (out.written k0) (out.written k1) (output_of (case_of words files)))

-- How a call ended: as the told files call for, whatever the sinks did, or by a fault that the outside alone makes, and
-- that is never passed over.
pub record EndsBy {S K : Type 0} (words : Words) (store : StoreView S) (s0 s1 : S) (out : SinkView K) (k0 k1 : K) (end : Result Status Refusal) : Type 0 where
  pub of_case : (files : Files) → store.files s0 ≡ Some files → IsSound store s0 s1 → Ends (case_of words files) end
  pub usage : end ≡ Err refusals.Usage → IsUsage words
  -- a file that can't be read: its name is one that the told files lack, or a fault rose; and it is one of the listed
  pub unread : (name : List ℕ) → end ≡ Err (refusals.Read name) → Rose (store.faults s0) (store.faults s1) ⊎ IsMissing (store.files s0) name
  pub named : (files : Files) (name : List ℕ) → store.files s0 ≡ Some files → end ≡ Err (refusals.Read name) → Contains (names_of words files) name
  pub read : ((name : List ℕ) → end ≢ Err (refusals.Read name)) → store.faults s1 ≡ store.faults s0
  -- an output that can't be written
  pub unwritten : end ≡ Err refusals.Write → Rose (out.faults k0) (out.faults k1)
  pub written : (end ≢ Err refusals.Write) → out.faults k1 ≡ out.faults k0
  pub done : IfOk end IsDone
  pub wanting : IfErr end IsByItsName

-- How a call ended, and that the one line that was told is the line of this end. What ends the call doesn't depend on
-- the sink of the line: a fault there changes neither status nor output.
pub record Ended {S K E : Type 0} (words : Words) (store : StoreView S) (s0 s1 : S) (out : SinkView K) (k0 k1 : K) (err : SinkView E) (e0 e1 : E) (result : Option Status) : Type 0 where
  pub end : Result Status Refusal
  pub status_is : result ≡ Some (status_of_end end)
  pub by : EndsBy words store s0 s1 out k0 k1 end
  pub line : Tells (line_of_end end) err e0 e1

-- Each name that the case lists is read once, in order, and none after a refusal: all of them where no fault of the
-- store rose and memory wasn't wanted, else a first part of them.
abbrev pub AsksInOrder : {S : Type 0} → Words → StoreView S → S → S → Option Status → Type 0
AsksInOrder words store s0 s1 result =
    Asks (names_of words) store s0 s1 (IsSound store s0 s1 × (result ≢ Some NoMemory))

-- What is written: nothing before all is read and loaded, and always a first part of the output of some job, of told
-- files that of their case.
pub record Written {S K : Type 0} (words : Words) (store : StoreView S) (s0 : S) (out : SinkView K) (k0 k1 : K) (result : Option Status) : Type 0 where
  pub nothing : IfSome result IsUnwritten → Grows (out.written k0) (out.written k1) []
  pub part : (job : Job) × GrowsByPrefix (out.written k0) (out.written k1) (output_of_job job)
  pub told_part : (files : Files) → store.files s0 ≡ Some files → GrowsByPrefix (out.written k0) (out.written k1) (output_of (case_of words files))

-- The words are refused: nothing is read or written.
pub record Untouched {S K : Type 0} (s0 s1 : S) (k0 k1 : K) (result : Option Status) : Type 0 where
  pub status_is : (result ≡ Some Usage) ⊎ (result ≡ Some NoMemory)
  pub store : s1 ≡ s0
  pub out : k1 ≡ k0

-- A call on one thread answers nothing exactly where the words call for two workers or more, memory allowing. It has
-- then touched nothing.
pub record LeavesToThreads {S K E : Type 0} (words : Words) (s0 s1 : S) (k0 k1 : K) (e0 e1 : E) (result : Option Status) : Type 0 where
  pub threaded : result ≡ None → IsThreaded words
  pub left : IsThreaded words → (result ≡ None) ⊎ (result ≡ Some NoMemory)
  pub store : result ≡ None → s1 ≡ s0
  pub out : result ≡ None → k1 ≡ k0
  pub err : result ≡ None → e1 ≡ e0

-- The engine that threads have run, exactly where the words call for them and the call did its job: it has come to the
-- end of the run that is called for, and each of its quanta was run by threads.
pub record HasRun {S : Type 0} (words : Words) (store : StoreView S) (s0 : S) (result : Status) (ran : Option EngineModel) : Type 0 where
  pub some : IsThreaded words → IsDone result → IsSome ran
  pub job : IfSome ran (λ engine. IsThreaded words × IsDone result × ((job : Job) × HaveRunJob job (Some engine)))
  pub told : (files : Files) → store.files s0 ≡ Some files → IfSome ran (λ engine. (job : Job) × (case_of words files ≡ Ok job) × HaveRunJob job (Some engine))

-- All of this of a call that hasn't told its line yet.
pub record Attempts {S K : Type 0} (words : Words) (store : StoreView S) (s0 s1 : S) (out : SinkView K) (k0 k1 : K) (end : Result Status Refusal) : Type 0 where
  pub headline : Headline words store s0 s1 out k0 k1 (Some (status_of_end end))
  pub by : EndsBy words store s0 s1 out k0 k1 end
  pub asks : AsksInOrder words store s0 s1 (Some (status_of_end end))
  pub written : Written words store s0 out k0 k1 (Some (status_of_end end))
  pub refused : IsUsage words → Untouched s0 s1 k0 k1 (Some (status_of_end end))

-- The same of a call on one thread, which may leave the words to threads and then has touched nothing.
abbrev pub AttemptsByOne : {S K : Type 0} → Words → StoreView S → S → S → SinkView K → K → K → Result (Option Status) Refusal → Type 0
AttemptsByOne words store s0 s1 out k0 k1 (Ok None) = IsThreaded words × (s1 ≡ s0) × (k1 ≡ k0)
AttemptsByOne words store s0 s1 out k0 k1 (Ok (Some status)) = (IsThreaded words → ⊥) × Attempts words store s0 s1 out k0 k1 (Ok status)
AttemptsByOne words store s0 s1 out k0 k1 (Err refusal) = (IsThreaded words → refusal ≡ refusals.NoMemory) × Attempts words store s0 s1 out k0 k1 (Err refusal)

-- how a call ended that hands out an engine
abbrev pub end_of : Result (Status × Option EngineModel) Refusal → Result Status Refusal
end_of (Ok done) = Ok done.0
end_of (Err refusal) = Err refusal
