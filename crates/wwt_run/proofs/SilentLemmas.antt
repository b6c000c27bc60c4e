-- A call that ends by a status tells no line.
use Rattle.std.proofs.Common.{◌≡◌, [], Some, Ok, ap, sym, subst, refl}
use Rattle.wt_outside.specs.Views.{StoreView, SinkView}
use Rattle.wt_outside.proofs.GrowthLemmas.{grows_nothing, prefix_nothing}
use Rattle.wwt_words.specs.Words.{Words}
use Rattle.wwt_run.specs.declared.status.Status.{Status}
use Rattle.wwt_run.specs.Answer.{Ended, EndsBy, Tells}

module _ {E : Type 0} (err : SinkView E) where
  silent : (old new : E) → new ≡ old → Tells [] err old new
  silent old new same = record {
    whole = λ stood. grows_nothing (ap err.written same);
    part = prefix_nothing (ap err.written same);
  }

  -- where the part of the call before this one has touched nothing
  pub ended_in_silence : {S K : Type 0} (words : Words) (store : StoreView S) (s0 s s1 : S) (out : SinkView K) (k0 k k1 : K) (e0 e1 : E) (status : Status) →
      s ≡ s0 → k ≡ k0 → e1 ≡ e0 → EndsBy words store s s1 out k k1 (Ok status) → Ended words store s0 s1 out k0 k1 err e0 e1 (Some status)
  ended_in_silence {S} {K} words store s0 s s1 out k0 k k1 e0 e1 status same_store same_out same_err by = record {
    end = Ok status;
    status_is = refl;
    by = subst (λ (x : S × K). EndsBy words store x.0 s1 out x.1 k1 (Ok status)) (λ i. (same_store i, same_out i)) by;
    line = silent e0 e1 same_err;
  }
