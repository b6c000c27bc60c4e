-- What follows for a text that is written in parts.
use Rattle.std.specs.Prelude.{◌≡◌, ◌≢◌, ℕ, ◌+◌, ◌<◌, List, [], ◌++◌, length, take, drop, Option, Result, Ok, Err, OnOk, flat_map}
use Rattle.std.proofs.Common.{ap, sym, subst, ◌∙◌, arith, get_or}
use Rattle.std.proofs.lemmas.List.{take_more, take-append-drop, flat_map_more}
use Rattle.std.proofs.lemmas.Result.{err_from_is_err_and}
use Rattle.std.specs.Result.{IsErrAnd}
use Rattle.std.proofs.lemmas.Grind.{flat_map-append}
use Rattle.std.proofs.Math.Seq.{take-length}
use Rattle.wt_outside.specs.Faults.{Rose}
use Rattle.wt_outside.specs.Growth.{Grows}
use Rattle.wt_outside.proofs.GrowthLemmas.{grows_then, grows_then_prefix, prefix_all, prefix_longer}
use Rattle.wt_outside.specs.Writes.{Writes}
use Rattle.wt_outside.specs.Views.{SinkView}
use Rattle.wt_outside.specs.declared.fault.WriteFault.{WriteFault}
use Rattle.wt_outside.specs.declared.fault.WriteFault.TheVariants.{Failed}

-- a text was written whole, and nothing has failed
pub record HasWritten {S : Type 0} (text : List ℕ) (view : SinkView S) (old new : S) : Type 0 where
  pub grew : Grows (view.written old) (view.written new) text
  pub steady : view.faults new ≡ view.faults old

no_fault : {T : Type 0} (value : T) → let answer : Result T WriteFault = Ok value in answer ≢ Err Failed
no_fault value same = cc

whole_then : {T : Type 0} (x y : List ℕ) (old middle new : Option (List ℕ)) (result : Result T WriteFault) → Grows old middle x → OnOk result (Grows middle new y) → OnOk result (Grows old new (x ++ y))
whole_then x y old middle new (Ok value) first second = grows_then first second
whole_then x y old middle new (Err fault) first second = tt

module _ {S : Type 0} {view : SinkView S} where
  pub written_then : {x y : List ℕ} {old middle new : S} → HasWritten x view old middle → HasWritten y view middle new → HasWritten (x ++ y) view old new
  written_then first second = record { grew = grows_then first.grew second.grew; steady = second.steady ∙ first.steady }

  -- a call that answered Ok has written its text, and one that has written its text may answer Ok
  pub written_by : {T : Type 0} {x : List ℕ} {value : T} {old new : S} → Writes x (Ok value) view old new → HasWritten x view old new
  written_by {value = value} done = record { grew = done.whole; steady = done.steady (no_fault value) }

  pub writes_done : {T : Type 0} {x : List ℕ} {value : T} {old new : S} → HasWritten x view old new → Writes x (Ok value) view old new
  writes_done {value = value} written = record {
    whole = written.grew;
    part = prefix_all written.grew;
    failed = λ same. absurd (no_fault value same);
    steady = λ _. written.steady;
    later = omega arith;
  }

  -- one text was written, and then a call wrote another
  pub writes_then : {T : Type 0} {x y : List ℕ} {result : Result T WriteFault} {old middle new : S} → HasWritten x view old middle → Writes y result view middle new → Writes (x ++ y) result view old new
  writes_then {result = result} {new = new} first second = record {
    whole = whole_then _ _ _ _ _ result first.grew second.whole;
    part = grows_then_prefix first.grew second.part;
    failed = λ same. subst (λ b. Rose b (view.faults new)) first.steady (second.failed same);
    steady = λ other. second.steady other ∙ first.steady;
    later = omega (arith, first.steady, second.later);
  }

  -- a call that stopped early has written a part of any longer text
  pub writes_stopped : {T : Type 0} {x : List ℕ} {fault : WriteFault} {old new : S} (rest : List ℕ) → Writes {T = T} x (Err fault) view old new → Writes {T = T} (x ++ rest) (Err fault) view old new
  writes_stopped rest stopped = record {
    whole = tt;
    part = prefix_longer rest stopped.part;
    failed = stopped.failed;
    steady = stopped.steady;
    later = stopped.later;
  }

  -- the exit of a `?` hands the fault on
  pub writes_handed_on : {T : Type 0} {x : List ℕ} {fault : WriteFault} {old new : S} (result : Result T WriteFault) → IsErrAnd result (λ given. given ≡ fault) → Writes {T = T} x (Err fault) view old new → Writes x result view old new
  writes_handed_on {T = T} {x = x} {old = old} {new = new} result handed stopped =
      let is = err_from_is_err_and result handed in
      subst (λ r. Writes x r view old new) (sym is.1)
      (subst (λ given. Writes {T = T} x (Err given) view old new) (sym is.2) stopped)

  -- a caller hands the fault on, in an answer of its own
  pub writes_failed : {T U : Type 0} {x : List ℕ} {fault : WriteFault} {old new : S} → Writes {T = T} x (Err fault) view old new → Writes {T = U} x (Err fault) view old new
  writes_failed {fault = fault} stopped = record {
    whole = tt;
    part = stopped.part;
    failed = λ same. stopped.failed (let is : fault ≡ Failed = cc in ap Err is);
    steady = λ other. stopped.steady (λ same. other (let is : fault ≡ Failed = cc in ap Err is));
    later = stopped.later;
  }

  -- the same of a text that is known to be another
  pub writes_same : {T : Type 0} {x y : List ℕ} {old new : S} (result : Result T WriteFault) → x ≡ y → Writes x result view old new → Writes y result view old new
  writes_same {old = old} {new = new} result same writes =
      subst (λ l. Writes l result view old new) same writes

-- ---- a text for each element of a list, in turn

module _ {X : Type 0} (f : X → List ℕ) (xs : List X) (i : ℕ) (x : X) where
  pub text_more : i < length xs → x ≡ get_or xs i x → flat_map f (take (i + 1) xs) ≡ flat_map f (take i xs) ++ f x
  text_more within at =
      ap (flat_map f) (take_more xs i x within)
      ∙ sym (flat_map_more f [] (take i xs) (get_or xs i x))
      ∙ ap (λ y. flat_map f (take i xs) ++ f y) (sym at)

  text_at : i < length xs → x ≡ get_or xs i x → flat_map f xs ≡ flat_map f (take i xs) ++ f x ++ flat_map f (drop (i + 1) xs)
  text_at within at =
      ap (flat_map f) (sym (take-append-drop (i + 1) xs))
      ∙ flat_map-append f (take (i + 1) xs) (drop (i + 1) xs)
      ∙ ap (λ l. l ++ flat_map f (drop (i + 1) xs)) (text_more within at)

  -- the text of one more element
  pub written_more : {S T : Type 0} {view : SinkView S} {value : T} {old middle new : S} → i < length xs → x ≡ get_or xs i x → HasWritten (flat_map f (take i xs)) view old middle → Writes (f x) (Ok value) view middle new → HasWritten (flat_map f (take (i + 1) xs)) view old new
  written_more {view = view} {old = old} {new = new} within at first second =
      subst (λ l. HasWritten l view old new) (sym (text_more within at)) (written_then first (written_by second))

  -- writing ended early at an element
  pub writes_until : {S T : Type 0} {view : SinkView S} {fault : WriteFault} {old middle new : S} → i < length xs → x ≡ get_or xs i x → HasWritten (flat_map f (take i xs)) view old middle → Writes {T = T} (f x) (Err fault) view middle new → Writes {T = T} (flat_map f xs) (Err fault) view old new
  writes_until {T = T} {view = view} {fault = fault} {old = old} {new = new} within at first second =
      subst (λ l. Writes {T = T} l (Err fault) view old new) (sym (text_at within at))
      (writes_stopped (flat_map f (drop (i + 1) xs)) (writes_then first second))

-- the texts of all elements
pub writes_all : {X : Type 0} (f : X → List ℕ) (xs : List X) (i : ℕ) {S T : Type 0} {view : SinkView S} {value : T} {old new : S} → i ≡ length xs → HasWritten (flat_map f (take i xs)) view old new → Writes (flat_map f xs) (Ok value) view old new
writes_all {X} f xs i {view = view} {value = value} {old = old} {new = new} end written =
    subst (λ (l : List X). Writes (flat_map f l) (Ok value) view old new) (ap (λ k. take k xs) end ∙ take-length xs) (writes_done written)
