use Rattle.std.proofs.Common.{◌≡◌, ℕ, None, Some, Option, true, false, true≢false, subst, refl, sym, ap, ◌∙◌, inr, rules}
use Rattle.std.specs.Prelude.{option_and_then, unwrap_or}
use Rattle.std.specs.Option.{option_or}
use Rattle.std.proofs.lemmas.Result.{err_from_is_err_and}
use Rattle.wt_params.specs.Fields.{is_within}
use Rattle.serde_json.specs.Data.{Data}
use Rattle.machine_json.specs.declared.fault.MachineFault.{MachineFault}
use Rattle.machine_json.specs.declared.fault.MachineFault.TheVariants.{Range}
use Rattle.machine_json.specs.Numbers.{version_fault, kind_fault, is_version}
use Rattle.machine_json.specs.Table.{version_key, whole_number}
use Rattle.machine_json.proofs.FaultLaws.{fault_of_first, same_fault}
use Rattle.machine_json.proofs.fields.check_version.Goals as goal

-- a version that can't be read is refused for that, so it may count as 1
is_known : (version : Option ℕ) (number : ℕ) → number ≡ unwrap_or version 1 → is_within 1 2 number ≡ true → is_version version ≡ None
is_known None number is known = refl
is_known (Some version) number is known =
    let same : is_within 1 2 version ≡ true = subst (λ n. is_within 1 2 n ≡ true) is known in
    rw same refl

is_other : (version : Option ℕ) (number : ℕ) → number ≡ unwrap_or version 1 → is_within 1 2 number ≡ false →
    is_version version ≡ Some (Range version_key number)
is_other None number is other =
    let one : is_within 1 2 number ≡ true = rw is refl in
    absurd (true≢false (sym one ∙ other))
is_other (Some version) number is other =
    let same : is_within 1 2 version ≡ false = subst (λ n. is_within 1 2 n ≡ false) is other in
    rw same (ap (λ n. Some (Range version_key n)) (sym is))

-- the two tests of what stands at the version
abbrev tested : Option Data → Option MachineFault
tested value = option_or (kind_fault true version_key value) (is_version (option_and_then whole_number value))

second_test : (value : Option Data) (version : Option ℕ) → kind_fault true version_key value ≡ None →
    version ≡ option_and_then whole_number value → tested value ≡ is_version version
second_test value version none is =
    ap (λ f. option_or f (is_version (option_and_then whole_number value))) none ∙ ap is_version (sym is)

pub returns-in_err-check_kind-clause-fault : goal.returns-in_err-check_kind-clause-fault
unfolding version_fault
returns-in_err-check_kind-clause-fault c =
    let p = err_from_is_err_and c.from_residual.result c.from_residual.ensures.1 in
    rw (p.1, p.2)
    (same_fault _ _ _ (ap tested c.get-version.ensures) (fault_of_first _ _ _ c.in_err-check_kind.ensures.fault))

pub returns-then-not-contains-clause-fault : goal.returns-then-not-contains-clause-fault
unfolding version_fault
returns-then-not-contains-clause-fault c =
    let outside : is_within 1 2 c.unwrap_or-number.result ≡ false = search rules in
    inr (
    ap tested (sym c.get-version.ensures)
    ∙ second_test _ c.whole_number.result c.in_ok-check_kind.ensures.ok c.whole_number.ensures
    ∙ is_other c.whole_number.result c.unwrap_or-number.result c.unwrap_or-number.ensures outside
    ∙ ap (λ key. Some (Range key c.unwrap_or-number.result)) (sym c.in_ok-key.ensures)
    )

pub returns-clause-ok : goal.returns-clause-ok
unfolding version_fault
returns-clause-ok c =
    let within : is_within 1 2 c.unwrap_or-number.result ≡ true = search rules in
    ap tested (sym c.get-version.ensures)
    ∙ second_test _ c.whole_number.result c.in_ok-check_kind.ensures.ok c.whole_number.ensures
    ∙ is_known c.whole_number.result c.unwrap_or-number.result c.unwrap_or-number.ensures within
