use Rattle.std.proofs.Common.{◌≡◌, ℕ, ◌+◌, ◌-◌, ◌%◌, ◌/◌, ◌<◌, suc, length, set, ap, sym, ◌∙◌, inl, inr, arith}
use Rattle.std.proofs.lemmas.Bool.{cases_lt}
use Rattle.coherence.specs.Traces.{with_number}
use Rattle.coherence.proofs.Known.{put_more, put_past, none_put}
use Rattle.coherence.proofs.loads.store.Goals as goal

pub loop-at-preserved : goal.loop-at-preserved
loop-at-preserved c =
    let memory = c.loop-at.memory in
    let at = c.loop-at.at in
    let rest = c.loop-at.rest in
    let end = c.min-end.ensures in
    let within : at < length memory = omega (arith, end, c.loop-at.auto.memory, c.loop-at-test.true) in
    let left : c.args.place + c.args.width - at ≡ suc (c.args.place + c.args.width - (at + 1)) = omega (arith, end, c.loop-at-test.true) in
    let next : at + 1 ≡ suc at = omega arith in
    record {
      from = omega (arith, c.loop-at.invariant.from);
      rest =
          ap (λ (n : ℕ). with_number (set memory at (rest % 256)) n (c.args.place + c.args.width - (at + 1)) (rest / 256)) next
          ∙ sym (put_more memory at (c.args.place + c.args.width - (at + 1)) rest within)
          ∙ ap (λ (n : ℕ). with_number memory at n rest) (sym left)
          ∙ c.loop-at.invariant.rest;
    }

pub returns : goal.returns
returns c =
    let memory = c.loop-at.memory in
    let at = c.loop-at.at in
    let rest = c.loop-at.rest in
    let end = c.min-end.ensures in
    let left = c.args.place + c.args.width - at in
    elim (cases_lt at (length memory)) [
      | inl within ↦
          let none : left ≡ 0 = omega (arith, end, c.loop-at.auto.memory, c.loop-at-test.false) in
          sym (none_put memory at rest) ∙ ap (λ (n : ℕ). with_number memory at n rest) (sym none) ∙ c.loop-at.invariant.rest
      | inr past ↦ sym (put_past memory at left rest past) ∙ c.loop-at.invariant.rest
    ]
