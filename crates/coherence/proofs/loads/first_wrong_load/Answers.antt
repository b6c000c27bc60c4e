use Rattle.std.proofs.Common.{◌≡◌, ℕ, ◌+◌, List, Some, None, drop, ap, sym, ◌∙◌, if◌then◌else◌, true, false}
use Rattle.std.specs.Prelude.{slice_get}
use Rattle.std.specs.Option.{option_copied}
use Rattle.wt_trace.specs.declared.record.Record.{Record}
use Rattle.coherence.specs.Traces.{Known, word_of, after_record, first_wrong, is_right, is_right_deed, stored_by}
use Rattle.coherence.specs.Loads.{known_before}
use Rattle.coherence.proofs.Known.{known_next, left_next, none_left}
use Rattle.coherence.proofs.loads.first_wrong_load.Goals as goal

-- a record that is right is passed, and at another one the way ends
on_right : (place : ℕ) (known : Known) (log : List Record) (item : Record) → slice_get log place ≡ Some item → is_right known item ≡ true →
    first_wrong place known (drop place log) ≡ first_wrong (place + 1) (after_record item known) (drop (place + 1) log)
on_right place known log item at right =
    ap (first_wrong place known) (left_next log place item at)
    ∙ ap (λ b. if b then first_wrong (place + 1) (after_record item known) (drop (place + 1) log) else Some place) right

on_wrong : (place : ℕ) (known : Known) (log : List Record) (item : Record) → slice_get log place ≡ Some item → is_right known item ≡ false →
    first_wrong place known (drop place log) ≡ Some place
on_wrong place known log item at wrong =
    ap (first_wrong place known) (left_next log place item at)
    ∙ ap (λ b. if b then first_wrong (place + 1) (after_record item known) (drop (place + 1) log) else Some place) wrong

pub returns-then-not-is_right : goal.returns-then-not-is_right
returns-then-not-is_right c =
    let log = c.args.log.now in
    let place = c.loop-item.place in
    let item = c.in-Some.item.now in
    let known = known_before c.args.memory.now log place in
    let at : slice_get log place ≡ Some item = sym c.get.ensures ∙ ap option_copied c.in-Some.is in
    let wrong : is_right known item ≡ false =
    ap (λ (memory : List ℕ). is_right_deed (word_of known item) memory item.deed) (sym c.loop-item.invariant.memory) ∙ sym (c.is_right.ensures c.args.memory.now) ∙ c.if-not-is_right.true
    in
    sym (sym c.loop-item.invariant.rest ∙ on_wrong place known log item at wrong)

pub loop-item-preserved : goal.loop-item-preserved
loop-item-preserved c =
    let log = c.args.log.now in
    let place = c.loop-item.place in
    let item = c.in-Some.item.now in
    let start = c.args.memory.now in
    let known = known_before start log place in
    let at : slice_get log place ≡ Some item = sym c.get.ensures ∙ ap option_copied c.in-Some.is in
    let right : is_right known item ≡ true =
    ap (λ (memory : List ℕ). is_right_deed (word_of known item) memory item.deed) (sym c.loop-item.invariant.memory) ∙ sym (c.is_right.ensures start) ∙ c.if-not-is_right.false
    in
    let next : known_before start log (place + 1) ≡ after_record item known = known_next start log place item at in
    record {
      rest =
          ap (λ (k : Known). first_wrong (place + 1) k (drop (place + 1) log)) next
          ∙ sym (on_right place known log item at right)
          ∙ c.loop-item.invariant.rest;
      memory =
          c.keep.ensures
          ∙ ap (stored_by item.deed) c.loop-item.invariant.memory
          ∙ sym (ap (λ (k : Known). k.memory) next);
    }

pub returns : goal.returns
returns c =
    let log = c.args.log.now in
    let place = c.loop-item.place in
    let known = known_before c.args.memory.now log place in
    let none : slice_get log place ≡ None = sym c.get.ensures ∙ ap option_copied c.in_default.is in
    sym (sym c.loop-item.invariant.rest ∙ ap (first_wrong place known) (none_left log place none))
