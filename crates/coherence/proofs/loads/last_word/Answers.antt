use Rattle.std.proofs.Common.{◌≡◌, ℕ, ◌+◌, ◌-◌, ◌<◌, List, Some, None, length, ap, sym, ◌∙◌, arith, if◌then◌else◌}
use Rattle.std.specs.Prelude.{slice_get, Option}
use Rattle.std.specs.Option.{option_copied}
use Rattle.std.proofs.lemmas.Bool.{eq-eqb, ne_eqb}
use Rattle.std.proofs.lemmas.Option.{slice_get_cases}
use Rattle.wt_trace.specs.declared.record.Record.{Record}
use Rattle.wt_trace.specs.declared.record.What.TheVariants.{Step, Message}
use Rattle.wt_proto.specs.declared.message.Msg.{Msg}
use Rattle.coherence.specs.Traces.{Known, word_of, after_record}
use Rattle.coherence.specs.Loads.{known_before}
use Rattle.coherence.proofs.Known.{known_next}
use Rattle.coherence.proofs.loads.last_word.Goals as goal

-- what a record does to the word of a node
by_step : (known : Known) (item : Record) (node pc : ℕ) (word : Option ℕ) → item.key.to ≡ node → item.what ≡ Step pc word → (after_record item known).word node ≡ word
by_step known item node pc word own what =
    ap (λ b. if b then word_of known item else known.word node) (eq-eqb node item.key.to (sym own)) ∙ word_is
  where
    word_is : word_of known item ≡ word
    word_is = rw what

by_message : (known : Known) (item : Record) (node : ℕ) (msg : Msg) → item.key.to ≡ node → item.what ≡ Message msg → (after_record item known).word node ≡ known.word node
by_message known item node msg own what =
    ap (λ b. if b then word_of known item else known.word node) (eq-eqb node item.key.to (sym own)) ∙ word_is ∙ ap known.word own
  where
    word_is : word_of known item ≡ known.word item.key.to
    word_is = rw what

by_another : (known : Known) (item : Record) (node : ℕ) → (item.key.to ≡ node → ⊥) → (after_record item known).word node ≡ known.word node
by_another known item node other =
    ap (λ b. if b then word_of known item else known.word node) (ne_eqb node item.key.to (λ e. other (sym e)))

-- what is known after the record before a place
known_after : (start : List ℕ) (log : List Record) (i : ℕ) (item : Record) → 0 < i → slice_get log (i - 1) ≡ Some item →
    known_before start log i ≡ after_record item (known_before start log (i - 1))
known_after start log i item some at =
    ap (known_before start log) (let e : i ≡ i - 1 + 1 = omega arith in e) ∙ known_next start log (i - 1) item at

pub returns-in-Step : goal.returns-in-Step
returns-in-Step c = λ start.
    let log = c.args.log.now in
    let i = c.loop-i.i in
    let item = c.in-Some.item.now in
    let at : slice_get log (i - 1) ≡ Some item = sym c.get.ensures ∙ ap option_copied c.in-Some.is in
    sym (c.loop-i.invariant.word start
    ∙ ap (λ (k : Known). k.word c.args.node) (known_after start log i item c.loop-i-test.true at)
    ∙ by_step (known_before start log (i - 1)) item c.args.node c.in-Step.pc c.in-Step.word c.if-item-node.true c.in-Step.is)

pub loop-i-preserved-in_default-what : goal.loop-i-preserved-in_default-what
loop-i-preserved-in_default-what c =
    let log = c.args.log.now in
    let i = c.loop-i.i in
    let item = c.in-Some.item.now in
    let at : slice_get log (i - 1) ≡ Some item = sym c.get.ensures ∙ ap option_copied c.in-Some.is in
    record {
      within = omega (arith, c.loop-i.invariant.within);
      word = λ start.
          c.loop-i.invariant.word start
          ∙ ap (λ (k : Known). k.word c.args.node) (known_after start log i item c.loop-i-test.true at)
          ∙ by_message (known_before start log (i - 1)) item c.args.node c.in_default-what.field-0 c.if-item-node.true c.in_default-what.is;
    }

pub loop-i-preserved-else-item-node : goal.loop-i-preserved-else-item-node
loop-i-preserved-else-item-node c =
    let log = c.args.log.now in
    let i = c.loop-i.i in
    let item = c.in-Some.item.now in
    let at : slice_get log (i - 1) ≡ Some item = sym c.get.ensures ∙ ap option_copied c.in-Some.is in
    record {
      within = omega (arith, c.loop-i.invariant.within);
      word = λ start.
          c.loop-i.invariant.word start
          ∙ ap (λ (k : Known). k.word c.args.node) (known_after start log i item c.loop-i-test.true at)
          ∙ by_another (known_before start log (i - 1)) item c.args.node c.if-item-node.false;
    }

pub loop-i-preserved : goal.loop-i-preserved
loop-i-preserved c =
    let log = c.args.log.now in
    let i = c.loop-i.i in
    let none : slice_get log (i - 1) ≡ None = sym c.get.ensures ∙ ap option_copied c.in_default.is in
    absurd (slice_get_none log (i - 1) (omega (arith, c.loop-i-test.true, c.loop-i.invariant.within, c.requires)) none)
  where
    slice_get_none : (log : List Record) (k : ℕ) → k < length log → slice_get log k ≡ None → ⊥
    slice_get_none log k within none = grind (arith, slice_get_cases)
