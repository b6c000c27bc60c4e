use Rattle.std.proofs.Common.{◌≡◌, ℕ, Bool, cond, List, set, Option, Some, None, ap, sym, ◌∙◌, subst, arith}
use Rattle.std.specs.List.{find}
use Rattle.wt_params.specs.declared.parts.MachineParts.{MachineParts}
use Rattle.block_tags.specs.declared.tag.Tag.TheVariants.{ReadOnly, Writable}
use Rattle.target_cache.specs.declared.line.Line.{Line}
use Rattle.target_cache.specs.declared.cache.Cache.TheInside.{Inside}
use Rattle.target_cache.specs.Lines.{LinesInRoom, holds, tag_by, replaced_in, with_installed}
use Rattle.target_cache.specs.Cached.{Cached, cached, set_of, lines_of, line_of, replaced_of, install_of}
use Rattle.target_cache.proofs.KeptLaws.{reached, held_are, held_lines, held_size, untagged, invalid_is_none, kept_installed, put_installed, replaced_exists}
use Rattle.target_cache.proofs.cache.Cache.install.Goals as goal
use Rattle.target_cache.proofs.cache.Cache.install.Goals.{then-line, else-line, in-Some, in_default}

pub install-replaced-requires-clause-few : goal.install-replaced-requires-clause-few
install-replaced-requires-clause-few c =
    let are = held_are _ _ _ _ _ _
    (reached c.self.inside.machine c.self.inside.tags c.self.inside.sets.items c.args.line.block c.set-i.result c.index_mut-set.result.now c.args.self.now
    c.self.invariant c.self.view_is c.set-i.ensures.set c.set-i.ensures.there c.index_mut-set.ensures.value) in
    omega (arith, are.few, c.ways-ways.ensures.value)

pub install-replaced-requires-clause-size : goal.install-replaced-requires-clause-size
install-replaced-requires-clause-size c =
    c.requires.size
    ∙ ap (λ (cache : Cached). cache.machine.block_bytes) (sym c.self.view_is)
    ∙ sym (held_size _ _ _ _ _ _
    (reached c.self.inside.machine c.self.inside.tags c.self.inside.sets.items c.args.line.block c.set-i.result c.index_mut-set.result.now c.args.self.now
    c.self.invariant c.self.view_is c.set-i.ensures.set c.set-i.ensures.there c.index_mut-set.ensures.value))

pub set-requires : goal.set-requires
set-requires c =
    let are = held_are _ _ _ _ _ _
    (reached c.self.inside.machine c.self.inside.tags c.self.inside.sets.items c.args.line.block c.set-i.result c.index_mut-set.result.now c.args.self.now
    c.self.invariant c.self.view_is c.set-i.ensures.set c.set-i.ensures.there c.index_mut-set.ensures.value) in
    let exists = replaced_exists c.self.inside.machine (set_of c.self.inside.machine c.args.line.block) c.index_mut-set.result.now.lines c.in-Some.old are
    (omega (arith, c.ways-ways.ensures.value, c.ways-ways.ensures.range.at_least))
    (ap (λ (ways : ℕ). replaced_in ways c.index_mut-set.result.now.lines) (sym c.ways-ways.ensures.value) ∙ sym c.install-replaced.ensures.replaced ∙ c.in-Some.is) in
    omega (arith, exists, c.self.invariant.tagged.count)

replaced_is : (c : goal.After-set-2) → c.install-replaced.result ≡ replaced_in c.self.inside.machine.ways c.index_mut-set.result.now.lines
replaced_is c = c.install-replaced.ensures.replaced ∙ ap (λ (ways : ℕ). replaced_in ways c.index_mut-set.result.now.lines) c.ways-ways.ensures.value

tags_are : (c : goal.After-set-2) →
    c.match-replaced.self-inside.tags ≡ untagged (replaced_in c.self.inside.machine.ways c.index_mut-set.result.now.lines) c.self.inside.tags
unfolding untagged
tags_are c =
    elim c.match-replaced.branch [
      | in-Some w ↦ ap (λ (x : Inside). x.tags) w.self-inside-is ∙ w.set.ensures
          ∙ ap (λ (o : Option Line). untagged o c.self.inside.tags) (sym w.in-Some.is ∙ replaced_is c)
      | in_default w ↦ ap (λ (x : Inside). x.tags) w.self-inside-is
          ∙ ap (λ (o : Option Line). untagged o c.self.inside.tags) (sym w.in_default.is ∙ replaced_is c)
    ]

machine_is : (c : goal.After-set-2) → c.match-replaced.self-inside.machine ≡ c.self.inside.machine
machine_is c = elim c.match-replaced.branch [
  | in-Some w ↦ ap (λ (x : Inside). x.machine) w.self-inside-is
  | in_default w ↦ ap (λ (x : Inside). x.machine) w.self-inside-is
]

sets_are : (c : goal.After-set-2) → c.match-replaced.self-inside.sets.items ≡ set c.self.inside.sets.items c.set-i.result c.install-replaced.new.self
sets_are c = elim c.match-replaced.branch [
  | in-Some w ↦ ap (λ (x : Inside). x.sets.items) w.self-inside-is
  | in_default w ↦ ap (λ (x : Inside). x.sets.items) w.self-inside-is
]

tag_is : (c : goal.After-set-2) → c.if-line.tag ≡ tag_by (Some c.args.line)
tag_is c = elim c.if-line.branch [
  | then-line w ↦ w.tag-is ∙ sym (ap (λ (b : Bool). cond b Writable ReadOnly) w.if-line.true)
  | else-line w ↦ w.tag-is ∙ sym (ap (λ (b : Bool). cond b Writable ReadOnly) w.if-line.false)
]

absent : (c : goal.After-set-2) → find (holds c.args.line.block) (lines_of (cached c.self.inside.machine c.self.inside.sets.items) c.args.line.block) ≡ None
unfolding line_of
absent c = subst (λ (cache : Cached). find (holds c.args.line.block) (lines_of cache c.args.line.block) ≡ None) (sym c.self.view_is)
    (invalid_is_none (line_of c.args.self.now c.args.line.block) c.requires.absent)

pub invariant_of-self : goal.invariant_of-self
invariant_of-self c =
    let r = reached c.self.inside.machine c.self.inside.tags c.self.inside.sets.items c.args.line.block c.set-i.result c.index_mut-set.result.now c.args.self.now
    c.self.invariant c.self.view_is c.set-i.ensures.set c.set-i.ensures.there c.index_mut-set.ensures.value in
    let same = held_lines _ _ _ _ _ _ r in
    let none : find (holds c.args.line.block) (lines_of (cached c.self.inside.machine c.self.inside.sets.items) c.args.line.block) ≡ None =
    absent c in
    let kept = kept_installed c.self.inside.machine c.self.inside.tags c.self.inside.sets.items c.args.line c.set-i.result c.index_mut-set.result.now c.install-replaced.new.self r
    (omega (arith, c.requires.exists, ap (λ (cache : Cached). cache.machine.blocks) c.self.view_is))
    (c.requires.size ∙ ap (λ (cache : Cached). cache.machine.block_bytes) (sym c.self.view_is))
    (omega (arith, c.ways-ways.ensures.value, c.ways-ways.ensures.range.at_least))
    (subst (λ (l : List Line). find (holds c.args.line.block) l ≡ None) (sym same) none)
    c.install-replaced.ensures.room
    c.install-replaced.ensures.size
    (c.install-replaced.ensures.lines ∙ ap (λ (ways : ℕ). with_installed ways c.args.line c.index_mut-set.result.now.lines) c.ways-ways.ensures.value) in
    rw (c.set-2.ensures, machine_is c, sets_are c, tags_are c, tag_is c) kept

pub returns-clause-replaced : goal.returns-clause-replaced
unfolding replaced_of
returns-clause-replaced c =
    let same = held_lines _ _ _ _ _ _
    (reached c.self.inside.machine c.self.inside.tags c.self.inside.sets.items c.args.line.block c.set-i.result c.index_mut-set.result.now c.args.self.now
    c.self.invariant c.self.view_is c.set-i.ensures.set c.set-i.ensures.there c.index_mut-set.ensures.value) in
    c.install-replaced.ensures.replaced
    ∙ ap (λ (ways : ℕ). replaced_in ways c.index_mut-set.result.now.lines) c.ways-ways.ensures.value
    ∙ ap (λ (lines : List Line). replaced_in c.self.inside.machine.ways lines) same
    ∙ ap (λ (cache : Cached). replaced_in cache.machine.ways (lines_of cache c.args.line.block)) c.self.view_is

pub returns-clause-after : goal.returns-clause-after
returns-clause-after c =
    ap (λ (m : MachineParts). cached m c.match-replaced.self-inside.sets.items) (machine_is c)
    ∙ ap (λ (s : List LinesInRoom). cached c.self.inside.machine s) (sets_are c)
    ∙ put_installed c.self.inside.machine c.self.inside.tags c.self.inside.sets.items c.args.line c.set-i.result c.index_mut-set.result.now c.install-replaced.new.self
    (reached c.self.inside.machine c.self.inside.tags c.self.inside.sets.items c.args.line.block c.set-i.result c.index_mut-set.result.now c.args.self.now
    c.self.invariant c.self.view_is c.set-i.ensures.set c.set-i.ensures.there c.index_mut-set.ensures.value)
    (c.install-replaced.ensures.lines ∙ ap (λ (ways : ℕ). with_installed ways c.args.line c.index_mut-set.result.now.lines) c.ways-ways.ensures.value)
    ∙ ap (λ (cache : Cached). install_of c.args.line cache) c.self.view_is
