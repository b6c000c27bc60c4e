use Rattle.std.proofs.Common.{inl, inr, refl, ◌∙◌}
use Rattle.std.proofs.lemmas.Bool.{and_parts}
use Rattle.wwt_words.specs.Declarations.{is_read, rows_read}
use Rattle.wwt_words.proofs.Declared.{some_kind}
use Rattle.wwt_words.proofs.arguments.read_by.Goals as goal

pub returns-in-Ok-clause-rows : goal.returns-in-Ok-clause-rows
unfolding rows_read
returns-in-Ok-clause-rows c = (c.in-Ok.ensures.matches ((and_parts _ _ c.requires).0)).0

pub returns : goal.returns
unfolding is_read
returns c = record {
  read = tt;
  rows = tt;
  refused =
      elim (c.in-Err.ensures.kinds c.requires) [
        | inl memory ↦ absurd (c.in_default.not-OutOfMemory (c.kind.ensures ∙ memory))
        | inr among ↦ inr (refl, some_kind _ _ among)
      ];
}
