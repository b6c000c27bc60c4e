use Rattle.std.proofs.Common.{List, ℕ, ap, sym, ◌∙◌, ◌*◌}
use Rattle.priv_mem.specs.Memory.{little_endian}
use Rattle.target_cache.proofs.FlatLaws.{part_of_line}
use Rattle.target_cache.proofs.bytes.number_at.Goals as goal

pub returns : goal.returns
returns c =
    c.number_of.ensures
    ∙ ap (λ (part : List ℕ). little_endian part)
    (sym (part_of_line c.args.bytes.now c.args.size (c.args.place * c.args.size) c.args.offset c.args.width c.requires.inside))
