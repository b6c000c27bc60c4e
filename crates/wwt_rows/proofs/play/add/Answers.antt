use Rattle.std.proofs.Common.{◌≡◌, ◌++◌, [], ◌∷◌, sym, subst, rules}
use Rattle.std.specs.String.{string_bytes}
use Rattle.wt_outside.specs.MemFiles.{AreNamedApart}
use Rattle.wwt_rows.specs.Names.{IsNew}
use Rattle.wwt_rows.proofs.Apart.{apart_push}
use Rattle.wwt_rows.proofs.play.add.Goals as goal

pub returns-in_ok-push : goal.returns-in_ok-push
returns-in_ok-push c =
    let new : IsNew (string_bytes c.args.name) c.args.files.now.items = search rules in
    let pushed : c.push.new.self.items ≡ c.args.files.now.items ++ (c.args.name, c.args.bytes) ∷ [] = search rules in
    let apart : AreNamedApart c.args.files.now.items = search rules in
    subst AreNamedApart (sym pushed) (apart_push c.args.name c.args.bytes c.args.files.now.items apart new)
