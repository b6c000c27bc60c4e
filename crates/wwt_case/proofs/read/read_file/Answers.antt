use Rattle.std.proofs.Common.{◌⊎◌, Err, ap, subst, rules}
use Rattle.wt_outside.specs.Faults.{Rose}
use Rattle.wt_outside.specs.Files.{IsMissing}
use Rattle.wwt_case.specs.Files.{read_limit}
use Rattle.wwt_case.proofs.ReadLemmas.{failed_read, file_read, other_read}
use Rattle.wwt_case.proofs.read.read_file.Goals as goal

pub returns-in-Ok-clause-read : goal.returns-in-Ok-clause-read
returns-in-Ok-clause-read g c =
    file_read c.args.name c.args.kind _ _ _ _
    (other_read c.args.name c.args.kind _ _ _ _ _ (λ other same. cc) (search rules) (search rules) c.get.ensures c.in-Ok.ensures.asked
    c.in-Ok.ensures.steady c.in-Ok.ensures.files)

pub returns-in-Err-Failed-clause-read : goal.returns-in-Err-Failed-clause-read
returns-in-Err-Failed-clause-read g c =
    file_read c.args.name c.args.kind _ _ _ _ (failed_read c.args.name c.args.kind _ _ _ (subst (λ n. Rose (g.S.Store.view.faults c.args.store.now) (g.S.Store.view.faults c.read.new.self) ⊎ IsMissing (g.S.Store.view.files c.args.store.now) n) c.get.ensures (c.in-Err-Failed.ensures.failed (ap Err c.in-Err-Failed.field-0-is)))
    (subst (λ n. g.S.Store.view.asked c.args.store.now n read_limit c.read.new.self) c.get.ensures c.in-Err-Failed.ensures.asked) c.in-Err-Failed.ensures.later c.in-Err-Failed.ensures.files)

pub returns-in-Err-TooLong-clause-read : goal.returns-in-Err-TooLong-clause-read
returns-in-Err-TooLong-clause-read g c =
    file_read c.args.name c.args.kind _ _ _ _
    (other_read c.args.name c.args.kind _ _ _ _ _ (search rules) (search rules) (search rules) c.get.ensures c.in-Err-TooLong.ensures.asked
    (search rules) c.in-Err-TooLong.ensures.files)

pub returns-in-Err-NoMemory-clause-read : goal.returns-in-Err-NoMemory-clause-read
returns-in-Err-NoMemory-clause-read g c =
    file_read c.args.name c.args.kind _ _ _ _
    (other_read c.args.name c.args.kind _ _ _ _ _ (λ other same. cc) (search rules) (search rules) c.get.ensures c.in-Err-NoMemory.ensures.asked
    (search rules) c.in-Err-NoMemory.ensures.files)
