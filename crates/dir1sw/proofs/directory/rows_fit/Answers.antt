use Rattle.dir1sw.proofs.FitsLaws.{rows_fit_law}
use Rattle.dir1sw.proofs.directory.rows_fit.Goals as goal

pub returns : goal.returns
returns c = rows_fit_law
