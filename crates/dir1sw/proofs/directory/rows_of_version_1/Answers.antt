use Rattle.dir1sw.proofs.VersionOneLaws.{rows_of_version_1_law}
use Rattle.dir1sw.proofs.directory.rows_of_version_1.Goals as goal

pub returns : goal.returns
returns c = rows_of_version_1_law
