use Rattle.std.proofs.Common.{subst}
use Rattle.core_steps.specs.Cores.{AreUnderWay, CoreModel, IsUnbroken}
use Rattle.core_steps.proofs.Finished.{under_way}
use Rattle.core_steps.proofs.interleaved.Core.until.Goals as goal

pub returns-clause-under_way : goal.returns-clause-under_way
returns-clause-under_way c = subst (λ (core : CoreModel). IsUnbroken core → AreUnderWay core) c.self.view_is (λ whole. under_way _ (c.self.invariant whole))
