-- The answers of a store. Own.
use Rattle.std.specs.Prelude.{⊤, Result, Ok, Err}
use Rattle.wt_outside.specs.declared.store.StoreFail.{StoreFail}
use Rattle.wt_outside.specs.declared.store.StoreFail.TheVariants.{Failed, TooLong, NoMemory}

-- a fact that holds at every answer but Failed
abbrev pub UnlessFailed : {T : Type 0} → Result T StoreFail → Type 0 → Type 0
UnlessFailed (Ok _) fact = fact
UnlessFailed (Err Failed) fact = ⊤
UnlessFailed (Err TooLong) fact = fact
UnlessFailed (Err NoMemory) fact = fact
