-- How many workers are called for. Own.
use Rattle.std.specs.Prelude.{ℕ}
use Rattle.wwt_words.specs.declared.command.Command.{Command}
use Rattle.wwt_words.specs.declared.command.Command.TheVariants.{Run, Check, Load, Dis, Flat}

-- one but for a run or a load that asks for more
abbrev pub workers_in : Command → ℕ
workers_in (Run workers trace memory budget machine) = workers
workers_in (Check machine) = 1
workers_in (Load number workers) = workers
workers_in (Dis image) = 1
workers_in Flat = 1
