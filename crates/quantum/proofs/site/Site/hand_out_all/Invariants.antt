use Rattle.std.proofs.Common.{◌-◌, ◌≤◌, length, take, drop}
use Rattle.quantum.proofs.HandOut.{IsHandingOut}
use Rattle.quantum.proofs.site.Site.hand_out_all.Given as goal

-- the messages before the place stay, those from it on are left
abbrev pub invariant-loop-message : goal.invariant-loop-message
invariant-loop-message g l = record {
  within : l.place ≤ length l.outs;
  few : length l.outs ≤ l.count;
  so_far : IsHandingOut l.fn.self l.self l.number (drop l.fn.from l.fn.outs) (drop l.place l.outs) (take l.fn.from l.fn.outs) (take l.place l.outs) l.own l.fn.steps l.steps;
}

abbrev pub decreases-loop-message : goal.decreases-loop-message
decreases-loop-message g l = length l.outs - l.place
