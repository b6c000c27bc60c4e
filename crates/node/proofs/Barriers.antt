-- The nodes at a barrier are nodes of the machine, each once.
use Rattle.std.proofs.Common.{ℕ, ◌<◌, Bool, true, false, cond, [], arith}
use Rattle.wt_params.specs.declared.parts.MachineParts.{MachineParts}
use Rattle.wt_params.specs.Machine.{IsMachine}
use Rattle.dir_list.specs.Lists.{AreRising, with_node}
use Rattle.dir_list.proofs.RisingLaws.{rising_with, rising_few}
use Rattle.target_barrier.specs.declared.barrier.Release.{Release}
use Rattle.target_barrier.specs.declared.barrier.Release.TheVariants.{Hold, Go, Stray}
use Rattle.target_barrier.specs.Barrier.{Barrier, is_known, is_complete, opened, arrive_of, leave_of}
use Rattle.node.specs.Sound.{BarrierFits, IsFew}

-- what the unit answers
abbrev pub ReleaseFits : ℕ → Release → Type 0
ReleaseFits nodes (Go members) = AreRising nodes 0 members
ReleaseFits nodes _ = Unit {0}

opens : (machine : MachineParts) (barrier : Barrier) → BarrierFits machine barrier → BarrierFits machine (opened barrier).0 × ReleaseFits machine.nodes (opened barrier).1
opens machine barrier fits = by (is_complete barrier)
  where
    by : (complete : Bool) → BarrierFits machine (cond {A = Barrier × Release} complete (record barrier { arrived = [] }, Go barrier.arrived) (barrier, Hold)).0
        × ReleaseFits machine.nodes (cond {A = Barrier × Release} complete (record barrier { arrived = [] }, Go barrier.arrived) (barrier, Hold)).1
    by true = (record { nodes = fits.nodes; arrived = tt }, fits.arrived)
    by false = (fits, tt)

pub arrive_fits : (machine : MachineParts) (barrier : Barrier) (node : ℕ) → BarrierFits machine barrier → node < machine.nodes → BarrierFits machine (arrive_of barrier node).0 × ReleaseFits machine.nodes (arrive_of barrier node).1
arrive_fits machine barrier node fits there = by (is_known barrier node)
  where
    by : (known : Bool) → BarrierFits machine (cond {A = Barrier × Release} known (barrier, Stray) (opened (record barrier { arrived = with_node node barrier.arrived }))).0
        × ReleaseFits machine.nodes (cond {A = Barrier × Release} known (barrier, Stray) (opened (record barrier { arrived = with_node node barrier.arrived }))).1
    by true = (fits, tt)
    by false = opens machine _ (record { nodes = fits.nodes; arrived = rising_with machine.nodes 0 node barrier.arrived fits.arrived (omega arith) there })

pub leave_fits : (machine : MachineParts) (barrier : Barrier) (node : ℕ) → BarrierFits machine barrier → BarrierFits machine (leave_of barrier node).0 × ReleaseFits machine.nodes (leave_of barrier node).1
leave_fits machine barrier node fits = by (is_known barrier node)
  where
    by : (known : Bool) → BarrierFits machine (cond {A = Barrier × Release} known (barrier, Stray) (opened (record barrier { left = with_node node barrier.left }))).0
        × ReleaseFits machine.nodes (cond {A = Barrier × Release} known (barrier, Stray) (opened (record barrier { left = with_node node barrier.left }))).1
    by true = (fits, tt)
    by false = opens machine _ (record { nodes = fits.nodes; arrived = fits.arrived })

-- so no more nodes are let go than a machine may have
few_of : (machine : MachineParts) (release : Release) → IsMachine machine → ReleaseFits machine.nodes release → IsFew release
few_of machine Hold is fits = tt
few_of machine (Go members) is fits = let few = rising_few machine.nodes 0 members fits (omega arith) in let most = is.nodes.at_most in omega arith
few_of machine Stray is fits = tt

pub few_arrive : (machine : MachineParts) (barrier : Barrier) (node : ℕ) → IsMachine machine → BarrierFits machine barrier → node < machine.nodes → IsFew (arrive_of barrier node).1
few_arrive machine barrier node is fits there = few_of machine (arrive_of barrier node).1 is (arrive_fits machine barrier node fits there).1

pub few_leave : (machine : MachineParts) (barrier : Barrier) (node : ℕ) → IsMachine machine → BarrierFits machine barrier → IsFew (leave_of barrier node).1
few_leave machine barrier node is fits = few_of machine (leave_of barrier node).1 is (leave_fits machine barrier node fits).1
