-- The barrier unit. Own.
use Rattle.std.specs.Prelude.{◌≡◌, ℕ, Bool, true, false, ◌&&◌, ◌||◌, is_some, List, [], slice_get, if◌then◌else◌}
use Rattle.std.specs.List.{list_all}
use Rattle.wt_params.specs.Machine.{InRange}
use Rattle.wt_proto.specs.declared.node_set.TheConstants.{MOST_NODES}
use Rattle.dir_list.specs.Lists.{with_node}
use Rattle.wt_proto.specs.NodeSets.{has_node, nodes_below}
use Rattle.target_barrier.specs.declared.barrier.Release.{Release}
use Rattle.target_barrier.specs.declared.barrier.Release.TheVariants.{Hold, Go, Stray}

-- the sets of nodes that have arrived and that have left, of so many nodes
pub record Barrier : Type 0 where
  pub nodes : ℕ
  pub arrived : List ℕ
  pub left : List ℕ

-- No node stands in both sets.
abbrev pub AreApart : List ℕ → List ℕ → Type 0
AreApart arrived left = (node : ℕ) → has_node arrived node ≡ true → has_node left node ≡ false

-- what every barrier keeps
pub record IsUnit (nodes : ℕ) (arrived left : List ℕ) : Type 0 where
  pub some : InRange 1 MOST_NODES nodes
  pub apart : AreApart arrived left

-- a node that stands in one of the two sets
abbrev pub is_known : Barrier → ℕ → Bool
is_known barrier node = has_node barrier.arrived node || has_node barrier.left node

-- Every node stands in one of the two sets, and some node has arrived.
abbrev pub is_complete : Barrier → Bool
is_complete barrier = is_some (slice_get barrier.arrived 0) && list_all (is_known barrier) (nodes_below barrier.nodes)

-- A complete barrier opens for each node that has arrived, and nobody has arrived any more.
abbrev pub opened : Barrier → Barrier × Release
opened barrier =
    if is_complete barrier then (record barrier { arrived = [] }, Go barrier.arrived) else (barrier, Hold)

-- A node that is known is stray; any other joins the set of those that have arrived.
abbrev pub arrive_of : Barrier → ℕ → Barrier × Release
arrive_of barrier node =
    if is_known barrier node then (barrier, Stray)
    else opened (record barrier { arrived = with_node node barrier.arrived })

-- the same for the set of those that have left
abbrev pub leave_of : Barrier → ℕ → Barrier × Release
leave_of barrier node =
    if is_known barrier node then (barrier, Stray)
    else opened (record barrier { left = with_node node barrier.left })
