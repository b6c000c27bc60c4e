-- The targets of a trap, one more node at a time.
use Rattle.std.proofs.Common.{◌≡◌, ℕ, ◌+◌, Bool, true, false, cond, List, [], ◌∷◌, ◌++◌, length, map, ap, sym, ◌∙◌, append_assoc, append-nil, length-append, arith}
use Rattle.std.specs.Prelude.{◌==◌, ◌≢◌, not, filter}
use Rattle.std.proofs.lemmas.Bool.Decides.{nat_tests}
use Rattle.std.proofs.lemmas.List.{map-append}
use Rattle.std.proofs.lemmas.List.Elements.{filter-append}
use Rattle.wt_proto.specs.declared.directory.Targets.TheVariants.{AllBut}
use Rattle.wt_proto.specs.declared.message.Outgoing.{Outgoing}
use Rattle.wt_proto.specs.NodeSets.{nodes_below}
use Rattle.wt_proto.proofs.NodeSetLaws.{nodes_below-more}
use Rattle.trap_handler.specs.Trap.{targets_of, invalidation}

targets_of-more : (nodes spared : ℕ) (same : Bool) → (nodes == spared) ≡ same → targets_of (nodes + 1) (AllBut spared) ≡ targets_of nodes (AllBut spared) ++ cond (not same) (nodes ∷ []) []
targets_of-more nodes spared same is =
    ap (λ all. filter (λ node. not (node == spared)) all) (nodes_below-more nodes)
    ∙ filter-append (λ node. not (node == spared)) (nodes_below nodes) (nodes ∷ [])
    ∙ ap (λ same. targets_of nodes (AllBut spared) ++ cond (not same) (nodes ∷ []) []) is

pub same_targets : (nodes spared : ℕ) → nodes ≡ spared → targets_of (nodes + 1) (AllBut spared) ≡ targets_of nodes (AllBut spared)
same_targets nodes spared is = targets_of-more nodes spared true (grind (arith, nat_tests)) ∙ append-nil (targets_of nodes (AllBut spared))

pub more_targets : (nodes spared : ℕ) → nodes ≢ spared → targets_of (nodes + 1) (AllBut spared) ≡ targets_of nodes (AllBut spared) ++ nodes ∷ []
more_targets nodes spared is = targets_of-more nodes spared false (grind (arith, nat_tests))

-- one more message for one more target
pub one_sent : (block node spared : ℕ) (before sent after : List Outgoing) → node ≢ spared → sent ≡ before ++ map (invalidation block) (targets_of node (AllBut spared)) → after ≡ sent ++ invalidation block node ∷ [] → after ≡ before ++ map (invalidation block) (targets_of (node + 1) (AllBut spared))
one_sent block node spared before sent after is was now =
    let targets = targets_of node (AllBut spared) in
    now ∙ ap (λ front. front ++ invalidation block node ∷ []) was
    ∙ append_assoc before (map (invalidation block) targets) (invalidation block node ∷ [])
    ∙ ap (λ back. before ++ back) (sym (ap (map (invalidation block)) (more_targets node spared is) ∙ map-append (invalidation block) targets (node ∷ [])))

pub one_counted : (node spared count : ℕ) → node ≢ spared → count ≡ length (targets_of node (AllBut spared)) → count + 1 ≡ length (targets_of (node + 1) (AllBut spared))
one_counted node spared count is was =
    ap (λ n. n + 1) was ∙ sym (ap (λ (nodes : List ℕ). length nodes) (more_targets node spared is) ∙ length-append (targets_of node (AllBut spared)) (node ∷ []))
