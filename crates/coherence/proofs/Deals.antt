-- Deals of a node are steps of the block.
use Rattle.std.proofs.Common.{◌≡◌, ℕ, [], ◌∷◌, refl, ap, sym, ◌∙◌, subst, eqb-true, map, inl, inr}
use Rattle.std.specs.Prelude.{◌==◌}
use Rattle.std.proofs.lemmas.Bool.{cases_Bool, eq-eqb}
use Rattle.coherence.specs.Block.{Cell, View}
use Rattle.coherence.specs.Steps.{with_cell, at_node, step_of, IsEnabled}
use Rattle.coherence.specs.Laws.{AreEnabled, steps_of}
use Rattle.coherence.specs.Deals.{Deal, as_step, dealt, MayDeal, all_dealt, MayDealAll, AreStepsAt, DealsAreSteps}
use Rattle.coherence.specs.Deals.Deal.{Asks, Upgrades, Gives, Writes, Fills, Drops}

deal_enabled : (view : View) (node : ℕ) (deal : Deal) → MayDeal (view.cell node) deal → IsEnabled view (as_step node deal)
deal_enabled view node (Asks exclusive) may = may
deal_enabled view node (Upgrades bytes) may = may
deal_enabled view node (Gives copy) may = may
deal_enabled view node (Writes old new) may = may
deal_enabled view node (Fills exclusive bytes rest) may = may
deal_enabled view node (Drops rest) may = may

deal_is : (view : View) (node : ℕ) (deal : Deal) → step_of (as_step node deal) view ≡ at_node node (dealt deal (view.cell node)) view
deal_is view node (Asks exclusive) = refl
deal_is view node (Upgrades bytes) = refl
deal_is view node (Gives copy) = refl
deal_is view node (Writes old new) = refl
deal_is view node (Fills exclusive bytes rest) = refl
deal_is view node (Drops rest) = refl

-- a node's own part
mine : (node : ℕ) (now : Cell) (cell : ℕ → Cell) → with_cell node now cell node ≡ now
mine node now cell = rw (eq-eqb node node refl) refl

-- Its part, put back, changes nothing,
put_back : (node other : ℕ) (cell : ℕ → Cell) → cell other ≡ with_cell node (cell node) cell other
put_back node other cell = elim (cases_Bool (other == node)) [
  | inl same ↦ rw same (ap cell (eqb-true other node same))
  | inr apart ↦ rw apart refl
]

-- and of two that are put there the later one stays.
put_again : (node other : ℕ) (first now : Cell) (cell : ℕ → Cell) → with_cell node now (with_cell node first cell) other ≡ with_cell node now cell other
put_again node other first now cell = elim (cases_Bool (other == node)) [
  | inl same ↦ rw same refl
  | inr apart ↦ rw apart refl
]

pub deals_are_steps_law : DealsAreSteps
deals_are_steps_law view node [] may = record {
  enabled = tt;
  home = refl;
  wakes = refl;
  cells = λ other. put_back node other view.cell;
}
deals_are_steps_law view node (deal ∷ deals) may =
    let now = dealt deal (view.cell node) in
    let is = deal_is view node deal in
    let next = at_node node now view in
    let later : AreStepsAt next node (map (as_step node) deals) (all_dealt deals (next.cell node)) =
    deals_are_steps_law next node deals (subst (λ (cell : Cell). MayDealAll cell deals) (sym (mine node now view.cell)) may.1) in
    record {
      enabled = (deal_enabled view node deal may.0, subst (λ (v : View). AreEnabled v (map (as_step node) deals)) (sym is) later.enabled);
      home = ap (λ (v : View). (steps_of (map (as_step node) deals) v).home) is ∙ later.home;
      wakes = ap (λ (v : View). (steps_of (map (as_step node) deals) v).wakes) is ∙ later.wakes;
      cells = λ other. ap (λ (v : View). (steps_of (map (as_step node) deals) v).cell other) is ∙ later.cells other
          ∙ put_again node other now (all_dealt deals (next.cell node)) view.cell
          ∙ ap (λ (cell : Cell). with_cell node (all_dealt deals cell) view.cell other) (mine node now view.cell);
    }
