use Rattle.std.proofs.Common.{◌≡◌, ℕ, zero, suc, ◌<◌, List, [], ◌∷◌, ◌++◌, ◌∙◌, get_or, sym, ap, subst, arith}
use Rattle.wt_params.specs.declared.parts.MachineParts.{MachineParts}
use Rattle.quantum.specs.Stations.{StationModel}
use Rattle.wt_report.specs.Stations.{AreStationsOf, IsStationOf}
use Rattle.runs_tests.proofs.copies.pair.Goals as goal

both : (machine : MachineParts) (first second : StationModel) → machine.nodes ≡ 2 → IsStationOf machine 0 first → IsStationOf machine 1 second → AreStationsOf machine (first ∷ (second ∷ []))
both machine first second two here there = record { count = sym two; each = each }
  where
    each : (place : ℕ) (d : StationModel) → place < 2 → IsStationOf machine place (get_or (first ∷ (second ∷ [])) place d)
    each zero d within = here
    each (suc zero) d within = there
    each (suc (suc place)) d within = absurd (omega arith)

pub returns : goal.returns
returns c =
    subst (AreStationsOf c.args.machine.now)
    (sym (c.in_ok-push-2.ensures.items ∙ ap (λ (l : List StationModel). l ++ c.args.second ∷ []) (c.in_ok-push.ensures.items ∙ ap (λ (l : List StationModel). l ++ c.args.first ∷ []) c.new-stations.ensures.items)))
    (both c.args.machine.now c.args.first c.args.second c.requires.two c.requires.first c.requires.second)
