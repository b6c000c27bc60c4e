-- One more register is added to a line.
use Rattle.std.proofs.Common.{◌≡◌, ℕ, ◌+◌, ◌<◌, List, ◌++◌, take, flat_map, codes, ap, sym, ◌∙◌, append_assoc, arith}
use Rattle.std.specs.List.{range_with_len}
use Rattle.std.proofs.lemmas.List.FromFn.{length-range_with_len}
use Rattle.wt_text.specs.Text.{eight_digits}
use Rattle.node.specs.declared.state.NodeState.{NodeState}
use Rattle.node.specs.State.{register}
use Rattle.wt_report.specs.Memory.{register_text}
use Rattle.wt_report.proofs.TextLemmas.{number_at}
use Rattle.wt_outside.proofs.WriteLemmas.{text_more}

pub register_more : (node : NodeState) (r word : ℕ) (start line spaced more : List ℕ) → r < 32 → word ≡ register node r → line ≡ start ++ flat_map (register_text node) (take r (range_with_len 0 32)) → spaced ≡ line ++ codes " " → more ≡ spaced ++ eight_digits word → more ≡ start ++ flat_map (register_text node) (take (r + 1) (range_with_len 0 32))
register_more node r word start line spaced more within is so_far spaced_is added =
    let all = range_with_len 0 32 in
    added
    ∙ (λ j. spaced_is j ++ eight_digits (is j))
    ∙ append_assoc line (codes " ") (eight_digits (register node r))
    ∙ ap (λ l. l ++ register_text node r) so_far
    ∙ append_assoc start (flat_map (register_text node) (take r all)) (register_text node r)
    ∙ ap (λ l. start ++ l) (sym (text_more (register_text node) all r r (omega (arith, length-range_with_len 0 32)) (number_at 32 r within)))
