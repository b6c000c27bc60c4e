use Rattle.std.proofs.Common.{◌≡◌, ℕ, zero, suc, get_or, List, [], ◌∷◌, refl}
use Rattle.wt_proto.proofs.NodeSetLaws.{members-empty}
use Rattle.wt_proto.proofs.node_set.NodeSet.new.Goals as goal

zeros : (words : List ℕ) → words ≡ 0 ∷ 0 ∷ 0 ∷ 0 ∷ [] → (i : ℕ) → get_or words i 0 ≡ 0
zeros words is zero = rw is refl
zeros words is (suc zero) = rw is refl
zeros words is (suc (suc zero)) = rw is refl
zeros words is (suc (suc (suc zero))) = rw is refl
zeros words is (suc (suc (suc (suc i)))) = rw is refl

pub returns : goal.returns
returns c = members-empty (0 ∷ 0 ∷ 0 ∷ 0 ∷ []) 0 256 (zeros _ refl)
