-- One message after another is handed out, or put among those that wait for the node itself.
use Rattle.std.proofs.Common.{◌≡◌, ℕ, ◌+◌, ◌<◌, ◌≤◌, ◌⊎◌, inl, inr, Bool, true, false, cond, not, ◌==◌, List, [], ◌∷◌, ◌++◌, length, Option, Some, None, eq-eqb, append_assoc, refl, ap, sym, ◌∙◌, subst, arith}
use Rattle.std.proofs.lemmas.List.{append-nil, length-append}
use Rattle.std.specs.List.{AllByRecursion}
use Rattle.std.specs.FinMap.{get, insert}
use Rattle.wt_proto.specs.declared.key.Key.{Key}
use Rattle.wt_proto.specs.declared.message.Msg.{Msg}
use Rattle.wt_proto.specs.declared.message.Stamped.{Stamped}
use Rattle.wt_proto.specs.Messages.{key_of}
use Rattle.event_queue.specs.Rising.{IsRising, HasNoKey, insert_of}
use Rattle.discrete_events.specs.Simulation.{Message}
use Rattle.discrete_events.specs.Laws.{IsIn}
use Rattle.discrete_events.specs.Serial.{placed}
use Rattle.discrete_events.proofs.Queues.{Queue}
use Rattle.discrete_events.proofs.Stations.{from_placed}
use Rattle.node.specs.Laws.{NodeModel}
use Rattle.node.specs.React.{message_under_key}
use Rattle.quantum.specs.declared.site.Site.{Site}
use Rattle.quantum.specs.Sites.{MayHandOut, HandsOut, IsLookedAt, own_of, others_of}
use Rattle.quantum.specs.Stations.{pending_of}
use Rattle.quantum.proofs.Pending.{no_key, pending-insert}

-- so far in the list of what is sent
pub record IsHandingOut (begun now : Site) (number : ℕ) (sends_begun sends outs_begun outs : List Stamped) (own : Bool) (steps_begun steps : ℕ) : Type 0 where
  pub node : now.node ≡ begun.node
  pub number_is : number ≡ begun.node.state.number
  pub may : MayHandOut now sends
  pub pending : placed (pending_of now.queue) (own_of number sends) ≡ placed (pending_of begun.queue) (own_of number sends_begun)
  pub outs_are : outs ++ others_of number sends ≡ outs_begun ++ others_of number sends_begun
  pub counted : steps + length outs + length sends ≡ steps_begun + length outs_begun + length sends_begun
  pub forward : steps_begun ≤ steps
  pub looked : IsLookedAt own begun now steps_begun steps

pub at_first : (site : Site) (number : ℕ) (sends outs : List Stamped) (steps : ℕ) → number ≡ site.node.state.number → MayHandOut site sends → IsHandingOut site site number sends sends outs outs false steps steps
at_first site number sends outs steps same may = record { node = refl; number_is = same; may = may; pending = refl; outs_are = refl; counted = refl; forward = omega arith; looked = refl }

-- nothing is left
pub at_last : (begun now : Site) (number : ℕ) (sends_begun outs_begun outs : List Stamped) (own : Bool) (steps_begun steps : ℕ) → IsHandingOut begun now number sends_begun [] outs_begun outs own steps_begun steps →
    HandsOut begun now sends_begun outs_begun outs steps_begun steps
at_last begun now number sends_begun outs_begun outs own steps_begun steps so_far = record {
  node = so_far.node;
  pending = subst (λ n. pending_of now.queue ≡ placed (pending_of begun.queue) (own_of n sends_begun)) so_far.number_is so_far.pending;
  rising = so_far.may.rising;
  outs = subst (λ n. outs ≡ outs_begun ++ others_of n sends_begun) so_far.number_is (sym (append-nil outs) ∙ so_far.outs_are);
  steps = let counted = so_far.counted in omega arith;
}

own_first : (b : Bool) (number : ℕ) (message : Stamped) (sends : List Stamped) → (message.to == number) ≡ b → own_of number (message ∷ sends) ≡ cond b (message_under_key message ∷ own_of number sends) (own_of number sends)
own_first b number message sends is = ap (λ c. cond c (message_under_key message ∷ own_of number sends) (own_of number sends)) is

others_first : (b : Bool) (number : ℕ) (message : Stamped) (sends : List Stamped) → (message.to == number) ≡ b → others_of number (message ∷ sends) ≡ cond (not b) (message ∷ others_of number sends) (others_of number sends)
others_first b number message sends is = ap (λ c. cond (not c) (message ∷ others_of number sends) (others_of number sends)) is

module _ (begun now after : Site) (number : ℕ) (sends_begun outs_begun outs : List Stamped) (message : Stamped) (sends : List Stamped) (own : Bool) (steps_begun steps : ℕ)
    (so_far : IsHandingOut begun now number sends_begun (message ∷ sends) outs_begun outs own steps_begun steps) where
  -- the key of a message that is sent is new
  pub is_new : HasNoKey (key_of message) now.queue
  is_new = no_key (key_of message) now.queue so_far.may.rising (by (get (pending_of now.queue) (key_of message)) refl)
    where
      by : (o : Option Msg) → get (pending_of now.queue) (key_of message) ≡ o → get (pending_of now.queue) (key_of message) ≡ None
      by None is = is
      by (Some msg) is =
          let below = so_far.may.below (key_of message) msg is so_far.may.source.0 in
          let e = so_far.may.numbered.0 in absurd (omega arith)

  -- a message to the node itself
  pub handed_own : message.to ≡ number → after.node ≡ now.node → after.queue ≡ insert_of message now.queue → IsRising after.queue →
      IsHandingOut begun after number sends_begun sends outs_begun outs true steps_begun (steps + 1)
  handed_own to node queue rising = record {
    node = node ∙ so_far.node;
    number_is = so_far.number_is;
    may = record {
      sequence = so_far.may.sequence + 1;
      numbered = so_far.may.numbered.1;
      source = subst (λ (n : NodeModel). AllByRecursion (λ (m : Stamped). m.from ≡ n.state.number) sends) (sym node) so_far.may.source.1;
      below = λ key msg there from. below key msg (from ∙ ap (λ (n : NodeModel). n.state.number) node) (from_placed (pending_of now.queue) (message_under_key message ∷ []) key msg (sym (ap (λ (map : Queue Msg). get map key) inserted) ∙ there));
      rising = rising;
    };
    pending = ap (λ (map : Queue Msg). placed map (own_of number sends)) inserted ∙ sym (ap (placed (pending_of now.queue)) (own_first true number message sends (eq-eqb _ _ to))) ∙ so_far.pending;
    outs_are = sym (ap (λ more. outs ++ more) (others_first true number message sends (eq-eqb _ _ to))) ∙ so_far.outs_are;
    counted = let counted = so_far.counted in omega arith;
    forward = let f = so_far.forward in omega arith;
    looked = let f = so_far.forward in omega arith;
  }
    where
      inserted : pending_of after.queue ≡ insert (pending_of now.queue) (key_of message) message.msg
      inserted = ap pending_of queue ∙ pending-insert message now.queue so_far.may.rising (subst IsRising queue rising) is_new

      below : (key : Key) (msg : Msg) → key.from ≡ now.node.state.number → IsIn (key, msg) (message_under_key message ∷ []) ⊎ (get (pending_of now.queue) key ≡ Some msg) → key.sequence < so_far.may.sequence + 1
      below key msg from (inl (inl is)) = let e : key.sequence ≡ message.sequence = ap (λ (m : Message Msg). m.0.sequence) is in let n = so_far.may.numbered.0 in omega (arith, e)
      below key msg from (inl (inr none)) = absurd none
      below key msg from (inr old) = let b = so_far.may.below key msg old from in omega arith

  -- a message to another
  pub handed_other : (message.to == number) ≡ false → IsHandingOut begun now number sends_begun sends outs_begun (outs ++ message ∷ []) own steps_begun steps
  handed_other to = record {
    node = so_far.node;
    number_is = so_far.number_is;
    may = record {
      sequence = so_far.may.sequence + 1;
      numbered = so_far.may.numbered.1;
      source = so_far.may.source.1;
      below = λ key msg there from. let b = so_far.may.below key msg there from in omega arith;
      rising = so_far.may.rising;
    };
    pending = sym (ap (placed (pending_of now.queue)) (own_first false number message sends to)) ∙ so_far.pending;
    outs_are = append_assoc outs (message ∷ []) (others_of number sends) ∙ sym (ap (λ more. outs ++ more) (others_first false number message sends to)) ∙ so_far.outs_are;
    counted = let counted = so_far.counted in let longer = length-append outs (message ∷ []) in omega (arith, longer);
    looked = so_far.looked;
    forward = so_far.forward;
  }
