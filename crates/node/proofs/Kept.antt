-- What an event keeps of a node, by the parts of its state.
use Rattle.std.proofs.Common.{◌≡◌, ℕ, ◌+◌, ◌*◌, ◌%◌, ◌^◌, ◌<◌, ◌≤◌, List, [], ◌∷◌, length, Some, refl, arith}
use Rattle.std.specs.Prelude.{All}
use Rattle.wt_params.specs.declared.parts.MachineParts.{MachineParts}
use Rattle.wt_params.specs.Machine.{IsMachine}
use Rattle.rv_exec.specs.Meaning.{address_after}
use Rattle.wt_proto.specs.declared.mode.Mode.{Mode}
use Rattle.wt_proto.specs.declared.mode.Mode.TheVariants.{Running, Waiting, InBarrier, Stopped}
use Rattle.target_cache.specs.Cached.{Cached}
use Rattle.wt_stats.specs.declared.counters.Counters.{Counters}
use Rattle.wt_trace.specs.EventLine.{RecordFits}
use Rattle.node.specs.declared.state.NodeState.{NodeState}
use Rattle.node.specs.declared.state.Send.{Send}
use Rattle.node.specs.State.{events_of, step_in, next_step_of}
use Rattle.node.specs.Handled.{Handled}
use Rattle.node.specs.Sound.{IsNode, CountsFit, CacheFits, DirectoryFits, BarrierFits, ModeFits, SendFits}

-- so many events are counted, and there is room for what one of them counts
pub record HasRoom (machine : MachineParts) (counters : Counters) : Type 0 where
  pub events : counters.steps + counters.messages ≤ machine.event_limit
  pub done : counters.done < counters.steps + counters.messages
  pub hits : counters.hits < counters.steps + counters.messages
  pub misses : counters.misses < counters.steps + counters.messages
  pub upgrades : counters.upgrades < counters.steps + counters.messages
  pub replaced : counters.replaced < counters.steps + counters.messages
  pub checkins : counters.checkins < counters.steps + counters.messages
  pub invs : counters.invs < counters.steps + counters.messages
  pub traps : counters.traps < counters.steps + counters.messages
  pub trap_cycles : counters.trap_cycles + 2 ^ 21 ≤ 2 ^ 21 * (counters.steps + counters.messages)
  pub barriers : counters.barriers < counters.steps + counters.messages
  pub stray : counters.stray < counters.steps + counters.messages
  pub sent : counters.sent + (machine.nodes + 1) ≤ (machine.nodes + 1) * (counters.steps + counters.messages)

-- a node that has counted an event, and what it has seen of messages before
pub record HasBegun (machine : MachineParts) (seen : ℕ) (node : NodeState) : Type 0 where
  pub numbers : IsMachine machine
  pub number : node.number < machine.nodes
  pub aligned : node.pc % 4 ≡ 0
  pub private : length node.private ≡ machine.private_bytes
  pub ready : node.ready < 2 ^ 41
  pub busy : node.busy + 2 ^ 21 ≤ 2 ^ 40 + 2 ^ 21 * events_of node
  pub counts : HasRoom machine node.counters
  pub cache : CacheFits machine node.cache
  pub seen_before : seen ≤ node.counters.messages
  pub directory : DirectoryFits machine node.number seen node.directory
  pub barrier : BarrierFits machine node.barrier
  pub mode : ModeFits machine node node.mode
  pub logged : All (RecordFits machine) node.log

-- what stays of a node through all of an event but its count
pub record Same (old new : NodeState) : Type 0 where
  pub number : new.number ≡ old.number
  pub steps : new.counters.steps ≡ old.counters.steps
  pub messages : new.counters.messages ≡ old.counters.messages
  pub sent : new.counters.sent ≡ old.counters.sent
  pub last : new.last ≡ old.last
  pub traced : new.traced ≡ old.traced
  pub log : new.log ≡ old.log

-- an event at a time that was handled: its node is sound, its messages can be sent, and the next step isn't before a time
pub record Went (machine : MachineParts) (time least : ℕ) (old : NodeState) (handled : Handled) : Type 0 where
  pub still : Same old handled.node
  pub sound : IsNode machine handled.node
  pub sends : All (SendFits machine time) handled.sends
  pub few : length handled.sends ≤ machine.nodes + 1
  pub later : (next : ℕ) → next_step_of handled.node ≡ Some next → least ≤ next

pub same : (node : NodeState) → Same node node
same node = record { number = refl; steps = refl; messages = refl; sent = refl; last = refl; traced = refl; log = refl }

pub step_in_is : (mode : Mode) (time next : ℕ) → step_in mode time ≡ Some next → time ≡ next
step_in_is Running time next e = cc
step_in_is (Waiting block exclusive) time next e = cc
step_in_is InBarrier time next e = cc
step_in_is (Stopped cause) time next e = cc

pub all_none : {X : Type 0} (P : X → Type 0) → All P []
all_none P k d below = absurd (omega arith)

pub all_one : {X : Type 0} (P : X → Type 0) (x : X) → P x → All P (x ∷ [])
all_one P x holds k d below = let first : k ≡ 0 = omega arith in rw first holds

-- one message
pub one_of_some : (machine : MachineParts) → IsMachine machine → (send : Send) → length (send ∷ []) ≤ machine.nodes + 1
one_of_some machine is send = omega arith

pub after_aligned : (pc : ℕ) → pc % 4 ≡ 0 → address_after pc % 4 ≡ 0
after_aligned pc aligned = grind arith

-- more messages seen change nothing in what a directory keeps
pub seen_more : (machine : MachineParts) (number seen now : ℕ) (node : NodeState) → seen ≤ now → DirectoryFits machine number seen node.directory → DirectoryFits machine number now node.directory
seen_more machine number seen now node more is = record {
  machine_is = is.machine_is;
  node = is.node;
  count = is.count;
  blocks = λ k d below. let block = is.blocks k d below in record { copies = let c = block.copies in omega arith; home_fits = block.home_fits };
}

module _ (machine : MachineParts) (seen : ℕ) (old : NodeState) (is : HasBegun machine seen old) where
  directory_now : DirectoryFits machine old.number old.counters.messages old.directory
  directory_now = seen_more machine old.number seen old.counters.messages old is.seen_before is.directory

  -- a node that is in another mode, with the same clocks
  pub settled : (mode : Mode) (counters : Counters) → CountsFit machine counters → counters.messages ≡ old.counters.messages →
      events_of old ≤ counters.steps + counters.messages →
      (let new : NodeState = record old { mode = mode; counters = counters } in ModeFits machine new mode → IsNode machine new)
  settled mode counters counts messages events fits = record {
    numbers = is.numbers;
    number = is.number;
    aligned = is.aligned;
    private = is.private;
    ready = is.ready;
    busy = let b = is.busy in omega arith;
    counts = counts;
    cache = is.cache;
    directory = rw messages directory_now;
    barrier = is.barrier;
    mode = fits;
    logged = is.logged;
  }

  -- a node that has gone on to another instruction, and runs
  pub went_on : (registers : List ℕ) (pc ready : ℕ) (private : List ℕ) (cache : Cached) (counters : Counters) (output : List ℕ) → pc % 4 ≡ 0 → ready < 2 ^ 41 → length private ≡ machine.private_bytes →
      CacheFits machine cache → CountsFit machine counters → counters.messages ≡ old.counters.messages → events_of old ≤ counters.steps + counters.messages → (mode : Mode) → mode ≡ Running →
      (let new : NodeState = record old { registers = registers; pc = pc; mode = mode; ready = ready; private = private; cache = cache; counters = counters; output = output } in IsNode machine new)
  went_on registers pc ready private cache counters output aligned early whole fits counts messages events mode running = record {
    numbers = is.numbers;
    number = is.number;
    aligned = aligned;
    private = whole;
    ready = early;
    busy = let b = is.busy in omega arith;
    counts = counts;
    cache = fits;
    directory = rw messages directory_now;
    barrier = is.barrier;
    mode = rw running tt;
    logged = is.logged;
  }
