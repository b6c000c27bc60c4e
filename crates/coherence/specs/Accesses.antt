-- What an event of a node does with the bytes of shared memory: a load reads those of its copy, a store changes them, and
-- a processor that waits goes on with the word that it was at. Own.
use Rattle.std.specs.Prelude.{◌≡◌, ⊤, ℕ, ◌+◌, ◌≤◌, Bool, true, List, length, slice_range, Option, Some, IfSome}
use Rattle.wt_params.specs.declared.parts.MachineParts.{MachineParts}
use Rattle.wt_params.specs.Machine.{shared_block}
use Rattle.rv_decode.specs.declared.instr.LoadOp.{LoadOp}
use Rattle.rv_exec.specs.Widths.{load_width_of, widened}
use Rattle.priv_mem.specs.Memory.{little_endian, low_bytes, overwritten}
use Rattle.wt_proto.specs.declared.key.Key.{Key}
use Rattle.wt_proto.specs.declared.message.Body.TheVariants.{DataX}
use Rattle.wt_proto.specs.declared.message.Msg.{Msg}
use Rattle.wt_proto.specs.Messages.{data_of}
use Rattle.wt_proto.specs.declared.mode.Mode.TheVariants.{Running, Waiting}
use Rattle.wt_trace.specs.declared.record.Deed.{Deed}
use Rattle.wt_trace.specs.declared.record.Deed.TheVariants.{Loaded, Stored}
use Rattle.target_cache.specs.Cached.{Cached}
use Rattle.discrete_events.specs.Simulation.{Step, Arrival}
use Rattle.node.specs.declared.state.NodeState.{NodeState}
use Rattle.node.specs.Processor.{fetch_of}
use Rattle.node.specs.React.{react, record_of}
use Rattle.node.specs.SharedAccess.{offset_of}
use Rattle.node.specs.Sound.{IsNode}
use Rattle.coherence.specs.Deals.{copy_of, IsWantedIn}
use Rattle.coherence.specs.Traces.{is_shared, load_in}

-- A word loaded from shared memory: it read its bytes in the copy of its block that is in this cache.
pub record IsLoadOf (machine : MachineParts) (word : Option ℕ) (address value : ℕ) (cache : Cached) : Type 0 where
  pub block : ℕ
  pub there : shared_block machine address ≡ Some block
  pub op : LoadOp
  pub is_load : load_in word ≡ Some op
  pub writable : Bool
  pub bytes : List ℕ
  pub held : copy_of cache block ≡ Some (record { writable = writable; bytes = bytes })
  pub inside : offset_of machine address + load_width_of op ≤ machine.block_bytes
  pub reads : value ≡ widened op (little_endian (slice_range bytes (offset_of machine address) (offset_of machine address + load_width_of op)))

-- A store to a block whose bytes were these left its copy in this cache so.
pub record IsStoreOf (machine : MachineParts) (address width value block : ℕ) (before : List ℕ) (cache : Cached) : Type 0 where
  pub there : shared_block machine address ≡ Some block
  pub inside : offset_of machine address + width ≤ machine.block_bytes
  pub held : copy_of cache block ≡ Some (record {
    writable = true;
    bytes = overwritten before (offset_of machine address) (low_bytes width value);
  })

-- in a copy that a node has
pub record StoresInCopy (machine : MachineParts) (address width value : ℕ) (before after : Cached) : Type 0 where
  pub block : ℕ
  pub bytes : List ℕ
  pub copy : copy_of before block ≡ Some (record { writable = true; bytes = bytes })
  pub store : IsStoreOf machine address width value block bytes after

-- in the copy that a message brings
pub record StoresInData (machine : MachineParts) (address width value : ℕ) (msg : Msg) (after : Cached) : Type 0 where
  pub bytes : List ℕ
  pub brought : msg.body ≡ DataX bytes
  pub store : IsStoreOf machine address width value msg.block bytes after

-- a processor that waits, and the word that it is at
pub record StillWaits (machine : MachineParts) (before after : NodeState) : Type 0 where
  pub waited : after.mode ≡ before.mode
  pub word : fetch_of machine after ≡ fetch_of machine before

-- a load or a store
abbrev pub IsDone : Deed → Type 0
IsDone (Loaded address value) = ⊤
IsDone (Stored address width value) = ⊤
IsDone deed = ⊥

pub record AccessesAreRight : Type 0 where
  pub step_load : (machine : MachineParts) (node : NodeState) (address value : ℕ) → IsNode machine node → node.mode ≡ Running →
      (record_of machine node Step).deed ≡ Loaded address value → is_shared address ≡ true →
      IsLoadOf machine (fetch_of machine node) address value (react machine node Step).0.cache
  pub step_store : (machine : MachineParts) (node : NodeState) (address width value : ℕ) → IsNode machine node → node.mode ≡ Running →
      (record_of machine node Step).deed ≡ Stored address width value → is_shared address ≡ true →
      StoresInCopy machine address width value node.cache (react machine node Step).0.cache
  -- who begins to wait is still at its word
  pub step_waits : (machine : MachineParts) (node : NodeState) (block : ℕ) (exclusive : Bool) → IsNode machine node → node.mode ≡ Running →
      (react machine node Step).0.mode ≡ Waiting block exclusive → fetch_of machine (react machine node Step).0 ≡ fetch_of machine node
  -- Only one that waits goes on at a message, with the word that it was at.
  pub message_load : (machine : MachineParts) (node : NodeState) (key : Key) (msg : Msg) (address value : ℕ) → IsNode machine node →
      IsWantedIn node.mode msg → IfSome (data_of msg.body) (λ bytes. length bytes ≡ machine.block_bytes) →
      (record_of machine node (Arrival (key, msg))).deed ≡ Loaded address value → is_shared address ≡ true →
      IsLoadOf machine (fetch_of machine node) address value (react machine node (Arrival (key, msg))).0.cache
  pub message_store : (machine : MachineParts) (node : NodeState) (key : Key) (msg : Msg) (address width value : ℕ) → IsNode machine node →
      IsWantedIn node.mode msg → IfSome (data_of msg.body) (λ bytes. length bytes ≡ machine.block_bytes) →
      (record_of machine node (Arrival (key, msg))).deed ≡ Stored address width value → is_shared address ≡ true →
      StoresInData machine address width value msg (react machine node (Arrival (key, msg))).0.cache
  pub message_waited : (machine : MachineParts) (node : NodeState) (key : Key) (msg : Msg) → IsNode machine node → IsWantedIn node.mode msg →
      IfSome (data_of msg.body) (λ bytes. length bytes ≡ machine.block_bytes) → IsDone (record_of machine node (Arrival (key, msg))).deed → (block : ℕ) × (exclusive : Bool) × (node.mode ≡ Waiting block exclusive)
  pub message_waits : (machine : MachineParts) (node : NodeState) (key : Key) (msg : Msg) (block : ℕ) (exclusive : Bool) → IsNode machine node →
      IsWantedIn node.mode msg → IfSome (data_of msg.body) (λ bytes. length bytes ≡ machine.block_bytes) → (react machine node (Arrival (key, msg))).0.mode ≡ Waiting block exclusive →
      StillWaits machine node (react machine node (Arrival (key, msg))).0
