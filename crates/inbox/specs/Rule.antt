-- The rule of a shared inbox, over what it holds and what each pass knows. Its history is what was taken, and then what
-- it holds. Own.
use Rattle.std.specs.Prelude.{◌≡◌, ℕ, ◌<◌, ◌≤◌, true, List, ◌∷◌, ◌++◌}
use Rattle.std.specs.List.{All}
use mathlib.Core.Option.{some}
use lib.ListN.{get_elem?}
use Rattle.wt_proto.specs.declared.message.Stamped.{Stamped}
use Rattle.inbox.specs.declared.view.View.{View}
use Rattle.inbox.specs.Views.{part, HasSource, IsInUse, deposit_of, take_of}

-- the view of a seat is of a kind
abbrev pub HasAt : (View → Type 0) → List View → ℕ → Type 0
HasAt F views seat = (v : View) × (get_elem? views seat ≡ some v) × F v

-- What holds of the view of each seat, where one seat is the taker and each source has its owner: it has the inbox's
-- number of sources and a range of them, unless a join has left it behind; only the taker may take, and it has taken what
-- was taken; of each source of its range it is the owner, and the history's part of that source is the view's.
pub record Fits (sources : ℕ) (taken items : List Stamped) (taker : ℕ) (owner : ℕ → ℕ) (seat : ℕ) (v : View) : Type 0 where
  pub range : IsInUse v → (v.sources ≡ sources) × (v.lo ≤ v.hi) × (v.hi ≤ sources)
  pub right : v.takes ≡ true → (seat ≡ taker) × (v.taken ≡ taken)
  pub parts : (source : ℕ) → HasSource v source → (owner source ≡ seat) × (part source (taken ++ items) ≡ part source v.sent)

-- The rule: each source has an owner, whose range it lies in, and by `Fits` no other's. One view may take, and its range
-- isn't empty where there are sources. Each message of the history has a source of the inbox.
pub record Keeps (items : List Stamped) (views : List View) : Type 0 where
  pub sources : ℕ
  pub taken : List Stamped
  pub taker : ℕ
  pub owner : ℕ → ℕ
  pub fits : (seat : ℕ) (v : View) → get_elem? views seat ≡ some v → Fits sources taken items taker owner seat v
  pub owned : (source : ℕ) → source < sources → HasAt (λ v. HasSource v source) views (owner source)
  pub takes : HasAt (λ v. (v.takes ≡ true) × (0 < sources → v.lo < v.hi)) views taker
  pub history : All (λ (message : Stamped). message.from < sources) (taken ++ items)

-- What a view tells of what the inbox holds: each message that was taken or is held is of the inbox's sources, and of each
-- source of the range these are what was put in.
pub record Accounts (v : View) (items : List Stamped) : Type 0 where
  pub sources : All (λ (message : Stamped). message.from < v.sources) (v.taken ++ items)
  pub parts : (source : ℕ) → HasSource v source → part source (v.taken ++ items) ≡ part source v.sent

-- the view of the taker tells it
abbrev pub KnowsHeld : View → List Stamped → Type 0
KnowsHeld v items = v.takes ≡ true → Accounts v items

-- a deposit, and a take of what was first
abbrev pub Deposits : View → Stamped → View → Type 0
Deposits v message w = w ≡ deposit_of message v

abbrev pub Takes : View → Stamped → View → Type 0
Takes v message w = (w ≡ take_of message v) × (rest : List Stamped) × KnowsHeld v (message ∷ rest)
