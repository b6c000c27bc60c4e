-- What the messages of one block stand for: rights to a copy, calls for copies, and requests. Own.
use Rattle.std.specs.Prelude.{◌≡◌, ℕ, ◌+◌, Bool, true, false, List, [], ◌∷◌, ◌++◌, Some}
use Rattle.wt_proto.specs.declared.message.Body.{Body}
use Rattle.wt_proto.specs.declared.message.Body.TheVariants.{GetS, GetX, PutS, PutX, DataS, DataX, Inv, InvAck}

-- a right to a copy: one that comes, or one that goes back
abbrev pub token_of : Body → ℕ
token_of (GetX true) = 1
token_of PutS = 1
token_of (PutX bytes) = 1
token_of (DataS bytes) = 1
token_of (DataX bytes) = 1
token_of (InvAck (Some bytes)) = 1
token_of _ = 0

-- the right to write the block
abbrev pub writer_of : Body → ℕ
writer_of (PutX bytes) = 1
writer_of (DataX bytes) = 1
writer_of (InvAck (Some bytes)) = 1
writer_of _ = 0

-- a call for a copy, or its answer
abbrev pub mark_of : Body → ℕ
mark_of Inv = 1
mark_of (InvAck bytes) = 1
mark_of _ = 0

-- To a home go requests, copies that are given back, and answers to calls.
abbrev pub not_to_home_of : Body → ℕ
not_to_home_of GetS = 0
not_to_home_of (GetX had) = 0
not_to_home_of PutS = 0
not_to_home_of (PutX bytes) = 0
not_to_home_of (InvAck bytes) = 0
not_to_home_of _ = 1

-- From a home come copies and calls.
abbrev pub not_from_home_of : Body → ℕ
not_from_home_of (DataS bytes) = 0
not_from_home_of (DataX bytes) = 0
not_from_home_of Inv = 0
not_from_home_of _ = 1

-- the kind of copy that is asked for, or that comes to who has asked: to write, or to read
abbrev pub asks_of : Body → List Bool
asks_of GetS = false ∷ []
asks_of (GetX had) = true ∷ []
asks_of (DataS bytes) = false ∷ []
asks_of (DataX bytes) = true ∷ []
asks_of _ = []

-- ---- of a list of messages

abbrev pub total : (Body → ℕ) → List Body → ℕ
total weight [] = 0
total weight (body ∷ bodies) = weight body + total weight bodies

abbrev pub tokens : List Body → ℕ
tokens bodies = total token_of bodies

abbrev pub writers : List Body → ℕ
writers bodies = total writer_of bodies

abbrev pub marks : List Body → ℕ
marks bodies = total mark_of bodies

abbrev pub asks : List Body → List Bool
asks [] = []
asks (body ∷ bodies) = asks_of body ++ asks bodies

-- Behind the first there is no token.
abbrev pub IsLed : List Body → Type 0
IsLed [] = Unit {0}
IsLed (body ∷ bodies) = tokens bodies ≡ 0
