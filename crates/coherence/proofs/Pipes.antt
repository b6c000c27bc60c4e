-- Sums over the messages of a pipe.
use Rattle.std.proofs.Common.{◌≡◌, ℕ, ◌+◌, ◌≤◌, Bool, true, false, List, [], ◌∷◌, ◌++◌, length, length-append, Option, Some, None, refl, ap, sym, ◌∙◌, arith, append_assoc}
use Rattle.wt_proto.specs.declared.message.Body.{Body}
use Rattle.wt_proto.specs.declared.message.Body.TheVariants.{GetS, GetX, PutS, PutX, DataS, DataX, Inv, InvAck, Wake, Arrive, Leave, Go}
use Rattle.dir1sw.specs.Table.{grant_body}
use Rattle.coherence.specs.Pipes.{token_of, writer_of, mark_of, not_to_home_of, not_from_home_of, asks_of, total, tokens, writers, marks, asks, IsLed}
use Rattle.coherence.specs.Block.{Copy, held}

pub total_append : (weight : Body → ℕ) (first second : List Body) → total weight (first ++ second) ≡ total weight first + total weight second
total_append weight [] second = omega arith
total_append weight (body ∷ bodies) second = let rest = total_append weight bodies second in omega arith

-- of the three parts of a pipe
pub total_parts : (weight : Body → ℕ) (first second third : List Body) → total weight (first ++ second ++ third) ≡ total weight first + total weight second + total weight third
total_parts weight first second third = let both = total_append weight (first ++ second) third in let two = total_append weight first second in omega arith

pub asks_append : (first second : List Body) → asks (first ++ second) ≡ asks first ++ asks second
asks_append [] second = refl
asks_append (body ∷ bodies) second = ap (λ rest. asks_of body ++ rest) (asks_append bodies second) ∙ sym (append_assoc (asks_of body) (asks bodies) (asks second))

pub two_empty : {X : Type 0} (first second : List X) → first ++ second ≡ [] → (first ≡ []) × (second ≡ [])
two_empty [] second e = (refl, e)
two_empty (x ∷ first) second e = absurd (let f : x ∷ (first ++ second) ≡ [] = e in cc)

-- ---- a message alone

-- A right to write is a right to a copy; each message to a home or from one is about a copy.
pub record IsSmall (body : Body) : Type 0 where
  pub few : writer_of body ≤ token_of body
  pub one : token_of body ≤ 1
  pub up : 1 ≤ token_of body + mark_of body + length (asks_of body) + not_to_home_of body
  pub down : 1 ≤ token_of body + mark_of body + length (asks_of body) + not_from_home_of body
  pub comes : token_of body ≤ length (asks_of body) + not_from_home_of body

pub small : (body : Body) → IsSmall body
small GetS = record { few = omega arith; one = omega arith; up = omega arith; down = omega arith; comes = omega arith }
small (GetX true) = record { few = omega arith; one = omega arith; up = omega arith; down = omega arith; comes = omega arith }
small (GetX false) = record { few = omega arith; one = omega arith; up = omega arith; down = omega arith; comes = omega arith }
small PutS = record { few = omega arith; one = omega arith; up = omega arith; down = omega arith; comes = omega arith }
small (PutX bytes) = record { few = omega arith; one = omega arith; up = omega arith; down = omega arith; comes = omega arith }
small (DataS bytes) = record { few = omega arith; one = omega arith; up = omega arith; down = omega arith; comes = omega arith }
small (DataX bytes) = record { few = omega arith; one = omega arith; up = omega arith; down = omega arith; comes = omega arith }
small Inv = record { few = omega arith; one = omega arith; up = omega arith; down = omega arith; comes = omega arith }
small (InvAck (Some bytes)) = record { few = omega arith; one = omega arith; up = omega arith; down = omega arith; comes = omega arith }
small (InvAck None) = record { few = omega arith; one = omega arith; up = omega arith; down = omega arith; comes = omega arith }
small Wake = record { few = omega arith; one = omega arith; up = omega arith; down = omega arith; comes = omega arith }
small Arrive = record { few = omega arith; one = omega arith; up = omega arith; down = omega arith; comes = omega arith }
small Leave = record { few = omega arith; one = omega arith; up = omega arith; down = omega arith; comes = omega arith }
small Go = record { few = omega arith; one = omega arith; up = omega arith; down = omega arith; comes = omega arith }

pub writers_few : (bodies : List Body) → writers bodies ≤ tokens bodies
writers_few [] = omega arith
writers_few (body ∷ bodies) = let rest = writers_few bodies in let one = small body in omega (arith, one.few)

pub led_few : (bodies : List Body) → IsLed bodies → tokens bodies ≤ 1
led_few [] led = omega arith
led_few (body ∷ bodies) led = let one = small body in omega (arith, one.one)

-- the crux: a pipe without tokens, marks and requests is empty
nothing_of : (astray : Body → ℕ) → ((body : Body) → 1 ≤ token_of body + mark_of body + length (asks_of body) + astray body) →
    (bodies : List Body) → tokens bodies ≡ 0 → marks bodies ≡ 0 → asks bodies ≡ [] → total astray bodies ≡ 0 → bodies ≡ []
nothing_of astray each [] t m a none = refl
nothing_of astray each (body ∷ bodies) t m a none =
    let some = each body in let nil : length (asks_of body) ≡ 0 = ap length (two_empty (asks_of body) (asks bodies) a).0 in absurd (omega arith)

pub nothing_goes : (up : List Body) → tokens up ≡ 0 → marks up ≡ 0 → asks up ≡ [] → total not_to_home_of up ≡ 0 → up ≡ []
nothing_goes up t m a goes = nothing_of not_to_home_of (λ body. (small body).up) up t m a goes

pub nothing_comes : (down : List Body) → tokens down ≡ 0 → marks down ≡ 0 → asks down ≡ [] → total not_from_home_of down ≡ 0 → down ≡ []
nothing_comes down t m a comes = nothing_of not_from_home_of (λ body. (small body).down) down t m a comes

-- each copy that comes was asked for
pub copies_asked : (down : List Body) → tokens down ≤ length (asks down) + total not_from_home_of down
copies_asked [] = omega arith
copies_asked (body ∷ down) =
    let rest = copies_asked down in let one = small body in let both = length-append (asks_of body) (asks down) in omega (arith, one.comes)

-- ---- the first in a pipe

-- where a token stands behind, nothing stands before it
pub nothing_before : (first second : List Body) → IsLed (first ++ second) → 1 ≤ tokens second → first ≡ []
nothing_before [] second led some = refl
nothing_before (body ∷ first) second led some = let both = total_append token_of first second in absurd (omega arith)

pub led_without : (bodies : List Body) → tokens bodies ≡ 0 → IsLed bodies
led_without [] none = tt
led_without (body ∷ bodies) none = omega arith

-- what follows no token may follow any
pub led_more : (first second third : List Body) → tokens second ≤ tokens third → IsLed (first ++ third) → IsLed second → IsLed (first ++ second)
led_more [] second third few led alone = alone
led_more (body ∷ first) second third few led alone = let a = total_append token_of first second in let b = total_append token_of first third in omega arith

-- ---- a copy that is held

pub record IsGrant (exclusive : Bool) (body : Body) : Type 0 where
  pub token : token_of body ≡ 1
  pub mark : mark_of body ≡ 0
  pub comes : not_from_home_of body ≡ 0
  pub asks : asks_of body ≡ exclusive ∷ []

pub is_grant : (exclusive : Bool) (bytes : List ℕ) → IsGrant exclusive (grant_body exclusive bytes)
is_grant true bytes = record { token = refl; mark = refl; comes = refl; asks = refl }
is_grant false bytes = record { token = refl; mark = refl; comes = refl; asks = refl }

pub held_none : (copy : Option Copy) → tokens (held copy) ≡ 0 → copy ≡ None
held_none None none = refl
held_none (Some copy) none = let one = is_grant copy.writable copy.bytes in absurd (omega (arith, one.token))
