-- What a step at a node does to that node's part of the block keeps its facts.
use Rattle.std.proofs.Common.{◌≡◌, ◌≢◌, ℕ, ◌≤◌, ◌⊎◌, inl, inr, Bool, true, false, List, [], ◌∷◌, ◌++◌, length, length-append, Option, Some, None, refl, ap, sym, ◌∙◌, subst, arith, append-nil, append_assoc}
use Rattle.wt_proto.specs.declared.message.Body.{Body}
use Rattle.wt_proto.specs.declared.message.Body.TheVariants.{GetX, Inv, InvAck}
use Rattle.dir1sw.specs.Table.{grant_body}
use Rattle.coherence.specs.Pipes.{token_of, writer_of, mark_of, not_to_home_of, asks_of, total, tokens, writers, marks, asks, IsLed}
use Rattle.coherence.specs.Block.{Copy, Cell, held, wanted, pipe, Roll}
use Rattle.coherence.specs.Block.Roll.{Idle, Shared, Exclusive, Busy}
use Rattle.coherence.specs.Facts.{Counts, NodeFacts}
use Rattle.coherence.specs.Steps.{get_body, put_body, ack_body}
use Rattle.coherence.proofs.Pipes.{total_append, total_parts, asks_append, two_empty, nothing_before, copies_asked, is_grant}

-- a node's part of a block
abbrev pub part : Option Bool → Option Copy → List Body → List Body → Cell
part wants copy up down = record { wants = wants; copy = copy; to_home = up; from_home = down }

-- ---- what the counts allow

-- the same counts are allowed
pub same_counts : (roll : Roll) (node : ℕ) (old new : List Body) → tokens new ≡ tokens old → writers new ≡ writers old → marks new ≡ marks old → Counts roll node old → Counts roll node new
same_counts Idle node old new t w m is = (t ∙ is.0, w ∙ is.1, m ∙ is.2)
same_counts (Shared readers) node old new t w m is = (t ∙ is.0, w ∙ is.1, m ∙ is.2)
same_counts (Exclusive owner) node old new t w m is = (t ∙ is.0, w ∙ is.1 ∙ sym t, m ∙ is.2)
same_counts (Busy from exclusive called) node old new t w m is = (let l = is.0 in omega arith, by is.1, m ∙ is.2)
  where
    by : (writers old ≡ 0) ⊎ (called ≡ node ∷ []) → (writers new ≡ 0) ⊎ (called ≡ node ∷ [])
    by (inl none) = inl (w ∙ none)
    by (inr alone) = inr alone

-- where a call is under way, a right to read may get lost
pub fewer_counts : (roll : Roll) (node : ℕ) (old new : List Body) → 1 ≤ marks old → tokens new ≤ tokens old → writers new ≡ writers old → marks new ≡ marks old → Counts roll node old → Counts roll node new
fewer_counts Idle node old new some t w m is = absurd (let c = is.2 in omega (arith, c))
fewer_counts (Shared readers) node old new some t w m is = absurd (let c = is.2 in omega (arith, c))
fewer_counts (Exclusive owner) node old new some t w m is = absurd (let c = is.2 in omega (arith, c))
fewer_counts (Busy from exclusive called) node old new some t w m is = (let l = is.0 in omega (arith, l), by is.1, m ∙ is.2)
  where
    by : (writers old ≡ 0) ⊎ (called ≡ node ∷ []) → (writers new ≡ 0) ⊎ (called ≡ node ∷ [])
    by (inl none) = inl (w ∙ none)
    by (inr alone) = inr alone

-- ---- a processor asks

pub record IsGet (exclusive : Bool) (body : Body) : Type 0 where
  pub token : token_of body ≡ 0
  pub writer : writer_of body ≡ 0
  pub mark : mark_of body ≡ 0
  pub goes : not_to_home_of body ≡ 0
  pub asks : asks_of body ≡ exclusive ∷ []

is_get : (exclusive : Bool) → IsGet exclusive (get_body exclusive)
is_get true = record { token = refl; writer = refl; mark = refl; goes = refl; asks = refl }
is_get false = record { token = refl; writer = refl; mark = refl; goes = refl; asks = refl }

pub ask_keeps : (roll : Roll) (node : ℕ) (at_home : List Bool) (exclusive : Bool) (up down : List Body) → NodeFacts roll node at_home (part None None up down) →
    NodeFacts roll node at_home (part (Some exclusive) None (up ++ get_body exclusive ∷ []) down)
ask_keeps roll node at_home exclusive up down is = record {
  led = still up is.led;
  one_place = (λ i. asks_append up (body ∷ []) i ++ at_home ++ asks down) ∙ (λ i. (none.0 i ++ (get.asks i ++ [])) ++ none.1 i ++ none.2 i);
  no_token = λ some. absurd (some none.1);
  counts = same_counts roll node (up ++ [] ++ down) (up ++ body ∷ [] ++ [] ++ down) (alike token_of get.token) (alike writer_of get.writer) (alike mark_of get.mark) is.counts;
  goes = let both = total_append not_to_home_of up (body ∷ []) in let a = is.goes in let b = get.goes in omega (arith, a, b);
  comes = is.comes;
}
  where
    body : Body
    body = get_body exclusive

    get : IsGet exclusive body
    get = is_get exclusive

    none : (asks up ≡ []) × (at_home ≡ []) × (asks down ≡ [])
    none =
        let all = two_empty (asks up ++ at_home) (asks down) is.one_place in let two = two_empty (asks up) at_home all.0 in
        (two.0, two.1, all.1)

    alike : (weight : Body → ℕ) → weight body ≡ 0 → total weight (up ++ body ∷ [] ++ [] ++ down) ≡ total weight (up ++ [] ++ down)
    alike weight nil =
        let a = total_parts weight (up ++ body ∷ []) [] down in let b = total_append weight up (body ∷ []) in let c = total_parts weight up [] down in omega (arith, nil)

    still : (us : List Body) → IsLed (us ++ [] ++ down) → IsLed (us ++ body ∷ [] ++ [] ++ down)
    still [] led = let few = copies_asked down in let zero_asks : length (asks down) ≡ 0 = ap length none.2 in let c = is.comes in omega (arith, c)
    still (u ∷ us) led =
        let a = total_parts token_of (us ++ body ∷ []) [] down in let b = total_append token_of us (body ∷ []) in let c = total_parts token_of us [] down in
        let t = get.token in omega (arith, t)

-- ---- a copy goes: nothing stands before it, and a message stands in its place

pub copy_is_first : (roll : Roll) (node : ℕ) (at_home : List Bool) (wants : Option Bool) (copy : Copy) (up down : List Body) →
    NodeFacts roll node at_home (part wants (Some copy) up down) → up ≡ []
copy_is_first roll node at_home wants copy up down is =
    nothing_before up (grant_body copy.writable copy.bytes ∷ down) (subst IsLed (append_assoc up (grant_body copy.writable copy.bytes ∷ []) down) is.led)
    (let one = (is_grant copy.writable copy.bytes).token in omega (arith, one))

-- the message that takes the place of a copy
pub record TakesPlace (copy : Copy) (body : Body) : Type 0 where
  pub token : token_of body ≡ 1
  pub writer : writer_of body ≡ writer_of (grant_body copy.writable copy.bytes)
  pub mark : mark_of body ≡ 0
  pub goes : not_to_home_of body ≡ 0

nobody_at_home : (at_home : List Bool) (some : ℕ) → ((at_home ≢ []) → some ≡ 0) → 1 ≤ some → at_home ≡ []
nobody_at_home [] some never is = refl
nobody_at_home (x ∷ xs) some never is = absurd (let none = never (λ e. cc) in omega arith)

give_first : (roll : Roll) (node : ℕ) (at_home : List Bool) (wants new : Option Bool) (copy : Copy) (body : Body) (down : List Body) →
    NodeFacts roll node at_home (part wants (Some copy) [] down) → TakesPlace copy body →
    (asks down ≡ wanted wants → asks_of body ++ asks down ≡ wanted new) →
    NodeFacts roll node at_home (part new None (body ∷ []) down)
give_first roll node at_home wants new copy body down is takes place = record {
  led = is.led;
  one_place = (λ i. (append-nil (asks_of body) i) ++ nobody i ++ asks down) ∙ (λ i. append-nil (asks_of body) i ++ asks down) ∙ place ((λ i. sym nobody i ++ asks down) ∙ is.one_place);
  no_token = λ some. absurd (some nobody);
  counts = same_counts roll node (was ∷ down) (body ∷ down) (let a = takes.token in omega (arith, a, one)) (let a = takes.writer in omega (arith, a)) (let a = takes.mark in let b = (is_grant copy.writable copy.bytes).mark in omega (arith, a, b)) is.counts;
  goes = let a = takes.goes in omega (arith, a);
  comes = is.comes;
}
  where
    was : Body
    was = grant_body copy.writable copy.bytes

    one : token_of was ≡ 1
    one = (is_grant copy.writable copy.bytes).token

    nobody : at_home ≡ []
    nobody = nobody_at_home at_home (tokens (was ∷ down)) is.no_token (omega (arith, one))

pub give_keeps : (roll : Roll) (node : ℕ) (at_home : List Bool) (wants new : Option Bool) (copy : Copy) (body : Body) (up down : List Body) →
    NodeFacts roll node at_home (part wants (Some copy) up down) → TakesPlace copy body →
    (asks down ≡ wanted wants → asks_of body ++ asks down ≡ wanted new) →
    NodeFacts roll node at_home (part new None (up ++ body ∷ []) down)
give_keeps roll node at_home wants new copy body up down is takes place =
    subst (λ (us : List Body). NodeFacts roll node at_home (part new None (us ++ body ∷ []) down)) (sym first)
    (give_first roll node at_home wants new copy body down (subst (λ (us : List Body). NodeFacts roll node at_home (part wants (Some copy) us down)) first is) takes place)
  where
    first : up ≡ []
    first = copy_is_first roll node at_home wants copy up down is

pub put_takes_place : (writable : Bool) (bytes : List ℕ) → TakesPlace (record { writable = writable; bytes = bytes }) (put_body (record { writable = writable; bytes = bytes }))
put_takes_place true bytes = record { token = refl; writer = refl; mark = refl; goes = refl }
put_takes_place false bytes = record { token = refl; writer = refl; mark = refl; goes = refl }

pub put_asks_nothing : (writable : Bool) (bytes : List ℕ) → asks_of (put_body (record { writable = writable; bytes = bytes })) ≡ []
put_asks_nothing true bytes = refl
put_asks_nothing false bytes = refl

pub upgrade_takes_place : (bytes : List ℕ) → TakesPlace (record { writable = false; bytes = bytes }) (GetX true)
upgrade_takes_place bytes = record { token = refl; writer = refl; mark = refl; goes = refl }

-- ---- a store

pub write_keeps : (roll : Roll) (node : ℕ) (at_home : List Bool) (wants : Option Bool) (old new : List ℕ) (up down : List Body) →
    NodeFacts roll node at_home (part wants (Some (record { writable = true; bytes = old })) up down) →
    NodeFacts roll node at_home (part wants (Some (record { writable = true; bytes = new })) up down)
write_keeps roll node at_home wants old new up down is = record {
  led = led up is.led;
  one_place = is.one_place;
  no_token = λ some. alike token_of refl ∙ is.no_token some;
  counts = same_counts roll node (pipe (part wants (Some (record { writable = true; bytes = old })) up down)) (pipe (part wants (Some (record { writable = true; bytes = new })) up down)) (alike token_of refl) (alike writer_of refl) (alike mark_of refl) is.counts;
  goes = is.goes;
  comes = is.comes;
}
  where
    alike : (weight : Body → ℕ) → weight (grant_body true new) ≡ weight (grant_body true old) →
        total weight (up ++ grant_body true new ∷ [] ++ down) ≡ total weight (up ++ grant_body true old ∷ [] ++ down)
    alike weight same =
        let a = total_parts weight up (grant_body true new ∷ []) down in let b = total_parts weight up (grant_body true old ∷ []) down in omega (arith, same)

    led : (us : List Body) → IsLed (us ++ grant_body true old ∷ [] ++ down) → IsLed (us ++ grant_body true new ∷ [] ++ down)
    led [] l = l
    led (u ∷ us) l =
        let a = total_parts token_of us (grant_body true new ∷ []) down in let b = total_parts token_of us (grant_body true old ∷ []) down in omega arith

-- ---- Data comes: it is asked for, and becomes the copy in its place

asked_alone : (exclusive : Bool) (before after : List Bool) (wants : Option Bool) → before ++ exclusive ∷ after ≡ wanted wants →
    (wants ≡ Some exclusive) × (before ≡ []) × (after ≡ [])
asked_alone x [] after None e = absurd (let f : x ∷ after ≡ [] = e in cc)
asked_alone x [] after (Some y) e = let f : x ∷ after ≡ y ∷ [] = e in (cc, refl, cc)
asked_alone x (b ∷ before) after None e = absurd (let f : b ∷ (before ++ x ∷ after) ≡ [] = e in cc)
asked_alone x (b ∷ before) after (Some y) e =
    absurd (let l : length (b ∷ (before ++ x ∷ after)) ≡ 1 = ap length e in let m = length-append before (x ∷ after) in omega arith)

pub fill_is_asked : (roll : Roll) (node : ℕ) (at_home : List Bool) (exclusive : Bool) (bytes : List ℕ) (wants : Option Bool) (copy : Option Copy) (up rest : List Body) →
    NodeFacts roll node at_home (part wants copy up (grant_body exclusive bytes ∷ rest)) →
    (wants ≡ Some exclusive) × (asks up ++ at_home ≡ []) × (asks rest ≡ [])
fill_is_asked roll node at_home exclusive bytes wants copy up rest is =
    asked_alone exclusive (asks up ++ at_home) (asks rest) wants
    ((λ i. (asks up ++ at_home) ++ ((sym (is_grant exclusive bytes).asks i) ++ asks rest)) ∙ is.one_place)

-- nothing stands before Data, so there is no copy yet
fill_is_first : (roll : Roll) (node : ℕ) (at_home : List Bool) (exclusive : Bool) (bytes : List ℕ) (wants : Option Bool) (copy : Option Copy) (up rest : List Body) →
    NodeFacts roll node at_home (part wants copy up (grant_body exclusive bytes ∷ rest)) → up ++ held copy ≡ []
fill_is_first roll node at_home exclusive bytes wants copy up rest is =
    nothing_before (up ++ held copy) (grant_body exclusive bytes ∷ rest) is.led (let one = (is_grant exclusive bytes).token in omega (arith, one))

fill_alone : (roll : Roll) (node : ℕ) (at_home : List Bool) (exclusive : Bool) (bytes : List ℕ) (wants : Option Bool) (rest : List Body) →
    NodeFacts roll node at_home (part wants None [] (grant_body exclusive bytes ∷ rest)) →
    NodeFacts roll node at_home (part None (Some (record { writable = exclusive; bytes = bytes })) [] rest)
fill_alone roll node at_home exclusive bytes wants rest is = record {
  led = is.led;
  one_place = (λ i. asked.1 i ++ asked.2 i);
  no_token = is.no_token;
  counts = is.counts;
  goes = refl;
  comes = let c = is.comes in let g = (is_grant exclusive bytes).comes in omega (arith, c, g);
}
  where
    asked : (wants ≡ Some exclusive) × ([] ++ at_home ≡ []) × (asks rest ≡ [])
    asked = fill_is_asked roll node at_home exclusive bytes wants None [] rest is

pub fill_keeps : (roll : Roll) (node : ℕ) (at_home : List Bool) (exclusive : Bool) (bytes : List ℕ) (wants : Option Bool) (copy : Option Copy) (up rest : List Body) →
    NodeFacts roll node at_home (part wants copy up (grant_body exclusive bytes ∷ rest)) →
    NodeFacts roll node at_home (part None (Some (record { writable = exclusive; bytes = bytes })) up rest)
fill_keeps roll node at_home exclusive bytes wants copy up rest is = by copy up (fill_is_first roll node at_home exclusive bytes wants copy up rest is) is
  where
    by : (held_one : Option Copy) (us : List Body) → us ++ held held_one ≡ [] → NodeFacts roll node at_home (part wants held_one us (grant_body exclusive bytes ∷ rest)) →
        NodeFacts roll node at_home (part None (Some (record { writable = exclusive; bytes = bytes })) us rest)
    by None [] e facts = fill_alone roll node at_home exclusive bytes wants rest facts
    by (Some c) [] e facts = absurd (let f : grant_body c.writable c.bytes ∷ [] ≡ [] = e in cc)
    by h (u ∷ us) e facts = absurd (let f : u ∷ (us ++ held h) ≡ [] = e in cc)

-- ---- Inv comes, where no copy is held, and where one is

drop_nothing : (roll : Roll) (node : ℕ) (at_home : List Bool) (wants : Option Bool) (up rest : List Body) →
    NodeFacts roll node at_home (part wants None up (Inv ∷ rest)) → NodeFacts roll node at_home (part wants None (up ++ InvAck None ∷ []) rest)
drop_nothing roll node at_home wants up rest is = record {
  led = led up is.led;
  one_place = (λ i. (asks_append up (InvAck None ∷ []) ∙ append-nil (asks up)) i ++ at_home ++ asks rest) ∙ is.one_place;
  no_token = λ some. alike token_of refl ∙ is.no_token some;
  counts = same_counts roll node (up ++ [] ++ Inv ∷ rest) (up ++ InvAck None ∷ [] ++ [] ++ rest) (alike token_of refl) (alike writer_of refl) (alike mark_of refl) is.counts;
  goes = let both = total_append not_to_home_of up (InvAck None ∷ []) in let a = is.goes in omega (arith, a);
  comes = let c = is.comes in omega (arith, c);
}
  where
    alike : (weight : Body → ℕ) → weight (InvAck None) ≡ weight Inv → total weight (up ++ InvAck None ∷ [] ++ [] ++ rest) ≡ total weight (up ++ [] ++ Inv ∷ rest)
    alike weight same =
        let a = total_parts weight (up ++ InvAck None ∷ []) [] rest in let b = total_append weight up (InvAck None ∷ []) in let c = total_parts weight up [] (Inv ∷ rest) in
        omega (arith, same)

    led : (us : List Body) → IsLed (us ++ [] ++ Inv ∷ rest) → IsLed (us ++ InvAck None ∷ [] ++ [] ++ rest)
    led [] l = l
    led (u ∷ us) l =
        let a = total_parts token_of (us ++ InvAck None ∷ []) [] rest in let b = total_append token_of us (InvAck None ∷ []) in
        let c = total_parts token_of us [] (Inv ∷ rest) in omega arith

-- the answer for a copy
pub record Answers (copy : Copy) (body : Body) : Type 0 where
  pub token : token_of body ≤ 1
  pub writer : writer_of body ≡ writer_of (grant_body copy.writable copy.bytes)
  pub mark : mark_of body ≡ 1
  pub goes : not_to_home_of body ≡ 0
  pub asks : asks_of body ≡ []

pub ack_answers : (writable : Bool) (bytes : List ℕ) → Answers (record { writable = writable; bytes = bytes }) (ack_body (Some (record { writable = writable; bytes = bytes })))
ack_answers true bytes = record { token = omega arith; writer = refl; mark = refl; goes = refl; asks = refl }
ack_answers false bytes = record { token = omega arith; writer = refl; mark = refl; goes = refl; asks = refl }

drop_first : (roll : Roll) (node : ℕ) (at_home : List Bool) (wants : Option Bool) (copy : Copy) (body : Body) (rest : List Body) →
    NodeFacts roll node at_home (part wants (Some copy) [] (Inv ∷ rest)) → Answers copy body →
    NodeFacts roll node at_home (part wants None (body ∷ []) rest)
drop_first roll node at_home wants copy body rest is answers = record {
  led = let l = is.led in omega (arith, l);
  one_place = (λ i. (answers.asks i ++ []) ++ at_home ++ asks rest) ∙ is.one_place;
  no_token = λ some. absurd (let none = is.no_token some in omega (arith, one));
  counts = fewer_counts roll node (was ∷ Inv ∷ rest) (body ∷ rest) (omega arith) (let a = answers.token in omega (arith, a, one)) (let a = answers.writer in omega (arith, a)) (let a = answers.mark in let b = (is_grant copy.writable copy.bytes).mark in omega (arith, a, b)) is.counts;
  goes = let a = answers.goes in omega (arith, a);
  comes = let c = is.comes in omega (arith, c);
}
  where
    was : Body
    was = grant_body copy.writable copy.bytes

    one : token_of was ≡ 1
    one = (is_grant copy.writable copy.bytes).token

pub drop_keeps : (roll : Roll) (node : ℕ) (at_home : List Bool) (wants : Option Bool) (copy : Option Copy) (up rest : List Body) →
    NodeFacts roll node at_home (part wants copy up (Inv ∷ rest)) → NodeFacts roll node at_home (part wants None (up ++ ack_body copy ∷ []) rest)
drop_keeps roll node at_home wants None up rest is = drop_nothing roll node at_home wants up rest is
drop_keeps roll node at_home wants (Some copy) up rest is =
    subst (λ (us : List Body). NodeFacts roll node at_home (part wants None (us ++ ack_body (Some copy) ∷ []) rest)) (sym first)
    (drop_first roll node at_home wants copy (ack_body (Some copy)) rest (subst (λ (us : List Body). NodeFacts roll node at_home (part wants (Some copy) us (Inv ∷ rest))) first is) (ack_answers copy.writable copy.bytes))
  where
    first : up ≡ []
    first = copy_is_first roll node at_home wants copy up (Inv ∷ rest) is
