-- Laws of the messages of cycles that follow one another.
use Rattle.std.proofs.Common.{◌≡◌, ◌≢◌, ℕ, zero, suc, ◌+◌, ◌-◌, ◌<◌, ◌≤◌, ◌⊎◌, Bool, true, false, cond, List, [], ◌∷◌, ◌++◌, length, drop, get_or, set, replicate, Option, Some, None, MatchOption, Result, Ok, Err, OnOk, OnErr, refl, ap, sym, subst, ◌∙◌, inl, inr, arith}
use Rattle.std.specs.declared.cmp.Ordering.{Ordering}
use Rattle.std.specs.declared.cmp.Ordering.TheVariants.{Less, Equal, Greater}
use Rattle.std.specs.Ordering.{is_lt, nat_cmp, ordering_then}
use Rattle.std.specs.Cmp.{nat_cmp_is}
use Rattle.std.specs.List.{All}
use Rattle.std.proofs.lemmas.Bool.{cases_eq, cases_lt}
use Rattle.std.proofs.lemmas.List.{get_or_append_left, get_or-append-add, get_or-set_same, get_or-set_other, drop-set-lt, get_or_read, set-get_or, length-set, length-append, length-replicate}
use Rattle.std.proofs.lemmas.List.Elements.{All-append, All-tail}
use Rattle.wt_proto.specs.declared.key.Key.{Key}
use Rattle.wt_proto.specs.declared.message.Stamped.{Stamped}
use Rattle.wt_proto.specs.KeyOrder.{key_cmp}
use Rattle.wt_proto.specs.Messages.{key_of}
use Rattle.event_queue.specs.Rising.{IsRising, HasNoKey, is_before, insert_of, peek_of}
use Rattle.event_queue.specs.Marks.{IsFirstMark, mark_at}
use Rattle.event_queue.specs.Cycles.{AreMarked, AreTimed, IsFirstFilled, IsNear, IsRing, RingModel, joined, mark_of, padded}
use Rattle.event_queue.proofs.RisingLaws.{rest_rises, All-insert_of, IsRising-insert_of}
use Rattle.event_queue.proofs.MarkLaws.{replicate-same}
use Rattle.event_queue.proofs.MergeLaws.{insert-append_left, insert-append_right, turned_before}

-- ---- rows that weren't made

joined-replicate : (n : ℕ) → joined (replicate n []) ≡ []
joined-replicate zero = refl
joined-replicate (suc n) = joined-replicate n

pub padded_none : (rows : List (List Stamped)) → rows ≡ replicate 256 [] → rows ≡ padded []
unfolding padded
padded_none rows is = is

pub padded_all : (rows : List (List Stamped)) → 0 < length rows → padded rows ≡ rows
unfolding padded
padded_all [] some = absurd (omega arith)
padded_all (row ∷ rows) some = refl

pub padded_twice : (rows : List (List Stamped)) → padded (padded rows) ≡ padded rows
unfolding padded
padded_twice [] = refl
padded_twice (row ∷ rows) = refl

pub joined-padded : (rows : List (List Stamped)) → joined (padded rows) ≡ joined rows
unfolding padded
joined-padded [] = joined-replicate 256
joined-padded (row ∷ rows) = refl

pub row-padded : (rows : List (List Stamped)) (place : ℕ) → get_or (padded rows) place [] ≡ get_or rows place []
unfolding padded
row-padded [] place = replicate-same 256 place []
row-padded (row ∷ rows) place = refl

pub length-padded : (rows : List (List Stamped)) → (0 < length rows → length rows ≡ 256) → length (padded rows) ≡ 256
unfolding padded
length-padded [] all = length-replicate {A = List Stamped} 256 []
length-padded (row ∷ rows) all = all (omega arith)

-- ---- the messages of all rows

-- What holds of the messages of each row holds of all.
pub All-joined : (P : Stamped → Type 0) (rows : List (List Stamped)) → ((place : ℕ) → All P (get_or rows place [])) → All P (joined rows)
All-joined P [] each = λ k d within. absurd (omega arith)
All-joined P (row ∷ rows) each =
    All-append P row (joined rows) (each 0) (All-joined P rows (λ place. each (suc place)))

-- What holds of all holds of those of a row.
pub All-from_joined : (P : Stamped → Type 0) (rows : List (List Stamped)) (place : ℕ) → All P (joined rows) → All P (get_or rows place [])
All-from_joined P [] place all = λ k d within. absurd (omega arith)
All-from_joined P (row ∷ rows) zero all =
    λ k d within. subst P (get_or_append_left row (joined rows) d k within) (all k d (omega (arith, length-append row (joined rows))))
All-from_joined P (row ∷ rows) (suc place) all =
    All-from_joined P rows place
    (λ k d within. subst P (get_or-append-add row (joined rows) k d) (all (length row + k) d (omega (arith, length-append row (joined rows)))))

no_messages : (rows : List (List Stamped)) → ((place : ℕ) → get_or rows place [] ≡ []) → joined rows ≡ []
no_messages [] none = refl
no_messages (row ∷ rows) none =
    ap (λ (r : List Stamped). r ++ joined rows) (none 0) ∙ no_messages rows (λ place. none (suc place))

-- From the first row that has messages on.
pub joined_from : (rows : List (List Stamped)) (place : ℕ) → place < length rows → ((earlier : ℕ) → earlier < place → get_or rows earlier [] ≡ []) → joined rows ≡ get_or rows place [] ++ joined (drop (suc place) rows)
joined_from [] place within none = absurd (omega arith)
joined_from (row ∷ rows) zero within none = refl
joined_from (row ∷ rows) (suc place) within none =
    ap (λ (r : List Stamped). r ++ joined rows) (none 0 (omega arith))
    ∙ joined_from rows place (omega arith) (λ earlier low. none (suc earlier) (omega arith))

empty_row : (row : List Stamped) → mark_of row ≡ 0 → row ≡ []
empty_row [] is = refl
empty_row (m ∷ ms) is = absurd (omega arith)

-- ---- marks

marks_row : (rows : List (List Stamped)) (words : List ℕ) (place : ℕ) → AreMarked rows words → mark_at place words ≡ 0 → get_or (padded rows) place [] ≡ []
marks_row rows words place are none =
    row-padded rows place ∙ empty_row (get_or rows place []) (sym (are.marks place) ∙ none)

past_all : (rows : List (List Stamped)) (place : ℕ) → length rows ≤ place → get_or rows place [] ≡ []
past_all [] place past = refl
past_all (row ∷ rows) zero past = absurd (omega arith)
past_all (row ∷ rows) (suc place) past = past_all rows place (omega arith)

-- Where there is no mark there are no messages.
pub unmarked_none : (rows : List (List Stamped)) (words : List ℕ) → AreMarked rows words → ((place : ℕ) → place < 256 → mark_at place words ≡ 0) → joined (padded rows) ≡ []
unmarked_none rows words are none = no_messages (padded rows) (λ place. by place (cases_lt place 256))
  where
    by : (place : ℕ) → (place < 256) ⊎ (256 ≤ place) → get_or (padded rows) place [] ≡ []
    by place (inl low) = marks_row rows words place are (none place low)
    by place (inr high) = past_all (padded rows) place (omega (arith, length-padded rows are.made))

-- The first mark is at the first row that has messages.
pub first_filled : (rows : List (List Stamped)) (words : List ℕ) (place : ℕ) → AreMarked rows words → IsFirstMark place words → IsFirstFilled place (padded rows)
first_filled rows words place are first = record {
  within = first.within;
  filled = ap mark_of (row-padded rows place) ∙ sym (are.marks place) ∙ first.marked;
  before = λ earlier low. marks_row rows words earlier are (first.before earlier low);
}

-- So the first mark says which row with messages is the first.
pub first_row : (result : Option ℕ) (rows : List (List Stamped)) (words : List ℕ) → AreMarked rows words → MatchOption result ((place : ℕ) → place < 256 → mark_at place words ≡ 0) (λ place. IsFirstMark place words) → MatchOption result (joined (padded rows) ≡ []) (λ place. IsFirstFilled place (padded rows))
first_row None rows words are first = unmarked_none rows words are first
first_row (Some place) rows words are first = first_filled rows words place are first

pub mark_of-insert_of : (message : Stamped) (row : List Stamped) → mark_of (insert_of message row) ≡ 1
mark_of-insert_of message [] = refl
mark_of-insert_of message (m ∷ ms) = at (is_before (key_of message) m)
  where
    at : (b : Bool) → mark_of (cond b (m ∷ insert_of message ms) (message ∷ m ∷ ms)) ≡ 1
    at true = refl
    at false = refl

-- A row that was written, and marked where it has messages.
pub marked-set : (rows : List (List Stamped)) (words after : List ℕ) (place : ℕ) (row : List Stamped) → AreMarked rows words → place < length rows → mark_at place after ≡ mark_of row → ((other : ℕ) → other ≢ place → mark_at other after ≡ mark_at other words) → AreMarked (set rows place row) after
marked-set rows words after place row are within here others = record {
  made = λ some. length-set rows place row ∙ are.made (omega (arith, length-set rows place row));
  marks = λ other. at other (cases_eq other place);
}
  where
    at : (other : ℕ) → (other ≡ place) ⊎ (other ≡ place → ⊥) → mark_at other after ≡ mark_of (get_or (set rows place row) other [])
    at other (inl same) =
        ap (λ p. mark_at p after) same ∙ here
        ∙ ap mark_of (sym (get_or-set_same rows place row [] within))
        ∙ ap (λ p. mark_of (get_or (set rows place row) p [])) (sym same)
    at other (inr differs) =
        others other differs ∙ are.marks other ∙ ap mark_of (sym (get_or-set_other rows place other row [] differs))

-- The marks are those of the rows once they are made.
pub marked-padded : (rows : List (List Stamped)) (words : List ℕ) → AreMarked rows words → AreMarked (padded rows) words
marked-padded rows words are = record {
  made = λ some. length-padded rows are.made;
  marks = λ place. are.marks place ∙ ap mark_of (sym (row-padded rows place));
}

-- ---- one row

-- what is shown of a row that was written
pub written_row : (rows now : List (List Stamped)) (place : ℕ) (row : List Stamped) → padded rows ≡ now → place < length rows → (padded (set rows place row) ≡ set now place row) × (get_or (set now place row) place [] ≡ row)
written_row rows now place row shown within = (
  padded_all (set rows place row) (omega (arith, length-set rows place row)) ∙ ap (λ (rs : List (List Stamped)). set rs place row) same,
  ap (λ (rs : List (List Stamped)). get_or (set rs place row) place []) (sym same) ∙ get_or-set_same rows place row [] within,
)
  where
    same : rows ≡ now
    same = sym (padded_all rows (omega arith)) ∙ shown

-- Rows of which one gave its first message, if it had one.
pub record IsRowTaken (result : Option Stamped) (place : ℕ) (now after : List (List Stamped)) : Type 0 where
  pub rows : after ≡ set now place (get_or after place [])
  pub value : MatchOption result ((get_or now place [] ≡ []) × (after ≡ now)) (λ message. get_or now place [] ≡ message ∷ get_or after place [])

pub row_taken : (result : Option Stamped) (rows now : List (List Stamped)) (place : ℕ) (row rest : List Stamped) → padded rows ≡ now → place < length rows → row ≡ get_or rows place row → MatchOption result ((row ≡ []) × (rest ≡ [])) (λ message. row ≡ message ∷ rest) → IsRowTaken result place now (padded (set rows place rest))
row_taken result rows now place row rest shown within is taken = record {
  rows = written.0 ∙ ap (set now place) (sym at_place);
  value = by result taken;
}
  where
    written : (padded (set rows place rest) ≡ set now place rest) × (get_or (set now place rest) place [] ≡ rest)
    written = written_row rows now place rest shown within

    at_place : get_or (padded (set rows place rest)) place [] ≡ rest
    at_place = ap (λ (rs : List (List Stamped)). get_or rs place []) written.0 ∙ written.1

    was : get_or now place [] ≡ row
    was =
        ap (λ (rs : List (List Stamped)). get_or rs place []) (sym shown)
        ∙ row-padded rows place
        ∙ sym (get_or_read rows place row within is [])

    by : (r : Option Stamped) → MatchOption r ((row ≡ []) × (rest ≡ [])) (λ message. row ≡ message ∷ rest) → MatchOption r ((get_or now place [] ≡ []) × (padded (set rows place rest) ≡ now)) (λ message. get_or now place [] ≡ message ∷ get_or (padded (set rows place rest)) place [])
    by None both = (
      was ∙ both.0,
      written.0 ∙ ap (set now place) (both.1 ∙ sym both.0 ∙ sym was) ∙ set-get_or now place [],
    )
    by (Some message) is_first = was ∙ is_first ∙ ap (λ (l : List Stamped). message ∷ l) (sym at_place)

-- The least key of a row, where it isn't there.
pub no_peek : (rows now : List (List Stamped)) (place : ℕ) → padded rows ≡ now → length rows ≤ place → get_or now place [] ≡ []
no_peek rows now place shown past =
    ap (λ (rs : List (List Stamped)). get_or rs place []) (sym shown) ∙ row-padded rows place ∙ past_all rows place past

pub row_is : (rows now : List (List Stamped)) (place : ℕ) (row : List Stamped) → padded rows ≡ now → place < length rows → row ≡ get_or rows place row → row ≡ get_or now place []
row_is rows now place row shown within is =
    get_or_read rows place row within is []
    ∙ sym (row-padded rows place)
    ∙ ap (λ (rs : List (List Stamped)). get_or rs place []) shown

-- rows that were made where there were none
pub made_rows : (rows made now : List (List Stamped)) (place : ℕ) → padded rows ≡ now → made ≡ padded rows → (0 < length rows → length rows ≡ 256) → place < 256 → (padded made ≡ now) × (place < length made)
made_rows rows made now place shown is all within =
    (ap padded is ∙ padded_twice rows ∙ shown, omega (arith, ap length is, length-padded rows all))

-- what is shown of rows of which one has a message more
pub row_with : (rows now : List (List Stamped)) (place : ℕ) (message : Stamped) (row after : List Stamped) → padded rows ≡ now → place < length rows → row ≡ get_or rows place row → after ≡ insert_of message row → padded (set rows place after) ≡ set now place (insert_of message (get_or now place []))
row_with rows now place message row after shown within at is =
    (written_row rows now place after shown within).0
    ∙ ap (set now place) (is ∙ ap (insert_of message) (row_is rows now place row shown within at))

-- rows of which none changed
pub row_kept : (rows : List (List Stamped)) (place : ℕ) (row after : List Stamped) → row ≡ get_or rows place row → after ≡ row → set rows place after ≡ rows
row_kept rows place row after at is = ap (set rows place) (is ∙ at) ∙ set-get_or rows place row

-- ---- times

first_less : (r s : Ordering) → r ≡ Less → ordering_then r s ≡ Less
first_less Less s is = refl
first_less Equal s is = cc
first_less Greater s is = cc

-- An earlier message has the lesser key.
pub earlier_less : (a b : Stamped) → a.time < b.time → key_cmp (key_of a) (key_of b) ≡ Less
earlier_less a b earlier = first_less (nat_cmp a.time b.time) _ (sym (nat_cmp_is a.time b.time Less earlier))

rows_after : (base : ℕ) (row : List Stamped) (rows : List (List Stamped)) → AreTimed base (row ∷ rows) → AreTimed (base + 1) rows
rows_after base row rows timed = λ place k d within. omega (arith, timed (suc place) k d within)

-- A message that is put into the row of its time is put in its place among all.
pub joined-set : (base place : ℕ) (rows : List (List Stamped)) (message : Stamped) → AreTimed base rows → message.time ≡ base + place → place < length rows → joined (set rows place (insert_of message (get_or rows place []))) ≡ insert_of message (joined rows)
joined-set base place [] message timed time within = absurd (omega arith)
joined-set base zero (row ∷ rows) message timed time within =
    sym (insert-append_left message row (joined rows) (All-joined (λ m. is_before (key_of message) m ≡ false) rows later))
  where
    later : (place : ℕ) → All (λ m. is_before (key_of message) m ≡ false) (get_or rows place [])
    later place k d low =
        turned_before message (get_or (get_or rows place []) k d) Less (earlier_less message (get_or (get_or rows place []) k d) (omega (arith, timed (suc place) k d low)))
joined-set base (suc place) (row ∷ rows) message timed time within =
    ap (λ (l : List Stamped). row ++ l) (joined-set (base + 1) place rows message (rows_after base row rows timed) (omega arith) (omega arith))
    ∙ sym (insert-append_right message row (joined rows) earlier)
  where
    earlier : All (λ m. is_before (key_of message) m ≡ true) row
    earlier k d low = ap is_lt (earlier_less (get_or row k d) message (omega (arith, timed 0 k d low)))

-- Rows of which one was written are timed where that one is.
pub timed-set : (base place : ℕ) (rows : List (List Stamped)) (row : List Stamped) → AreTimed base rows → place < length rows → All (λ m. m.time ≡ base + place) row → AreTimed base (set rows place row)
timed-set base place rows row timed within here other = at (cases_eq other place)
  where
    at : (other ≡ place) ⊎ (other ≡ place → ⊥) → All (λ m. m.time ≡ base + other) (get_or (set rows place row) other [])
    at (inl same) =
        subst (λ p. All (λ m. m.time ≡ base + p) (get_or (set rows place row) p [])) (sym same)
        (subst (All (λ m. m.time ≡ base + place)) (sym (get_or-set_same rows place row [] within)) here)
    at (inr differs) =
        subst (All (λ m. m.time ≡ base + other)) (sym (get_or-set_other rows place other row [] differs)) (timed other)

-- Where there are no messages each base will do.
pub timed_again : (base again : ℕ) (rows : List (List Stamped)) → AreTimed base rows → (joined rows ≡ []) ⊎ (again ≡ base) → AreTimed again rows
timed_again base again rows timed (inl none) =
    λ place. All-from_joined (λ m. m.time ≡ again + place) rows place (subst (All (λ m. m.time ≡ again + place)) (sym none) (λ k d within. absurd (omega arith)))
timed_again base again rows timed (inr same) = subst (λ b. AreTimed b rows) (sym same) timed

-- ---- rings

-- a message more
pub ring_with : (base : ℕ) (rows after : List (List Stamped)) (message : Stamped) (place : ℕ) → IsRing base rows → message.time ≡ base + place → place < 256 → HasNoKey (key_of message) (joined rows) → after ≡ set rows place (insert_of message (get_or rows place [])) → IsRing base after × (joined after ≡ insert_of message (joined rows))
ring_with base rows after message place ring time within none is = (
  record {
    all = ap length is ∙ length-set rows place _ ∙ ring.all;
    timed = subst (AreTimed base) (sym is) (timed-set base place rows _ ring.timed (omega (arith, ring.all)) (All-insert_of (λ m. m.time ≡ base + place) message (get_or rows place []) time (ring.timed place)));
    rising = subst IsRising (sym all) (IsRising-insert_of message (joined rows) none ring.rising);
  },
  all,
)
  where
    all : joined after ≡ insert_of message (joined rows)
    all = ap joined is ∙ joined-set base place rows message ring.timed time (omega (arith, ring.all))

-- no message yet
pub ring_none : (base : ℕ) → IsRing base (padded [])
ring_none base = record {
  all = length-padded [] (λ some. absurd (omega arith));
  timed = λ place. subst (All (λ m. m.time ≡ base + place)) (sym (row-padded [] place)) (λ k d within. absurd (omega arith));
  rising = subst IsRising (sym (joined-padded [])) refl;
}

-- another base, where there are no messages
pub ring_again : (base again : ℕ) (rows : List (List Stamped)) → IsRing base rows → (joined rows ≡ []) ⊎ (again ≡ base) → IsRing again rows
ring_again base again rows ring kept = record {
  all = ring.all;
  timed = timed_again base again rows ring.timed kept;
  rising = ring.rising;
}

-- A ring after an insertion, which may be refused.
pub record IsPutIn {T E : Type 0} (result : Result T E) (message : Stamped) (base : ℕ) (rows after : List (List Stamped)) : Type 0 where
  pub ring : IsRing base after
  pub ok : OnOk result (joined after ≡ insert_of message (joined rows))
  pub err : OnErr result (joined after ≡ joined rows)

pub put_in_ring : {T E : Type 0} (result : Result T E) (message : Stamped) (base place : ℕ) (rows after : List (List Stamped)) → IsRing base rows → message.time ≡ base + place → place < 256 → HasNoKey (key_of message) (joined rows) → OnOk result (after ≡ set rows place (insert_of message (get_or rows place []))) → OnErr result (after ≡ rows) → IsPutIn result message base rows after
put_in_ring (Ok x) message base place rows after ring time within none ok err =
    let both = ring_with base rows after message place ring time within none ok in
    record { ring = both.0; ok = both.1; err = tt }
put_in_ring (Err e) message base place rows after ring time within none ok err =
    record { ring = subst (IsRing base) (sym err) ring; ok = tt; err = ap joined err }

-- the same, by what is seen of the ring
pub put_in_seen : {T E : Type 0} (result : Result T E) (message : Stamped) (base again : ℕ) (rows after : List (List Stamped)) (ring : RingModel) → ◌≡◌ {A = RingModel} (record { base = base; messages = joined rows }) ring → IsRing base rows → again ≤ message.time → message.time < again + 256 → (ring.messages ≡ []) ⊎ (again ≡ ring.base) → HasNoKey (key_of message) ring.messages →
    OnOk result (after ≡ set rows (message.time - again) (insert_of message (get_or rows (message.time - again) []))) → OnErr result (after ≡ rows) → IsPutIn result message again rows after
put_in_seen result message base again rows after ring shown is_ring low high kept none ok err =
    put_in_ring result message again (message.time - again) rows after (ring_again base again rows is_ring (by kept)) (omega arith) (omega arith) (subst (λ (r : RingModel). HasNoKey (key_of message) r.messages) (sym shown) none) ok err
  where
    by : (ring.messages ≡ []) ⊎ (again ≡ ring.base) → (joined rows ≡ []) ⊎ (again ≡ base)
    by (inl nothing) = inl (ap (λ (r : RingModel). r.messages) shown ∙ nothing)
    by (inr same) = inr (same ∙ sym (ap (λ (r : RingModel). r.base) shown))

-- A key that no message of a ring has is new to each row.
pub new_in_row : (key : Key) (base place : ℕ) (rows : List (List Stamped)) (ring : RingModel) → ◌≡◌ {A = RingModel} (record { base = base; messages = joined rows }) ring → HasNoKey key ring.messages → HasNoKey key (get_or rows place [])
new_in_row key base place rows ring shown none =
    All-from_joined (λ m. key_of m ≢ key) rows place (subst (λ (r : RingModel). HasNoKey key r.messages) (sym shown) none)

-- the first message less
pub ring_without : (base : ℕ) (rows after : List (List Stamped)) (message : Stamped) (place : ℕ) → IsRing base rows → IsFirstFilled place rows → after ≡ set rows place (get_or after place []) → get_or rows place [] ≡ message ∷ get_or after place [] → IsRing base after × (joined rows ≡ message ∷ joined after)
ring_without base rows after message place ring first is row = (
  record {
    all = ap length is ∙ length-set rows place _ ∙ ring.all;
    timed = subst (AreTimed base) (sym is) (timed-set base place rows (get_or after place []) ring.timed (omega (arith, ring.all, first.within)) (All-tail (λ m. m.time ≡ base + place) message (get_or after place []) (subst (All (λ m. m.time ≡ base + place)) row (ring.timed place))));
    rising = rest_rises message (joined after) (subst IsRising all ring.rising);
  },
  all,
)
  where
    same_length : length after ≡ length rows
    same_length = ap length is ∙ length-set rows place _

    kept : (earlier : ℕ) → earlier < place → get_or after earlier [] ≡ []
    kept earlier low =
        let other : earlier ≢ place = omega arith in
        ap (λ (rs : List (List Stamped)). get_or rs earlier []) is
        ∙ get_or-set_other rows place earlier (get_or after place []) [] other
        ∙ first.before earlier low

    rest : drop (suc place) after ≡ drop (suc place) rows
    rest =
        ap (drop (suc place)) is
        ∙ drop-set-lt (suc place) rows place (get_or after place []) (omega arith)

    all : joined rows ≡ message ∷ joined after
    all =
        joined_from rows place (omega (arith, ring.all, first.within)) first.before
        ∙ ap (λ (l : List Stamped). l ++ joined (drop (suc place) rows)) row
        ∙ ap (λ (l : List (List Stamped)). message ∷ (get_or after place [] ++ joined l)) (sym rest)
        ∙ ap (λ (l : List Stamped). message ∷ l) (sym (joined_from after place (omega (arith, same_length, ring.all, first.within)) kept))

peek-append : (first second : List Stamped) → mark_of first ≡ 1 → peek_of (first ++ second) ≡ peek_of first
peek-append [] second some = absurd (omega arith)
peek-append (m ∷ ms) second some = refl

-- The least key of all is that of the first row that has messages.
pub peek-joined : (rows : List (List Stamped)) (place : ℕ) → length rows ≡ 256 → IsFirstFilled place rows → peek_of (joined rows) ≡ peek_of (get_or rows place [])
peek-joined rows place all first =
    ap peek_of (joined_from rows place (omega (arith, all, first.within)) first.before)
    ∙ peek-append (get_or rows place []) (joined (drop (suc place) rows)) first.filled

-- Where a row has messages there are some.
pub filled_some : (rows : List (List Stamped)) (place : ℕ) → IsFirstFilled place rows → joined rows ≡ [] → ⊥
filled_some rows place first none =
    let all : All (λ _. ⊥) (get_or rows place []) = All-from_joined (λ _. ⊥) rows place (subst (All (λ _. ⊥)) (sym none) (λ k d within. absurd (omega arith))) in
    by (get_or rows place []) first.filled all
  where
    by : (row : List Stamped) → mark_of row ≡ 1 → All (λ _. ⊥) row → ⊥
    by [] some all = absurd (omega arith)
    by (m ∷ ms) some all = all 0 m (omega arith)

-- A ring after the first message of its first row was taken.
pub record IsTakenFrom (result : Option Stamped) (base : ℕ) (rows after : List (List Stamped)) : Type 0 where
  pub ring : IsRing base after
  pub value : MatchOption result ((joined rows ≡ []) × (joined after ≡ [])) (λ message. joined rows ≡ message ∷ joined after)

pub taken_from_ring : (result : Option Stamped) (base place : ℕ) (rows after : List (List Stamped)) → IsRing base rows → IsFirstFilled place rows → after ≡ set rows place (get_or after place []) → MatchOption result ((get_or rows place [] ≡ []) × (after ≡ rows)) (λ message. get_or rows place [] ≡ message ∷ get_or after place []) → IsTakenFrom result base rows after
taken_from_ring None base place rows after ring first is taken =
    absurd (omega (arith, first.filled, ap mark_of taken.0))
taken_from_ring (Some message) base place rows after ring first is taken =
    let both = ring_without base rows after message place ring first is taken in
    record { ring = both.0; value = both.1 }

-- Where there are messages, a time that is near is one of the ring's cycles.
pub near_some : (base place : ℕ) (rows : List (List Stamped)) (ring : RingModel) (time : ℕ) → ◌≡◌ {A = RingModel} (record { base = base; messages = joined rows }) ring → IsFirstFilled place rows → IsNear ring time → (base ≤ time) × (time < base + 256)
near_some base place rows ring time shown first (inl none) =
    absurd (filled_some rows place first (ap (λ (r : RingModel). r.messages) shown ∙ none))
near_some base place rows ring time shown first (inr both) =
    let same : base ≡ ring.base = ap (λ (r : RingModel). r.base) shown in
    (omega (arith, both.0), omega (arith, both.1))

-- and each of these times is near
pub near_within : (base : ℕ) (rows : List (List Stamped)) (ring : RingModel) (time : ℕ) → ◌≡◌ {A = RingModel} (record { base = base; messages = joined rows }) ring → base ≤ time → time < base + 256 → IsNear ring time
near_within base rows ring time shown low high =
    let same : base ≡ ring.base = ap (λ (r : RingModel). r.base) shown in
    inr (omega arith, omega arith)
