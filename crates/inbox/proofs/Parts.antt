-- The parts of lists of messages.
use Rattle.std.proofs.Common.{◌≡◌, ◌≢◌, ℕ, ◌<◌, ◌≤◌, ◌==◌, nat_lt, not, Bool, true, false, true≢false, List, [], ◌∷◌, ◌++◌, if◌then◌else◌, refl, ap, sym, ◌∙◌, append_assoc, append-nil, eq-eqb, ne_eqb, arith}
use Rattle.std.specs.List.{All, filter}
use Rattle.std.proofs.lemmas.List.Elements.{filter-append, filter_passes, All-nil, All-cons, All-head, All-tail, All-filter}
use Rattle.std.proofs.lemmas.Bool.Decides.{nat_tests}
use Rattle.wt_proto.specs.declared.message.Stamped.{Stamped}
use Rattle.inbox.specs.Views.{part}

abbrev pub AreWithin : ℕ → ℕ → List Stamped → Type 0
AreWithin lo hi messages = All (λ (message : Stamped). (lo ≤ message.from) × (message.from < hi)) messages

abbrev pub AreBelow : ℕ → List Stamped → Type 0
AreBelow hi messages = All (λ (message : Stamped). message.from < hi) messages

pub part_append : (s : ℕ) (xs ys : List Stamped) → part s (xs ++ ys) ≡ part s xs ++ part s ys
part_append s xs ys = filter-append (λ (m : Stamped). m.from == s) xs ys

same : (x : Stamped) (xs : List Stamped) → part x.from (x ∷ xs) ≡ x ∷ part x.from xs
same x xs = ap (λ (b : Bool). if b then x ∷ part x.from xs else part x.from xs) (eq-eqb x.from x.from refl)

pub apart : (s : ℕ) (x : Stamped) (xs : List Stamped) → x.from ≢ s → part s (x ∷ xs) ≡ part s xs
apart s x xs n = ap (λ (b : Bool). if b then x ∷ part s xs else part s xs) (ne_eqb x.from s n)

-- ---- what was put in and what the history has grow together

pub grown : (s : ℕ) (taken items sent : List Stamped) (x : Stamped) → part s (taken ++ items) ≡ part s sent → part s (taken ++ (items ++ x ∷ [])) ≡ part s (sent ++ x ∷ [])
grown s taken items sent x e =
    ap (part s) (sym (append_assoc taken items (x ∷ [])))
    ∙ part_append s (taken ++ items) (x ∷ [])
    ∙ ap (λ (l : List Stamped). l ++ part s (x ∷ [])) e
    ∙ sym (part_append s sent (x ∷ []))

pub ungrown : (s : ℕ) (taken items sent : List Stamped) (x : Stamped) → x.from ≢ s → part s (taken ++ items) ≡ part s sent → part s (taken ++ (items ++ x ∷ [])) ≡ part s sent
ungrown s taken items sent x n e =
    grown s taken items sent x e ∙ part_append s sent (x ∷ []) ∙ ap (λ (l : List Stamped). part s sent ++ l) (apart s x [] n) ∙ append-nil (part s sent)

-- ---- a test that keeps a source

pub kept_if : (s : ℕ) (q : Stamped → Bool) (xs : List Stamped) → ((x : Stamped) → x.from ≡ s → q x ≡ true) → part s (filter q xs) ≡ part s xs
kept_if s q [] keeps = refl
kept_if s q (x ∷ xs) keeps = by (q x) refl (kept_if s q xs keeps)
  where
    by : (b : Bool) → q x ≡ b → part s (filter q xs) ≡ part s xs → part s (filter q (x ∷ xs)) ≡ part s (x ∷ xs)
    by true e rest =
        ap (λ (b : Bool). part s (if b then x ∷ filter q xs else filter q xs)) e
        ∙ ap (λ (l : List Stamped). if x.from == s then x ∷ l else l) rest
    by false e rest =
        ap (λ (b : Bool). part s (if b then x ∷ filter q xs else filter q xs)) e
        ∙ rest ∙ sym (apart s x xs (λ is. true≢false (sym (keeps x is) ∙ e)))

pub kept_below : (mid s : ℕ) (xs : List Stamped) → s < mid → part s (filter (λ (m : Stamped). nat_lt m.from mid) xs) ≡ part s xs
kept_below mid s xs h = kept_if s (λ (m : Stamped). nat_lt m.from mid) xs (λ x is. grind (arith, nat_tests))

pub kept_above : (mid s : ℕ) (xs : List Stamped) → mid ≤ s → part s (filter (λ (m : Stamped). not (nat_lt m.from mid)) xs) ≡ part s xs
kept_above mid s xs h = kept_if s (λ (m : Stamped). not (nat_lt m.from mid)) xs (λ x is. grind (arith, nat_tests))

-- ---- no message of a source

pub none_of : (s lo hi : ℕ) (xs : List Stamped) → AreWithin lo hi xs → ((n : ℕ) → lo ≤ n → n < hi → n ≢ s) → part s xs ≡ []
none_of s lo hi [] within out = refl
none_of s lo hi (x ∷ xs) within out =
    let here = All-head (λ (m : Stamped). (lo ≤ m.from) × (m.from < hi)) x xs within in
    apart s x xs (out x.from here.0 here.1) ∙ none_of s lo hi xs (All-tail (λ (m : Stamped). (lo ≤ m.from) × (m.from < hi)) x xs within) out

-- of no source there is no message at all
pub nothing : (sources : ℕ) (xs : List Stamped) → AreBelow sources xs → ((s : ℕ) → s < sources → part s xs ≡ []) → xs ≡ []
nothing sources [] below none = refl
nothing sources (x ∷ xs) below none =
    let e : x ∷ part x.from xs ≡ [] = sym (same x xs) ∙ none x.from (All-head (λ (m : Stamped). m.from < sources) x xs below) in
    cc

pub nil_left : (xs ys : List Stamped) → xs ++ ys ≡ [] → xs ≡ []
nil_left [] ys e = refl
nil_left (x ∷ xs) ys e = cc

pub nil_right : (xs ys : List Stamped) → xs ++ ys ≡ [] → ys ≡ []
nil_right [] ys e = e
nil_right (x ∷ xs) ys e = cc

-- ---- ranges

pub below_front : (n : ℕ) (xs ys : List Stamped) → AreBelow n (xs ++ ys) → AreBelow n xs
below_front n [] ys below = All-nil (λ (m : Stamped). m.from < n)
below_front n (x ∷ xs) ys below =
    All-cons (λ (m : Stamped). m.from < n) x xs
    (All-head (λ (m : Stamped). m.from < n) x (xs ++ ys) below)
    (below_front n xs ys (All-tail (λ (m : Stamped). m.from < n) x (xs ++ ys) below))

less : (n mid : ℕ) → nat_lt n mid ≡ true → n < mid
less n mid e = grind (arith, nat_tests)

more : (n mid : ℕ) → not (nat_lt n mid) ≡ true → mid ≤ n
more n mid e = grind (arith, nat_tests)

pub within_below : (lo hi mid : ℕ) (xs : List Stamped) → AreWithin lo hi xs → AreWithin lo mid (filter (λ (m : Stamped). nat_lt m.from mid) xs)
within_below lo hi mid xs within = λ k d h.
    let a = All-filter (λ (m : Stamped). nat_lt m.from mid) (λ (m : Stamped). (lo ≤ m.from) × (m.from < hi)) xs within k d h in
    (a.0, less _ mid (filter_passes (λ (m : Stamped). nat_lt m.from mid) xs k d h))

pub within_above : (lo hi mid : ℕ) (xs : List Stamped) → AreWithin lo hi xs → AreWithin mid hi (filter (λ (m : Stamped). not (nat_lt m.from mid)) xs)
within_above lo hi mid xs within = λ k d h.
    let a = All-filter (λ (m : Stamped). not (nat_lt m.from mid)) (λ (m : Stamped). (lo ≤ m.from) × (m.from < hi)) xs within k d h in
    (more _ mid (filter_passes (λ (m : Stamped). not (nat_lt m.from mid)) xs k d h), a.1)
