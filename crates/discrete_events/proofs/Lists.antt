-- Members of lists, and options one after the other.
use Rattle.std.proofs.Common.{◌≡◌, ◌⊎◌, List, [], ◌∷◌, ◌++◌, map, Bool, true, false, cond, Option, Some, None, refl, ap, sym, ◌∙◌, subst, inl, inr}
use Rattle.std.specs.Prelude.{flat_map, ◌||◌}
use Rattle.std.specs.List.{list_any, filter, AllByRecursion}
use Rattle.discrete_events.specs.Laws.{IsIn}

pub all_in : {A : Type 0} (P : A → Type 0) (x : A) (xs : List A) → AllByRecursion P xs → IsIn x xs → P x
all_in P x [] all is = absurd is
all_in P x (y ∷ ys) all (inl e) = subst P (sym e) all.0
all_in P x (y ∷ ys) all (inr is) = all_in P x ys all.1 is

pub in_left : {A : Type 0} (x : A) (xs ys : List A) → IsIn x xs → IsIn x (xs ++ ys)
in_left x [] ys is = absurd is
in_left x (y ∷ xs) ys (inl e) = inl e
in_left x (y ∷ xs) ys (inr is) = inr (in_left x xs ys is)

pub in_right : {A : Type 0} (x : A) (xs ys : List A) → IsIn x ys → IsIn x (xs ++ ys)
in_right x [] ys is = is
in_right x (y ∷ xs) ys is = inr (in_right x xs ys is)

pub in_append : {A : Type 0} (x : A) (xs ys : List A) → IsIn x (xs ++ ys) → IsIn x xs ⊎ IsIn x ys
in_append x [] ys is = inr is
in_append x (y ∷ xs) ys (inl e) = inl (inl e)
in_append x (y ∷ xs) ys (inr is) = either (in_append x xs ys is)
  where
    either : IsIn x xs ⊎ IsIn x ys → ((x ≡ y) ⊎ IsIn x xs) ⊎ IsIn x ys
    either (inl h) = inl (inr h)
    either (inr h) = inr h

pub in_map : {A B : Type 0} (f : A → B) (x : A) (xs : List A) → IsIn x xs → IsIn (f x) (map f xs)
in_map f x [] is = absurd is
in_map f x (y ∷ ys) (inl e) = inl (ap f e)
in_map f x (y ∷ ys) (inr is) = inr (in_map f x ys is)

pub from_map : {A B : Type 0} (f : A → B) (z : B) (xs : List A) → IsIn z (map f xs) → (x : A) × IsIn x xs × (z ≡ f x)
from_map f z [] is = absurd is
from_map f z (y ∷ ys) (inl e) = (y, inl refl, e)
from_map f z (y ∷ ys) (inr is) = let h = from_map f z ys is in (h.0, inr h.1, h.2)

pub in_flat_map : {A B : Type 0} (f : A → List B) (z : B) (x : A) (xs : List A) → IsIn x xs → IsIn z (f x) → IsIn z (flat_map f xs)
in_flat_map f z x [] is h = absurd is
in_flat_map f z x (y ∷ ys) (inl e) h = in_left z (f y) (flat_map f ys) (subst (λ a. IsIn z (f a)) e h)
in_flat_map f z x (y ∷ ys) (inr is) h = in_right z (f y) (flat_map f ys) (in_flat_map f z x ys is h)

pub from_flat_map : {A B : Type 0} (f : A → List B) (z : B) (xs : List A) → IsIn z (flat_map f xs) → (x : A) × IsIn x xs × IsIn z (f x)
from_flat_map f z [] is = absurd is
from_flat_map {A} f z (y ∷ ys) is = either (from_flat_map f z ys) (in_append z (f y) (flat_map f ys) is)
  where
    either : (IsIn z (flat_map f ys) → (x : A) × IsIn x ys × IsIn z (f x)) → IsIn z (f y) ⊎ IsIn z (flat_map f ys) → (x : A) × IsIn x (y ∷ ys) × IsIn z (f x)
    either rest (inl h) = (y, inl refl, h)
    either rest (inr h) = let r = rest h in (r.0, inr r.1, r.2)

pub in_filter : {A : Type 0} (p : A → Bool) (x : A) (xs : List A) → IsIn x xs → p x ≡ true → IsIn x (filter p xs)
in_filter p x [] is h = absurd is
in_filter p x (y ∷ ys) (inl e) h = subst (λ b. IsIn x (cond b (y ∷ filter p ys) (filter p ys))) (sym h ∙ ap p e) (inl e)
in_filter p x (y ∷ ys) (inr is) h = later (p y) (in_filter p x ys is h)
  where
    later : (b : Bool) → IsIn x (filter p ys) → IsIn x (cond b (y ∷ filter p ys) (filter p ys))
    later true r = inr r
    later false r = r

pub from_filter : {A : Type 0} (p : A → Bool) (x : A) (xs : List A) → IsIn x (filter p xs) → IsIn x xs × (p x ≡ true)
from_filter p x [] is = absurd is
from_filter p x (y ∷ ys) is = at (from_filter p x ys) (p y) refl is
  where
    at : (IsIn x (filter p ys) → IsIn x ys × (p x ≡ true)) → (b : Bool) → p y ≡ b → IsIn x (cond b (y ∷ filter p ys) (filter p ys)) → IsIn x (y ∷ ys) × (p x ≡ true)
    at rest true e (inl h) = (inl h, ap p h ∙ e)
    at rest true e (inr h) = let r = rest h in (inr r.0, r.1)
    at rest false e h = let r = rest h in (inr r.0, r.1)

pub any_of : {A : Type 0} (p : A → Bool) (x : A) (xs : List A) → IsIn x xs → p x ≡ true → list_any p xs ≡ true
any_of p x [] is h = absurd is
any_of p x (y ∷ ys) (inl e) h = ap (λ b. b || list_any p ys) (sym (ap p e) ∙ h)
any_of p x (y ∷ ys) (inr is) h = ap (λ b. p y || b) (any_of p x ys is h) ∙ either (p y)
  where
    either : (b : Bool) → (b || true) ≡ true
    either true = refl
    either false = refl

pub from_any : {A : Type 0} (p : A → Bool) (xs : List A) → list_any p xs ≡ true → (x : A) × IsIn x xs × (p x ≡ true)
from_any p [] e = cc
from_any {A} p (y ∷ ys) e = at (from_any p ys) (p y) refl e
  where
    at : (list_any p ys ≡ true → (x : A) × IsIn x ys × (p x ≡ true)) → (b : Bool) → p y ≡ b → (b || list_any p ys) ≡ true → (x : A) × IsIn x (y ∷ ys) × (p x ≡ true)
    at rest true is h = (y, inl refl, is)
    at rest false is h = let r = rest h in (r.0, inr r.1, r.2)

pub map_alike : {A B : Type 0} (f g : A → B) (xs : List A) → ((x : A) → IsIn x xs → f x ≡ g x) → map f xs ≡ map g xs
map_alike f g [] is = refl
map_alike f g (x ∷ xs) is = λ i. is x (inl refl) i ∷ map_alike f g xs (λ y h. is y (inr h)) i

pub flat_map_alike : {A B : Type 0} (f g : A → List B) (xs : List A) → ((x : A) → IsIn x xs → f x ≡ g x) → flat_map f xs ≡ flat_map g xs
flat_map_alike f g [] is = refl
flat_map_alike f g (x ∷ xs) is = λ i. is x (inl refl) i ++ flat_map_alike f g xs (λ y h. is y (inr h)) i

pub map_map : {A B C : Type 0} (f : B → C) (g : A → B) (xs : List A) → map f (map g xs) ≡ map (λ x. f (g x)) xs
map_map f g [] = refl
map_map f g (x ∷ xs) = ap (λ ys. f (g x) ∷ ys) (map_map f g xs)

pub flat_map_map : {A B C : Type 0} (f : B → List C) (g : A → B) (xs : List A) → flat_map f (map g xs) ≡ flat_map (λ x. f (g x)) xs
flat_map_map f g [] = refl
flat_map_map f g (x ∷ xs) = ap (λ ys. f (g x) ++ ys) (flat_map_map f g xs)

-- the first answer, and else the second
abbrev pub or_else : {A : Type 0} → Option A → Option A → Option A
or_else None d = d
or_else (Some x) d = Some x

pub or_else_none : {A : Type 0} (a : Option A) → or_else a None ≡ a
or_else_none None = refl
or_else_none (Some x) = refl

pub or_else_assoc : {A : Type 0} (a b c : Option A) → or_else (or_else a b) c ≡ or_else a (or_else b c)
or_else_assoc None b c = refl
or_else_assoc (Some x) b c = refl

-- ---- what passes a test

pub filter_append : {A : Type 0} (p : A → Bool) (xs ys : List A) → filter p (xs ++ ys) ≡ filter p xs ++ filter p ys
filter_append p [] ys = refl
filter_append p (x ∷ xs) ys = ap (λ zs. cond (p x) (x ∷ zs) zs) (filter_append p xs ys) ∙ by (p x)
  where
    by : (b : Bool) → cond b (x ∷ (filter p xs ++ filter p ys)) (filter p xs ++ filter p ys) ≡ cond b (x ∷ filter p xs) (filter p xs) ++ filter p ys
    by true = refl
    by false = refl

pub filter_all : {A : Type 0} (p : A → Bool) (xs : List A) → ((x : A) → IsIn x xs → p x ≡ true) → filter p xs ≡ xs
filter_all p [] all = refl
filter_all p (x ∷ xs) all = λ i. cond (all x (inl refl) i) (x ∷ filter_all p xs (λ y h. all y (inr h)) i) (filter_all p xs (λ y h. all y (inr h)) i)

pub filter_none : {A : Type 0} (p : A → Bool) (xs : List A) → ((x : A) → IsIn x xs → p x ≡ false) → filter p xs ≡ []
filter_none p [] none = refl
filter_none p (x ∷ xs) none = ap (λ (b : Bool). cond b (x ∷ filter p xs) (filter p xs)) (none x (inl refl)) ∙ filter_none p xs (λ y h. none y (inr h))

pub filter_swap : {A : Type 0} (p q : A → Bool) (xs : List A) → filter p (filter q xs) ≡ filter q (filter p xs)
filter_swap p q [] = refl
filter_swap p q (x ∷ xs) = by (filter_swap p q xs) (p x) refl (q x) refl
  where
    by : filter p (filter q xs) ≡ filter q (filter p xs) → (b : Bool) → p x ≡ b → (c : Bool) → q x ≡ c → filter p (cond c (x ∷ filter q xs) (filter q xs)) ≡ filter q (cond b (x ∷ filter p xs) (filter p xs))
    by rest true e true f =
        ap (λ (t : Bool). cond t (x ∷ filter p (filter q xs)) (filter p (filter q xs))) e
        ∙ ap (λ ys. x ∷ ys) rest
        ∙ ap (λ (t : Bool). cond t (x ∷ filter q (filter p xs)) (filter q (filter p xs))) (sym f)
    by rest true e false f = rest ∙ ap (λ (t : Bool). cond t (x ∷ filter q (filter p xs)) (filter q (filter p xs))) (sym f)
    by rest false e true f = ap (λ (t : Bool). cond t (x ∷ filter p (filter q xs)) (filter p (filter q xs))) e ∙ rest
    by rest false e false f = rest

pub filter_map : {A B : Type 0} (p : B → Bool) (f : A → B) (xs : List A) → filter p (map f xs) ≡ map f (filter (λ x. p (f x)) xs)
filter_map p f [] = refl
filter_map p f (x ∷ xs) = ap (λ ys. cond (p (f x)) (f x ∷ ys) ys) (filter_map p f xs) ∙ by (p (f x))
  where
    by : (b : Bool) → cond b (f x ∷ map f (filter (λ y. p (f y)) xs)) (map f (filter (λ y. p (f y)) xs)) ≡ map f (cond b (x ∷ filter (λ y. p (f y)) xs) (filter (λ y. p (f y)) xs))
    by true = refl
    by false = refl

pub filter_flat : {A B : Type 0} (p : B → Bool) (f : A → List B) (xs : List A) → filter p (flat_map f xs) ≡ flat_map (λ x. filter p (f x)) xs
filter_flat p f [] = refl
filter_flat p f (x ∷ xs) = filter_append p (f x) (flat_map f xs) ∙ ap (λ ys. filter p (f x) ++ ys) (filter_flat p f xs)
