-- Lists that are gathered, element by element.
use Rattle.std.proofs.Common.{◌≡◌, ℕ, zero, suc, ◌-◌, ◌<◌, List, [], ◌∷◌, ◌++◌, map, length, get_or, slice_get, Some, ap, sym, ◌∙◌, refl, subst, arith}
use Rattle.std.proofs.lemmas.List.{append-nil, append_assoc, map-append}
use Rattle.spec_model.specs.Steps.{below}
use Rattle.spec_model.specs.Sets.{StateSet}
use Rattle.regions.specs.Kept.{Kept, HasRegion}
use Rattle.gr1_sys.specs.Held.{MakesRegions, HasEach}
use Rattle.gr1_sys.proofs.Lists.{makes_both, length_map, each_append}
use Rattle.gr1_sys.proofs.Turned.{split_same}
use Rattle.gr1_env.specs.Held.{gather, AllOf, last_of}

pub gather-push : {X Y : Type 0} (f : ℕ → X → List Y) (xs : List X) (x : X) → gather f (xs ++ x ∷ []) ≡ gather f xs ++ f (length xs) x
gather-push f [] x = append-nil (f 0 x)
gather-push f (first ∷ xs) x =
    ap (λ ys. f 0 first ++ ys) (gather-push (λ n. f (suc n)) xs x) ∙
    (sym (append_assoc (f 0 first) (gather (λ n. f (suc n)) xs) (f (suc (length xs)) x)) ∙
    (let next : suc (length xs) ≡ length (first ∷ xs) = omega arith in ap (λ n. gather f (first ∷ xs) ++ f n x) next))

pub all_of-push : {X : Type 0} (P : ℕ → X → Type 0) (xs : List X) (x : X) → AllOf P xs → P (length xs) x → AllOf P (xs ++ x ∷ [])
all_of-push P [] x all last = (last, tt)
all_of-push P (first ∷ xs) x all last =
    let next : length (first ∷ xs) ≡ suc (length xs) = omega arith in
    (all.0, all_of-push (λ n. P (suc n)) xs x all.1 (subst (λ n. P n x) next last))

pub all_of-at : {X : Type 0} (P : ℕ → X → Type 0) (xs : List X) → AllOf P xs → (i : ℕ) (d : X) → i < length xs → P i (get_or xs i d)
all_of-at P [] all i d before = absurd (omega (arith, before))
all_of-at P (x ∷ xs) all zero d before = all.0
all_of-at P (x ∷ xs) all (suc i) d before = all_of-at (λ n. P (suc n)) xs all.1 i d (omega (arith, before))

-- what several stand for, one of them stands for
pub gather-at : {X Y Z : Type 0} (f : Y → Z) (R : ℕ → X → List Y) (S : ℕ → X → List Z) → ((n : ℕ) (x : X) → length (R n x) ≡ length (S n x)) → (xs : List X) → map f (gather R xs) ≡ gather S xs →
    (i : ℕ) (d : X) → i < length xs → map f (R i (get_or xs i d)) ≡ S i (get_or xs i d)
gather-at f R S counted [] are i d before = absurd (omega (arith, before))
gather-at f R S counted (x ∷ xs) are zero d before =
    (split_same (map f (R 0 x)) (map f (gather (λ n. R (suc n)) xs)) (S 0 x) (gather (λ n. S (suc n)) xs) (length_map f (R 0 x) ∙ counted 0 x) (sym (map-append f (R 0 x) (gather (λ n. R (suc n)) xs)) ∙ are)).0
gather-at f R S counted (x ∷ xs) are (suc i) d before =
    gather-at f (λ n. R (suc n)) (λ n. S (suc n)) (λ n. counted (suc n)) xs
    (split_same (map f (R 0 x)) (map f (gather (λ n. R (suc n)) xs)) (S 0 x) (gather (λ n. S (suc n)) xs) (length_map f (R 0 x) ∙ counted 0 x) (sym (map-append f (R 0 x) (gather (λ n. R (suc n)) xs)) ∙ are)).1 i d (omega (arith, before))

pub each_gathered : {X R M : Type 0} (k : Kept R M) (f : ℕ → X → List R) (xs : List X) (i : ℕ) (d : X) → HasEach k (gather f xs) → i < length xs → HasEach k (f i (get_or xs i d))
each_gathered k f [] i d each before = absurd (omega (arith, before))
each_gathered k f (x ∷ xs) zero d each before = (each_append k (f 0 x) (gather (λ n. f (suc n)) xs) each).0
each_gathered k f (x ∷ xs) (suc i) d each before = each_gathered k (λ n. f (suc n)) xs i d (each_append k (f 0 x) (gather (λ n. f (suc n)) xs) each).1 (omega (arith, before))

module _ {R M : Type 0} where
  -- one more was made
  pub makes_next : {X : Type 0} (first k new : Kept R M) (regions : ℕ → X → List R) (sets : ℕ → X → List StateSet) (xs : List X) (x : X) →
      MakesRegions first k (gather regions xs) (gather sets xs) → MakesRegions k new (regions (length xs) x) (sets (length xs) x) →
      MakesRegions first new (gather regions (xs ++ x ∷ [])) (gather sets (xs ++ x ∷ []))
  makes_next first k new regions sets xs x made more =
      subst (λ (rs : List R). MakesRegions first new rs (gather sets (xs ++ x ∷ []))) (sym (gather-push regions xs x))
      (subst (MakesRegions first new (gather regions xs ++ regions (length xs) x)) (sym (gather-push sets xs x))
      (makes_both first k new (gather regions xs) (regions (length xs) x) (gather sets xs) (sets (length xs) x) made more))

-- ---- the last of a list

pub last_of-push : {X : Type 0} (none : X) (xs : List X) (x : X) → last_of none (xs ++ x ∷ []) ≡ x
last_of-push none [] x = refl
last_of-push none (first ∷ xs) x = last_of-push first xs x

pub last_of-map : {X Y : Type 0} (f : X → Y) (none : X) (xs : List X) → f (last_of none xs) ≡ last_of (f none) (map f xs)
last_of-map f none [] = refl
last_of-map f none (x ∷ xs) = last_of-map f x xs

pub last_of-below : {X : Type 0} (f : ℕ → X) (n : ℕ) → last_of (f 0) (map (λ r. f (suc r)) (below n)) ≡ f n
last_of-below f zero = refl
last_of-below f (suc n) = ap (last_of (f 0)) (map-append (λ r. f (suc r)) (below n) (n ∷ [])) ∙ last_of-push (f 0) (map (λ r. f (suc r)) (below n)) (f (suc n))

last_of_is : {X : Type 0} (none first : X) (xs : List X) (n : ℕ) → n ≡ length xs → (x : X) → Some x ≡ slice_get (first ∷ xs) n → x ≡ last_of none (first ∷ xs)
last_of_is none first [] zero e x is = cc
last_of_is none first [] (suc n) e x is = absurd (omega arith)
last_of_is none first (next ∷ xs) zero e x is = absurd (omega arith)
last_of_is none first (next ∷ xs) (suc n) e x is = last_of_is first next xs n (omega arith) x is

pub last_found : {X : Type 0} (none : X) (xs : List X) (x : X) → Some x ≡ slice_get xs (length xs - 1) → x ≡ last_of none xs
last_found none [] x is = cc
last_found none (first ∷ xs) x is = last_of_is none first xs (length (first ∷ xs) - 1) (omega arith) x is

pub last_held : {R M : Type 0} (k : Kept R M) (none : R) (rs : List R) → HasRegion k none → HasEach k rs → HasRegion k (last_of none rs)
last_held k none [] here each = here
last_held k none (r ∷ rs) here each = last_held k r rs each.0 each.1
