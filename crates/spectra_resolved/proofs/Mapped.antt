-- What tests and places see through a `map`.
use Rattle.std.proofs.Common.{◌≡◌, ℕ, Bool, true, false, not, ◌||◌, if◌then◌else◌, List, [], ◌∷◌, ◌++◌, length, map, position, refl, ap, Bor}
use Rattle.std.specs.Str.{bytes_eq}
use Rattle.indexmap.specs.IndexSet.{insert_key}
use Rattle.std.specs.List.{list_any, prefix_len}
use Rattle.std.proofs.lemmas.List.{length-map, map-append}

pub list_any-map : {X Y : Type 0} (p : Y → Bool) (f : X → Y) (xs : List X) → list_any p (map f xs) ≡ list_any (λ x. p (f x)) xs
list_any-map p f [] = refl
list_any-map p f (x ∷ xs) = ap (λ b. p (f x) || b) (list_any-map p f xs)

prefix_len-map : {X Y : Type 0} (p : Y → Bool) (f : X → Y) (xs : List X) → prefix_len p (map f xs) ≡ prefix_len (λ x. p (f x)) xs
prefix_len-map p f [] = refl
prefix_len-map p f (x ∷ xs) = let rest = prefix_len-map p f xs in cc

pub position-map : {X Y : Type 0} (p : Y → Bool) (f : X → Y) (xs : List X) → position p (map f xs) ≡ position (λ x. p (f x)) xs
position-map p f xs =
    let same = prefix_len-map (λ y. not (p y)) f xs in
    let long = length-map xs f in cc

-- a text put behind others, if it isn't there
pub map-insert_key : (k : Bor (List ℕ)) (text : List ℕ) (ks : List (Bor (List ℕ))) → k.now ≡ text
    → map (λ x. x.now) (insert_key (λ x y. bytes_eq x.now y.now) ks k)
    ≡ (if list_any (bytes_eq text) (map (λ x. x.now) ks) then map (λ x. x.now) ks else map (λ x. x.now) ks ++ text ∷ [])
map-insert_key k text ks is = rw (← is, list_any-map (bytes_eq k.now) (λ (x : Bor (List ℕ)). x.now) ks) (by (list_any (λ x. bytes_eq k.now x.now) ks))
  where
    by : (b : Bool) → map (λ x. x.now) (if b then ks else ks ++ k ∷ []) ≡ (if b then map (λ x. x.now) ks else map (λ x. x.now) ks ++ k.now ∷ [])
    by true = refl
    by false = map-append (λ (x : Bor (List ℕ)). x.now) ks (k ∷ [])

pub map_push : {X Y : Type 0} (f : X → Y) (xs : List X) (x : X) → map f (xs ++ x ∷ []) ≡ map f xs ++ f x ∷ []
map_push f xs x = map-append f xs (x ∷ [])

pub length_map : {X Y : Type 0} (f : X → Y) (xs : List X) → length (map f xs) ≡ length xs
length_map f xs = length-map xs f

pub ruleset pushed = (map_push, length_map)

pub ruleset mapped = (list_any-map, position-map)
