-- Lists of different places.
use Rattle.std.proofs.Common.{◌≡◌, ◌⊎◌, inl, inr, ℕ, zero, suc, Bool, true, false, List, [], ◌∷◌, ◌++◌, flat_map, slice_get, Some, refl, sym, ap, subst, ◌∙◌, arith}
use Rattle.std.specs.Prelude.{Contains}
use Rattle.std.specs.List.{list_any}
use Rattle.std.proofs.lemmas.Bool.{or_from, true≢false}
use Rattle.std.proofs.lemmas.Option.{same_Some}
use Rattle.std.proofs.lemmas.List.Elements.{Contains-append_left, Contains-append_right, Contains-append_cases, Contains-push_cases}
use Rattle.spectra_resolved.specs.declared.spot.Spot.{Spot}
use Rattle.spectra_resolved.specs.Spots.{same_place}
use Rattle.spectra_meant.proofs.Numbers.{none_some}
use Rattle.spectra_types.proofs.Places.{place_turned}

-- no place of the one is one of the other
abbrev pub AreApart : (vs ws : List Spot) → Type 0
AreApart vs ws = (v w : Spot) → Contains vs v → Contains ws w → same_place v w ≡ false

-- no two of them are one
abbrev pub AreDifferent : List Spot → Type 0
AreDifferent [] = Unit {0}
AreDifferent (v ∷ vs) = ((w : Spot) → Contains vs w → same_place v w ≡ false) × AreDifferent vs

not_same : (a b : Spot) → same_place a b ≡ false → same_place b a ≡ false
not_same a b differ = by (same_place b a) refl
  where
    by : (is : Bool) → same_place b a ≡ is → is ≡ false
    by true same = absurd (true≢false (sym (place_turned b a same) ∙ differ))
    by false same = refl

-- ---- elements

pub by_cases : {A B P : Type 0} → (A → P) → (B → P) → A ⊎ B → P
by_cases one other (inl a) = one a
by_cases one other (inr b) = other b

module _ {X : Type 0} where
  pub head_in : (x : X) (xs : List X) → Contains (x ∷ xs) x
  head_in x xs = (0, omega arith, refl)

  pub rest_in : (x : X) (xs : List X) (y : X) → Contains xs y → Contains (x ∷ xs) y
  rest_in x xs y is = Contains-append_right (x ∷ []) xs y is

  pub none_in : (x : X) → Contains [] x → ⊥
  none_in x is = let below = is.1 in absurd (omega (arith, below))

  pub head_or_rest : (x : X) (xs : List X) (y : X) → Contains (x ∷ xs) y → (x ≡ y) ⊎ Contains xs y
  head_or_rest x xs y is = by (Contains-append_cases (x ∷ []) xs y is)
    where
      one : Contains [] y ⊎ (x ≡ y) → (x ≡ y) ⊎ Contains xs y
      one (inl is) = absurd (none_in y is)
      one (inr same) = inl same

      by : Contains (x ∷ []) y ⊎ Contains xs y → (x ≡ y) ⊎ Contains xs y
      by (inl is) = one (Contains-push_cases [] x y is)
      by (inr is) = inr is

  pub found_in : (xs : List X) (k : ℕ) (x : X) → slice_get xs k ≡ Some x → Contains xs x
  found_in [] k x there = absurd (none_some there)
  found_in (y ∷ xs) zero x there = subst (Contains (y ∷ xs)) (same_Some y x there) (head_in y xs)
  found_in (y ∷ xs) (suc k) x there = rest_in y xs x (found_in xs k x there)

  pub within_each : {Y : Type 0} (f : X → List Y) (xs : List X) (x : X) (y : Y) → Contains xs x → Contains (f x) y → Contains (flat_map f xs) y
  within_each f [] x y is inside = absurd (none_in x is)
  within_each f (z ∷ xs) x y is inside =
      by_cases (λ same. Contains-append_left (f z) (flat_map f xs) y (subst (λ a. Contains (f a) y) (sym same) inside))
      (λ more. Contains-append_right (f z) (flat_map f xs) y (within_each f xs x y more inside)) (head_or_rest z xs x is)

  pub none_any : (p : X → Bool) (xs : List X) → ((x : X) → Contains xs x → p x ≡ false) → list_any p xs ≡ false
  none_any p [] none = refl
  none_any p (x ∷ xs) none = or_from (p x) (list_any p xs) (none x (head_in x xs)) (none_any p xs (λ y is. none y (rest_in x xs y is)))

-- ---- parts

pub record AreParts (vs ws : List Spot) : Type 0 where
  pub first : AreDifferent vs
  pub second : AreDifferent ws
  pub apart : AreApart vs ws

pub parts : (vs ws : List Spot) → AreDifferent (vs ++ ws) → AreParts vs ws
parts [] ws different = record { first = tt; second = different; apart = λ v w is. absurd (none_in v is) }
parts (u ∷ vs) ws different =
    let rest = parts vs ws different.1 in
    record {
      first = (λ w is. different.0 w (Contains-append_left vs ws w is), rest.first);
      second = rest.second;
      apart = λ v w is there. by_cases (λ same. ap (λ a. same_place a w) (sym same) ∙ different.0 w (Contains-append_right vs ws w there)) (λ more. rest.apart v w more there) (head_or_rest u vs v is);
    }

pub joined : (vs ws : List Spot) → AreDifferent vs → AreDifferent ws → AreApart vs ws → AreDifferent (vs ++ ws)
joined [] ws first second apart = second
joined (v ∷ vs) ws first second apart =
    (λ w is. by_cases (first.0 w) (apart v w (head_in v vs)) (Contains-append_cases vs ws w is), joined vs ws first.1 second (λ u w in_vs in_ws. apart u w (rest_in v vs u in_vs) in_ws))

-- those of each of several, and of two of them
module _ {X : Type 0} (of : X → List Spot) where
  pub each_different : (xs : List X) (x : X) → AreDifferent (flat_map of xs) → Contains xs x → AreDifferent (of x)
  each_different [] x different is = absurd (none_in x is)
  each_different (y ∷ xs) x different is =
      let both = parts (of y) (flat_map of xs) different in
      by_cases (λ same. subst (λ a. AreDifferent (of a)) same both.first) (each_different xs x both.second) (head_or_rest y xs x is)

  pub two_apart : (xs : List X) (j k : ℕ) (x y : X) → AreDifferent (flat_map of xs) → slice_get xs j ≡ Some x → slice_get xs k ≡ Some y → (j ≡ k → ⊥) → AreApart (of x) (of y)
  two_apart [] j k x y different one other unlike = absurd (none_some one)
  two_apart (z ∷ xs) zero zero x y different one other unlike = absurd (unlike refl)
  two_apart (z ∷ xs) zero (suc k) x y different one other unlike =
      subst (λ a. AreApart (of a) (of y)) (same_Some z x one) (λ v w is there. (parts (of z) (flat_map of xs) different).apart v w is (within_each of xs y w (found_in xs k y other) there))
  two_apart (z ∷ xs) (suc j) zero x y different one other unlike =
      subst (λ a. AreApart (of x) (of a)) (same_Some z y other)
      (λ v w is there. not_same w v ((parts (of z) (flat_map of xs) different).apart w v there (within_each of xs x v (found_in xs j x one) is)))
  two_apart (z ∷ xs) (suc j) (suc k) x y different one other unlike =
      two_apart xs j k x y (parts (of z) (flat_map of xs) different).second one other (λ same. unlike (ap suc same))

-- two sorts of places of each of several
module _ {X : Type 0} (one other : X → List Spot) where
  abbrev both : X → List Spot
  both x = one x ++ other x

  some_of_one : (xs : List X) (v : Spot) → Contains (flat_map one xs) v → Contains (flat_map both xs) v
  some_of_one [] v is = is
  some_of_one (x ∷ xs) v is =
      by_cases (λ here. Contains-append_left (both x) (flat_map both xs) v (Contains-append_left (one x) (other x) v here)) (λ more. Contains-append_right (both x) (flat_map both xs) v (some_of_one xs v more))
      (Contains-append_cases (one x) (flat_map one xs) v is)

  some_of_other : (xs : List X) (v : Spot) → Contains (flat_map other xs) v → Contains (flat_map both xs) v
  some_of_other [] v is = is
  some_of_other (x ∷ xs) v is =
      by_cases (λ here. Contains-append_left (both x) (flat_map both xs) v (Contains-append_right (one x) (other x) v here)) (λ more. Contains-append_right (both x) (flat_map both xs) v (some_of_other xs v more))
      (Contains-append_cases (other x) (flat_map other xs) v is)

  pub sorts : (xs : List X) → AreDifferent (flat_map both xs) → AreParts (flat_map one xs) (flat_map other xs)
  sorts [] different = record { first = tt; second = tt; apart = λ v w is. absurd (none_in v is) }
  sorts (x ∷ xs) different =
      let front = parts (both x) (flat_map both xs) different in
      let here = parts (one x) (other x) front.first in
      let rest = sorts xs front.second in
      record {
        first = joined (one x) (flat_map one xs) here.first rest.first (λ v w is there. front.apart v w (Contains-append_left (one x) (other x) v is) (some_of_one xs w there));
        second = joined (other x) (flat_map other xs) here.second rest.second (λ v w is there. front.apart v w (Contains-append_right (one x) (other x) v is) (some_of_other xs w there));
        apart = λ v w is there.
            by_cases
            (λ in_one. by_cases (λ in_other. here.apart v w in_one in_other) (λ later. front.apart v w (Contains-append_left (one x) (other x) v in_one) (some_of_other xs w later)) (Contains-append_cases (other x) (flat_map other xs) w there))
            (λ later. by_cases (λ in_other. not_same w v (front.apart w v (Contains-append_right (one x) (other x) w in_other) (some_of_one xs v later))) (λ more. rest.apart v w later more) (Contains-append_cases (other x) (flat_map other xs) w there))
            (Contains-append_cases (one x) (flat_map one xs) v is);
      }
