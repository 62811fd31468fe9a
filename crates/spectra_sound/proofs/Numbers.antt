-- Enum names have their places as numbers: each mentioned one has one, and different ones have different ones.
use Rattle.std.proofs.Common.{◌≡◌, ℕ, suc, ◌+◌, ◌<◌, ◌==◌, nat_lt, Bool, true, false, not, ◌||◌, if◌then◌else◌, cond, List, [], ◌∷◌, ◌++◌, Some, None, length, map, get_or, unwrap_or, refl, sym, ap, subst, ◌∙◌, arith}
use Rattle.std.specs.Prelude.{position}
use Rattle.std.specs.Str.{bytes_eq}
use Rattle.std.specs.List.{list_any, list_all, position_or_len, prefix_len}
use Rattle.std.proofs.lemmas.List.Sums.{prefix_len_stops}
use Rattle.std.proofs.lemmas.Bool.{and_parts, and_from, or_parts, or_from, or_left, or_right, lt-ltb, not-true, not_from_false, false≢true, false_from_ne_true, not-false}
use Rattle.std.proofs.lemmas.Bool.Decides.{Decides-eqb}
use Rattle.spec_model.specs.WellMade.{all_differ}
use Rattle.spec_model.proofs.AllStates.{Every}
use Rattle.spec_model.proofs.Listed.{every_weaker}
use Rattle.spectra_trees.specs.Data.{NameData}
use Rattle.spectra_resolved.specs.Enums.{with_names}
use Rattle.spectra_declared.specs.Items.{FiledItem, enum_names_of}
use Rattle.spectra_declared.specs.Declarations.{enums_with}
use Rattle.spectra_sound.proofs.EnumNames.{eq-self, eq-same, any-push}

-- ---- each name is there

-- a name stands among the enum names
abbrev pub IsThere : List (List ℕ) → NameData → Type 0
IsThere enums n = list_any (bytes_eq n.text) enums ≡ true

kept : (text : List ℕ) (names : List (List ℕ)) (ns : List NameData) → list_any (bytes_eq text) names ≡ true → list_any (bytes_eq text) (with_names names ns) ≡ true
kept text names [] there = there
kept text names (n ∷ ns) there = kept text (if list_any (bytes_eq n.text) names then names else names ++ n.text ∷ []) ns (by (list_any (bytes_eq n.text) names))
  where
    by : (b : Bool) → list_any (bytes_eq text) (if b then names else names ++ n.text ∷ []) ≡ true
    by true = there
    by false = any-push (bytes_eq text) names n.text ∙ or_left _ _ there

each_there : (names : List (List ℕ)) (ns : List NameData) → Every (IsThere (with_names names ns)) ns
each_there names [] = tt
each_there names (n ∷ ns) = (
  kept n.text (if list_any (bytes_eq n.text) names then names else names ++ n.text ∷ []) ns (by (list_any (bytes_eq n.text) names) refl),
  each_there (if list_any (bytes_eq n.text) names then names else names ++ n.text ∷ []) ns,
)
  where
    by : (b : Bool) → list_any (bytes_eq n.text) names ≡ b → list_any (bytes_eq n.text) (if b then names else names ++ n.text ∷ []) ≡ true
    by true is = is
    by false is = any-push (bytes_eq n.text) names n.text ∙ or_right _ _ (eq-self n.text)

kept_items : (text : List ℕ) (names : List (List ℕ)) (items : List FiledItem) → list_any (bytes_eq text) names ≡ true → list_any (bytes_eq text) (enums_with names items) ≡ true
kept_items text names [] there = there
kept_items text names (i ∷ items) there = kept_items text (with_names names (enum_names_of i.1)) items (kept text names (enum_names_of i.1) there)

-- every enum name of an item stands among these
abbrev pub AreThere : List (List ℕ) → FiledItem → Type 0
AreThere enums i = Every (IsThere enums) (enum_names_of i.1)

pub items_there : (names : List (List ℕ)) (items : List FiledItem) → Every (AreThere (enums_with names items)) items
items_there names [] = tt
items_there names (i ∷ items) = (
  every_weaker (IsThere (with_names names (enum_names_of i.1))) (IsThere (enums_with (with_names names (enum_names_of i.1)) items))
      (λ n there. kept_items n.text (with_names names (enum_names_of i.1)) items there) (enum_names_of i.1) (each_there names (enum_names_of i.1)),
  items_there (with_names names (enum_names_of i.1)) items,
)

-- ---- numbers

abbrev pub number_in : List (List ℕ) → List ℕ → ℕ
number_in enums text = unwrap_or (position (bytes_eq text) enums) 0

below_end : {X : Type 0} (p : X → Bool) (xs : List X) → list_any p xs ≡ true → position_or_len p xs < length xs
below_end p [] there = absurd (false≢true there)
below_end p (x ∷ xs) there = by (p x) refl (below_end p xs)
  where
    by : (b : Bool) → p x ≡ b → (list_any p xs ≡ true → position_or_len p xs < length xs) → cond (not b) (1 + prefix_len (λ y. not (p y)) xs) 0 < suc (length xs)
    by true is rest = omega arith
    by false is rest = let more = rest (sym (ap (λ b. b || list_any p xs) is) ∙ there) in omega arith

-- a name that is there has a number, and the name with that number is it
pub record IsNumbered (enums : List (List ℕ)) (text : List ℕ) : Type 0 where
  pub below : number_in enums text < length enums
  pub back : get_or enums (number_in enums text) [] ≡ text

pub numbered : (enums : List (List ℕ)) (text : List ℕ) → list_any (bytes_eq text) enums ≡ true → IsNumbered enums text
numbered enums text there =
    let place = position_or_len (bytes_eq text) enums in
    let low = below_end (bytes_eq text) enums there in
    let is : number_in enums text ≡ place = ap (λ b. unwrap_or (cond b (Some place) None) 0) (lt-ltb _ _ low) in
    let stops = prefix_len_stops (λ y. not (bytes_eq text y)) enums [] low in
    record {
      below = subst (λ k. k < length enums) (sym is) low;
      back = ap (λ k. get_or enums k []) is ∙ sym (eq-same text (get_or enums place []) (not-false _ stops));
    }

-- names with one number are the same
same_number-eq : (enums : List (List ℕ)) (a b : List ℕ) → IsNumbered enums a → IsNumbered enums b → (number_in enums a == number_in enums b) ≡ true → bytes_eq a b ≡ true
same_number-eq enums a b at_a at_b same =
    subst (λ x. bytes_eq a x ≡ true) (sym at_a.back ∙ ap (λ k. get_or enums k []) ((Decides-eqb _ _).0 same) ∙ at_b.back) (eq-self a)

-- a name is among others by their numbers as it is by their texts
not_among : (enums : List (List ℕ)) (a : List ℕ) (bs : List (List ℕ)) → IsNumbered enums a → Every (IsNumbered enums) bs → list_any (bytes_eq a) bs ≡ false → list_any (λ m. number_in enums a == m) (map (number_in enums) bs) ≡ false
not_among enums a [] at_a at_bs none = refl
not_among enums a (b ∷ bs) at_a at_bs none =
    let parts = or_parts (bytes_eq a b) (list_any (bytes_eq a) bs) none in
    or_from _ _ (false_from_ne_true _ (λ same. false≢true (sym parts.0 ∙ same_number-eq enums a b at_a at_bs.0 same))) (not_among enums a bs at_a at_bs.1 parts.1)

pub numbers_differ : (enums : List (List ℕ)) (as' : List (List ℕ)) → Every (IsNumbered enums) as' → all_differ bytes_eq as' ≡ true → all_differ (λ m n. m == n) (map (number_in enums) as') ≡ true
numbers_differ enums [] at differ = refl
numbers_differ enums (a ∷ as') at differ =
    let parts = and_parts _ _ differ in
    and_from _ _ (not_from_false _ (not_among enums a as' at.0 at.1 (not-true _ parts.0))) (numbers_differ enums as' at.1 parts.1)

pub numbers_below : (enums : List (List ℕ)) (as' : List (List ℕ)) → Every (IsNumbered enums) as' → list_all (λ k. nat_lt k (length enums)) (map (number_in enums) as') ≡ true
numbers_below enums [] at = refl
numbers_below enums (a ∷ as') at = and_from _ _ (lt-ltb _ _ at.0.below) (numbers_below enums as' at.1)
