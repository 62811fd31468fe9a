-- Items that are made and spent, many at once.
use Rattle.std.proofs.Common.{◌≡◌, ℕ, ◌+◌, ◌≤◌, List, [], ◌∷◌, ◌++◌, map, length, Vec, vec_len, ap, sym, ◌∙◌, refl, subst, arith}
use Rattle.std.proofs.lemmas.List.{map-append, nil_from_length}
use Rattle.std.specs.declared.alloc.Global.{Global}
use Rattle.spec_model.specs.Sets.{StateSet}
use Rattle.regions.specs.Kept.{Kept, Item, Region, Meaning, States, meaning_of, weight, IsHeld, HoldsBesides, Spends, IsExact}
use Rattle.gr1_sys.specs.Held.{HasEach, HasTogether, weight_as as sets_as, SpendsAll as SpendsRegions}
use Rattle.strategy_parts.specs.Owned.{weight_as, HasAll, SpendsAll, region_items}

pub length_map : {X Y : Type 0} (f : X → Y) (xs : List X) → length (map f xs) ≡ length xs
length_map f [] = refl
length_map f (x ∷ xs) = let rest = length_map f xs in omega arith

pub length_both : {X : Type 0} (xs ys : List X) → length (xs ++ ys) ≡ length xs + length ys
length_both [] ys = omega arith
length_both (x ∷ xs) ys = let rest = length_both xs ys in omega arith

-- a vector of no length has no items
pub none_left : {X : Type 0} (v : Vec X Global) → vec_len v ≡ 0 → v.items ≡ []
none_left v e = nil_from_length v.items (omega arith)

module _ {R M : Type 0} where
  pub weight_as-append : (is js : List (Item R M)) (ms ns : List Meaning) (w : Item R M → Meaning → ℕ) → length is ≡ length ms → weight_as (is ++ js) (ms ++ ns) w ≡ weight_as is ms w + weight_as js ns w
  unfolding weight_as
  weight_as-append [] js [] ns w e = omega arith
  weight_as-append [] js (m ∷ ms) ns w e = absurd (omega arith)
  weight_as-append (i ∷ is) js [] ns w e = absurd (omega arith)
  weight_as-append (i ∷ is) js (m ∷ ms) ns w e = let rest = weight_as-append is js ms ns w (omega arith) in omega arith

  pub weight_as-one : (i : Item R M) (m : Meaning) (w : Item R M → Meaning → ℕ) → weight_as (i ∷ []) (m ∷ []) w ≡ w i m
  unfolding weight_as
  weight_as-one i m w = omega arith

  pub weight_as-more : (i : Item R M) (is : List (Item R M)) (m : Meaning) (ms : List Meaning) (w : Item R M → Meaning → ℕ) → weight_as (i ∷ is) (m ∷ ms) w ≡ w i m + weight_as is ms w
  unfolding weight_as
  weight_as-more i is m ms w = refl

  pub weight_as-none : (w : Item R M → Meaning → ℕ) → weight_as [] [] w ≡ 0
  unfolding weight_as
  weight_as-none w = refl

  -- likewise, as what they stand for
  pub weight_as_map-append : (f : Item R M → Meaning) (is js : List (Item R M)) (w : Item R M → Meaning → ℕ) → weight_as (is ++ js) (map f (is ++ js)) w ≡ weight_as is (map f is) w + weight_as js (map f js) w
  weight_as_map-append f is js w = ap (λ ms. weight_as (is ++ js) ms w) (map-append f is js) ∙ weight_as-append is js (map f is) (map f js) w (sym (length_map f is))

  -- ---- what they stand for

  pub as_held : (k : Kept R M) (is : List (Item R M)) (ms : List Meaning) → IsExact k → length is ≡ length ms → ((w : Item R M → Meaning → ℕ) → weight_as is ms w ≤ weight k w) → map (meaning_of k) is ≡ ms
  unfolding weight_as
  as_held k [] [] exact e held = refl
  as_held k [] (m ∷ ms) exact e held = absurd (omega arith)
  as_held k (i ∷ is) [] exact e held = absurd (omega arith)
  as_held k (i ∷ is) (m ∷ ms) exact e held =
      let first = exact i m (λ w. omega (arith, held w)) in
      let rest = as_held k is ms exact (omega arith) (λ w. omega (arith, held w)) in
      ap (λ t. t ∷ map (meaning_of k) is) first ∙ ap (λ ts. m ∷ ts) rest

  pub all_as : (k : Kept R M) (is : List (Item R M)) (ms : List Meaning) → IsExact k → length is ≡ length ms → ((w : Item R M → Meaning → ℕ) → weight_as is ms w ≤ weight k w) → HasAll k is
  all_as k is ms exact counted held = subst (λ ts. (w : Item R M → Meaning → ℕ) → weight_as is ts w ≤ weight k w) (sym (as_held k is ms exact counted held)) held

  pub spent_as : (old new : Kept R M) (is : List (Item R M)) (ms : List Meaning) → IsExact old → length is ≡ length ms → ((w : Item R M → Meaning → ℕ) → weight_as is ms w ≤ weight old w) →
      SpendsAll old new is → (w : Item R M → Meaning → ℕ) → weight new w + weight_as is ms w ≡ weight old w
  spent_as old new is ms exact counted held gone =
      subst (λ ts. (w : Item R M → Meaning → ℕ) → weight new w + weight_as is ts w ≡ weight old w) (as_held old is ms exact counted held) gone.held

  -- what is held together stays so where more is held
  pub all_stay : (old new : Kept R M) (is : List (Item R M)) → IsExact new → ((w : Item R M → Meaning → ℕ) → weight old w ≤ weight new w) → HasAll old is → HasAll new is
  all_stay old new is exact more held =
      all_as new is (map (meaning_of old) is) exact (sym (length_map (meaning_of old) is)) (λ w. omega (arith, held w, more w))

  -- ---- spent one after the other, from the last

  -- what is held besides what is left was held at first but for what was given
  abbrev pub IsLeft : Kept R M → Kept R M → List (Item R M) → List (Item R M) → Type 0
  IsLeft first k given left = (w : Item R M → Meaning → ℕ) → weight k w + weight_as given (map (meaning_of first) given) w ≡ weight first w + weight_as left (map (meaning_of first) left) w

  pub last_together : (first k : Kept R M) (given left last : List (Item R M)) → IsExact k → HasAll first given → IsLeft first k given (left ++ last) → HasAll k last
  last_together first k given left last exact held is_left =
      all_as k last (map (meaning_of first) last) exact (sym (length_map (meaning_of first) last)) (λ w. omega (arith, held w, is_left w, weight_as_map-append (meaning_of first) left last w))

  pub last_spent : (first k new : Kept R M) (given left last : List (Item R M)) → IsExact k → HasAll first given → IsLeft first k given (left ++ last) → SpendsAll k new last → IsLeft first new given left
  last_spent first k new given left last exact held is_left gone =
      let spent = spent_as k new last (map (meaning_of first) last) exact (sym (length_map (meaning_of first) last)) (λ w. omega (arith, held w, is_left w, weight_as_map-append (meaning_of first) left last w)) gone in
      λ w. omega (arith, spent w, is_left w, weight_as_map-append (meaning_of first) left last w)

  pub all_spent : (first k : Kept R M) (given : List (Item R M)) → IsLeft first k given [] → k.jam ≡ first.jam → SpendsAll first k given
  all_spent first k given is_left jam = record { held = λ w. omega (arith, is_left w, weight_as-none w); jam = jam }

  -- a list of one
  pub one_together : (k : Kept R M) (i : Item R M) → HasAll k (i ∷ []) → IsHeld k i
  one_together k i held w = omega (arith, held (λ i m. w i), weight_as-one i (meaning_of k i) (λ i m. w i))

  pub one_spent : (old new : Kept R M) (i : Item R M) → Spends old new i → SpendsAll old new (i ∷ [])
  one_spent old new i gone = record { held = λ w. omega (arith, gone.held w, weight_as-one i (meaning_of old i) w); jam = gone.jam }

  -- the first of several, and the others
  pub first_together : (k : Kept R M) (i : Item R M) (is : List (Item R M)) → HasAll k (i ∷ is) → IsHeld k i
  first_together k i is held w = omega (arith, held (λ i m. w i), weight_as-more i is (meaning_of k i) (map (meaning_of k) is) (λ i m. w i))

  pub rest_together : (k new : Kept R M) (i : Item R M) (is : List (Item R M)) → IsExact new → HasAll k (i ∷ is) → Spends k new i → HasAll new is
  rest_together k new i is exact held gone =
      all_as new is (map (meaning_of k) is) exact (sym (length_map (meaning_of k) is)) (λ w. omega (arith, held w, gone.held w, weight_as-more i is (meaning_of k i) (map (meaning_of k) is) w))

  pub first_and_rest : (k new last : Kept R M) (i : Item R M) (is : List (Item R M)) → IsExact new → HasAll k (i ∷ is) → Spends k new i → SpendsAll new last is → SpendsAll k last (i ∷ is)
  first_and_rest k new last i is exact held gone others =
      let left = spent_as new last is (map (meaning_of k) is) exact (sym (length_map (meaning_of k) is)) (λ w. omega (arith, held w, gone.held w, weight_as-more i is (meaning_of k i) (map (meaning_of k) is) w)) others in
      record { held = λ w. omega (arith, left w, gone.held w, weight_as-more i is (meaning_of k i) (map (meaning_of k) is) w); jam = others.jam ∙ gone.jam }

  -- ---- two lists, one after the other

  pub front_together : (k : Kept R M) (is js : List (Item R M)) → HasAll k (is ++ js) → HasAll k is
  front_together k is js held w = omega (arith, held w, weight_as_map-append (meaning_of k) is js w)

  pub back_together : (k k1 : Kept R M) (is js : List (Item R M)) → IsExact k1 → HasAll k (is ++ js) → SpendsAll k k1 is → HasAll k1 js
  back_together k k1 is js exact held gone =
      all_as k1 js (map (meaning_of k) js) exact (sym (length_map (meaning_of k) js)) (λ w. omega (arith, held w, gone.held w, weight_as_map-append (meaning_of k) is js w))

  pub front_and_back : (k k1 last : Kept R M) (is js : List (Item R M)) → IsExact k1 → HasAll k (is ++ js) → SpendsAll k k1 is → SpendsAll k1 last js → SpendsAll k last (is ++ js)
  front_and_back k k1 last is js exact held gone others =
      let left = spent_as k1 last js (map (meaning_of k) js) exact (sym (length_map (meaning_of k) js)) (λ w. omega (arith, held w, gone.held w, weight_as_map-append (meaning_of k) is js w)) others in
      record { held = λ w. omega (arith, left w, gone.held w, weight_as_map-append (meaning_of k) is js w); jam = others.jam ∙ gone.jam }

-- ---- the regions of layers

module _ {R M : Type 0} where
  regions_weigh : (k : Kept R M) (rs : List R) (w : Item R M → Meaning → ℕ) → sets_as rs (map k.set rs) w ≡ weight_as (region_items rs) (map (meaning_of k) (region_items rs)) w
  unfolding weight_as sets_as
  regions_weigh k [] w = refl
  regions_weigh k (r ∷ rs) w = ap (λ n. w (Region r) (States (k.set r)) + n) (regions_weigh k rs w)

  pub regions_together : (k : Kept R M) (rs : List R) → HasAll k (region_items rs) → HasTogether k rs
  regions_together k rs held w = omega (arith, held w, regions_weigh k rs w)

  pub together_regions : (k : Kept R M) (rs : List R) → HasTogether k rs → HasAll k (region_items rs)
  together_regions k rs held w = omega (arith, held w, regions_weigh k rs w)

  pub sets_as-more : (r : R) (rs : List R) (s : StateSet) (ss : List StateSet) (w : Item R M → Meaning → ℕ) → sets_as (r ∷ rs) (s ∷ ss) w ≡ w (Region r) (States s) + sets_as rs ss w
  unfolding sets_as
  sets_as-more r rs s ss w = refl

  pub together_each : (k : Kept R M) (rs : List R) → HasTogether k rs → HasEach k rs
  together_each k [] held = tt
  together_each k (r ∷ rs) held = (
    (λ w. omega (arith, held (λ i m. w i), sets_as-more r rs (k.set r) (map k.set rs) (λ i m. w i))),
    together_each k rs (λ w. omega (arith, held w, sets_as-more r rs (k.set r) (map k.set rs) w)),
  )

  pub regions_spent : (old new : Kept R M) (rs : List R) → SpendsRegions old new rs → SpendsAll old new (region_items rs)
  regions_spent old new rs gone = record { held = λ w. omega (arith, gone.held w, regions_weigh old rs w); jam = gone.jam }

  -- regions that were held as a call gave up are held still
  pub regions_still : (k k1 : Kept R M) (rs : List R) → IsExact k1 → HasTogether k rs → HoldsBesides k k1 [] → HasTogether k1 rs
  regions_still k k1 rs exact held halted = regions_together k1 rs (all_stay k k1 (region_items rs) exact (λ w. omega (arith, halted w)) (together_regions k rs held))

  -- and are spent as what they stood for
  pub regions_gone : (k k1 k2 : Kept R M) (rs : List R) → IsExact k1 → HasTogether k rs → HoldsBesides k k1 [] → SpendsRegions k1 k2 rs → (w : Item R M → Meaning → ℕ) → weight k2 w + sets_as rs (map k.set rs) w ≡ weight k w
  regions_gone k k1 k2 rs exact held halted gone w =
      let before = together_regions k rs held in
      let left = spent_as k1 k2 (region_items rs) (map (meaning_of k) (region_items rs)) exact (sym (length_map (meaning_of k) (region_items rs))) (λ w. omega (arith, before w, halted w)) (regions_spent k1 k2 rs gone) w in
      omega (arith, left, halted w, regions_weigh k rs w)
