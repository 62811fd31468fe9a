-- What a strategy owns: regions and moves in one list, and what is held as what they stand for.
use Rattle.std.specs.Prelude.{◌≡◌, ℕ, suc, ◌+◌, ◌≤◌, List, [], ◌∷◌, map, length, None}
use Rattle.spec_model.specs.Sets.{StateSet}
use Rattle.regions.specs.Kept.{Kept, Item, Region, Move, Meaning, States, IsHeldAs, meaning_of, weight}

-- something holds of each of a list
abbrev pub Every : {X : Type 0} → (X → Type 0) → List X → Type 0
Every P [] = Unit {0}
Every P (x ∷ xs) = P x × Every P xs

module _ {R M : Type 0} where
  -- what items weigh as these meanings
  unfoldable pub weight_as : List (Item R M) → List Meaning → (Item R M → Meaning → ℕ) → ℕ
  weight_as [] ms w = 0
  weight_as (i ∷ is) [] w = 0
  weight_as (i ∷ is) (m ∷ ms) w = w i m + weight_as is ms w

  -- they are held together, each as what it stands for
  abbrev pub HasAll : Kept R M → List (Item R M) → Type 0
  HasAll k is = (w : Item R M → Meaning → ℕ) → weight_as is (map (meaning_of k) is) w ≤ weight k w

  -- order aside, new holds what old held but for the items
  abbrev pub HoldsWithoutAll : Kept R M → Kept R M → List (Item R M) → Type 0
  HoldsWithoutAll old new is = (w : Item R M → Meaning → ℕ) → weight new w + weight_as is (map (meaning_of old) is) w ≡ weight old w

  -- after a call that took the items away
  pub record SpendsAll (old new : Kept R M) (is : List (Item R M)) : Type 0 where
    pub held : HoldsWithoutAll old new is
    pub jam : new.jam ≡ old.jam

  -- these items are held besides, with these meanings
  pub record HoldsAll (old new : Kept R M) (is : List (Item R M)) (ms : List Meaning) : Type 0 where
    pub held : (w : Item R M → Meaning → ℕ) → weight new w ≡ weight_as is ms w + weight old w
    pub counted : length is ≡ length ms

  -- after a call that made these items with these meanings
  pub record MakesAll (old new : Kept R M) (is : List (Item R M)) (ms : List Meaning) : Type 0 where
    pub held : (w : Item R M → Meaning → ℕ) → weight new w ≡ weight_as is ms w + weight old w
    pub counted : length is ≡ length ms
    pub jam : new.jam ≡ None

  abbrev pub region_items : List R → List (Item R M)
  region_items rs = map Region rs

  abbrev pub move_items : List M → List (Item R M)
  move_items ms = map Move ms

  -- the regions are held as the sets, one after the other
  abbrev pub RegionsAre : Kept R M → List R → (ℕ → StateSet) → Type 0
  RegionsAre k [] sets = Unit {0}
  RegionsAre k (r ∷ rs) sets = IsHeldAs k (Region r) (States (sets 0)) × RegionsAre k rs (λ i. sets (suc i))

  abbrev pub AreSomewhere : Kept R M → List R → Type 0
  AreSomewhere k rs = (sets : ℕ → StateSet) × RegionsAre k rs sets
