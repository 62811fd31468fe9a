-- Moving one slot at a time to where it helps most.
use Rattle.std.specs.Prelude.{◌≡◌, ◌≢◌, ◌<◌, ◌≤◌, ◌⊎◌, ℕ, suc, Option, Some, None, List, length, slice_index_or}
use Rattle.std.specs.List.{insert, remove}
use Rattle.spec_model.specs.Diagrams.{Function}
use Rattle.variable_order.specs.Sizes.{HasNodes}

-- the order with one slot taken out at a place and put in so that it stands at another
abbrev pub moved : List ℕ → ℕ → ℕ → List ℕ
moved order i j = insert (remove order i) j (slice_index_or order i 0)

-- two different places of the order, none among the first ones, whose slots stay
pub record IsMove (fixed : ℕ) (order : List ℕ) (i j : ℕ) : Type 0 where
  pub from_low : fixed ≤ i
  pub from_high : i < length order
  pub to_low : fixed ≤ j
  pub to_high : j < length order
  pub apart : i ≢ j

-- a move comes before another: by the place of what is moved, and then by its new place
abbrev pub IsBefore : ℕ → ℕ → ℕ → ℕ → Type 0
IsBefore i j k l = (i < k) ⊎ ((i ≡ k) × (j < l))

module _ (fixed : ℕ) (widths : List ℕ) (fs : List Function) where
  -- after the move there are so many parts, or more
  abbrev pub HasAtLeast : List ℕ → ℕ → ℕ → ℕ → Type 0
  HasAtLeast order n i j = (k : ℕ) × HasNodes widths fs (moved order i j) k × (n ≤ k)

  -- no move makes fewer parts
  abbrev pub IsBest : List ℕ → ℕ → Type 0
  IsBest order n = (i j : ℕ) → IsMove fixed order i j → HasAtLeast order n i j

  -- the move makes fewer parts, and all before it make more
  pub record IsFirstWith (order : List ℕ) (n m i j : ℕ) : Type 0 where
    pub move : IsMove fixed order i j
    pub size : HasNodes widths fs (moved order i j) m
    pub fewer : m < n
    pub first : (k l : ℕ) → IsMove fixed order k l → IsBefore k l i j → HasAtLeast order (suc m) k l

  -- of all moves it is the first of those that make the fewest parts, and these are fewer
  pub record IsFirstBest (order : List ℕ) (n m i j : ℕ) : Type 0 where
    pub first : IsFirstWith order n m i j
    pub least : IsBest order m

  -- from an order with so many parts on, each next one is reached by the first of the best moves
  pub data Reaches (start : List ℕ) (n : ℕ) : List ℕ → ℕ → Type 0 where
    starts : Reaches start n start n
    next : {order : List ℕ} {k : ℕ} (m i j : ℕ) → Reaches start n order k → IsFirstBest order k m i j → Reaches start n (moved order i j) m

  -- until none makes fewer parts
  pub record IsClimb (start : List ℕ) (n : ℕ) (last : List ℕ) (k : ℕ) : Type 0 where
    pub reached : Reaches start n last k
    pub best : IsBest last k

  -- what is known of the moves so far: the fewest parts, and the first move that makes them
  abbrev pub IsKnown : List ℕ → ℕ → ℕ → Option (ℕ × ℕ) → Type 0
  IsKnown order n m None = m ≡ n
  IsKnown order n m (Some move) = IsFirstWith order n m move.0 move.1

  pub record KnowsBest (order : List ℕ) (n : ℕ) (i j : ℕ) (m : ℕ) (move : Option (ℕ × ℕ)) : Type 0 where
    pub least : (k l : ℕ) → IsMove fixed order k l → IsBefore k l i j → HasAtLeast order m k l
    pub known : IsKnown order n m move
