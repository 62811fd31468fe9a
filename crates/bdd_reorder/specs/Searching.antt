-- Parts of diagrams that are found by their numbers, while some wait to be looked at. No public clause cites this.
use Rattle.std.specs.Prelude.{◌≡◌, ◌↔◌, ◌⊎◌, ◌+◌, ◌*◌, ℕ, Bool, true, false, List, [], ◌∷◌, slice_index_or}
use Rattle.std.specs.List.{Contains}
use Rattle.spec_model.specs.Diagrams.{Diagram, constant, branch, IsReduced}
use Rattle.node_table.specs.Table.{Table, IsLive, diagram_at}
use Rattle.bdd_reorder.specs.Copying.{size_of}
use Rattle.bdd_reorder.specs.Counting.{IsConstant, IsPartOfOne}

-- exactly the numbers of the list have a flag
abbrev pub AreMarked : List Bool → List ℕ → Type 0
AreMarked seen numbers = (n : ℕ) → (slice_index_or seen n false ≡ true) ↔ Contains numbers n

-- the diagram is that of a number of the list
abbrev pub IsNumbered : Table → List ℕ → Diagram → Type 0
IsNumbered t numbers d = (n : ℕ) × Contains numbers n × (diagram_at t n ≡ d)

-- the diagram is a constant, or that of a number that was found or waits
abbrev pub IsSeen : Table → List ℕ → List ℕ → Diagram → Type 0
IsSeen t found waiting d = IsConstant d ⊎ (IsNumbered t found d ⊎ IsNumbered t waiting d)

-- the diagram is a branch of two such diagrams
abbrev pub HasParts : (Diagram → Type 0) → Diagram → Type 0
HasParts P (constant b) = ⊥
HasParts P (branch level low high) = P low × P high

-- a live node's reduced diagram that is no constant, both parts of which are seen
pub record IsFound (t : Table) (found waiting : List ℕ) (n : ℕ) : Type 0 where
  pub live : IsLive t n
  pub reduced : IsReduced (diagram_at t n)
  pub parts : HasParts (IsSeen t found waiting) (diagram_at t n)

-- no two of these numbers have the same diagram
abbrev pub AreApart : Table → List ℕ → Type 0
AreApart t [] = Unit {0}
AreApart t (n ∷ ns) = ((m : ℕ) → Contains ns m → diagram_at t m ≡ diagram_at t n → ⊥) × AreApart t ns

-- the diagrams are seen, and only parts of theirs are found or wait
pub record IsSearched (t : Table) (ds : List Diagram) (found waiting : List ℕ) : Type 0 where
  pub each : (n : ℕ) → Contains found n → IsFound t found waiting n
  pub apart : AreApart t found
  pub seen : (d : Diagram) → Contains ds d → IsSeen t found waiting d
  pub only : (n : ℕ) → Contains found n → IsPartOfOne ds (diagram_at t n)
  pub waits : (n : ℕ) → Contains waiting n → IsPartOfOne ds (diagram_at t n)

-- how often is looked at most, where these wait
abbrev pub turns_over : Table → List ℕ → ℕ
turns_over t [] = 0
turns_over t (n ∷ ns) = (1 + 2 * size_of (diagram_at t n)) + turns_over t ns
