-- What a full store needs for a result: nodes that stand in a diagram that may be made.
use Rattle.std.specs.Prelude.{ℕ}
use Rattle.spec_model.specs.Diagrams.{Diagram, IsPartOf}
use Rattle.bdd_store.specs.State.{State, IsEdge, diagram_of}

-- the node stands in one that may be made
abbrev pub StandsInMade : State → (Diagram → Type 0) → ℕ → Type 0
StandsInMade s MayMake n = (r : ℕ) × IsEdge s r × MayMake (diagram_of s r) × IsPartOf (diagram_of s n) (diagram_of s r)
