-- The choice is determined.
use Rattle.std.proofs.Common.{◌≡◌, ℕ, Bool, true, false, Some, refl, sym, ◌∙◌, ap, subst, IsTrue}
use Rattle.spec_model.specs.Values.{Assignment}
use Rattle.spec_model.specs.Games.{GameData}
use Rattle.spec_model.specs.Steps.{Before, reached}
use Rattle.gr1_law.specs.Layers.{LayerSets, IsLeastNumber}
use Rattle.gr1_law.specs.Choice.{Memory, can_lead, waits, IsChosen}
use Rattle.gr1_law.proofs.Solutions.{least-one}

memory_of : (goal rank index : ℕ) → Memory
memory_of goal rank index = record { goal = goal; rank = rank; index = index }

module _ (g : GameData) (l : LayerSets) (b : Before) (m : Memory) (x : Assignment) where
  -- what else is remembered, once goal and rank are
  given : (goal rank : ℕ) (y y' : Assignment) (i i' : ℕ) → IsChosen g l b m x y (memory_of goal rank i) → IsChosen g l b m x y' (memory_of goal rank i') → (y ≡ y') × (i ≡ i')
  unfolding memory_of
  given goal rank y y' i i' c c' = (outputs, by_waiting (waits g b m rank) refl)
    where
      outputs : y ≡ y'
      outputs = let e : Some y ≡ Some y' = sym c.output ∙ c'.output in cc

      by_waiting : (d : Bool) → waits g b m rank ≡ d → i ≡ i'
      by_waiting true e = c.kept e ∙ sym (c'.kept e)
      by_waiting false e = least-one (λ i. IsTrue (l.x goal rank i (reached g b x y'))) i i' (subst (λ (y : Assignment). IsLeastNumber (λ i. IsTrue (l.x goal rank i (reached g b x y))) i) outputs (c.index e)) (c'.index e)

  pub choice-one : (y y' : Assignment) (m' m'' : Memory) → IsChosen g l b m x y m' → IsChosen g l b m x y' m'' → (y ≡ y') × (m' ≡ m'')
  unfolding memory_of
  choice-one y y' m' m'' c c' =
      let goals : m'.goal ≡ m''.goal = c.goal ∙ sym c'.goal in
      let ranks : m'.rank ≡ m''.rank = least-one (λ r. IsTrue (can_lead g (l.y m''.goal r) b x)) m'.rank m''.rank (subst (λ (j : ℕ). IsLeastNumber (λ r. IsTrue (can_lead g (l.y j r) b x)) m'.rank) goals c.rank) c'.rank in
      let moved = subst (λ (r : ℕ). IsChosen g l b m x y (memory_of m''.goal r m'.index)) ranks (subst (λ (j : ℕ). IsChosen g l b m x y (memory_of j m'.rank m'.index)) goals c) in
      let rest = given m''.goal m''.rank y y' m'.index m''.index moved c' in
      (rest.0, ap (λ (j : ℕ). memory_of j m'.rank m'.index) goals ∙ (ap (λ (r : ℕ). memory_of m''.goal r m'.index) ranks ∙ ap (memory_of m''.goal m''.rank) rest.1))
