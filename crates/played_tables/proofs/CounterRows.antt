-- A row of the replies is a row of a table: each number names the node that the output leads to.
use Rattle.std.proofs.Common.{◌≡◌, ℕ, Bool, true, ◌&&◌, List, [], ◌∷◌, filter, slice_get, refl, sym, ◌∙◌, ap, subst}
use Rattle.std.proofs.lemmas.Bool.{and_from}
use Rattle.spec_model.specs.Values.{Assignment}
use Rattle.spec_model.specs.Games.{GameData, State, outputs_of}
use Rattle.spec_model.specs.Steps.{Before, is_output, legal_output, reached}
use Rattle.spec_model.proofs.AllStates.{Every}
use Rattle.spec_model.proofs.Listed.{outputs_fit}
use Rattle.gr1_law.specs.EnvLayers.{EnvLayerSets, AreEnvLayers}
use Rattle.gr1_law.specs.Counter.{CounterMemory, IsGiven}
use Rattle.gr1_law.proofs.CounterSteps.{given_legal}
use Rattle.strategy_tables.specs.Tables.{NodeData, same_values, same_state, some_passes, names, is_reached, environment_row}
use Rattle.played_tables.specs.CounterPlayed.{LeadsTo, LeadEach, IsRow}
use Rattle.played_tables.proofs.Same.{same_state-refl, same_values-refl, every_filtered}

-- the outputs of a row
pub row_outputs : (g : GameData) (b : Before) (x : Assignment) → Every (λ y. (is_output g y ≡ true) × (legal_output g b x y ≡ true)) (filter (legal_output g b x) (outputs_of g))
row_outputs g b x = every_filtered (λ y. is_output g y ≡ true) (legal_output g b x) (outputs_of g) (outputs_fit g)

module _ (g : GameData) (e : EnvLayerSets) (of : AreEnvLayers g e) (n : ℕ) (nodes : List NodeData) (b : Before) (k : CounterMemory) (r : ℕ) (x : Assignment) (given : IsGiven g e b k r x) where
  abbrev fits : Assignment → NodeData → Bool
  fits y v = is_reached g b x v && same_values v.state.position.output y

  fits_reply : (y : Assignment) (m : ℕ) → LeadsTo g e nodes b k x y m → some_passes (fits y) (slice_get nodes m) ≡ true
  fits_reply y m to =
      let here : same_state to.node.state (reached g b x to.node.state.position.output) ≡ true = subst (λ (s : State). same_state s (reached g b x s.position.output) ≡ true) (sym to.is.state) (same_state-refl (reached g b x y)) in
      let same : same_values to.node.state.position.output y ≡ true = subst (λ (s : State). same_values s.position.output y ≡ true) (sym to.is.state) (same_values-refl y) in
      ap (some_passes (fits y)) to.there ∙ and_from _ _ here same

  all_named : (ys : List Assignment) (row : List ℕ) → LeadEach g e nodes b k x ys row → names nodes fits ys row ≡ true
  all_named [] [] all = refl
  all_named [] (m ∷ ms) all = absurd all
  all_named (y ∷ ys) [] all = absurd all
  all_named (y ∷ ys) (m ∷ ms) all = and_from _ _ (fits_reply y m all.0) (all_named ys ms all.1)

  pub row_named : (row : List ℕ) → IsRow g e nodes b k x row → environment_row g nodes b x row ≡ true
  row_named row all = and_from _ _ (given_legal g e of n b k r x given) (all_named (filter (legal_output g b x) (outputs_of g)) row all)
