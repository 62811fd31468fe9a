-- A row of the choices is a row of a table: each number names a node that a legal output leads to.
use Rattle.std.proofs.Common.{◌≡◌, ℕ, Bool, true, ◌&&◌, List, [], ◌∷◌, Some, filter, slice_get, refl, sym, ◌∙◌, ap, subst}
use Rattle.std.proofs.lemmas.Bool.{and_from}
use Rattle.spec_model.specs.Values.{Assignment}
use Rattle.spec_model.specs.Games.{GameData, State, inputs_of}
use Rattle.spec_model.specs.Steps.{Before, is_input, legal_input, legal_output, reached}
use Rattle.spec_model.specs.Sets.{StateSet}
use Rattle.spec_model.proofs.AllStates.{Every}
use Rattle.spec_model.proofs.Listed.{inputs_fit}
use Rattle.gr1_law.specs.Layers.{LayerSets, IsWinning, AreGreatestRanks}
use Rattle.gr1_law.specs.Choice.{Memory}
use Rattle.gr1_law.proofs.Standing.{Ready}
use Rattle.gr1_law.proofs.Choosing.{chosen_legal}
use Rattle.strategy_tables.specs.Tables.{NodeData, same_state, some_passes, names, is_reached, system_row}
use Rattle.played_tables.specs.Played.{LeadsTo, LeadEach, IsRow}
use Rattle.played_tables.proofs.Same.{same_state-refl, every_filtered}

-- the inputs of a row
pub row_inputs : (g : GameData) (b : Before) → Every (λ x. (is_input g x ≡ true) × (legal_input g b x ≡ true)) (filter (legal_input g b) (inputs_of g))
row_inputs g b = every_filtered (λ x. is_input g x ≡ true) (legal_input g b) (inputs_of g) (inputs_fit g)

module _ (g : GameData) (z : StateSet) (l : LayerSets) (w : IsWinning g z l) (ranks : List ℕ) (greatest : AreGreatestRanks g l ranks) (nodes : List NodeData) (b : Before) (m : Memory) (ready : Ready g z l b m) where
  abbrev fits : Assignment → NodeData → Bool
  fits x v = is_reached g b x v && legal_output g b x v.state.position.output

  fits_choice : (x : Assignment) (n : ℕ) → LeadsTo g l nodes b m x n → some_passes (fits x) (slice_get nodes n) ≡ true
  fits_choice x n to =
      let s = reached g b x to.output in
      let here : same_state to.node.state (reached g b x to.node.state.position.output) ≡ true = subst (λ (s : State). same_state s (reached g b x s.position.output) ≡ true) (sym to.is.state) (same_state-refl s) in
      let legal : legal_output g b x to.node.state.position.output ≡ true = subst (λ (s : State). legal_output g b x s.position.output ≡ true) (sym to.is.state) (chosen_legal g z l w ranks greatest b m x to.output to.next ready to.chosen) in
      ap (some_passes (fits x)) to.there ∙ and_from _ _ here legal

  all_named : (xs : List Assignment) (row : List ℕ) → LeadEach g l nodes b m xs row → names nodes fits xs row ≡ true
  all_named [] [] all = refl
  all_named [] (n ∷ ns) all = absurd all
  all_named (x ∷ xs) [] all = absurd all
  all_named (x ∷ xs) (n ∷ ns) all = and_from _ _ (fits_choice x n all.0) (all_named xs ns all.1)

  pub row_named : (row : List ℕ) → IsRow g l nodes b m row → system_row g nodes b row ≡ true
  row_named row all = all_named (filter (legal_input g b) (inputs_of g)) row all
