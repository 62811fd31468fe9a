-- A table of the replies meets its rules.
use Rattle.std.proofs.Common.{◌≡◌, ◌≤◌, ℕ, suc, true, List, [], ◌∷◌, ◌++◌, Some, None, slice_get, refl, ◌∙◌}
use Rattle.spec_model.specs.Games.{GameData}
use Rattle.spec_model.specs.Steps.{is_state, is_input}
use Rattle.gr1_law.specs.EnvLayers.{EnvLayerSets, denial_count}
use Rattle.gr1_law.specs.Counter.{first_counter}
use Rattle.gr1_law.specs.CounterLaws.{IsLostWith}
use Rattle.gr1_law.proofs.CounterSteps.{CounterStands, given_input}
use Rattle.gr1_law.proofs.CounterTrails.{stands_at_end}
use Rattle.gr1_law.proofs.Following.{is_of_game}
use Rattle.strategy_tables.specs.Tables.{NodeData, EnvironmentTable}
use Rattle.strategy_tables.specs.Rules.{Check, rule_6, rule_7, rule_8, rule_9, rule_10, environment_checks_from, first_flaw}
use Rattle.played_tables.specs.CounterPlayed.{IsPlayed, IsPlayedTable, AnsweredTablesAreSound}
use Rattle.played_tables.proofs.Same.{check, one_more}
use Rattle.played_tables.proofs.CounterRows.{row_named}
use Rattle.played_tables.proofs.CounterTargets.{targets_pass}
use Rattle.played_tables.proofs.CounterBounds.{Stood, numbers_in, m_most}

pub record NodeHolds (g : GameData) (t : EnvironmentTable) (v : NodeData) : Type 0 where
  pub numbered : rule_7 g t v ≡ true
  pub row : rule_8 g t.nodes v ≡ true
  pub targets : rule_9 g t.nodes v ≡ true

nodes_hold : (g : GameData) (t : EnvironmentTable) (from : ℕ) (vs : List NodeData) (last : List Check) → ((i : ℕ) (v : NodeData) → slice_get vs i ≡ Some v → NodeHolds g t v) → first_flaw last ≡ None → first_flaw (environment_checks_from g t from vs ++ last) ≡ None
nodes_hold g t from [] last each none = none
nodes_hold g t from (v ∷ vs) last each none =
    let here = each 0 v refl in
    let rest = nodes_hold g t (suc from) vs last (λ i w there. each (suc i) w there) none in
    let later = environment_checks_from g t (suc from) vs ++ last in
    let moves = check 9 from (rule_9 g t.nodes v) ∷ later in
    let rows = check 8 from (rule_8 g t.nodes v) ∷ moves in
    one_more 7 from (rule_7 g t v) rows here.numbered (one_more 8 from (rule_8 g t.nodes v) moves here.row (one_more 9 from (rule_9 g t.nodes v) later here.targets rest))

module _ (g : GameData) (e : EnvLayerSets) (n : ℕ) (counts : ℕ → ℕ → List ℕ) (lost : IsLostWith g e n counts) (t : EnvironmentTable) (table : IsPlayedTable g e t) where
  stands : (v : NodeData) (at : IsPlayed g e t.nodes v) → CounterStands g e n v.state at.memory
  stands v at = stands_at_end g e lost.layers n at.run at.notes (Some v.state) at.memory lost.forced at.play v.state refl

  stood : (i : ℕ) (v : NodeData) → slice_get t.nodes i ≡ Some v → Stood g e n v
  stood i v there = let at = table.each i v there in record { memory = at.memory; rank = at.rank; given = at.given; is = at.is; stands = stands v at }

  holds_at : n ≤ t.n → (v : NodeData) → IsPlayed g e t.nodes v → NodeHolds g t v
  holds_at enough v at =
      record {
        numbered = numbers_in g e n t v at.memory at.rank at.is (stands v at) enough;
        row = row_named g e lost.layers n t.nodes (Some v.state) at.memory at.rank v.reply at.given v.next at.row;
        targets = targets_pass g e n counts lost t.nodes v at.memory at.rank at.given at.is (stands v at) at.row;
      }

  states : (i : ℕ) (v : NodeData) → slice_get t.nodes i ≡ Some v → is_state g v.state ≡ true
  states i v there = let at = table.each i v there in is_of_game g e lost.layers n counts lost.delays v.state at.memory (stands v at)

  replies : (i : ℕ) (v : NodeData) → slice_get t.nodes i ≡ Some v → is_input g v.reply ≡ true
  replies i v there = let at = table.each i v there in given_input g e lost.layers n (Some v.state) at.memory at.rank v.reply at.given

pub answered_sound : (g : GameData) → AnsweredTablesAreSound g
answered_sound g e n counts lost t table enough_n enough_m = (
  states g e n counts lost t table,
  (given_input g e lost.layers n None first_counter table.rank t.reply table.given, replies g e n counts lost t table),
  one_more 6 0 (rule_6 g t) (environment_checks_from g t 0 t.nodes ++ check 10 0 (rule_10 g t) ∷ []) (row_named g e lost.layers n t.nodes None first_counter table.rank t.reply table.given t.first table.first)
      (nodes_hold g t 0 t.nodes (check 10 0 (rule_10 g t) ∷ []) (λ i v there. holds_at g e n counts lost t table enough_n v (table.each i v there))
      (one_more 10 0 (rule_10 g t) [] (m_most g e n counts lost t (stood g e n counts lost t table) enough_m) refl)),
)
