-- A table of the choices meets its rules.
use Rattle.std.proofs.Common.{◌≡◌, ℕ, suc, Bool, true, not, cond, List, [], ◌∷◌, ◌++◌, Some, None, slice_get, refl, sym, ◌∙◌, ap, subst}
use Rattle.spec_model.specs.Games.{GameData}
use Rattle.spec_model.specs.Steps.{is_state}
use Rattle.spec_model.specs.Sets.{StateSet}
use Rattle.gr1_law.specs.Layers.{LayerSets}
use Rattle.gr1_law.specs.Choice.{Memory, Standing, first_memory}
use Rattle.gr1_law.specs.Specifications.{IsWonWith}
use Rattle.gr1_law.proofs.Winning.{layer_inside}
use Rattle.gr1_law.proofs.Trails.{played}
use Rattle.strategy_tables.specs.Tables.{NodeData, SystemTable}
use Rattle.strategy_tables.specs.Rules.{Check, rule_1, rule_2, rule_3, rule_4, rule_5, system_checks_from, first_flaw}
use Rattle.played_tables.specs.Played.{IsPlayed, IsPlayedTable, PlayedTablesAreSound}
use Rattle.played_tables.proofs.Same.{check, one_more}
use Rattle.played_tables.proofs.Rows.{row_named}
use Rattle.played_tables.proofs.Targets.{targets_pass}
use Rattle.played_tables.proofs.Ranks.{numbers_in, k_most}

-- ---- checks that hold

pub record NodeHolds (g : GameData) (nodes : List NodeData) (v : NodeData) : Type 0 where
  pub numbered : rule_2 g v ≡ true
  pub row : rule_3 g nodes v ≡ true
  pub targets : rule_4 g nodes v ≡ true

nodes_hold : (g : GameData) (nodes : List NodeData) (from : ℕ) (vs : List NodeData) (last : List Check) → ((i : ℕ) (v : NodeData) → slice_get vs i ≡ Some v → NodeHolds g nodes v) → first_flaw last ≡ None → first_flaw (system_checks_from g nodes from vs ++ last) ≡ None
nodes_hold g nodes from [] last each none = none
nodes_hold g nodes from (v ∷ vs) last each none =
    let here = each 0 v refl in
    let rest = nodes_hold g nodes (suc from) vs last (λ i w there. each (suc i) w there) none in
    let later = system_checks_from g nodes (suc from) vs ++ last in
    let moves = check 4 from (rule_4 g nodes v) ∷ later in
    let rows = check 3 from (rule_3 g nodes v) ∷ moves in
    one_more 2 from (rule_2 g v) rows here.numbered (one_more 3 from (rule_3 g nodes v) moves here.row (one_more 4 from (rule_4 g nodes v) later here.targets rest))

-- ---- the rules

module _ (g : GameData) (z : StateSet) (l : LayerSets) (ranks : List ℕ) (won : IsWonWith g z l ranks) (t : SystemTable) (table : IsPlayedTable g l t) where
  standing : (v : NodeData) (at : IsPlayed g l t.nodes v) → Standing g l v.state at.memory
  standing v at = (played g z l won.winning ranks won.greatest at.run (Some v.state) at.memory won.forced at.play).ready

  holds_at : (v : NodeData) → IsPlayed g l t.nodes v → NodeHolds g t.nodes v
  holds_at v at =
      record {
        numbered = numbers_in g z l won.winning v at.memory at.is (standing v at);
        row = row_named g z l won.winning ranks won.greatest t.nodes (Some v.state) at.memory (standing v at) v.next at.row;
        targets = targets_pass g z l won.winning ranks won.greatest t.nodes v at.memory at.is (standing v at) at.row;
      }

  states : (i : ℕ) (v : NodeData) → slice_get t.nodes i ≡ Some v → is_state g v.state ≡ true
  states i v there =
      let at = table.each i v there in
      layer_inside g z l won.winning.layers at.memory.goal at.memory.rank v.state (standing v at).rank.here

pub played_sound : (g : GameData) → PlayedTablesAreSound g
played_sound g z l ranks won t table enough = (
  states g z l ranks won t table,
  one_more 1 0 (rule_1 g t) (system_checks_from g t.nodes 0 t.nodes ++ check 5 0 (rule_5 g t) ∷ []) (row_named g z l won.winning ranks won.greatest t.nodes None first_memory won.forced t.first table.first)
      (nodes_hold g t.nodes 0 t.nodes (check 5 0 (rule_5 g t) ∷ []) (λ i v there. holds_at g z l ranks won t table v (table.each i v there))
      (one_more 5 0 (rule_5 g t) [] (k_most g z l won.winning ranks won.greatest t (λ i v there. let at = table.each i v there in (at.memory, at.is, standing g z l ranks won t table v at)) enough) refl)),
)
