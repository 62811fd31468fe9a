-- What is read is a table of the specification's game.
use Rattle.std.proofs.Common.{◌≡◌, ℕ, ◌≤◌, Bool, true, false, nat_le, cond, List, length, codes, Option, Some, None, All, slice_get, refl, subst, arith}
use Rattle.std.proofs.lemmas.Bool.{and_from, leb-true}
use Rattle.std.proofs.lemmas.Option.{none-some, option_and_then_some, slice_get_within, get_or_from_slice_get}
use Rattle.serde_json.specs.Data.{Data}
use Rattle.spec_model.specs.declared.value.Owner.{Owner}
use Rattle.spec_model.specs.declared.value.Owner.TheVariants.{Env, Sys}
use Rattle.spec_model.specs.Values.{Assignment, is_assignment}
use Rattle.spec_model.specs.Syntax.{Specification}
use Rattle.spec_model.specs.Moves.{is_of, domains_of}
use Rattle.spec_model.specs.Games.{GameData, HiddenData}
use Rattle.spec_model.specs.Steps.{is_state, is_input, is_output, are_hidden_values}
use Rattle.hidden_game.specs.GameOf.{game_of}
use Rattle.strategy_tables.specs.Tables.{NodeData}
use Rattle.strategy_tables.specs.Games.{TableData, IsTableOf}
use Rattle.strategy_text.specs.declared.kind.Kind.{Kind}
use Rattle.strategy_text.specs.declared.kind.Kind.TheVariants.{Controller, Counterstrategy}
use Rattle.strategy_text.specs.Written.{most_bytes}
use Rattle.strategy_text.specs.Reading.{all_read, each_read, count_below, value_of, has_members, list_at, values_at, hidden_at, small_at, smalls_at, count_at, plain_node_of, node_of, nodes_of, nodes_at, kind_of, table_of_kind, table_of, json_in}
use Rattle.strategy_text.specs.Laws.{ReadsTablesOnly}
use Rattle.strategy_text.proofs.Lists.{all_read-each}
use Rattle.strategy_text.proofs.DomainValues.{values_among, hidden_among}
use Rattle.strategy_text.proofs.NodeParts.{node_with-parts, replying-parts, system_with-nodes, environment_with-nodes}
use Rattle.strategy_text.proofs.Back.{SaysBesides}

-- what is there passed its test
passed : {X : Type 0} (b : Bool) (o : Option X) (x : X) → cond b o None ≡ Some x → (b ≡ true) × (o ≡ Some x)
passed true o x is = (refl, is)
passed false o x is = absurd (none-some x is)

module _ (names : List (List ℕ)) (g : GameData) where
  values_are : (owner : Owner) (key : List ℕ) (d : Data) (xs : Assignment) → values_at names g owner key d ≡ Some xs → is_assignment (domains_of (is_of owner) g.variables) xs ≡ true
  values_are owner key d xs is =
      option_and_then_some (each_read (value_of names) (domains_of (is_of owner) g.variables)) (list_at key d) xs is (λ js there read. values_among names (domains_of (is_of owner) g.variables) js xs read)

  cells_are : (key : List ℕ) (d : Data) (vs : List ℕ) → hidden_at g key d ≡ Some vs → are_hidden_values g.hidden vs ≡ true
  cells_are key d vs is = option_and_then_some (each_read (λ (h : HiddenData). count_below h.values) g.hidden) (list_at key d) vs is (λ js there read. hidden_among g.hidden js vs read)

  -- a state of the game, with what its kind says besides
  abbrev IsOfKind : Kind → NodeData → Type 0
  IsOfKind kind v = (is_state g v.state ≡ true) × SaysBesides g kind v

  plain_is : (d : Data) (v : NodeData) → plain_node_of names g d ≡ Some v → IsOfKind Controller v
  plain_is d v is =
      let stands = node_with-parts (small_at (codes "asm") d) (small_at (codes "goal") d) (hidden_at g (codes "hidden") d) (values_at names g Env (codes "in") d) (smalls_at (codes "next") d) (values_at names g Sys (codes "out") d) (count_at (codes "rank") d) v is in
      let input = values_are Env (codes "in") d v.state.position.input stands.input in
      let output = values_are Sys (codes "out") d v.state.position.output stands.output in (
        and_from (are_hidden_values g.hidden v.state.hidden) _ (cells_are (codes "hidden") d v.state.hidden stands.hidden) (and_from (is_input g v.state.position.input) (is_output g v.state.position.output) input output),
        (stands.layer, stands.reply),
      )

  node_is : (kind : Kind) (d : Data) (v : NodeData) → node_of names g kind d ≡ Some v → IsOfKind kind v
  node_is Controller d v is = plain_is d v (passed (has_members 7 d) (plain_node_of names g d) v is).1
  node_is Counterstrategy d v is =
      let parts = replying-parts (plain_node_of names g d) (count_at (codes "layer") d) (values_at names g Env (codes "move") d) v (passed (has_members 9 d) _ v is).1 in
      (subst (λ x. is_state g x ≡ true) parts.2 (plain_is d parts.0 parts.1).0, values_are Env (codes "move") d v.reply parts.3)

  nodes_are : (kind : Kind) (js : List Data) (vs : List NodeData) → nodes_of names g kind js ≡ Some vs → (length vs ≤ 1024) × All (IsOfKind kind) vs
  nodes_are kind js vs is =
      let few = passed (nat_le (length js) 1024) (all_read (node_of names g kind) js) vs is in
      let each = all_read-each (node_of names g kind) (IsOfKind kind) (node_is kind) js vs few.1 in
      (let most = leb-true (length js) 1024 few.0 in let same = each.0 in omega arith, each.1)

  nodes_at_are : (kind : Kind) (key : List ℕ) (d : Data) (vs : List NodeData) → nodes_at names g kind key d ≡ Some vs → (length vs ≤ 1024) × All (IsOfKind kind) vs
  nodes_at_are kind key d vs is = option_and_then_some (nodes_of names g kind) (list_at key d) vs is (λ js there read. nodes_are kind js vs read)

  -- by the place of a node in the list
  at_place : (P : NodeData → Type 0) (vs : List NodeData) → All P vs → (i : ℕ) (v : NodeData) → slice_get vs i ≡ Some v → P v
  at_place P vs all i v is = subst P (get_or_from_slice_get vs i v v is) (all i v (slice_get_within vs i v is))

  table_is : (kind : Kind) (d : Data) (t : TableData) → table_of_kind names g kind d ≡ Some t → IsTableOf g t
  table_is Controller d t is =
      system_with-nodes (smalls_at (codes "first") d) (count_at (codes "k") d) (nodes_at names g Controller (codes "nodes") d) t (IsTableOf g) (passed (has_members 4 d) _ t is).1
      (λ first k nodes read.
      let are = nodes_at_are Controller (codes "nodes") d nodes read in
      (are.0, λ i v here. (at_place (IsOfKind Controller) nodes are.1 i v here).0, λ i v here. (at_place (IsOfKind Controller) nodes are.1 i v here).1))
  table_is Counterstrategy d t is =
      environment_with-nodes (smalls_at (codes "first") d) (count_at (codes "m") d) (values_at names g Env (codes "move") d) (count_at (codes "n") d) (nodes_at names g Counterstrategy (codes "nodes") d) t (IsTableOf g) (passed (has_members 6 d) _ t is).1
      (λ first m reply n nodes replies read.
      let are = nodes_at_are Counterstrategy (codes "nodes") d nodes read in
      (are.0, λ i v here. (at_place (IsOfKind Counterstrategy) nodes are.1 i v here).0, (values_are Env (codes "move") d reply replies, λ i v here. (at_place (IsOfKind Counterstrategy) nodes are.1 i v here).1)))

  json_is : (d : Data) (t : TableData) → table_of names g d ≡ Some t → IsTableOf g t
  json_is d t is = option_and_then_some (λ kind. table_of_kind names g kind d) (kind_of d) t is (λ kind there read. table_is kind d t read)

pub reads_only : (s : Specification) → ReadsTablesOnly s
reads_only s bytes t is =
    option_and_then_some (table_of s.names (game_of s)) (json_in bytes) t (passed (nat_le (length bytes) most_bytes) _ t is).1 (λ d there read. json_is s.names (game_of s) d t read)
