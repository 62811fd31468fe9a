-- What is written of a table reads as the table.
use Rattle.std.proofs.Common.{◌≡◌, ℕ, ◌<◌, ◌≤◌, ◌^◌, true, ◌&&◌, List, [], map, length, get_or, codes, Some, All, slice_get, refl, sym, ap₂, ◌∙◌}
use Rattle.std.proofs.lemmas.Bool.{and_parts, le-leb}
use Rattle.std.proofs.lemmas.List.{length-map}
use Rattle.std.proofs.lemmas.Option.{slice_get-get_or}
use Rattle.serde_json.specs.Data.{Data, object}
use Rattle.serde_json.specs.View.{items_of}
use Rattle.serde_json.specs.Find.{get}
use Rattle.spec_model.specs.declared.value.Owner.TheVariants.{Env, Sys}
use Rattle.spec_model.specs.Values.{Assignment}
use Rattle.spec_model.specs.Syntax.{Specification}
use Rattle.spec_model.specs.Moves.{is_of, domains_of}
use Rattle.spec_model.specs.Games.{GameData, HiddenData}
use Rattle.spec_model.specs.Steps.{is_state, is_input, is_output, are_hidden_values}
use Rattle.spec_model.specs.WellTyped.{WellTyped}
use Rattle.hidden_game.specs.GameOf.{game_of}
use Rattle.strategy_tables.specs.Tables.{NodeData}
use Rattle.strategy_tables.specs.Games.{TableData, OfSystem, OfEnvironment, IsTableOf}
use Rattle.strategy_text.specs.declared.kind.Kind.{Kind}
use Rattle.strategy_text.specs.declared.kind.Kind.TheVariants.{Controller, Counterstrategy}
use Rattle.strategy_text.specs.Written.{count_json, counts_json, value_json, values_json, plain_members, replying_members, node_json, table_json}
use Rattle.strategy_text.specs.Reading.{listed, all_read, each_read, count_below, small_of, value_of, node_of, nodes_of, table_of}
use Rattle.strategy_text.specs.Laws.{AreSmall, HasSmallNumbers, FitsProgram, ReadsBack}
use Rattle.strategy_text.proofs.Lists.{listed-items_of, all_read-map}
use Rattle.strategy_text.proofs.DomainValues.{names_differ, values_back, owned_domains, small_back, hidden_back}
use Rattle.strategy_text.proofs.NodeParts.{HasParts, plain_node}

-- ---- lists of numbers

pub smalls_back : (ns : List ℕ) → AreSmall ns → all_read small_of (listed (items_of (map count_json ns))) ≡ Some ns
smalls_back ns small = rw (listed-items_of (map count_json ns)) (all_read-map small_of count_json (λ n. n < 2 ^ 32) small_back ns small)

-- ---- what an object has at the keys of a node

record Tells (names : List (List ℕ)) (d : Data) (v : NodeData) : Type 0 where
  asm : get (codes "asm") d ≡ Some (count_json v.asm)
  goal : get (codes "goal") d ≡ Some (count_json v.goal)
  hidden : get (codes "hidden") d ≡ Some (counts_json v.state.hidden)
  input : get (codes "in") d ≡ Some (values_json names v.state.position.input)
  next : get (codes "next") d ≡ Some (counts_json v.next)
  output : get (codes "out") d ≡ Some (values_json names v.state.position.output)
  rank : get (codes "rank") d ≡ Some (count_json v.rank)

plain_tells : (names : List (List ℕ)) (v : NodeData) → Tells names (object (plain_members names v)) v
plain_tells names v = record { asm = refl; goal = refl; hidden = refl; input = refl; next = refl; output = refl; rank = refl }

replying_tells : (names : List (List ℕ)) (v : NodeData) → Tells names (object (replying_members names v)) v
replying_tells names v = record { asm = refl; goal = refl; hidden = refl; input = refl; next = refl; output = refl; rank = refl }

-- what a node of a kind says besides
abbrev pub SaysBesides : GameData → Kind → NodeData → Type 0
SaysBesides g Controller v = (v.layer ≡ 0) × (v.reply ≡ [])
SaysBesides g Counterstrategy v = is_input g v.reply ≡ true

-- a node of a table of the game, with numbers of the program
pub record IsNodeOf (g : GameData) (kind : Kind) (v : NodeData) : Type 0 where
  pub state : is_state g v.state ≡ true
  pub besides : SaysBesides g kind v
  pub small : HasSmallNumbers v

module _ (s : Specification) (typed : WellTyped s) where
  abbrev game : GameData
  game = game_of s

  inputs_back : (xs : Assignment) → is_input game xs ≡ true → each_read (value_of s.names) (domains_of (is_of Env) s.variables) (listed (items_of (map (value_json s.names) xs))) ≡ Some xs
  inputs_back xs is =
      rw (listed-items_of (map (value_json s.names) xs))
      (values_back s.names (names_differ s typed) (domains_of (is_of Env) s.variables) xs (owned_domains (length s.names) (is_of Env) s.variables typed.domains) is)

  outputs_back : (xs : Assignment) → is_output game xs ≡ true → each_read (value_of s.names) (domains_of (is_of Sys) s.variables) (listed (items_of (map (value_json s.names) xs))) ≡ Some xs
  outputs_back xs is =
      rw (listed-items_of (map (value_json s.names) xs))
      (values_back s.names (names_differ s typed) (domains_of (is_of Sys) s.variables) xs (owned_domains (length s.names) (is_of Sys) s.variables typed.domains) is)

  cells_back : (vs : List ℕ) → are_hidden_values game.hidden vs ≡ true → each_read (λ (h : HiddenData). count_below h.values) game.hidden (listed (items_of (map count_json vs))) ≡ Some vs
  cells_back vs are = rw (listed-items_of (map count_json vs)) (hidden_back game.hidden vs are)

  parts_back : (d : Data) (v : NodeData) (kind : Kind) → Tells s.names d v → IsNodeOf game kind v → HasParts s.names game d v
  parts_back d v kind tells is =
      let state = and_parts (are_hidden_values game.hidden v.state.hidden) (is_input game v.state.position.input && is_output game v.state.position.output) is.state in
      let moves = and_parts (is_input game v.state.position.input) (is_output game v.state.position.output) state.1 in
      record {
        asm = rw tells.asm (small_back v.asm is.small.asm);
        goal = rw tells.goal (small_back v.goal is.small.goal);
        hidden = rw tells.hidden (cells_back v.state.hidden state.0);
        input = rw tells.input (inputs_back v.state.position.input moves.0);
        next = rw tells.next (smalls_back v.next is.small.next);
        output = rw tells.output (outputs_back v.state.position.output moves.1);
        rank = rw tells.rank;
      }

  node_back : (kind : Kind) (v : NodeData) → IsNodeOf game kind v → node_of s.names game kind (node_json s.names kind v) ≡ Some v
  node_back Controller v is =
      let d = object (plain_members s.names v) in
      plain_node s.names game d v (parts_back d v Controller (plain_tells s.names v) is) ∙ ap₂ (λ l r. Some (record v { layer = l; reply = r })) (sym is.besides.0) (sym is.besides.1)
  node_back Counterstrategy v is =
      let d = object (replying_members s.names v) in
      let plain = plain_node s.names game d v (parts_back d v Counterstrategy (replying_tells s.names v) is) in
      rw (plain, inputs_back v.reply is.besides)

  nodes_back : (kind : Kind) (vs : List NodeData) → length vs ≤ 1024 → All (IsNodeOf game kind) vs → nodes_of s.names game kind (listed (items_of (map (node_json s.names kind) vs))) ≡ Some vs
  nodes_back kind vs few all =
      rw (listed-items_of (map (node_json s.names kind) vs), length-map vs (node_json s.names kind), le-leb (length vs) 1024 few)
      (all_read-map (node_of s.names game kind) (node_json s.names kind) (IsNodeOf game kind) (node_back kind) vs all)

  -- ---- tables

  table_back : (t : TableData) → IsTableOf game t → FitsProgram t → table_of s.names game (table_json s.names t) ≡ Some t
  table_back (OfSystem t) is fits =
      let at : (k : ℕ) (d : NodeData) → k < length t.nodes → slice_get t.nodes k ≡ Some (get_or t.nodes k d) = λ k d below. slice_get-get_or t.nodes k d below in
      let all : All (IsNodeOf game Controller) t.nodes =
      λ k d below. record { state = is.1 k (get_or t.nodes k d) (at k d below); besides = is.2 k (get_or t.nodes k d) (at k d below); small = fits.1 k d below } in
      rw (smalls_back t.first fits.0, nodes_back Controller t.nodes is.0 all)
  table_back (OfEnvironment t) is fits =
      let at : (k : ℕ) (d : NodeData) → k < length t.nodes → slice_get t.nodes k ≡ Some (get_or t.nodes k d) = λ k d below. slice_get-get_or t.nodes k d below in
      let all : All (IsNodeOf game Counterstrategy) t.nodes =
      λ k d below. record { state = is.1 k (get_or t.nodes k d) (at k d below); besides = is.2.1 k (get_or t.nodes k d) (at k d below); small = fits.1 k d below } in
      rw (smalls_back t.first fits.0, inputs_back t.reply is.2.0, nodes_back Counterstrategy t.nodes is.0 all)

  pub reads_back : (t : TableData) → ReadsBack s t
  reads_back t is fits = table_back t is fits
