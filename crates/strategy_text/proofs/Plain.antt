-- The JSON of a table has no float, and nests four deep.
use Rattle.std.proofs.Common.{◌≡◌, ℕ, ◌≤◌, pos, negsuc, false, List, [], ◌∷◌, map, get_or, All, refl, arith}
use Rattle.std.proofs.lemmas.Bool.{or_from}
use Rattle.std.proofs.lemmas.List.Elements.{All-head, All-tail, All-map}
use Rattle.serde_json.specs.Data.{Data, items_depth, depth}
use Rattle.serde_json.specs.View.{items_of}
use Rattle.serde_json.specs.Written.{has_float, items_have_float}
use Rattle.spec_model.specs.declared.value.Value.{Value}
use Rattle.spec_model.specs.declared.value.Value.TheVariants as value
use Rattle.spec_model.specs.Values.{Assignment}
use Rattle.strategy_tables.specs.Tables.{NodeData}
use Rattle.strategy_tables.specs.Games.{TableData, OfSystem, OfEnvironment}
use Rattle.strategy_text.specs.declared.kind.Kind.{Kind}
use Rattle.strategy_text.specs.declared.kind.Kind.TheVariants.{Controller, Counterstrategy}
use Rattle.strategy_text.specs.Written.{count_json, counts_json, value_json, values_json, node_json, nodes_json, table_json}

-- without a float, and nested at most so deep
pub record IsPlain (deep : ℕ) (d : Data) : Type 0 where
  pub floatless : has_float d ≡ false
  pub shallow : depth d ≤ deep

items_plain : (deep : ℕ) (ds : List Data) → All (IsPlain deep) ds → (items_have_float (items_of ds) ≡ false) × (items_depth (items_of ds) ≤ deep)
items_plain deep [] all = (refl, omega arith)
items_plain deep (d ∷ ds) all =
    let first = All-head (IsPlain deep) d ds all in
    let rest = items_plain deep ds (All-tail (IsPlain deep) d ds all) in
    (or_from (has_float d) _ first.floatless rest.0, let low = first.shallow in let later = rest.1 in omega arith)

list_plain : {X : Type 0} (deep : ℕ) (json : X → Data) (xs : List X) → ((x : X) → IsPlain deep (json x)) → (items_have_float (items_of (map json xs)) ≡ false) × (items_depth (items_of (map json xs)) ≤ deep)
list_plain deep json xs each = items_plain deep (map json xs) (All-map (IsPlain deep) json xs (λ k d below. each (get_or xs k d)))

count_plain : (n : ℕ) → IsPlain 0 (count_json n)
count_plain n = record { floatless = refl; shallow = omega arith }

value_plain : (names : List (List ℕ)) (x : Value) → IsPlain 0 (value_json names x)
value_plain names (value.Bool b) = record { floatless = refl; shallow = omega arith }
value_plain names (value.Int (pos n)) = record { floatless = refl; shallow = omega arith }
value_plain names (value.Int (negsuc n)) = record { floatless = refl; shallow = omega arith }
value_plain names (value.Name n) = record { floatless = refl; shallow = omega arith }

counts_plain : (ns : List ℕ) → IsPlain 1 (counts_json ns)
counts_plain ns = let plain = list_plain 0 count_json ns count_plain in record { floatless = plain.0; shallow = let low = plain.1 in omega arith }

values_plain : (names : List (List ℕ)) (xs : Assignment) → IsPlain 1 (values_json names xs)
values_plain names xs = let plain = list_plain 0 (value_json names) xs (value_plain names) in record { floatless = plain.0; shallow = let low = plain.1 in omega arith }

node_plain : (names : List (List ℕ)) (kind : Kind) (v : NodeData) → IsPlain 2 (node_json names kind v)
node_plain names Controller v =
    let hidden = counts_plain v.state.hidden in
    let input = values_plain names v.state.position.input in
    let next = counts_plain v.next in
    let output = values_plain names v.state.position.output in
    record {
      floatless = rw (hidden.floatless, input.floatless, next.floatless, output.floatless);
      shallow = let a = hidden.shallow in let b = input.shallow in let c = next.shallow in let d = output.shallow in omega arith;
    }
node_plain names Counterstrategy v =
    let hidden = counts_plain v.state.hidden in
    let input = values_plain names v.state.position.input in
    let reply = values_plain names v.reply in
    let next = counts_plain v.next in
    let output = values_plain names v.state.position.output in
    record {
      floatless = rw (hidden.floatless, input.floatless, reply.floatless, next.floatless, output.floatless);
      shallow = let a = hidden.shallow in let b = input.shallow in let c = next.shallow in let d = output.shallow in let e = reply.shallow in omega arith;
    }

nodes_plain : (names : List (List ℕ)) (kind : Kind) (vs : List NodeData) → IsPlain 3 (nodes_json names kind vs)
nodes_plain names kind vs = let plain = list_plain 2 (node_json names kind) vs (node_plain names kind) in record { floatless = plain.0; shallow = let low = plain.1 in omega arith }

pub table_plain : (names : List (List ℕ)) (t : TableData) → IsPlain 4 (table_json names t)
table_plain names (OfSystem t) =
    let first = counts_plain t.first in
    let nodes = nodes_plain names Controller t.nodes in
    record {
      floatless = rw (first.floatless, nodes.floatless);
      shallow = let a = first.shallow in let b = nodes.shallow in omega arith;
    }
table_plain names (OfEnvironment t) =
    let first = counts_plain t.first in
    let reply = values_plain names t.reply in
    let nodes = nodes_plain names Counterstrategy t.nodes in
    record {
      floatless = rw (first.floatless, reply.floatless, nodes.floatless);
      shallow = let a = first.shallow in let b = reply.shallow in let c = nodes.shallow in omega arith;
    }
