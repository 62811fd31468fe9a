-- The JSON of a table: compact, with the members of each object in the order of their keys.
use Rattle.std.specs.Prelude.{ℕ, List, [], map, codes, slice_index_or}
use Rattle.serde_json.specs.Data.{Data, boolean, number, unsigned, string, array, object, Members, no_members, member}
use Rattle.serde_json.specs.Find.{of_integer}
use Rattle.serde_json.specs.View.{items_of}
use Rattle.serde_json.specs.Written.{compact_text}
use Rattle.spec_model.specs.declared.value.Value.{Value}
use Rattle.spec_model.specs.declared.value.Value.TheVariants as value
use Rattle.spec_model.specs.Values.{Assignment}
use Rattle.spec_model.specs.Syntax.{Specification}
use Rattle.strategy_tables.specs.Tables.{NodeData, SystemTable, EnvironmentTable}
use Rattle.strategy_tables.specs.Games.{TableData, OfSystem, OfEnvironment}
use Rattle.strategy_text.specs.declared.kind.Kind.{Kind}
use Rattle.strategy_text.specs.declared.kind.Kind.TheVariants.{Controller, Counterstrategy}

-- ---- parts

abbrev pub count_json : ℕ → Data
count_json n = number (unsigned n)

abbrev pub counts_json : List ℕ → Data
counts_json ns = array (items_of (map count_json ns))

-- a truth value and a whole number as such, an enum name as its text
abbrev pub value_json : (names : List (List ℕ)) → Value → Data
value_json names (value.Bool b) = boolean b
value_json names (value.Int z) = number (of_integer z)
value_json names (value.Name n) = string (slice_index_or names n [])

abbrev pub values_json : (names : List (List ℕ)) → Assignment → Data
values_json names xs = array (items_of (map (value_json names) xs))

-- ---- nodes

-- what the nodes of both kinds tell
abbrev pub plain_members : (names : List (List ℕ)) → NodeData → Members
plain_members names v =
    member (codes "asm") (count_json v.asm)
    (member (codes "goal") (count_json v.goal)
    (member (codes "hidden") (counts_json v.state.hidden)
    (member (codes "in") (values_json names v.state.position.input)
    (member (codes "next") (counts_json v.next)
    (member (codes "out") (values_json names v.state.position.output)
    (member (codes "rank") (count_json v.rank) no_members))))))

-- an environment's node tells its layer and the next input besides
abbrev pub replying_members : (names : List (List ℕ)) → NodeData → Members
replying_members names v =
    member (codes "asm") (count_json v.asm)
    (member (codes "goal") (count_json v.goal)
    (member (codes "hidden") (counts_json v.state.hidden)
    (member (codes "in") (values_json names v.state.position.input)
    (member (codes "layer") (count_json v.layer)
    (member (codes "move") (values_json names v.reply)
    (member (codes "next") (counts_json v.next)
    (member (codes "out") (values_json names v.state.position.output)
    (member (codes "rank") (count_json v.rank) no_members))))))))

abbrev pub node_json : (names : List (List ℕ)) → Kind → NodeData → Data
node_json names Controller v = object (plain_members names v)
node_json names Counterstrategy v = object (replying_members names v)

abbrev pub nodes_json : (names : List (List ℕ)) → Kind → List NodeData → Data
nodes_json names kind vs = array (items_of (map (node_json names kind) vs))

-- ---- tables

abbrev pub kind_text : Kind → List ℕ
kind_text Controller = codes "controller"
kind_text Counterstrategy = codes "counterstrategy"

abbrev pub system_json : (names : List (List ℕ)) → SystemTable → Data
system_json names t =
    object (member (codes "first") (counts_json t.first)
    (member (codes "k") (count_json t.k)
    (member (codes "kind") (string (kind_text Controller))
    (member (codes "nodes") (nodes_json names Controller t.nodes) no_members))))

abbrev pub environment_json : (names : List (List ℕ)) → EnvironmentTable → Data
environment_json names t =
    object (member (codes "first") (counts_json t.first)
    (member (codes "kind") (string (kind_text Counterstrategy))
    (member (codes "m") (count_json t.m)
    (member (codes "move") (values_json names t.reply)
    (member (codes "n") (count_json t.n)
    (member (codes "nodes") (nodes_json names Counterstrategy t.nodes) no_members))))))

abbrev pub table_json : (names : List (List ℕ)) → TableData → Data
table_json names (OfSystem t) = system_json names t
table_json names (OfEnvironment t) = environment_json names t

-- ---- texts

-- how many bytes the text of a table may have
abbrev pub most_bytes : ℕ
most_bytes = 16777216

abbrev pub table_text : Specification → TableData → List ℕ
table_text s t = compact_text (table_json s.names t)
