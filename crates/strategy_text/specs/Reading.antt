-- Which table a text is, of a specification.
use Rattle.std.specs.Prelude.{ℕ, ◌^◌, ℤ, int_le, nat_lt, nat_le, Bool, false, ◌&&◌, ◌==◌, if◌then◌else◌, List, [], ◌∷◌, length, codes, find, Option, Some, None, option_map, option_and_then, unwrap_or, slice_index_or}
use Rattle.std.specs.Str.{bytes_eq, is_utf8}
use Rattle.serde_json.specs.Data.{Data, Items, no_items, item}
use Rattle.serde_json.specs.Events.{members_len}
use Rattle.serde_json.specs.Find.{get, as_bool, as_number, as_str, as_array, as_object, as_u64, as_integer}
use Rattle.serde_json.specs.Read.{read}
use Rattle.spec_model.specs.declared.value.Value.{Value}
use Rattle.spec_model.specs.declared.value.Value.TheVariants as value
use Rattle.spec_model.specs.declared.value.Owner.{Owner}
use Rattle.spec_model.specs.declared.value.Owner.TheVariants.{Env, Sys}
use Rattle.spec_model.specs.Values.{DomainData, TruthValues, WholeNumbers, Enumeration, Assignment}
use Rattle.spec_model.specs.Syntax.{Specification}
use Rattle.spec_model.specs.Moves.{is_of, domains_of}
use Rattle.spec_model.specs.Games.{GameData, HiddenData}
use Rattle.hidden_game.specs.GameOf.{game_of}
use Rattle.strategy_tables.specs.Tables.{NodeData}
use Rattle.strategy_tables.specs.Games.{TableData, OfSystem, OfEnvironment}
use Rattle.strategy_text.specs.declared.kind.Kind.{Kind}
use Rattle.strategy_text.specs.declared.kind.Kind.TheVariants.{Controller, Counterstrategy}
use Rattle.strategy_text.specs.Written.{kind_text, most_bytes}

-- ---- lists

abbrev pub listed : Items → List Data
listed no_items = []
listed (item d ds) = d ∷ listed ds

-- what each of them reads as, where each reads as something
abbrev pub all_read : {X : Type 0} → (Data → Option X) → List Data → Option (List X)
all_read reader [] = Some []
all_read reader (d ∷ ds) = option_and_then (λ x. option_map (λ xs. x ∷ xs) (all_read reader ds)) (reader d)

-- the same where one is there for each that is wanted, and reads as is wanted there
abbrev pub each_read : {W X : Type 0} → (W → Data → Option X) → List W → List Data → Option (List X)
each_read reader [] [] = Some []
each_read reader (w ∷ ws) (d ∷ ds) = option_and_then (λ x. option_map (λ xs. x ∷ xs) (each_read reader ws ds)) (reader w d)
each_read reader _ _ = None

-- ---- numbers and values

-- a whole number of 64 bits
abbrev pub count_of : Data → Option ℕ
count_of d = option_and_then as_u64 (as_number d)

abbrev pub if_below : ℕ → ℕ → Option ℕ
if_below limit n = if nat_lt n limit then Some n else None

abbrev pub count_below : (limit : ℕ) → Data → Option ℕ
count_below limit d = option_and_then (if_below limit) (count_of d)

-- one of 32 bits
abbrev pub small_of : Data → Option ℕ
small_of d = count_below (2 ^ 32) d

abbrev pub if_within : (lo hi : ℤ) → ℤ → Option Value
if_within lo hi z = if int_le lo z && int_le z hi then Some (value.Int z) else None

-- the name among these that has the text
abbrev pub named : (names : List (List ℕ)) → List ℕ → (text : List ℕ) → Option Value
named names ns text = option_map (λ n. value.Name n) (find (λ n. bytes_eq (slice_index_or names n []) text) ns)

-- the value of the domain: a truth value, a whole number of the range, or the text of one of the domain's names
abbrev pub value_of : (names : List (List ℕ)) → DomainData → Data → Option Value
value_of names TruthValues d = option_map (λ b. value.Bool b) (as_bool d)
value_of names (WholeNumbers lo hi) d = option_and_then (if_within lo hi) (option_and_then as_integer (as_number d))
value_of names (Enumeration ns) d = option_and_then (named names ns) (as_str d)

-- ---- members

-- an object with so many members: each of its keys stands once, so that one with as many members as are asked of it has no other
abbrev pub has_members : ℕ → Data → Bool
has_members n d = unwrap_or (option_map (λ ms. members_len ms == n) (as_object d)) false

-- the member with a key, as a whole number, a small one, a text, or a list
abbrev pub count_at : (key : List ℕ) → Data → Option ℕ
count_at key d = option_and_then count_of (get key d)

abbrev pub small_at : (key : List ℕ) → Data → Option ℕ
small_at key d = option_and_then small_of (get key d)

abbrev pub text_at : (key : List ℕ) → Data → Option (List ℕ)
text_at key d = option_and_then as_str (get key d)

abbrev pub list_at : (key : List ℕ) → Data → Option (List Data)
list_at key d = option_map listed (option_and_then as_array (get key d))

abbrev pub smalls_at : (key : List ℕ) → Data → Option (List ℕ)
smalls_at key d = option_and_then (all_read small_of) (list_at key d)

-- a value for each of the owner's variables
abbrev pub values_of : (names : List (List ℕ)) → GameData → Owner → List Data → Option Assignment
values_of names g owner ds = each_read (value_of names) (domains_of (is_of owner) g.variables) ds

abbrev pub values_at : (names : List (List ℕ)) → GameData → Owner → (key : List ℕ) → Data → Option Assignment
values_at names g owner key d = option_and_then (values_of names g owner) (list_at key d)

-- a value for each hidden table, below its number of values
abbrev pub hidden_of : GameData → List Data → Option (List ℕ)
hidden_of g ds = each_read (λ (h : HiddenData). count_below h.values) g.hidden ds

abbrev pub hidden_at : GameData → (key : List ℕ) → Data → Option (List ℕ)
hidden_at g key d = option_and_then (hidden_of g) (list_at key d)

-- ---- nodes

-- the node with these parts, where all are there
abbrev pub node_with : (asm goal : Option ℕ) → (hidden : Option (List ℕ)) → (input : Option Assignment) → (next : Option (List ℕ)) → (output : Option Assignment) → (rank : Option ℕ) → Option NodeData
node_with (Some asm) (Some goal) (Some hidden) (Some input) (Some next) (Some output) (Some rank) =
    Some (record {
      state = record { hidden = hidden; position = record { input = input; output = output } };
      asm = asm;
      goal = goal;
      rank = rank;
      layer = 0;
      reply = [];
      next = next;
    })
node_with _ _ _ _ _ _ _ = None

-- what nodes of both kinds tell
abbrev pub plain_node_of : (names : List (List ℕ)) → GameData → Data → Option NodeData
plain_node_of names g d =
    node_with (small_at (codes "asm") d) (small_at (codes "goal") d) (hidden_at g (codes "hidden") d) (values_at names g Env (codes "in") d) (smalls_at (codes "next") d)
    (values_at names g Sys (codes "out") d) (count_at (codes "rank") d)

abbrev pub replying : Option NodeData → (layer : Option ℕ) → (reply : Option Assignment) → Option NodeData
replying (Some v) (Some layer) (Some reply) = Some (record v { layer = layer; reply = reply })
replying _ _ _ = None

-- A node has the members that its kind tells, and no other: there are as many.
abbrev pub node_of : (names : List (List ℕ)) → GameData → Kind → Data → Option NodeData
node_of names g Controller d = if has_members 7 d then plain_node_of names g d else None
node_of names g Counterstrategy d =
    if has_members 9 d then replying (plain_node_of names g d) (count_at (codes "layer") d) (values_at names g Env (codes "move") d) else None

-- at most 1,024 nodes
abbrev pub nodes_of : (names : List (List ℕ)) → GameData → Kind → List Data → Option (List NodeData)
nodes_of names g kind ds = if nat_le (length ds) 1024 then all_read (node_of names g kind) ds else None

abbrev pub nodes_at : (names : List (List ℕ)) → GameData → Kind → (key : List ℕ) → Data → Option (List NodeData)
nodes_at names g kind key d = option_and_then (nodes_of names g kind) (list_at key d)

-- ---- tables

abbrev pub kind_named : (text : List ℕ) → Option Kind
kind_named text =
    if bytes_eq text (kind_text Controller) then Some Controller else (if bytes_eq text (kind_text Counterstrategy) then Some Counterstrategy else None)

abbrev pub kind_of : Data → Option Kind
kind_of d = option_and_then kind_named (text_at (codes "kind") d)

abbrev pub system_with : (first : Option (List ℕ)) → (k : Option ℕ) → (nodes : Option (List NodeData)) → Option TableData
system_with (Some first) (Some k) (Some nodes) = Some (OfSystem (record { k = k; first = first; nodes = nodes }))
system_with _ _ _ = None

abbrev pub environment_with : (first : Option (List ℕ)) → (m : Option ℕ) → (reply : Option Assignment) → (n : Option ℕ) → (nodes : Option (List NodeData)) → Option TableData
environment_with (Some first) (Some m) (Some reply) (Some n) (Some nodes) =
    Some (OfEnvironment (record { n = n; m = m; reply = reply; first = first; nodes = nodes }))
environment_with _ _ _ _ _ = None

-- A table has the members that its kind tells, the kind among them, and no other.
abbrev pub table_of_kind : (names : List (List ℕ)) → GameData → Kind → Data → Option TableData
table_of_kind names g Controller d =
    if has_members 4 d then system_with (smalls_at (codes "first") d) (count_at (codes "k") d) (nodes_at names g Controller (codes "nodes") d) else None
table_of_kind names g Counterstrategy d =
    if has_members 6 d then
    environment_with (smalls_at (codes "first") d) (count_at (codes "m") d) (values_at names g Env (codes "move") d) (count_at (codes "n") d)
    (nodes_at names g Counterstrategy (codes "nodes") d)
    else None

abbrev pub table_of : (names : List (List ℕ)) → GameData → Data → Option TableData
table_of names g d = option_and_then (λ kind. table_of_kind names g kind d) (kind_of d)

-- ---- texts

-- the JSON that the bytes are
abbrev pub json_in : List ℕ → Option Data
json_in bytes = if is_utf8 bytes then read bytes else None

-- The table that the bytes are, at most 16,777,216 of them.
abbrev pub table_in : Specification → (bytes : List ℕ) → Option TableData
table_in s bytes = if nat_le (length bytes) most_bytes then option_and_then (table_of s.names (game_of s)) (json_in bytes) else None
