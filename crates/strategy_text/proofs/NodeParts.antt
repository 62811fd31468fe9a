-- The parts of nodes and tables, together.
use Rattle.std.proofs.Common.{◌≡◌, ℕ, List, [], codes, Option, Some, None, refl, sym, ap, subst}
use Rattle.std.proofs.lemmas.Option.{none-some, same_Some}
use Rattle.serde_json.specs.Data.{Data}
use Rattle.spec_model.specs.declared.value.Owner.TheVariants.{Env, Sys}
use Rattle.spec_model.specs.Values.{Assignment}
use Rattle.spec_model.specs.Games.{GameData}
use Rattle.strategy_tables.specs.Tables.{NodeData}
use Rattle.strategy_tables.specs.Games.{TableData, OfSystem, OfEnvironment}
use Rattle.strategy_text.specs.Reading.{small_at, count_at, smalls_at, hidden_at, values_at, node_with, plain_node_of, replying, system_with, environment_with}

-- ---- what the members of a node read as

pub record HasParts (names : List (List ℕ)) (g : GameData) (d : Data) (v : NodeData) : Type 0 where
  pub asm : small_at (codes "asm") d ≡ Some v.asm
  pub goal : small_at (codes "goal") d ≡ Some v.goal
  pub hidden : hidden_at g (codes "hidden") d ≡ Some v.state.hidden
  pub input : values_at names g Env (codes "in") d ≡ Some v.state.position.input
  pub next : smalls_at (codes "next") d ≡ Some v.next
  pub output : values_at names g Sys (codes "out") d ≡ Some v.state.position.output
  pub rank : count_at (codes "rank") d ≡ Some v.rank

-- the node without a layer and a reply
abbrev pub bare : NodeData → NodeData
bare v = record v { layer = 0; reply = [] }

pub node_with-all : (a b : Option ℕ) (h : Option (List ℕ)) (i : Option Assignment) (n : Option (List ℕ)) (o : Option Assignment) (r : Option ℕ) (v : NodeData)
    → a ≡ Some v.asm → b ≡ Some v.goal → h ≡ Some v.state.hidden → i ≡ Some v.state.position.input → n ≡ Some v.next → o ≡ Some v.state.position.output → r ≡ Some v.rank → node_with a b h i n o r ≡ Some (bare v)
node_with-all a b h i n o r v ea eb eh ei en eo er = rw (ea, eb, eh, ei, en, eo, er)

pub plain_node : (names : List (List ℕ)) (g : GameData) (d : Data) (v : NodeData) → HasParts names g d v → plain_node_of names g d ≡ Some (bare v)
plain_node names g d v has = node_with-all _ _ _ _ _ _ _ v has.asm has.goal has.hidden has.input has.next has.output has.rank

-- ---- what stands in a node that was read

pub record Stands (h : Option (List ℕ)) (i o : Option Assignment) (v : NodeData) : Type 0 where
  pub hidden : h ≡ Some v.state.hidden
  pub input : i ≡ Some v.state.position.input
  pub output : o ≡ Some v.state.position.output
  pub layer : v.layer ≡ 0
  pub reply : v.reply ≡ []

pub node_with-parts : (a b : Option ℕ) (h : Option (List ℕ)) (i : Option Assignment) (n : Option (List ℕ)) (o : Option Assignment) (r : Option ℕ) (v : NodeData) → node_with a b h i n o r ≡ Some v → Stands h i o v
node_with-parts (Some a) (Some b) (Some h) (Some i) (Some n) (Some o) (Some r) v e =
    let same = same_Some _ v e in
    record {
      hidden = ap (λ (w : NodeData). Some w.state.hidden) same;
      input = ap (λ (w : NodeData). Some w.state.position.input) same;
      output = ap (λ (w : NodeData). Some w.state.position.output) same;
      layer = sym (ap (λ (w : NodeData). w.layer) same);
      reply = sym (ap (λ (w : NodeData). w.reply) same);
    }
node_with-parts None b h i n o r v e = absurd (none-some v e)
node_with-parts (Some a) None h i n o r v e = absurd (none-some v e)
node_with-parts (Some a) (Some b) None i n o r v e = absurd (none-some v e)
node_with-parts (Some a) (Some b) (Some h) None n o r v e = absurd (none-some v e)
node_with-parts (Some a) (Some b) (Some h) (Some i) None o r v e = absurd (none-some v e)
node_with-parts (Some a) (Some b) (Some h) (Some i) (Some n) None r v e = absurd (none-some v e)
node_with-parts (Some a) (Some b) (Some h) (Some i) (Some n) (Some o) None v e = absurd (none-some v e)

pub replying-parts : (u : Option NodeData) (l : Option ℕ) (r : Option Assignment) (v : NodeData) → replying u l r ≡ Some v → (w : NodeData) × (u ≡ Some w) × (w.state ≡ v.state) × (r ≡ Some v.reply)
replying-parts (Some w) (Some l) (Some r) v e =
    let same = same_Some _ v e in
    (w, refl, ap (λ (x : NodeData). x.state) same, ap (λ (x : NodeData). Some x.reply) same)
replying-parts None l r v e = absurd (none-some v e)
replying-parts (Some w) None r v e = absurd (none-some v e)
replying-parts (Some w) (Some l) None v e = absurd (none-some v e)

-- ---- what stands in a table that was read

pub system_with-nodes : (f : Option (List ℕ)) (k : Option ℕ) (vs : Option (List NodeData)) (t : TableData) (P : TableData → Type 0) → system_with f k vs ≡ Some t
    → ((first : List ℕ) (count : ℕ) (nodes : List NodeData) → vs ≡ Some nodes → P (OfSystem (record { k = count; first = first; nodes = nodes }))) → P t
system_with-nodes (Some f) (Some k) (Some vs) t P e each = subst P (same_Some _ t e) (each f k vs refl)
system_with-nodes None k vs t P e each = absurd (none-some t e)
system_with-nodes (Some f) None vs t P e each = absurd (none-some t e)
system_with-nodes (Some f) (Some k) None t P e each = absurd (none-some t e)

pub environment_with-nodes : (f : Option (List ℕ)) (m : Option ℕ) (r : Option Assignment) (n : Option ℕ) (vs : Option (List NodeData)) (t : TableData) (P : TableData → Type 0) → environment_with f m r n vs ≡ Some t
    → ((first : List ℕ) (most : ℕ) (reply : Assignment) (count : ℕ) (nodes : List NodeData) → r ≡ Some reply → vs ≡ Some nodes → P (OfEnvironment (record { n = count; m = most; reply = reply; first = first; nodes = nodes }))) → P t
environment_with-nodes (Some f) (Some m) (Some r) (Some n) (Some vs) t P e each = subst P (same_Some _ t e) (each f m r n vs refl refl)
environment_with-nodes None m r n vs t P e each = absurd (none-some t e)
environment_with-nodes (Some f) None r n vs t P e each = absurd (none-some t e)
environment_with-nodes (Some f) (Some m) None n vs t P e each = absurd (none-some t e)
environment_with-nodes (Some f) (Some m) (Some r) None vs t P e each = absurd (none-some t e)
environment_with-nodes (Some f) (Some m) (Some r) (Some n) None t P e each = absurd (none-some t e)
