-- An entry of a hidden table is found by the tables before it.
use Rattle.std.proofs.Common.{◌≡◌, ℕ, zero, suc, ◌+◌, ◌<◌, ◌≤◌, Bool, true, not, List, [], ◌∷◌, ◌++◌, length, length-append, map, take, get_or, refl, sym, ap, ◌∙◌, subst, arith}
use Rattle.std.proofs.Math.ListN.{get_or-append}
use Rattle.std.proofs.Math.Seq.{get_or-append_seam}
use Rattle.std.proofs.lemmas.Bool.{and_parts, and_from, false≢true}
use Rattle.std.specs.Prelude.{nat_lt}
use borrow.Author.Tests.{ltb-true}
use Rattle.spec_model.specs.declared.game.Hidden.{Hidden}
use Rattle.spec_model.specs.Values.{is_assignment}
use Rattle.spec_model.specs.Syntax.{VariableData}
use Rattle.spec_model.specs.Views.{formula}
use Rattle.spec_model.specs.GameViews.{hidden_data}
use Rattle.spec_model.specs.Rules.{Position}
use Rattle.spec_model.specs.Moves.{is_env, domains_of}
use Rattle.spec_model.specs.Typing.{Scope}
use Rattle.spec_model.specs.FormulaSizes.{nodes_in_each}
use Rattle.spec_model.specs.Games.{HiddenData, Readout, entries_in, read_table, read_tables, cell_of, present_reading}
use Rattle.spec_model.specs.Steps.{are_hidden_values}
use Rattle.spec_model.specs.WellMade.{is_table, are_tables}
use Rattle.game_values.specs.Safety.{AreSafe, formulas_in}
use Rattle.game_values.proofs.Safe.{IsTyped}
use Rattle.game_values.proofs.Typed.{typed_among, states_safe}
use Rattle.game_values.proofs.TableSteps.{table_atoms}
use Rattle.game_play.specs.Sights.{nodes_of_atoms}

past_end : {X : Type 0} (xs : List X) (k : ℕ) (d : X) → length xs ≤ k → get_or xs k d ≡ d
past_end [] k d h = refl
past_end (x ∷ xs) zero d h = absurd (omega arith)
past_end (x ∷ xs) (suc k) d h = past_end xs k d (omega arith)

module _ (vs : List VariableData) (p : Position) where
  one_more : (r : Readout) (h : HiddenData) (v : ℕ) → length (read_table r h (cell_of vs p r.entries h v)).entries ≡ length r.entries + 1
  one_more r h v = length-append r.entries (entries_in h (cell_of vs p r.entries h v) ∷ [])

  -- what is read stays as it is
  kept : (r : Readout) (hs : List HiddenData) (ns : List ℕ) (j : ℕ) → j < length r.entries → get_or (read_tables vs p r hs ns).entries j [] ≡ get_or r.entries j []
  kept r [] ns j h = refl
  kept r (x ∷ hs) [] j h = refl
  kept r (x ∷ hs) (v ∷ ns) j h =
      kept (read_table r x (cell_of vs p r.entries x v)) hs ns j (omega (arith, one_more r x v))
      ∙ get_or-append r.entries (entries_in x (cell_of vs p r.entries x v) ∷ []) [] j h

  -- a table is read where those before it are read
  pub entries_there : (r : Readout) (hs : List Hidden) (ns : List ℕ) (k j : ℕ) → k < length hs → k < length ns → (h : Hidden) → h ≡ get_or hs k h → j ≡ length r.entries + k →
      get_or (read_tables vs p r (map hidden_data hs) ns).entries j [] ≡ entries_in (hidden_data h) (cell_of vs p (read_tables vs p r (map hidden_data (take k hs)) (take k ns)).entries (hidden_data h) (get_or ns k 0))
  entries_there r [] ns k j below valued h is at = absurd (omega arith)
  entries_there r (g ∷ hs) [] k j below valued h is at = absurd (omega arith)
  entries_there r (g ∷ hs) (v ∷ ns) zero j below valued h is at =
      let here : j ≡ length r.entries = omega (arith, at) in
      let cell = cell_of vs p r.entries (hidden_data g) v in
      kept (read_table r (hidden_data g) cell) (map hidden_data hs) ns j (omega (arith, here, one_more r (hidden_data g) v))
      ∙ (ap (λ i. get_or (r.entries ++ entries_in (hidden_data g) cell ∷ []) i []) here
      ∙ (get_or-append_seam r.entries (entries_in (hidden_data g) cell) [] []
      ∙ ap (λ (d : Hidden). entries_in (hidden_data d) (cell_of vs p r.entries (hidden_data d) v)) (sym is)))
  entries_there r (g ∷ hs) (v ∷ ns) (suc k) j below valued h is at =
      entries_there (read_table r (hidden_data g) (cell_of vs p r.entries (hidden_data g) v)) hs ns k j (omega arith) (omega arith) h is (omega (arith, at, one_more r (hidden_data g) v))

  -- past the last table there are none
  pub none_there : (r : Readout) (hs : List Hidden) (ns : List ℕ) (j : ℕ) → length r.entries + length hs ≤ j → get_or (read_tables vs p r (map hidden_data hs) ns).entries j [] ≡ []
  none_there r [] ns j past = past_end r.entries j [] (omega arith)
  none_there r (g ∷ hs) [] j past = past_end r.entries j [] (omega arith)
  none_there r (g ∷ hs) (v ∷ ns) j past = none_there (read_table r (hidden_data g) (cell_of vs p r.entries (hidden_data g) v)) hs ns j (omega (arith, past, one_more r (hidden_data g) v))

  -- the atoms of a table may be computed, whatever the entries are
  pub present_typed : (entries : List (List Bool)) (before : List ℕ) → is_assignment (domains_of is_env vs) p.input ≡ true → is_assignment (domains_of (λ o. not (is_env o)) vs) p.output ≡ true →
      IsTyped (record { domains = map (λ v. v.domain) vs; tables = before }) (present_reading vs p entries)
  present_typed entries before x y k t = typed_among vs p.input p.output x y k

  pub present_safe : (entries : List (List Bool)) (before : List ℕ) → is_assignment (domains_of is_env vs) p.input ≡ true → is_assignment (domains_of (λ o. not (is_env o)) vs) p.output ≡ true →
      (h : Hidden) → is_table (record { domains = map (λ v. v.domain) vs; tables = before }) (hidden_data h) ≡ true → AreSafe (present_reading vs p entries) (formulas_in h.atoms.items) 0
  present_safe entries before x y h table =
      states_safe (record { domains = map (λ v. v.domain) vs; tables = before }) (present_reading vs p entries) (present_typed entries before x y) (map formula h.atoms.items)
      (table_atoms (record { domains = map (λ v. v.domain) vs; tables = before }) (hidden_data h) table)

-- the tables before one, and that one
pub tables_before : (sc : Scope) (hs : List Hidden) (k : ℕ) → are_tables sc (map hidden_data hs) ≡ true → are_tables sc (map hidden_data (take k hs)) ≡ true
tables_before sc hs zero e = refl
tables_before sc [] (suc k) e = refl
tables_before sc (h ∷ hs) (suc k) e =
    let parts = and_parts (is_table sc (hidden_data h)) _ e in
    and_from (is_table sc (hidden_data h)) _ parts.0 (tables_before (record sc { tables = sc.tables ++ length (hidden_data h).tables ∷ [] }) hs k parts.1)

pub table_there : (sc : Scope) (hs : List Hidden) (k : ℕ) → are_tables sc (map hidden_data hs) ≡ true → k < length hs → (h : Hidden) → h ≡ get_or hs k h → (before : List ℕ) × (is_table (record sc { tables = before }) (hidden_data h) ≡ true)
table_there sc [] k e below h is = absurd (omega arith)
table_there sc (g ∷ hs) zero e below h is = (sc.tables, ap (λ (d : Hidden). is_table sc (hidden_data d)) is ∙ (and_parts (is_table sc (hidden_data g)) _ e).0)
table_there sc (g ∷ hs) (suc k) e below h is = table_there (record sc { tables = sc.tables ++ length (hidden_data g).tables ∷ [] }) hs k (and_parts (is_table sc (hidden_data g)) _ e).1 (omega arith) h is

pub values_before : (hs : List Hidden) (ns : List ℕ) (k : ℕ) → are_hidden_values (map hidden_data hs) ns ≡ true → are_hidden_values (map hidden_data (take k hs)) (take k ns) ≡ true
values_before hs ns zero e = refl
values_before [] [] (suc k) e = refl
values_before [] (n ∷ ns) (suc k) e = absurd (false≢true e)
values_before (h ∷ hs) [] (suc k) e = absurd (false≢true e)
values_before (h ∷ hs) (n ∷ ns) (suc k) e =
    let parts = and_parts (nat_lt n h.values) (are_hidden_values (map hidden_data hs) ns) e in
    and_from (nat_lt n h.values) _ parts.0 (values_before hs ns k parts.1)

-- a hidden value for each table, below its number of values
pub value_there : (hs : List Hidden) (ns : List ℕ) (k : ℕ) → are_hidden_values (map hidden_data hs) ns ≡ true → k < length hs → (h : Hidden) → h ≡ get_or hs k h → (k < length ns) × (get_or ns k 0 < h.values)
value_there [] ns k e below h is = absurd (omega arith)
value_there (g ∷ hs) [] k e below h is = absurd (false≢true e)
value_there (g ∷ hs) (n ∷ ns) zero e below h is =
    let less : n < g.values = ltb-true n g.values (and_parts (nat_lt n g.values) (are_hidden_values (map hidden_data hs) ns) e).0 in
    (omega arith, subst (λ (d : Hidden). n < d.values) (sym is) less)
value_there (g ∷ hs) (n ∷ ns) (suc k) e below h is =
    let rest = value_there hs ns k (and_parts (nat_lt n g.values) (are_hidden_values (map hidden_data hs) ns) e).1 (omega arith) h is in
    (omega (arith, rest.0), rest.1)

pub same_there : (hs : List Hidden) (k : ℕ) → k < length hs → (d e : Hidden) → get_or hs k d ≡ get_or hs k e
same_there [] k below d e = absurd (omega arith)
same_there (h ∷ hs) zero below d e = refl
same_there (h ∷ hs) (suc k) below d e = same_there hs k (omega arith) d e

-- fewer atoms are left
pub fewer_nodes : (hs : List Hidden) (k : ℕ) → k < length hs → (h : Hidden) → h ≡ get_or hs k h → nodes_in_each (formulas_in h.atoms.items) + nodes_of_atoms (take k hs) ≤ nodes_of_atoms hs
fewer_nodes [] k below h is = absurd (omega arith)
fewer_nodes (g ∷ hs) zero below h is = let same = ap (λ (d : Hidden). nodes_in_each (formulas_in d.atoms.items)) is in omega (arith, same)
fewer_nodes (g ∷ hs) (suc k) below h is = let there = fewer_nodes hs k (omega arith) h is in omega (arith, there)
