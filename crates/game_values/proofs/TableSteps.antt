-- One step of the loop that reads the hidden tables.
use Rattle.std.proofs.Common.{◌≡◌, ℕ, zero, suc, ◌+◌, ◌*◌, ◌^◌, ◌<◌, Bool, true, ◌==◌, nat_lt, List, [], ◌∷◌, length, map, drop, get_or, sym, ◌∙◌, ap, subst, arith}
use Rattle.std.specs.List.{list_all}
use Rattle.std.proofs.lemmas.Bool.{and_parts, false≢true}
use Rattle.std.proofs.lemmas.List.{length-map}
use borrow.Author.Tests.{ltb-true}
use Rattle.spec_model.specs.declared.game.Hidden.{Hidden}
use Rattle.spec_model.specs.Syntax.{VariableData}
use Rattle.spec_model.specs.Rules.{Position}
use Rattle.spec_model.specs.Meaning.{Reading, holds_at}
use Rattle.spec_model.specs.Typing.{Scope}
use Rattle.spec_model.specs.Views.{formula}
use Rattle.spec_model.specs.GameViews.{hidden_data}
use Rattle.spec_model.specs.Games.{HiddenData, Readout, present_reading, letter_of, cell_of, read_table, read_tables}
use Rattle.spec_model.specs.Steps.{are_hidden_values}
use Rattle.spec_model.specs.WellMade.{is_table, is_state_formula, cell_count}
use Rattle.game_values.specs.Found.{cell_at}

-- the atoms of a table
pub table_atoms : (sc : Scope) (h : HiddenData) → is_table sc h ≡ true → list_all (is_state_formula sc) h.atoms ≡ true
table_atoms sc h e =
    let one = and_parts (nat_lt h.first h.values) _ e in
    let two = and_parts (list_all (λ v. nat_lt v h.values) h.next) _ one.1 in
    let three = and_parts (length h.next == cell_count h) _ two.1 in
    (and_parts (list_all (λ table. length table == cell_count h) h.tables) (list_all (is_state_formula sc) h.atoms) three.1).1

module _ (vs : List VariableData) (p : Position) (r r' : Readout) (w : Readout) (h : Hidden) (cell : ℕ) where
  more_at : (hs : List Hidden) (ns : List ℕ) (k : ℕ) → k < length hs → h ≡ get_or hs k h → are_hidden_values (map hidden_data (drop k hs)) (drop k ns) ≡ true →
      r' ≡ read_table r (hidden_data h) cell → cell ≡ cell_of vs p r.entries (hidden_data h) (get_or ns k 0) → read_tables vs p r (map hidden_data (drop k hs)) (drop k ns) ≡ w →
      (are_hidden_values (map hidden_data (drop (suc k) hs)) (drop (suc k) ns) ≡ true) × (read_tables vs p r' (map hidden_data (drop (suc k) hs)) (drop (suc k) ns) ≡ w)
  more_at [] ns k below is fit e f so_far = absurd (omega arith)
  more_at (g ∷ hs) [] zero below is fit e f so_far = absurd (false≢true fit)
  more_at (g ∷ hs) (n ∷ ns) zero below is fit e f so_far = (
    (and_parts (nat_lt n g.values) (are_hidden_values (map hidden_data hs) ns) fit).1,
    ap (λ q. read_tables vs p q (map hidden_data hs) ns) (e ∙ (ap (λ c. read_table r (hidden_data h) c) f ∙ ap (λ d. read_table r (hidden_data d) (cell_of vs p r.entries (hidden_data d) n)) is)) ∙ so_far,
  )
  more_at (g ∷ hs) [] (suc k) below is fit e f so_far = absurd (nothing_left hs k (omega arith) fit)
    where
      nothing_left : (hs : List Hidden) (k : ℕ) → k < length hs → are_hidden_values (map hidden_data (drop k hs)) [] ≡ true → ⊥
      nothing_left [] k h e = absurd (omega arith)
      nothing_left (g ∷ hs) zero h e = false≢true e
      nothing_left (g ∷ hs) (suc k) h e = nothing_left hs k (omega arith) e
  more_at (g ∷ hs) (n ∷ ns) (suc k) below is fit e f so_far = more_at hs ns k (omega arith) is fit e f so_far

  pub read_more : (hs : List Hidden) (ns : List ℕ) (k : ℕ) → k < length hs → h ≡ get_or hs k h → are_hidden_values (map hidden_data (drop k hs)) (drop k ns) ≡ true →
      r' ≡ read_table r (hidden_data h) cell → cell ≡ cell_of vs p r.entries (hidden_data h) (get_or ns k 0) → read_tables vs p r (map hidden_data (drop k hs)) (drop k ns) ≡ w →
      (are_hidden_values (map hidden_data (drop (k + 1) hs)) (drop (k + 1) ns) ≡ true) × (read_tables vs p r' (map hidden_data (drop (k + 1) hs)) (drop (k + 1) ns) ≡ w)
  read_more hs ns k below is fit e f so_far = let next : k + 1 ≡ suc k = omega arith in rw next (more_at hs ns k below is fit e f so_far)

-- the cell that is found, where the reading is what is present
pub cell_is : (vs : List VariableData) (p : Position) (r : Reading) (entries : List (List Bool)) (h : Hidden) (v w cell : ℕ) → r ≡ present_reading vs p entries → v ≡ w →
    cell ≡ cell_at r h v → cell ≡ cell_of vs p entries (hidden_data h) w
cell_is vs p r entries h v w cell present same is =
    is ∙ ap (λ r. v * 2 ^ length h.atoms.items + letter_of (map (λ e. holds_at r e 0) (map formula h.atoms.items))) present
    ∙ (ap (λ n. v * 2 ^ n + letter_of (map (λ e. holds_at (present_reading vs p entries) e 0) (map formula h.atoms.items))) (sym (length-map h.atoms.items formula))
    ∙ ap (λ n. n * 2 ^ length (map formula h.atoms.items) + letter_of (map (λ e. holds_at (present_reading vs p entries) e 0) (map formula h.atoms.items))) same)

-- the hidden value of a table is below its number of values
pub value_below : (hs : List Hidden) (ns : List ℕ) (k : ℕ) → k < length hs → (h : Hidden) → h ≡ get_or hs k h → are_hidden_values (map hidden_data (drop k hs)) (drop k ns) ≡ true → (k < length ns) × (get_or ns k 0 < h.values)
value_below [] ns k below h is fit = absurd (omega arith)
value_below (g ∷ hs) [] zero below h is fit = absurd (false≢true fit)
value_below (g ∷ hs) [] (suc k) below h is fit = absurd (nothing_left hs k (omega arith) fit)
  where
    nothing_left : (hs : List Hidden) (k : ℕ) → k < length hs → are_hidden_values (map hidden_data (drop k hs)) [] ≡ true → ⊥
    nothing_left [] k h e = absurd (omega arith)
    nothing_left (g ∷ hs) zero h e = false≢true e
    nothing_left (g ∷ hs) (suc k) h e = nothing_left hs k (omega arith) e
value_below (g ∷ hs) (n ∷ ns) zero below h is fit = (omega arith, (let less : n < g.values = ltb-true n g.values (and_parts (nat_lt n g.values) (are_hidden_values (map hidden_data hs) ns) fit).0 in subst (λ (j : Hidden). n < j.values) (sym is) less))
value_below (g ∷ hs) (n ∷ ns) (suc k) below h is fit = let rest = value_below hs ns k (omega arith) h is fit in (omega (arith, rest.0), rest.1)
