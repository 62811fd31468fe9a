-- Codes that are written into columns, and rows that are read one after the other.
use Rattle.std.proofs.Common.{◌≡◌, ℕ, zero, suc, ◌+◌, ◌*◌, ◌<◌, ◌≤◌, Bool, true, false, not, cond, if◌then◌else◌, List, [], ◌∷◌, ◌++◌, length, map, take, drop, get_or, slice_set, count_by, refl, sym, ap, subst, ◌∙◌, append_assoc, arith, inl, inr, ◌⊎◌, IsTrue}
use Rattle.std.proofs.lemmas.List.{get_or-set_same, get_or-set_other, length-append, append-nil, take_at, drop_at}
use Rattle.std.proofs.Math.Nat.{mul-le-mul_right}
use Rattle.spec_model.specs.declared.value.Value.{Value}
use Rattle.spec_model.specs.declared.value.Var.{Var}
use Rattle.spec_model.specs.Views.{variable_data}
use Rattle.spec_model.specs.Syntax.{VariableData}
use Rattle.spec_model.specs.Rules.{Position, Run}
use Rattle.spec_model.specs.Moves.{is_env, domains_of, nothing}
use Rattle.spec_model.specs.Games.{GameData}
use Rattle.spec_model.specs.Steps.{is_input, is_output}
use Rattle.game_values.proofs.Typed.{count-cons}
use Rattle.trace_planes.specs.Audits.{IsPosition}
use Rattle.column_planes.specs.Columns.{value_of_code, domain_in}
use Rattle.trace_planes.specs.Rows.{AreWhole, AreRows, rows_of, KeepsOthers, HasCodes, HasColumns}
use Rattle.trace_planes.proofs.Placing.{length_fits, length-domains_of}

pub below_or_from : (i n : ℕ) → (i < n) ⊎ (n ≤ i)
below_or_from i n = grind arith

module _ (codes : List ℕ) (i k w : ℕ) (inside : 4096 * k + i < length codes) (low : i < 4096) where
  pub others_more : (old : List ℕ) → KeepsOthers i old codes → KeepsOthers i old (slice_set codes (4096 * k + i) w)
  others_more old before = λ k' j below off. get_or-set_other codes (4096 * k + i) (4096 * k' + j) w 0 (λ e. off (omega (arith, e, below, low))) ∙ before k' j below off

  pub codes_more : (P : ℕ → ℕ → Type 0) → ((k' : ℕ) → k' < k → P k' (get_or codes (4096 * k' + i) 0)) → P k w → (k' : ℕ) → k' < k + 1 → P k' (get_or (slice_set codes (4096 * k + i) w) (4096 * k' + i) 0)
  codes_more P before is k' below =
      elim (below_or_from k' k) [
        | inl less ↦ subst (P k') (sym (get_or-set_other codes (4096 * k + i) (4096 * k' + i) w 0 (λ e. absurd (omega (arith, e, less))))) (before k' less)
        | inr from ↦
            let same : k ≡ k' = omega (arith, from, below) in
            subst (λ n. P n (get_or (slice_set codes (4096 * k + i) w) (4096 * n + i) 0)) same (subst (P k) (sym (get_or-set_same codes (4096 * k + i) w 0 inside)) is)
      ]

-- ---- how many inputs stand before a variable

abbrev is_input_data : VariableData → Bool
is_input_data v = is_env v.owner

abbrev is_output_data : VariableData → Bool
is_output_data v = not (is_env v.owner)

pub parts_count : (vs : List VariableData) → count_by is_input_data vs + count_by is_output_data vs ≡ length vs
parts_count [] = refl
parts_count (v ∷ vs) = ap (λ n. n + count_by is_output_data (v ∷ vs)) (count-cons is_input_data v vs) ∙ (ap (λ n. cond (is_env v.owner) (suc (count_by is_input_data vs)) (count_by is_input_data vs) + n) (count-cons is_output_data v vs) ∙ at (is_env v.owner) (parts_count vs))
  where
    at : (b : Bool) → count_by is_input_data vs + count_by is_output_data vs ≡ length vs →
        cond b (suc (count_by is_input_data vs)) (count_by is_input_data vs) + cond (not b) (suc (count_by is_output_data vs)) (count_by is_output_data vs) ≡ suc (length vs)
    at true rest = omega (arith, rest)
    at false rest = omega (arith, rest)

inputs_more : (vars : List Var) (k : ℕ) (v : Var) → k < length vars → v ≡ get_or vars k v →
    count_by is_input_data (map variable_data (take (suc k) vars)) ≡ count_by is_input_data (map variable_data (take k vars)) + (if is_env v.owner then 1 else 0)
inputs_more [] k v below is = absurd (omega arith)
inputs_more (u ∷ vars) zero v below is = count-cons is_input_data (variable_data u) [] ∙ (ap (λ (x : Var). cond (is_env x.owner) 1 0) (sym is) ∙ at (is_env v.owner))
  where
    at : (b : Bool) → cond b 1 0 ≡ 0 + (if b then 1 else 0)
    at true = refl
    at false = refl
inputs_more (u ∷ vars) (suc k) v below is =
    count-cons is_input_data (variable_data u) (map variable_data (take (suc k) vars))
    ∙ (at (is_env u.owner) (inputs_more vars k v (omega arith) is)
    ∙ ap (λ n. n + (if is_env v.owner then 1 else 0)) (sym (count-cons is_input_data (variable_data u) (map variable_data (take k vars)))))
  where
    at : (b : Bool) → count_by is_input_data (map variable_data (take (suc k) vars)) ≡ count_by is_input_data (map variable_data (take k vars)) + (if is_env v.owner then 1 else 0) →
        cond b (suc (count_by is_input_data (map variable_data (take (suc k) vars)))) (count_by is_input_data (map variable_data (take (suc k) vars)))
        ≡ cond b (suc (count_by is_input_data (map variable_data (take k vars)))) (count_by is_input_data (map variable_data (take k vars))) + (if is_env v.owner then 1 else 0)
    at true rest = omega (arith, rest)
    at false rest = rest

pub inputs_from : (vars : List Var) (k j : ℕ) (v : Var) → k < length vars → suc k ≡ j → v ≡ get_or vars k v →
    count_by is_input_data (map variable_data (take j vars)) ≡ count_by is_input_data (map variable_data (take k vars)) + (if is_env v.owner then 1 else 0)
inputs_from vars k j v below next is = rw (← next) (inputs_more vars k v below is)

-- ---- rows

pub whole_at : (g : GameData) (ps : Run) (i : ℕ) → i < length ps → AreWhole g ps → IsTrue (is_input g (get_or ps i nothing).input) × IsTrue (is_output g (get_or ps i nothing).output)
whole_at g [] i below whole = absurd (omega arith)
whole_at g (p ∷ ps) zero below whole = (whole.0, whole.1)
whole_at g (p ∷ ps) (suc i) below whole = whole_at g ps i (omega arith) whole.2

rows-drop : (ps : Run) (i : ℕ) → i < length ps → rows_of (drop i ps) ≡ ((get_or ps i nothing).input ++ (get_or ps i nothing).output) ++ rows_of (drop (suc i) ps)
rows-drop [] i below = absurd (omega arith)
rows-drop (p ∷ ps) zero below = refl
rows-drop (p ∷ ps) (suc i) below = rows-drop ps i (omega arith)

pub rows_from : (ps : Run) (i j : ℕ) → i < length ps → suc i ≡ j → rows_of (drop i ps) ≡ ((get_or ps i nothing).input ++ (get_or ps i nothing).output) ++ rows_of (drop j ps)
rows_from ps i j below next = rw (← next) (rows-drop ps i below)

pub row_wide : (g : GameData) (p : Position) → IsTrue (is_input g p.input) → IsTrue (is_output g p.output) → length (p.input ++ p.output) ≡ length g.variables
row_wide g p input output =
    let all = parts_count g.variables in
    let ins = length_fits (domains_of is_env g.variables) p.input input ∙ length-domains_of is_env g.variables in
    let outs = length_fits (domains_of (λ o. not (is_env o)) g.variables) p.output output ∙ length-domains_of (λ o. not (is_env o)) g.variables in
    omega (arith, all, ins, outs, length-append p.input p.output)

module _ (g : GameData) (width : ℕ) (ps : Run) (rows : List Value) (are : AreRows g width ps rows) (i : ℕ) (below : i < length ps) (rest : List Value) (is : rest ≡ rows_of (drop i ps)) where
  abbrev here : Position
  here = get_or ps i nothing

  inside : IsTrue (is_input g here.input) × IsTrue (is_output g here.output)
  inside = whole_at g ps i below are.whole

  wide : length (here.input ++ here.output) ≡ width
  wide = row_wide g here inside.0 inside.1 ∙ sym are.wide

  parted : rest ≡ (here.input ++ here.output) ++ rows_of (drop (i + 1) ps)
  parted = is ∙ rows_from ps i (i + 1) below (omega arith)

  pub rest_room : width ≤ length rest
  rest_room = let long = ap (λ (vs : List Value). length vs) parted in omega (arith, long, wide, length-append (here.input ++ here.output) (rows_of (drop (i + 1) ps)))

  pub rest_next : drop width rest ≡ rows_of (drop (i + 1) ps)
  rest_next = ap (drop width) parted ∙ drop_at (here.input ++ here.output) (rows_of (drop (i + 1) ps)) width wide

  pub position_there : (row : List Value) → row ≡ take width rest → IsPosition g here row
  position_there row same =
      record {
        input = inside.0;
        output = inside.1;
        listed = same ∙ (ap (take width) parted ∙ take_at (here.input ++ here.output) (rows_of (drop (i + 1) ps)) width wide);
      }

-- the columns of one position more
pub columns_more : (g : GameData) (ps : Run) (i : ℕ) (codes new : List ℕ) → i < 4096 → HasColumns codes g i ps → KeepsOthers i codes new → HasCodes new i g.variables (get_or ps i nothing) → HasColumns new g (i + 1) ps
columns_more g ps i codes new low before others here i' below =
    elim (below_or_from i' i) [
      | inl less ↦ λ k fits. ap (value_of_code (domain_in g.variables k)) (others k i' (omega (arith, less, low)) (λ e. absurd (omega (arith, e, less)))) ∙ before i' less k fits
      | inr from ↦ let same : i ≡ i' = omega (arith, from, below) in subst (λ (n : ℕ). HasCodes new n g.variables (get_or ps n nothing)) same here
    ]

-- ---- one row more

suc-times : (a b : ℕ) → suc a * b ≡ a * b + b
suc-times a b = grind arith

-- there is room for a row where so many rows are kept that one more may wait
pub room_for : (waiting width room capacity len long : ℕ) → waiting + room ≡ 4096 → 0 < room → 4096 * width ≤ capacity → len ≡ waiting * width → long ≡ width → len + long ≤ capacity
room_for waiting width room capacity len long left some fits are wide =
    let more : suc waiting * width ≤ 4096 * width = mul-le-mul_right {m = suc waiting} {n = 4096} width (omega (arith, left, some)) in
    let one = suc-times waiting width in
    omega (arith, more, one, fits, are, wide)

none-times : (n : ℕ) → 0 ≡ 0 * n
none-times n = grind arith

pub rows_long : (g : GameData) (ps : Run) → AreWhole g ps → length (rows_of ps) ≡ length ps * length g.variables
rows_long g [] whole = none-times (length g.variables)
rows_long g (p ∷ ps) whole =
    let row = row_wide g p whole.0 whole.1 in
    let rest = rows_long g ps whole.2 in
    let both = length-append (p.input ++ p.output) (rows_of ps) in
    let one = suc-times (length ps) (length g.variables) in
    omega (arith, row, rest, both, one)

pub rows_of-push : (ps : Run) (p : Position) → rows_of (ps ++ p ∷ []) ≡ rows_of ps ++ (p.input ++ p.output)
rows_of-push [] p = append-nil (p.input ++ p.output)
rows_of-push (q ∷ ps) p = ap (λ (vs : List Value). (q.input ++ q.output) ++ vs) (rows_of-push ps p) ∙ sym (append_assoc (q.input ++ q.output) (rows_of ps) (p.input ++ p.output))
