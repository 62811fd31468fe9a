-- The game of a well-typed specification has no more states than the specification's size.
use Rattle.std.proofs.Common.{◌≡◌, ℕ, ◌*◌, ◌^◌, ◌≤◌, Bool, true, false, not, if◌then◌else◌, List, [], ◌∷◌, ◌++◌, length, map, Option, Some, None, option_map, unwrap_or, slice_get, refl, sym, ◌∙◌, ap, subst, arith}
use Rattle.std.proofs.Math.Nat.{pow-suc, mul-le-mul_left, mul-le-mul_right}
use Rattle.std.proofs.lemmas.List.{length-map, map-append}
use Rattle.std.specs.List.{cons_option}
use Rattle.spec_model.specs.Values.{DomainData, assignments_of}
use Rattle.spec_model.specs.Syntax.{Formula, PastOf, Content, Initial, Safety, Recurring, PatternUse, TriggerUse, VariableData, PatternData, TriggerData, Statement, Specification}
use Rattle.spec_model.specs.Moves.{is_env, domains_of}
use Rattle.spec_model.specs.Games.{HiddenData}
use Rattle.spec_model.specs.Steps.{below, hidden_values, states_of}
use Rattle.spec_model.specs.Sizes.{product, domain_size, hidden_size, past_operators, size_of}
use Rattle.spec_model.specs.WellTyped.{WellTyped, is_typed_trigger}
use Rattle.game_values.proofs.Lists.{length-below}
use Rattle.game_states.proofs.ChoicePlaces.{length-grid}
use Rattle.game_states.proofs.Counts.{length-assignments}
use Rattle.game_states.proofs.StateNumbers.{length-states}
use Rattle.past_bits.specs.Bits.{table_of, tables_of}
use Rattle.pattern_rows.specs.Rows.{rows_of}
use Rattle.pattern_rows.proofs.Cells.{holds_at_place}
use Rattle.trigger_dfa.specs.Standings.{table_of as trigger_table}
use Rattle.trigger_dfa.proofs.FilledTables.{typed_values_few}
use Rattle.hidden_game.specs.GameOf.{line_table, entered_table, hidden_of, game_of}
use Rattle.hidden_game.proofs.LineValues.{tables_in, tables_entered}

-- ---- products

pub product-append : (ms ns : List ℕ) → product (ms ++ ns) ≡ product ms * product ns
product-append [] ns = let e : product ns ≡ 1 * product ns = omega arith in e
product-append (m ∷ ms) ns = ap (λ n. m * n) (product-append ms ns) ∙ (let e : m * (product ms * product ns) ≡ m * product ms * product ns = grind arith in e)

pub times_fit : (a b c d : ℕ) → a ≤ c → b ≤ d → a * b ≤ c * d
times_fit a b c d less more = let one = mul-le-mul_right b less in let two = mul-le-mul_left c more in omega (arith, one, two)

-- ---- states

-- inputs and outputs together are as many as the variables' values allow
moves_counted : (vs : List VariableData) → length (assignments_of (domains_of is_env vs)) * length (assignments_of (domains_of (λ o. not (is_env o)) vs)) ≡ product (map (λ v. domain_size v.domain) vs)
moves_counted [] = refl
moves_counted (v ∷ vs) = by_owner (is_env v.owner) (domains_of is_env vs) (domains_of (λ o. not (is_env o)) vs) (product (map (λ v. domain_size v.domain) vs)) (moves_counted vs)
  where
    by_owner : (b : Bool) (ds es : List DomainData) (n : ℕ) → length (assignments_of ds) * length (assignments_of es) ≡ n →
        length (assignments_of (if b then v.domain ∷ ds else ds)) * length (assignments_of (if not b then v.domain ∷ es else es)) ≡ domain_size v.domain * n
    by_owner true ds es n rest =
        let moved : domain_size v.domain * length (assignments_of ds) * length (assignments_of es) ≡ domain_size v.domain * (length (assignments_of ds) * length (assignments_of es)) = grind arith in
        ap (λ k. k * length (assignments_of es)) (length-assignments v.domain ds) ∙ (moved ∙ ap (λ k. domain_size v.domain * k) rest)
    by_owner false ds es n rest =
        let moved : length (assignments_of ds) * (domain_size v.domain * length (assignments_of es)) ≡ domain_size v.domain * (length (assignments_of ds) * length (assignments_of es)) = grind arith in
        ap (λ k. length (assignments_of ds) * k) (length-assignments v.domain es) ∙ (moved ∙ ap (λ k. domain_size v.domain * k) rest)

pub assignments_counted : (ds : List DomainData) → length (assignments_of ds) ≡ product (map domain_size ds)
assignments_counted [] = refl
assignments_counted (d ∷ ds) = length-assignments d ds ∙ ap (λ n. domain_size d * n) (assignments_counted ds)

abbrev pub values_in : List HiddenData → List ℕ
values_in hs = map (λ h. h.values) hs

pub hidden_counted : (hs : List HiddenData) → length (hidden_values hs) ≡ product (values_in hs)
hidden_counted [] = refl
hidden_counted (h ∷ hs) =
    length-grid (λ v. map (λ vs. v ∷ vs) (hidden_values hs)) (length (hidden_values hs)) (λ v. length-map (hidden_values hs) (λ vs. v ∷ vs)) (below h.values)
    ∙ (λ i. length-below h.values i * hidden_counted hs i)

-- ---- hidden tables

-- an operator's table has two values
pub operators_fit : (ops es : List Formula) → product (values_in (map (table_of ops) es)) ≤ 2 ^ length es
operators_fit ops [] = omega arith
operators_fit ops (e ∷ es) = let power = pow-suc 2 (length es) in let both = times_fit (table_of ops e).values (product (values_in (map (table_of ops) es))) 2 (2 ^ length es) (two_values e) (operators_fit ops es) in omega (arith, power, both)
  where
    two_values : (e : Formula) → (table_of ops e).values ≤ 2
    two_values (PastOf op fs) = omega arith
    two_values _ = omega arith

-- the values of all tables: those of the operators' times those of the lines'
pub hidden_product : (s : Specification) → length (hidden_values (hidden_of s)) ≡ product (values_in (tables_of (past_operators s))) * product (values_in (map (entered_table s) (tables_in s s.lines)))
hidden_product s =
    hidden_counted (hidden_of s)
    ∙ (ap (λ hs. product (values_in (tables_of (past_operators s) ++ hs))) (tables_entered s s.lines)
    ∙ (ap product (map-append (λ (h : HiddenData). h.values) (tables_of (past_operators s)) (map (entered_table s) (tables_in s s.lines)))
    ∙ product-append (values_in (tables_of (past_operators s))) (values_in (map (entered_table s) (tables_in s s.lines)))))

-- a line's table has no more values than the line may have, if it has a table
abbrev Fits : Option HiddenData → ℕ → Type 0
Fits None n = 1 ≤ n
Fits (Some h) n = h.values ≤ n

pattern_fits : (args : List Formula) (o : Option PatternData) → Fits (option_map (λ (p : PatternData). record (rows_of p) { atoms = args }) o) (unwrap_or (option_map (λ (p : PatternData). product (map domain_size p.domains)) o) 1)
pattern_fits args None = omega arith
pattern_fits args (Some p) = let count = assignments_counted p.domains in omega (arith, count)

trigger_fits : (s : Specification) (o : Option TriggerData) → ((tr : TriggerData) → o ≡ Some tr → is_typed_trigger s tr ≡ true) → Fits (option_map trigger_table o) 256
trigger_fits s None each = omega arith
trigger_fits s (Some tr) each = typed_values_few s tr (each tr refl)

module _ (s : Specification) (typed : WellTyped s) where
  line_fits : (c : Content) → Fits (line_table s c) (hidden_size s c)
  line_fits (Initial e) = omega arith
  line_fits (Safety e) = omega arith
  line_fits (Recurring e) = omega arith
  line_fits (PatternUse p args) = pattern_fits args (slice_get s.patterns p)
  line_fits (TriggerUse t) = trigger_fits s (slice_get s.triggers t) (λ tr found. holds_at_place (is_typed_trigger s) s.triggers t tr typed.triggers found)

  lines_fit : (ls : List Statement) → product (values_in (map (entered_table s) (tables_in s ls))) ≤ product (map (λ (l : Statement). hidden_size s l.content) ls)
  lines_fit [] = omega arith
  lines_fit (l ∷ ls) = at (line_table s l.content) (hidden_size s l.content) (line_fits l.content) (lines_fit ls)
    where
      at : (o : Option HiddenData) (n : ℕ) → Fits o n → product (values_in (map (entered_table s) (tables_in s ls))) ≤ product (map (λ (l : Statement). hidden_size s l.content) ls) →
          product (values_in (map (entered_table s) (cons_option o (tables_in s ls)))) ≤ n * product (map (λ (l : Statement). hidden_size s l.content) ls)
      at None n some rest = let more = mul-le-mul_right (product (map (λ (l : Statement). hidden_size s l.content) ls)) some in omega (arith, more, rest)
      at (Some h) n few rest = times_fit h.values (product (values_in (map (entered_table s) (tables_in s ls)))) n (product (map (λ (l : Statement). hidden_size s l.content) ls)) few rest

  hidden_fit : length (hidden_values (hidden_of s)) ≤ 2 ^ length (past_operators s) * product (map (λ (l : Statement). hidden_size s l.content) s.lines)
  hidden_fit =
      subst (λ n. n ≤ 2 ^ length (past_operators s) * product (map (λ (l : Statement). hidden_size s l.content) s.lines)) (sym (hidden_product s))
      (times_fit _ _ _ _ (operators_fit (past_operators s) (past_operators s)) (lines_fit s.lines))

  pub states_few : length (states_of (game_of s)) ≤ size_of s
  states_few =
      subst (λ n. n ≤ size_of s) (sym (length-states (game_of s) ∙ ap (λ n. length (hidden_values (hidden_of s)) * n) (moves_counted s.variables)))
      (ordered (length (hidden_values (hidden_of s))) (product (map (λ (v : VariableData). domain_size v.domain) s.variables)) (2 ^ length (past_operators s)) (product (map (λ (l : Statement). hidden_size s l.content) s.lines)) hidden_fit)
    where
      ordered : (h d a b : ℕ) → h ≤ a * b → h * d ≤ d * a * b
      ordered h d a b few = let more = mul-le-mul_right d few in let same : a * b * d ≡ d * a * b = grind arith in omega (arith, more, same)
