-- The game of a specification has no more bits than the specification, and with fewer guarantees there are no more.
use Rattle.std.proofs.Common.{◌≡◌, ℕ, zero, suc, ◌+◌, ◌-◌, ◌*◌, ◌^◌, ◌<◌, ◌≤◌, Bool, true, false, not, nat_lt, cond, List, [], ◌∷◌, ◌++◌, filter, length, map, Option, Some, None, option_map, unwrap_or, slice_get, refl, sym, ◌∙◌, ap, subst, arith, length-append}
use Rattle.std.proofs.Math.Pow.{pow_mono}
use Rattle.std.proofs.lemmas.Nat.{mul-pow, pow-add}
use Rattle.std.proofs.lemmas.Bool.{ltb-true, ltb-false}
use Rattle.std.proofs.lemmas.List.{length-map}
use Rattle.std.proofs.lemmas.List.Sums.{sum_by-append, sum_by-cons}
use Rattle.std.specs.List.{sum_by, cons_option}
use Rattle.spec_model.specs.Syntax.{Formula, PastOf, Content, Initial, Safety, Recurring, PatternUse, TriggerUse, PatternData, TriggerData, Statement, VariableData, Specification}
use Rattle.spec_model.specs.Games.{HiddenData}
use Rattle.spec_model.specs.Steps.{below}
use Rattle.spec_model.specs.Sizes.{domain_size, past_operators, product}
use Rattle.spec_model.specs.Cores.{stays, with_guarantees}
use Rattle.spec_model.specs.Needs.{bits_for, hidden_bits, bits_of, need_of}
use Rattle.spec_model.specs.TriggerStates.{has_last, side_states, trigger_atoms, trigger_states}
use Rattle.spec_model.proofs.Restricted.{length-filter-le}
use Rattle.past_bits.specs.Bits.{table_of, tables_of}
use Rattle.pattern_rows.specs.Rows.{rows_of}
use Rattle.trigger_dfa.specs.Standings.{at_set, side_of, all_sets, value_sets, side_standings, standings, table_of as trigger_table}
use Rattle.hidden_game.specs.GameOf.{line_table, entered_table, hidden_of}
use Rattle.hidden_game.proofs.LineValues.{tables_in, tables_entered}
use Rattle.hidden_game.proofs.StateCounts.{assignments_counted}
use Rattle.hidden_game.proofs.FewerStates.{fewer_operators}

-- ---- sums

sum_by-le : {X : Type 0} (f g : X → ℕ) → ((x : X) → f x ≤ g x) → (xs : List X) → sum_by f xs ≤ sum_by g xs
sum_by-le f g each [] = omega arith
sum_by-le f g each (x ∷ xs) = let rest = sum_by-le f g each xs in let here = each x in let one = sum_by-cons f x xs in let other = sum_by-cons g x xs in omega (arith, rest, here, one, other)

sum_by-filter-le : {X : Type 0} (f : X → ℕ) (p : X → Bool) (xs : List X) → sum_by f (filter p xs) ≤ sum_by f xs
sum_by-filter-le f p [] = omega arith
sum_by-filter-le {X} f p (x ∷ xs) = at (p x) (sum_by-filter-le f p xs)
  where
    at : (b : Bool) → sum_by f (filter p xs) ≤ sum_by f xs → sum_by f (cond b (x ∷ filter p xs) (filter p xs)) ≤ sum_by f (x ∷ xs)
    at true rest = let one = sum_by-cons f x (filter p xs) in let other = sum_by-cons f x xs in omega (arith, rest, one, other)
    at false rest = let other = sum_by-cons f x xs in omega (arith, rest, other)

sum_by-longer : (f : ℕ → ℕ) (m k : ℕ) → sum_by f (below m) ≤ sum_by f (below (m + k))
sum_by-longer f m zero = let e : m + 0 ≡ m = omega arith in subst (λ n. sum_by f (below m) ≤ sum_by f (below n)) (sym e) (omega arith)
sum_by-longer f m (suc k) =
    let rest = sum_by-longer f m k in
    let more = sum_by-append f (below (m + k)) ((m + k) ∷ []) in
    let e : m + suc k ≡ suc (m + k) = omega arith in
    subst (λ n. sum_by f (below m) ≤ sum_by f (below n)) (sym e) (omega (arith, rest, more))

-- ---- more values have no fewer bits

pub bits_grow : (n m : ℕ) → n ≤ m → bits_for n ≤ bits_for m
bits_grow n m more =
    let wide = sum_by-le (λ b. cond (nat_lt (2 ^ b) n) 1 0) (λ b. cond (nat_lt (2 ^ b) m) 1 0) (λ b. at b (nat_lt (2 ^ b) n) refl (nat_lt (2 ^ b) m) refl) (below n) in
    let e : n + (m - n) ≡ m = omega (arith, more) in
    let long = subst (λ k. sum_by (λ b. cond (nat_lt (2 ^ b) m) 1 0) (below n) ≤ sum_by (λ b. cond (nat_lt (2 ^ b) m) 1 0) (below k)) e (sum_by-longer (λ b. cond (nat_lt (2 ^ b) m) 1 0) n (m - n)) in
    omega (arith, wide, long)
  where
    at : (b : ℕ) (x : Bool) → nat_lt (2 ^ b) n ≡ x → (y : Bool) → nat_lt (2 ^ b) m ≡ y → cond x 1 0 ≤ cond y 1 0
    at b true less true less' = omega arith
    at b true less false past = absurd (let one = ltb-true (2 ^ b) n less in let other = ltb-false (2 ^ b) m past in omega (arith, one, other, more))
    at b false past y is = omega arith

-- ---- hidden tables

abbrev bits_in : List HiddenData → ℕ
bits_in hs = sum_by (λ h. bits_for h.values) hs

-- an operator's table has one bit
operators_fit : (ops es : List Formula) → bits_in (map (table_of ops) es) ≤ length es
operators_fit ops [] = omega arith
operators_fit ops (e ∷ es) =
    let rest = operators_fit ops es in
    let here = one_bit e in
    let sums = sum_by-cons (λ (h : HiddenData). bits_for h.values) (table_of ops e) (map (table_of ops) es) in
    omega (arith, rest, here, sums)
  where
    of_two : bits_for 2 ≡ 1
    of_two = refl

    of_none : bits_for 0 ≡ 0
    of_none = refl

    one_bit : (e : Formula) → bits_for (table_of ops e).values ≤ 1
    one_bit (PastOf op fs) = omega (arith, of_two)
    one_bit _ = omega (arith, of_none)

-- a trigger's table has no more values than its sides have states
side_few : (tr : TriggerData) (waits : Bool) → length (side_standings tr waits) ≤ side_states (trigger_atoms tr) (side_of tr waits)
side_few tr waits =
    let fewer = length-filter-le (λ set. not (has_last (side_of tr waits) set)) (all_sets (trigger_atoms tr) (side_of tr waits)) in
    let same = length-map (value_sets (trigger_atoms tr) (side_of tr waits)) (at_set waits) in
    omega (arith, fewer, same)

standings_few : (tr : TriggerData) → length (standings tr) ≤ trigger_states tr
standings_few tr = let a = side_few tr false in let b = side_few tr true in let both = length-append (side_standings tr false) (side_standings tr true) in omega (arith, a, b, both)

abbrev Fits : Option HiddenData → ℕ → Type 0
Fits None n = Unit {0}
Fits (Some h) n = bits_for h.values ≤ n

pattern_fits : (args : List Formula) (o : Option PatternData) → Fits (option_map (λ (p : PatternData). record (rows_of p) { atoms = args }) o) (unwrap_or (option_map (λ (p : PatternData). bits_for (product (map domain_size p.domains))) o) 0)
pattern_fits args None = tt
pattern_fits args (Some p) = let count = ap bits_for (assignments_counted p.domains) in omega (arith, count)

trigger_fits : (o : Option TriggerData) → Fits (option_map trigger_table o) (unwrap_or (option_map (λ (tr : TriggerData). bits_for (trigger_states tr)) o) 0)
trigger_fits None = tt
trigger_fits (Some tr) = bits_grow (length (standings tr)) (trigger_states tr) (standings_few tr)

module _ (s : Specification) where
  line_fits : (c : Content) → Fits (line_table s c) (hidden_bits s c)
  line_fits (Initial e) = tt
  line_fits (Safety e) = tt
  line_fits (Recurring e) = tt
  line_fits (PatternUse p args) = pattern_fits args (slice_get s.patterns p)
  line_fits (TriggerUse t) = trigger_fits (slice_get s.triggers t)

  lines_fit : (ls : List Statement) → bits_in (tables_in s ls) ≤ sum_by (λ (l : Statement). hidden_bits s l.content) ls
  lines_fit [] = omega arith
  lines_fit (l ∷ ls) = at (line_table s l.content) (line_fits l.content) (lines_fit ls)
    where
      at : (o : Option HiddenData) → Fits o (hidden_bits s l.content) → bits_in (tables_in s ls) ≤ sum_by (λ (l : Statement). hidden_bits s l.content) ls → bits_in (cons_option o (tables_in s ls)) ≤ sum_by (λ (l : Statement). hidden_bits s l.content) (l ∷ ls)
      at None fits rest = let sums = sum_by-cons (λ (l : Statement). hidden_bits s l.content) l ls in omega (arith, rest, sums)
      at (Some h) fits rest =
          let sums = sum_by-cons (λ (l : Statement). hidden_bits s l.content) l ls in
          let mine = sum_by-cons (λ (h : HiddenData). bits_for h.values) h (tables_in s ls) in
          omega (arith, fits, rest, sums, mine)

  entered_bits : (hs : List HiddenData) → bits_in (map (entered_table s) hs) ≡ bits_in hs
  entered_bits [] = refl
  entered_bits (h ∷ hs) =
      let rest = entered_bits hs in
      let one = sum_by-cons (λ (h : HiddenData). bits_for h.values) (entered_table s h) (map (entered_table s) hs) in
      let other = sum_by-cons (λ (h : HiddenData). bits_for h.values) h hs in
      omega (arith, rest, one, other)

  -- the bits of all hidden tables: one for each operator, and those of the lines
  pub bits_few : bits_in (hidden_of s) ≤ length (past_operators s) + sum_by (λ (l : Statement). hidden_bits s l.content) s.lines
  bits_few =
      let both = sum_by-append (λ (h : HiddenData). bits_for h.values) (tables_of (past_operators s)) (map (entered_table s) (tables_in s s.lines)) in
      let whole = ap (λ hs. bits_in (tables_of (past_operators s) ++ hs)) (tables_entered s s.lines) in
      let entered = entered_bits (tables_in s s.lines) in
      let lines = lines_fit s.lines in
      let operators = operators_fit (past_operators s) (past_operators s) in
      omega (arith, both, whole, entered, lines, operators)

  -- ---- fewer guarantees

  module _ (kept : List ℕ) where
    same_bits : (c : Content) → hidden_bits (with_guarantees s kept) c ≡ hidden_bits s c
    same_bits (Initial e) = refl
    same_bits (Safety e) = refl
    same_bits (Recurring e) = refl
    same_bits (PatternUse p es) = refl
    same_bits (TriggerUse t) = refl

    part_bits : bits_of (with_guarantees s kept) ≤ bits_of s
    part_bits =
        let operators = fewer_operators s kept in
        let each = sum_by-le (λ (l : Statement). hidden_bits (with_guarantees s kept) l.content) (λ (l : Statement). hidden_bits s l.content) (λ l. let same = same_bits l.content in omega (arith, same)) (filter (stays kept) s.lines) in
        let fewer = sum_by-filter-le (λ (l : Statement). hidden_bits s l.content) (stays kept) s.lines in
        omega (arith, operators, each, fewer)

-- more bits need no fewer nodes
pub needs_grow : (b c : ℕ) → b ≤ c → 1 + 2 ^ (4 ^ b) ≤ 1 + 2 ^ (4 ^ c)
needs_grow b c more =
    let fours : (n : ℕ) → 4 ^ n ≡ 2 ^ (n + n) = λ n. mul-pow 2 2 n ∙ sym (pow-add 2 n n) in
    let one = fours b in
    let other = fours c in
    let inner : 2 ^ (b + b) ≤ 2 ^ (c + c) = pow_mono (let h : b + b ≤ c + c = omega (arith, more) in h) in
    let outer : 2 ^ (4 ^ b) ≤ 2 ^ (4 ^ c) = pow_mono (let h : 4 ^ b ≤ 4 ^ c = omega (arith, one, other, inner) in h) in
    omega (arith, outer)

pub part_needs : (s : Specification) (kept : List ℕ) → need_of (with_guarantees s kept) ≤ need_of s
part_needs s kept = needs_grow (bits_of (with_guarantees s kept)) (bits_of s) (part_bits s kept)
