-- The functions of lines tell whether the lines hold.
use Rattle.std.proofs.Common.{◌≡◌, ℕ, zero, suc, ◌+◌, ◌<◌, Bool, true, false, not, ◌&&◌, ◌||◌, is_some, List, [], ◌∷◌, ◌++◌, length, map, take, get_or, Some, None, refl, sym, ◌∙◌, ap, inl, inr, arith}
use Rattle.std.proofs.lemmas.Bool.{and_parts, false≢true}
use Rattle.std.proofs.lemmas.List.{map-append, flat_map_more}
use Rattle.std.proofs.lemmas.List.Concat.{flat_map-cons}
use Rattle.std.proofs.lemmas.List.Folds.{list_all-append}
use Rattle.std.specs.List.{list_all}
use Rattle.spec_model.specs.declared.expr.Expr.{Expr}
use Rattle.spec_model.specs.Syntax.{Formula}
use Rattle.spec_model.specs.Views.{formula}
use Rattle.spec_model.specs.Meaning.{holds_at}
use Rattle.spec_model.specs.Moves.{has_next}
use Rattle.spec_model.specs.Diagrams.{Bits, Function, shifted}
use Rattle.spec_model.specs.Games.{GameData, State, step_reading}
use Rattle.spec_model.specs.Steps.{Before, is_state, line_holds, waits_for_output}
use Rattle.spec_model.specs.WellMade.{WellMade, scope_of, is_step_formula, is_state_formula, is_initial_assumption, is_safety_assumption}
use Rattle.regions.specs.declared.types.When.{When}
use Rattle.regions.specs.declared.types.When.TheVariants.{First, Later}
use Rattle.regions.specs.Rules.{is_time}
use Rattle.game_values.specs.declared.seen.At.TheVariants.{Now, Next}
use Rattle.bdd_ops.specs.Reading.{Ignores}
use Rattle.bdd_bits.specs.Calls.{RisesOver}
use Rattle.bit_compile.specs.Domains.{state_domains, level_count}
use Rattle.bit_compile.specs.Compiled.{compiled}
use Rattle.bit_compile.specs.CompileLaws.{IsFormulaOf, IsReadLevel}
use Rattle.bit_compile.proofs.CompiledFormulas.{formula_compiled}
use Rattle.bit_compile.proofs.CyclesLemmas.{take_next}
use Rattle.bdd_sets.specs.declared.lines.Side.{Side}
use Rattle.bdd_sets.specs.declared.lines.Side.TheVariants.{Assumptions, Guarantees}
use Rattle.bdd_sets.specs.StateBits.{HasState}
use Rattle.bdd_bits.specs.Orders.{BitOrder}
use Rattle.bdd_sets.specs.MoveBits.{IsLevelOf, LeadsToNext}
use Rattle.bdd_sets.specs.NextOrders.{KeepsNext}
use Rattle.bdd_sets.specs.ToldMoves.{HasBefore, TellsMoves}
use Rattle.bdd_sets.specs.Members.{all_true}
use Rattle.bdd_sets.specs.Lines.{first_lines, safety_lines, is_late, line_functions, functions_of, functions_judged}
use Rattle.bdd_sets.specs.LineScenes.{line_data, lines_hold}
use Rattle.bdd_sets.proofs.ShiftLemmas.{rises_over, moved_bits, now_from_next}

-- ---- which levels a line's formula reads

module _ (g : GameData) (e : Formula) (f : Function) (is : IsFormulaOf g e f) (now : has_next e ≡ false) where
  present_only : (m : ℕ) → ((k : ℕ) → k < length (state_domains g) → IsLevelOf g Now k m → ⊥) → Ignores m f
  present_only m outside = is.reads m none
    where
      none : IsReadLevel g e m → ⊥
      none (k, known, inl level) = outside k known level
      none (k, known, inr (level, awaited)) = absurd (false≢true (sym now ∙ awaited.0))

  pub line_rises : (levels : ℕ) (o : BitOrder) (to : List ℕ) → levels ≡ level_count (state_domains g) → LeadsToNext g to → KeepsNext g o to → RisesOver levels o to f
  line_rises = rises_over g f present_only

left_false : (p q : Bool) → (p || q) ≡ false → p ≡ false
left_false false q e = refl
left_false true q e = absurd (false≢true (sym e))

-- a line that isn't late reads no next value
pub late_or_now : (g : GameData) (side : Side) (e : Formula) → is_late g side e ≡ false → has_next e ≡ false
late_or_now g Assumptions e late = left_false (has_next e) _ late
late_or_now g Guarantees e late = late

-- ---- one line

and_true : (p : Bool) → (p && true) ≡ p
and_true true = refl
and_true false = refl

module _ (g : GameData) (to : List ℕ) (leads : LeadsToNext g to) where
  -- at the bits of the next state
  now_told : (e : Formula) → IsFormulaOf g e (compiled g e) → has_next e ≡ false → (s : State) (bits : Bits) → is_state g s ≡ true → HasState g Next s bits → shifted to (compiled g e) bits ≡ holds_at (step_reading g s s) e 0
  now_told e is now s bits here has = is.meaning s s (moved_bits g to leads bits) here here (now_from_next g to leads bits s has) (λ k known awaited. absurd (false≢true (sym now ∙ awaited.0)))

  -- at those of the state before too
  late_told : (e : Formula) → IsFormulaOf g e (compiled g e) → (r s : State) (bits : Bits) → is_state g r ≡ true → is_state g s ≡ true → HasState g Now r bits → HasState g Next s bits → compiled g e bits ≡ holds_at (step_reading g r s) e 0
  late_told e is r s bits there here before has = is.meaning r s bits there here before (λ k known awaited. has k known)

  line_told : (when : When) (late : Bool) (e : Formula) → IsFormulaOf g e (compiled g e) → (late ≡ false → has_next e ≡ false) → (b : Before) (s : State) (bits : Bits) → is_time g when b ≡ true → is_state g s ≡ true → HasBefore g b bits → HasState g Next s bits → all_true (line_functions g to when late e) bits ≡ line_holds g late b s e
  line_told First true e is now None s bits time here before has = refl
  line_told First true e is now (Some r) s bits time here before has = absurd (false≢true time)
  line_told First false e is now b s bits time here before has = and_true _ ∙ now_told e is (now refl) s bits here has
  line_told Later true e is now None s bits time here before has = absurd (false≢true time)
  line_told Later true e is now (Some r) s bits time here before has = and_true _ ∙ late_told e is r s bits time here before has
  line_told Later false e is now b s bits time here before has = and_true _ ∙ now_told e is (now refl) s bits here has

  -- ---- several lines

  module _ (well : WellMade g) (when : When) (late : Formula → Bool) (now : (e : Formula) → late e ≡ false → has_next e ≡ false) (b : Before) (s : State) (bits : Bits) (time : is_time g when b ≡ true) (here : is_state g s ≡ true) (before : HasBefore g b bits) (has : HasState g Next s bits) where
    lines_told : (ls : List (ℕ × Formula)) → list_all (λ l. is_step_formula (scope_of g) l.1) ls ≡ true → all_true (functions_of g to when late ls) bits ≡ list_all (λ l. line_holds g (late l.1) b s l.1) ls
    lines_told [] made = refl
    lines_told (l ∷ ls) made =
        let parts = and_parts (is_step_formula (scope_of g) l.1) _ made in
        let one = line_told when (late l.1) l.1 (formula_compiled g well l.1 parts.0) (now l.1) b s bits time here before has in
        let more = lines_told ls parts.1 in
        ap (λ (fs : List Function). all_true fs bits) (flat_map-cons (λ (l : ℕ × Formula). line_functions g to when (late l.1) l.1) l ls)
        ∙ (list_all-append (λ (f : Function). f bits) (line_functions g to when (late l.1) l.1) (functions_of g to when late ls)
        ∙ (ap (λ (p : Bool). p && all_true (functions_of g to when late ls) bits) one ∙ ap (λ (p : Bool). line_holds g (late l.1) b s l.1 && p) more))

-- ---- the lines of a side

weaker : {X : Type 0} (p q : X → Bool) → ((x : X) → p x ≡ true → q x ≡ true) → (xs : List X) → list_all p xs ≡ true → list_all q xs ≡ true
weaker p q implies [] all = refl
weaker p q implies (x ∷ xs) all =
    let parts = and_parts (p x) (list_all p xs) all in
    let first = implies x parts.0 in
    let rest = weaker p q implies xs parts.1 in
    ap (λ c. c && list_all q xs) first ∙ rest

same_tests : {X : Type 0} (p q r : X → Bool) → ((x : X) → r x ≡ true → p x ≡ q x) → (xs : List X) → list_all r xs ≡ true → list_all p xs ≡ list_all q xs
same_tests p q r same [] all = refl
same_tests p q r same (x ∷ xs) all =
    let parts = and_parts (r x) (list_all r xs) all in
    ap (λ c. c && list_all p xs) (same x parts.0) ∙ ap (λ c. q x && c) (same_tests p q r same xs parts.1)

not_true : (p : Bool) → not p ≡ true → p ≡ false
not_true false e = refl
not_true true e = absurd (false≢true e)

-- which of the first lines are late: none
abbrev pub IsFirstLine : GameData → Side → ℕ × Formula → Type 0
IsFirstLine g side l = (is_step_formula (scope_of g) l.1 ≡ true) × (is_late g side l.1 ≡ false)

abbrev is_first : GameData → Side → ℕ × Formula → Bool
is_first g Assumptions l = is_initial_assumption g l.1
is_first g Guarantees l = is_state_formula (scope_of g) l.1

first_is : (g : GameData) (side : Side) (l : ℕ × Formula) → is_first g side l ≡ true → IsFirstLine g side l
first_is g Assumptions l e =
    let parts = and_parts (is_state_formula (scope_of g) l.1) _ e in
    let step = and_parts (is_step_formula (scope_of g) l.1) _ parts.0 in
    (step.0, not_true (waits_for_output g l.1) parts.1)
first_is g Guarantees l e =
    let step = and_parts (is_step_formula (scope_of g) l.1) _ e in
    (step.0, not_true (has_next l.1) step.1)

firsts_are : (g : GameData) (side : Side) → WellMade g → list_all (is_first g side) (first_lines g side) ≡ true
firsts_are g Assumptions well = well.initial_asm
firsts_are g Guarantees well = well.initial_gar

pub first_formulas : (g : GameData) (side : Side) → WellMade g → list_all (λ l. is_step_formula (scope_of g) l.1) (first_lines g side) ≡ true
first_formulas g side well = weaker (is_first g side) (λ l. is_step_formula (scope_of g) l.1) (λ l e. (first_is g side l e).0) (first_lines g side) (firsts_are g side well)

pub safety_formulas : (g : GameData) (side : Side) → WellMade g → list_all (λ l. is_step_formula (scope_of g) l.1) (safety_lines g side) ≡ true
safety_formulas g Assumptions well = weaker (λ l. is_safety_assumption g l.1) (λ l. is_step_formula (scope_of g) l.1) (λ l e. (and_parts (is_step_formula (scope_of g) l.1) _ e).0) g.safe_asm well.safe_asm
safety_formulas g Guarantees well = well.safe_gar

module _ (g : GameData) (to : List ℕ) (leads : LeadsToNext g to) (well : WellMade g) (side : Side) where
  -- what holds of a side's lines, in two lists
  holding : (b : Before) (s : State) → lines_hold g side b s ≡ ((is_some b || list_all (λ l. line_holds g false b s l.1) (first_lines g side)) && list_all (λ l. line_holds g (is_late g side l.1) b s l.1) (safety_lines g side))
  holding b s = by_side side
    where
      by_side : (side : Side) → lines_hold g side b s ≡ ((is_some b || list_all (λ l. line_holds g false b s l.1) (first_lines g side)) && list_all (λ l. line_holds g (is_late g side l.1) b s l.1) (safety_lines g side))
      by_side Assumptions = refl
      by_side Guarantees = refl

  firsts_now : (b : Before) (s : State) → list_all (λ l. line_holds g (is_late g side l.1) b s l.1) (first_lines g side) ≡ list_all (λ l. line_holds g false b s l.1) (first_lines g side)
  firsts_now b s =
      same_tests (λ l. line_holds g (is_late g side l.1) b s l.1) (λ l. line_holds g false b s l.1) (is_first g side)
      (λ l e. ap (λ late. line_holds g late b s l.1) (first_is g side l e).1) (first_lines g side) (firsts_are g side well)

  pub side_told : (when : When) → TellsMoves g when (all_true (functions_judged g to side when)) (lines_hold g side)
  side_told when = record { at_moves = λ b s bits time here before has. at when b s bits time here before has }
    where
      safe : (when : When) (b : Before) (s : State) (bits : Bits) → is_time g when b ≡ true → is_state g s ≡ true → HasBefore g b bits → HasState g Next s bits → all_true (functions_of g to when (is_late g side) (safety_lines g side)) bits ≡ list_all (λ l. line_holds g (is_late g side l.1) b s l.1) (safety_lines g side)
      safe when b s bits time here before has = lines_told g to leads well when (is_late g side) (late_or_now g side) b s bits time here before has (safety_lines g side) (safety_formulas g side well)

      at : (when : When) (b : Before) (s : State) (bits : Bits) → is_time g when b ≡ true → is_state g s ≡ true → HasBefore g b bits → HasState g Next s bits → all_true (functions_judged g to side when) bits ≡ lines_hold g side b s
      at First None s bits time here before has =
          let first = lines_told g to leads well First (is_late g side) (late_or_now g side) None s bits time here before has (first_lines g side) (first_formulas g side well) ∙ firsts_now None s in
          let later = safe First None s bits time here before has in
          list_all-append (λ (f : Function). f bits) (functions_of g to First (is_late g side) (first_lines g side)) (functions_of g to First (is_late g side) (safety_lines g side))
          ∙ (ap (λ (p : Bool). p && all_true (functions_of g to First (is_late g side) (safety_lines g side)) bits) first
          ∙ (ap (λ (p : Bool). list_all (λ l. line_holds g false None s l.1) (first_lines g side) && p) later ∙ sym (holding None s)))
      at First (Some r) s bits time here before has = absurd (false≢true time)
      at Later None s bits time here before has = absurd (false≢true time)
      at Later (Some r) s bits time here before has = safe Later (Some r) s bits time here before has ∙ sym (holding (Some r) s)

-- ---- one line more, as the program has it

line_passes : (p : ℕ × Formula → Bool) (ls : List (ℕ × Expr)) (i : ℕ) (l : ℕ × Expr) → i < length ls → l ≡ get_or ls i l → list_all p (line_data ls) ≡ true → p (l.0, formula l.1) ≡ true
line_passes p [] i l below is all = absurd (omega arith)
line_passes p (x ∷ ls) zero l below is all = ap (λ (y : ℕ × Expr). p (y.0, formula y.1)) is ∙ (and_parts (p (x.0, formula x.1)) _ all).0
line_passes p (x ∷ ls) (suc i) l below is all = line_passes p ls i l (omega arith) is (and_parts (p (x.0, formula x.1)) _ all).1

pub formula_at : (g : GameData) (ls : List (ℕ × Expr)) (i : ℕ) (l : ℕ × Expr) → i < length ls → l ≡ get_or ls i l → list_all (λ l. is_step_formula (scope_of g) l.1) (line_data ls) ≡ true → is_step_formula (scope_of g) (formula l.1) ≡ true
formula_at g ls i l below is all = line_passes (λ l. is_step_formula (scope_of g) l.1) ls i l below is all

-- the mark of a line
pub mark_at : (test : Formula → Bool) (ls : List (ℕ × Expr)) (i : ℕ) (l : ℕ × Expr) (d : Bool) → i < length ls → l ≡ get_or ls i l → get_or (map (λ (l : ℕ × Formula). test l.1) (line_data ls)) i d ≡ test (formula l.1)
mark_at test [] i l d below is = absurd (omega arith)
mark_at test (x ∷ ls) zero l d below is = ap (λ (y : ℕ × Expr). test (formula y.1)) (sym is)
mark_at test (x ∷ ls) (suc i) l d below is = mark_at test ls i l d (omega arith) is

-- one line after the others
pub functions_next : (g : GameData) (to : List ℕ) (when : When) (late : Formula → Bool) (fs : List Function) (ls : List (ℕ × Expr)) (i : ℕ) (l : ℕ × Expr) → i < length ls → l ≡ get_or ls i l →
    (fs ++ functions_of g to when late (line_data (take i ls))) ++ line_functions g to when (late (formula l.1)) (formula l.1) ≡ fs ++ functions_of g to when late (line_data (take (i + 1) ls))
functions_next g to when late fs ls i l below is =
    let next = take_next ls i l below is in
    let more = map-append (λ (l : ℕ × Expr). (l.0, formula l.1)) (take i ls) (l ∷ []) in
    flat_map_more (λ (l : ℕ × Formula). line_functions g to when (late l.1) l.1) fs (line_data (take i ls)) (l.0, formula l.1)
    ∙ ap (λ (xs : List (ℕ × Formula)). fs ++ functions_of g to when late xs) (sym (ap line_data next ∙ more))
