-- Which named sets the diagrams of a game's lines, goals and updates are.
use Rattle.std.proofs.Common.{◌≡◌, inl, inr, ℕ, zero, suc, ◌<◌, pos, ◌-ℤ◌, ◌≤ℤ◌, nat_lt, Bool, true, not, List, [], ◌∷◌, ◌++◌, map, length, take, drop, get_or, refl, sym, ◌∙◌, subst, ap, arith}
use Rattle.std.specs.List.{Contains}
use Rattle.std.proofs.Math.ListN.{get_or-append}
use Rattle.std.proofs.lemmas.Bool.{and_parts}
use Rattle.std.proofs.lemmas.Grind.{flat_map-append}
use Rattle.std.proofs.lemmas.Int.{ints}
use Rattle.std.proofs.lemmas.List.{length-map, map-append, take-append-drop}
use Rattle.std.proofs.lemmas.List.Elements.{Contains-append_left, Contains-append_right, Contains-append_cases}
use Rattle.std.proofs.lemmas.Map.Views.{Contains-from_any}
use borrow.Author.Tests.{ltb-true}
use Rattle.spec_model.specs.declared.expr.Expr.{Expr}
use Rattle.spec_model.specs.declared.value.Value.TheVariants as value
use Rattle.spec_model.specs.Values.{DomainData, TruthValues, values_of, rank_of}
use Rattle.spec_model.specs.Syntax.{Formula}
use Rattle.spec_model.specs.Diagrams.{Function}
use Rattle.spec_model.specs.Typing.{Scope}
use Rattle.spec_model.specs.Moves.{is_env, domains_of}
use Rattle.spec_model.specs.Games.{GameData, GoalData, HiddenData}
use Rattle.spec_model.specs.Views.{formula}
use Rattle.spec_model.specs.WellMade.{WellMade, is_table, are_tables}
use Rattle.spec_model.proofs.AllStates.{same_value-true}
use Rattle.spec_model.proofs.Domains.{in_range}
use Rattle.regions.specs.declared.types.When.{When}
use Rattle.game_values.specs.declared.seen.At.TheVariants.{Next}
use Rattle.bit_compile.specs.Domains.{state_domains, table_domain}
use Rattle.bit_compile.specs.Codes.{domain_in, level_at, width_at}
use Rattle.bit_compile.specs.Compiled.{compiled}
use Rattle.bit_compile.specs.Named.{IsOfCoded}
use Rattle.bit_compile.specs.NamedCodes.{IsOfNumber}
use Rattle.bit_compile.specs.Proper.{proper}
use Rattle.bit_compile.proofs.CyclesLemmas.{got}
use Rattle.bit_compile.proofs.DomainLemmas.{place-whole}
use Rattle.bit_compile.proofs.EntryLemmas.{get-mapped}
use Rattle.bit_compile.proofs.Filled.{contains_first, contains_later, contains_map, map_contains}
use Rattle.bdd_sets.specs.declared.lines.Side.{Side}
use Rattle.bdd_sets.specs.declared.lines.Side.TheVariants.{Assumptions, Guarantees}
use Rattle.bdd_sets.specs.MoveBits.{LeadsToNext}
use Rattle.bdd_sets.specs.Goals.{IsOfGoals}
use Rattle.bdd_sets.specs.Updates.{update_functions}
use Rattle.bdd_sets.specs.Lines.{line_functions, first_lines, safety_lines, functions_of, first_functions, functions_judged, side_functions}
use Rattle.bdd_sets.specs.LineScenes.{line_data}
use Rattle.bdd_sets.specs.NamedGame.{IsOfGame, values, part, inputs, outputs}
use Rattle.bdd_sets.specs.MadeMembers.{IsOfLines}
use Rattle.bdd_sets.proofs.UpdateLemmas.{hidden_slot}

-- ---- elements

pub contains_got : {X : Type 0} (xs : List X) (i : ℕ) (x : X) → i < length xs → x ≡ get_or xs i x → Contains xs x
contains_got [] i x below is = absurd (omega arith)
contains_got (y ∷ xs) zero x below is = subst (λ z. Contains (y ∷ xs) z) (sym is) (contains_first y xs)
contains_got (y ∷ xs) (suc i) x below is = contains_later y x xs (contains_got xs i x (omega arith) is)

pub contains_take : {X : Type 0} (xs : List X) (i : ℕ) (x : X) → Contains (take i xs) x → Contains xs x
contains_take xs i x there = subst (λ ws. Contains ws x) (take-append-drop i xs) (Contains-append_left (take i xs) (drop i xs) x there)

pub map_taken : {X Y : Type 0} (h : X → Y) (xs : List X) (i : ℕ) → map h (take i xs) ++ map h (drop i xs) ≡ map h xs
map_taken h xs i = sym (map-append h (take i xs) (drop i xs)) ∙ ap (map h) (take-append-drop i xs)

-- ---- goals

pub goals_named : {X : Type 0} (g : GameData) (seen : X → GoalData) (goals : List X) (i : ℕ) (f : Function) → Contains (map (λ (goal : GoalData). compiled g goal.holds) (map seen (take i goals))) f → IsOfGoals g (map seen goals) f
goals_named g seen goals i f there =
    let found = map_contains (λ (goal : GoalData). compiled g goal.holds) (map seen (take i goals)) f there in
    (found.0, subst (λ ws. Contains ws found.0) (map_taken seen goals i) (Contains-append_left _ _ found.0 found.1), inl (inl (inl (sym found.2))))

-- ---- lines

-- the functions of the first several lines are among those of all
pub lines_fewer : (g : GameData) (to : List ℕ) (when : When) (late : Formula → Bool) (fs : List Function) (ls : List (ℕ × Expr)) (i : ℕ) (f : Function) → Contains (fs ++ functions_of g to when late (line_data (take i ls))) f → Contains (fs ++ functions_of g to when late (line_data ls)) f
lines_fewer g to when late fs ls i f there =
    let front : List (ℕ × Formula) = line_data (take i ls) in
    let back : List (ℕ × Formula) = line_data (drop i ls) in
    let of : List (ℕ × Formula) → List Function = functions_of g to when late in
    let split = flat_map-append (λ (l : ℕ × Formula). line_functions g to when (late l.1) l.1) front back in
    let all : of (line_data ls) ≡ of front ++ of back = ap of (sym (map_taken {Y = ℕ × Formula} (λ (l : ℕ × Expr). (l.0, formula l.1)) ls i)) ∙ split in
    elim (Contains-append_cases fs (of front) f there) [
      | inl first ↦ Contains-append_left fs (of (line_data ls)) f first
      | inr line ↦ Contains-append_right fs (of (line_data ls)) f (subst (λ hs. Contains hs f) (sym all) (Contains-append_left (of front) (of back) f line))
    ]

first_known : (g : GameData) (side : Side) (l : ℕ × Formula) → Contains (first_lines g side) l → Contains (g.initial_asm ++ (g.initial_gar ++ (g.safe_asm ++ g.safe_gar))) l
first_known g Assumptions l there = Contains-append_left g.initial_asm _ l there
first_known g Guarantees l there = Contains-append_right g.initial_asm _ l (Contains-append_left g.initial_gar _ l there)

safety_known : (g : GameData) (side : Side) (l : ℕ × Formula) → Contains (safety_lines g side) l → Contains (g.initial_asm ++ (g.initial_gar ++ (g.safe_asm ++ g.safe_gar))) l
safety_known g Assumptions l there = Contains-append_right g.initial_asm _ l (Contains-append_right g.initial_gar _ l (Contains-append_left g.safe_asm _ l there))
safety_known g Guarantees l there = Contains-append_right g.initial_asm _ l (Contains-append_right g.initial_gar _ l (Contains-append_right g.safe_asm _ l there))

module _ (g : GameData) (to : List ℕ) (when : When) (leads : LeadsToNext g to) where
  pub side_named : (side : Side) (f : Function) → Contains (side_functions g to side when) f → IsOfGame g f
  side_named Assumptions f there = inputs to when leads (inl (Contains-append_left (side_functions g to Assumptions when) (update_functions g when) f there))
  side_named Guarantees f there = outputs to when leads (inl there)

  pub judged_named : (side : Side) (f : Function) → Contains (functions_judged g to side when) f → IsOfGame g f
  judged_named side f there = side_named side f (Contains-append_left (functions_judged g to side when) (proper (state_domains g) Next ∷ []) f there)

  -- what the formulas of lines are made of, and the functions of lines that are judged
  of_lines : (side : Side) (fs : List Function) (ls : List (ℕ × Formula)) → ((f : Function) → Contains fs f → Contains (functions_judged g to side when) f) → ((l : ℕ × Formula) → Contains ls l → Contains (g.initial_asm ++ (g.initial_gar ++ (g.safe_asm ++ g.safe_gar))) l) → (f : Function) → IsOfLines g fs ls f → IsOfGame g f
  of_lines side fs ls judged known f (inl line) = judged_named side f (judged f line)
  of_lines side fs ls judged known f (inr (l, there, is)) = part l.1 (Contains-append_left _ _ l.1 (contains_map (λ (k : ℕ × Formula). k.1) _ l (known l there))) is

  pub of_first : (side : Side) (f : Function) → IsOfLines g (first_functions g to side when) (first_lines g side) f → IsOfGame g f
  of_first side = of_lines side (first_functions g to side when) (first_lines g side) (λ f there. Contains-append_left (first_functions g to side when) _ f there) (first_known g side)

  pub of_safety : (side : Side) (f : Function) → IsOfLines g (functions_judged g to side when) (safety_lines g side) f → IsOfGame g f
  of_safety side = of_lines side (functions_judged g to side when) (safety_lines g side) (λ f there. there) (safety_known g side)

-- ---- first values of hidden tables

first_small : (sc : Scope) (hs : List HiddenData) (k : ℕ) (h : HiddenData) → are_tables sc hs ≡ true → k < length hs → h ≡ get_or hs k h → h.first < h.values
first_small sc [] k h tables less is = absurd (omega arith)
first_small sc (x ∷ hs) zero h tables less is =
    let parts = and_parts (is_table sc x) _ tables in
    subst (λ (y : HiddenData). y.first < y.values) (sym is) (ltb-true x.first x.values (and_parts (nat_lt x.first x.values) _ parts.0).0)
first_small sc (x ∷ hs) (suc k) h tables less is = first_small _ hs k h (and_parts (is_table sc x) _ tables).1 (omega arith) is

module _ (g : GameData) (well : WellMade g) (k : ℕ) (h : HiddenData) (less : k < length g.hidden) (is : h ≡ get_or g.hidden k h) where
  table_slot : domain_in (state_domains g) k ≡ table_domain h
  table_slot =
      let long = length-map g.hidden table_domain in
      let among : k < length (map table_domain g.hidden) = omega (arith, long, less) in
      get_or-append (map table_domain g.hidden) (domains_of is_env g.variables ++ domains_of (λ o. not (is_env o)) g.variables) TruthValues k among
      ∙ (got (map table_domain g.hidden) k TruthValues (table_domain h) among ∙ (get-mapped table_domain g.hidden k h ∙ ap table_domain (sym is)))

  -- what its code is made of
  pub first_code : (f : Function) → IsOfNumber (level_at (state_domains g) Next k) (width_at (state_domains g) k) h.first f → IsOfGame g f
  first_code f made =
      let ds = state_domains g in
      let small = first_small _ g.hidden k h well.hidden less is in
      let low : pos 0 ≤ℤ pos h.first = omega (arith, ints) in
      let high : pos h.first ≤ℤ (pos h.values -ℤ pos 1) = omega (arith, ints, small) in
      let among = (in_range (pos h.first) (pos 0) (pos h.values -ℤ pos 1)).1 (low, high) in
      let there = Contains-from_any (λ x y e. same_value-true x y e) (value.Int (pos h.first)) (values_of (table_domain h)) among in
      let place : rank_of (table_domain h) (value.Int (pos h.first)) ≡ h.first = place-whole (pos 0) (pos h.values -ℤ pos 1) (pos h.first) low high ∙ omega (arith, ints) in
      let coded = subst (λ n. IsOfNumber (level_at ds Next k) (width_at ds k) n f) (sym place) made in
      values Next (inl (k, hidden_slot g ds k refl less, inl (subst (λ (d : DomainData). IsOfCoded ds Next k d f) (sym table_slot) (value.Int (pos h.first), there, inr coded))))
