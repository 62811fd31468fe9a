-- The first guarantee or monitor's line that an output breaks.
use Rattle.std.proofs.Common.{◌≡◌, ℕ, Bool, true, false, not, ◌&&◌, ◌||◌, if◌then◌else◌, List, [], ◌++◌, map, Some, None, is_some, is_none, option_map, refl, sym, ap, ◌∙◌}
use Rattle.std.specs.List.{list_all}
use Rattle.std.proofs.lemmas.Bool.{and_parts}
use Rattle.spec_model.specs.Values.{Assignment}
use Rattle.spec_model.specs.Syntax.{Formula}
use Rattle.spec_model.specs.Moves.{has_next}
use Rattle.spec_model.specs.Games.{GameData, State}
use Rattle.spec_model.specs.Steps.{Before, reached, line_holds, legal_output}
use Rattle.spec_model.specs.WellMade.{WellMade, is_step_formula, is_state_formula, scope_of}
use Rattle.spec_model.specs.FirstBroken.{numbers_where, broken_with, lesser, least, line_label}
use Rattle.game_play.specs.Judged.{numbers_false}
use Rattle.game_play.proofs.Least.{least-append}
use Rattle.game_play.proofs.FirstBroken.{late_numbers, prompt_numbers, none_where, none-lesser, none-labelled}
use Rattle.game_values.proofs.Typed.{all_weaker}

module _ (g : GameData) (made : WellMade g) where
  -- an initial line and one of each position are judged over a state and the next
  pub initial_steps : list_all (λ (l : ℕ × Formula). is_step_formula (scope_of g) l.1) g.initial_gar ≡ true
  initial_steps =
      all_weaker (λ (l : ℕ × Formula). is_state_formula (scope_of g) l.1) (λ (l : ℕ × Formula). is_step_formula (scope_of g) l.1)
      (λ l h. (and_parts (is_step_formula (scope_of g) l.1) (not (has_next l.1)) h).0) g.initial_gar made.initial_gar

module _ (g : GameData) (made : WellMade g) (b : Before) (x y : Assignment) where
  abbrev state : State
  state = reached g b x y

  abbrev held : Formula → Bool
  held e = line_holds g false b state e

  abbrev held_late : Formula → Bool
  held_late e = line_holds g (has_next e) b state e

  abbrev first : List ℕ
  first = if is_some b then [] else numbers_where (λ e. not (held e)) g.initial_gar

  abbrev later : List ℕ
  later = numbers_where (λ e. not (held_late e)) g.safe_gar

  -- none is broken exactly where the output is legal
  pub none_is_legal : is_none (option_map line_label (least (broken_with g b x y))) ≡ legal_output g b x y
  none_is_legal =
      none-labelled (least (broken_with g b x y))
      ∙ (ap is_none (least-append first later)
      ∙ (none-lesser (least first) (least later)
      ∙ (ap (λ t. t && is_none (least later)) (at_first b)
      ∙ ap (λ t. (is_some b || list_all (λ (l : ℕ × Formula). held l.1) g.initial_gar) && t)
      (none_where (is_step_formula (scope_of g)) held_late (λ e. not (held_late e)) (λ e good. refl) g.safe_gar made.safe_gar))))
    where
      at_first : (c : Before) → is_none (least (if is_some c then [] else numbers_where (λ e. not (held e)) g.initial_gar)) ≡ (is_some c || list_all (λ (l : ℕ × Formula). held l.1) g.initial_gar)
      at_first None = none_where (is_step_formula (scope_of g)) held (λ e. not (held e)) (λ e good. refl) g.initial_gar (initial_steps g made)
      at_first (Some s) = refl

  -- ---- what is found

  module _ (test : Bool → Formula → Bool) (prompt : (e : Formula) → test false e ≡ line_holds g false b state e) (late : (e : Formula) → is_step_formula (scope_of g) e ≡ true → test true e ≡ line_holds g true b state e) where
    found_initial : numbers_false test [] g.initial_gar ≡ numbers_where (λ e. not (held e)) g.initial_gar
    found_initial = prompt_numbers (is_step_formula (scope_of g)) test (λ e. not (held e)) (λ e good. ap not (sym (prompt e))) g.initial_gar (initial_steps g made)

    found_safety : numbers_false test (map (λ (l : ℕ × Formula). has_next l.1) g.safe_gar) g.safe_gar ≡ later
    found_safety = late_numbers (is_step_formula (scope_of g)) test has_next (λ e. not (held_late e)) (λ e good. ap not (sym (tested (has_next e) e good))) g.safe_gar made.safe_gar
      where
        tested : (w : Bool) (e : Formula) → is_step_formula (scope_of g) e ≡ true → test w e ≡ line_holds g w b state e
        tested true e good = late e good
        tested false e good = prompt e

    pub first_at_start : b ≡ None → (flags : List Bool) → flags ≡ map (λ (l : ℕ × Formula). has_next l.1) g.safe_gar →
        lesser (least (numbers_false test [] g.initial_gar)) (least (numbers_false test flags g.safe_gar)) ≡ least (broken_with g b x y)
    first_at_start is flags same =
        ap (λ ns. lesser (least ns) (least (numbers_false test flags g.safe_gar))) found_initial
        ∙ (ap (λ ns. lesser (least (numbers_where (λ e. not (held e)) g.initial_gar)) (least ns)) (ap (λ fs. numbers_false test fs g.safe_gar) same ∙ found_safety)
        ∙ (sym (least-append (numbers_where (λ e. not (held e)) g.initial_gar) later)
        ∙ ap (λ (c : Before). least ((if is_some c then [] else numbers_where (λ e. not (held e)) g.initial_gar) ++ later)) (sym is)))

    pub first_after : is_some b ≡ true → (flags : List Bool) → flags ≡ map (λ (l : ℕ × Formula). has_next l.1) g.safe_gar →
        least (numbers_false test flags g.safe_gar) ≡ least (broken_with g b x y)
    first_after is flags same =
        ap least (ap (λ fs. numbers_false test fs g.safe_gar) same ∙ found_safety)
        ∙ ap (λ c. least ((if c then [] else numbers_where (λ e. not (held e)) g.initial_gar) ++ later)) (sym is)
