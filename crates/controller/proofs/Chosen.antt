-- What is chosen at a turn, as the calls on moves find it.
use Rattle.std.proofs.Common.{◌≡◌, ℕ, suc, ◌+◌, Bool, true, false, ◌&&◌, ◌==◌, not, if◌then◌else◌, length, find, Some, refl, sym, ap, ◌∙◌, subst, arith}
use Rattle.std.proofs.lemmas.Bool.{false≢true, eq-eqb}
use Rattle.spec_model.specs.Values.{Assignment}
use Rattle.spec_model.specs.Games.{GameData, State, outputs_of}
use Rattle.spec_model.specs.Steps.{Before, is_input, is_output, legal_input}
use Rattle.spec_model.specs.Sets.{StateSet, output_into}
use Rattle.spec_model.proofs.Listed.{outputs_fit}
use Rattle.regions.specs.declared.types.When.{When}
use Rattle.regions.specs.Rules.{outputs_into, is_time}
use Rattle.gr1_law.specs.Layers.{LayerSets, goal_set, goal_sets}
use Rattle.gr1_law.specs.Choice.{Memory, can_lead, waits, goal_stays, goal_aimed, next_goal}
use Rattle.gr1_law.proofs.Searching.{some-found}
use Rattle.strategy_parts.proofs.Searching.{find-same, every_from, none_found, differs}
use Rattle.controller.specs.Turns.{first_into, IsFirstReached, IsTurn}

module _ (g : GameData) (when : When) (b : Before) (x : Assignment) (time : is_time g when b ≡ true) (input : is_input g x ≡ true) (legal : legal_input g b x ≡ true) where
  pub into_is : (t : StateSet) → first_into g when t b x ≡ find (output_into g t b x) (outputs_of g)
  into_is t = find-same (outputs_into g when t b x) (output_into g t b x) (outputs_of g) (every_from (λ y. is_output g y ≡ true) (λ y. outputs_into g when t b x y ≡ output_into g t b x y) same (outputs_of g) (outputs_fit g))
    where
      same : (y : Assignment) → is_output g y ≡ true → outputs_into g when t b x y ≡ output_into g t b x y
      same y fits =
          ap (λ d. d && (is_input g x && (legal_input g b x && (is_output g y && output_into g t b x y)))) time
          ∙ (ap (λ d. d && (legal_input g b x && (is_output g y && output_into g t b x y))) input
          ∙ (ap (λ d. d && (is_output g y && output_into g t b x y)) legal
          ∙ ap (λ d. d && output_into g t b x y) fits))

-- the least rank, from 0, with the first output that leads into its layer
pub record Reaches (g : GameData) (when : When) (l : LayerSets) (b : Before) (m : Memory) (x y : Assignment) (m' : Memory) : Type 0 where
  pub rank : ℕ
  pub is : m'.rank ≡ suc rank
  pub reply : Assignment
  pub first : IsFirstReached g when (λ r. l.y m'.goal (suc r)) b x rank reply
  pub chosen : waits g b m m'.rank ≡ false → reply ≡ y

module _ (g : GameData) (when : When) (l : LayerSets) (b : Before) (m : Memory) (x y : Assignment) (m' : Memory) (turn : IsTurn g l b m x y m') (time : is_time g when b ≡ true) where
  found : (t : StateSet) → first_into g when t b x ≡ find (output_into g t b x) (outputs_of g)
  found = into_is g when b x time turn.input turn.legal

  pub reaches : Reaches g when l b m x y m'
  reaches =
      record {
        rank = turn.rank_some.0;
        is = turn.rank_some.1;
        reply = some.0;
        first = record {
          none_before = λ i less. found (l.y m'.goal (suc i)) ∙ none_found (output_into g (l.y m'.goal (suc i)) b x) (outputs_of g) (turn.chosen.rank.none_before (suc i) (omega (arith, turn.rank_some.1, less)));
          here = found (l.y m'.goal (suc turn.rank_some.0)) ∙ some.1;
        };
        chosen = λ moves_on.
            (let layer : find (output_into g (l.y m'.goal m'.rank) b x) (outputs_of g) ≡ Some y =
            ap (λ d. find (output_into g (if d then l.x m.goal m.rank m.index else l.y m'.goal m'.rank) b x) (outputs_of g)) (sym moves_on) ∙ turn.chosen.output in
            let both : Some some.0 ≡ Some y = sym some.1 ∙ (ap (λ r. find (output_into g (l.y m'.goal r) b x) (outputs_of g)) (sym turn.rank_some.1) ∙ layer) in cc);
      }
    where
      some : (z : Assignment) × (find (output_into g (l.y m'.goal (suc turn.rank_some.0)) b x) (outputs_of g) ≡ Some z)
      some = some-found (output_into g (l.y m'.goal (suc turn.rank_some.0)) b x) (outputs_of g) (subst (λ r. can_lead g (l.y m'.goal r) b x ≡ true) turn.rank_some.1 turn.chosen.rank.here)

  -- while waiting the output leads into the part
  pub waits_into : waits g b m m'.rank ≡ true → first_into g when (l.x m.goal m.rank m.index) b x ≡ Some y
  waits_into on =
      found (l.x m.goal m.rank m.index) ∙ (ap (λ d. find (output_into g (if d then l.x m.goal m.rank m.index else l.y m'.goal m'.rank) b x) (outputs_of g)) (sym on) ∙ turn.chosen.output)

-- ---- the goal aimed at

-- a goal that stays is aimed at
pub kept_goal : (g : GameData) (s : State) (m : Memory) → goal_stays g (Some s) m ≡ true → goal_aimed g (Some s) m ≡ m.goal
kept_goal g s m stays = at (goal_set g m.goal s) stays
  where
    at : (d : Bool) → not d ≡ true → (if d then next_goal g m.goal else m.goal) ≡ m.goal
    at true e = absurd (false≢true e)
    at false e = refl

module _ (g : GameData) (s : State) (m : Memory) (goal : ℕ) (is : m.goal ≡ goal) (met : Bool) (tells : met ≡ goal_set g m.goal s) where
  pub aim_kept : met ≡ false → (goal ≡ goal_aimed g (Some s) m) × (true ≡ goal_stays g (Some s) m)
  aim_kept unmet =
      let e : goal_set g m.goal s ≡ false = sym tells ∙ unmet in
      (sym is ∙ ap (λ d. if d then next_goal g m.goal else m.goal) (sym e), ap not (sym e))

  pub aim_first : met ≡ true → (n : ℕ) → n ≡ length (goal_sets g) → goal + 1 ≡ n → (0 ≡ goal_aimed g (Some s) m) × (false ≡ goal_stays g (Some s) m)
  aim_first here n counted last =
      let e : goal_set g m.goal s ≡ true = sym tells ∙ here in
      let ends : (suc m.goal == length (goal_sets g)) ≡ true = eq-eqb (suc m.goal) (length (goal_sets g)) (omega arith) in
      (ap (λ d. if d then 0 else suc m.goal) (sym ends) ∙ ap (λ d. if d then next_goal g m.goal else m.goal) (sym e), ap not (sym e))

  pub aim_next : met ≡ true → (n : ℕ) → n ≡ length (goal_sets g) → (goal + 1 ≡ n → ⊥) → (goal + 1 ≡ goal_aimed g (Some s) m) × (false ≡ goal_stays g (Some s) m)
  aim_next here n counted not_last =
      let e : goal_set g m.goal s ≡ true = sym tells ∙ here in
      let goes_on : (suc m.goal == length (goal_sets g)) ≡ false = differs (suc m.goal) (length (goal_sets g)) (λ last. not_last (omega (arith, last))) in
      let next : goal + 1 ≡ suc m.goal = omega arith in
      (next ∙ (ap (λ d. if d then 0 else suc m.goal) (sym goes_on) ∙ ap (λ d. if d then next_goal g m.goal else m.goal) (sym e)), ap not (sym e))
