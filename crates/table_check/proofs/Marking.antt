-- What holds at a node, and which node a number names.
use Rattle.std.proofs.Common.{◌≡◌, ℕ, zero, suc, ◌+◌, ◌-◌, ◌<◌, ◌≤◌, ◌==◌, max, Bool, true, false, ◌&&◌, List, [], ◌∷◌, drop, length, map, get_or, Option, Some, None, slice_get, refl, sym, ap, ◌∙◌, arith}
use Rattle.std.specs.List.{list_all}
use Rattle.std.proofs.Math.Seq.{drop-cons}
use Rattle.std.proofs.lemmas.Bool.{and_parts}
use Rattle.spec_model.specs.declared.game.Goal.{Goal}
use Rattle.spec_model.specs.Views.{formula}
use Rattle.spec_model.specs.GameViews.{goal_data}
use Rattle.spec_model.specs.Games.{GameData, GoalData, State}
use Rattle.spec_model.specs.Sets.{StateSet, holding, no_states}
use Rattle.spec_model.specs.Steps.{is_state}
use Rattle.gr1_law.specs.Layers.{or_all_states}
use Rattle.strategy_tables.specs.declared.tables.Node.{Node}
use Rattle.strategy_tables.specs.Tables.{NodeData}
use Rattle.strategy_tables.specs.Views.{node_data}
use Rattle.table_check.specs.declared.held.Held.{Held}

-- ---- goals by their numbers

pub count_sets : (g : GameData) (sets : List StateSet) → max (length sets) 1 ≡ length (or_all_states g sets)
count_sets g [] = refl
count_sets g (a ∷ more) = omega arith

pub goal_there : (p : GoalData → Bool) (goals : List Goal) (place : ℕ) (goal : Goal) → list_all p (map goal_data goals) ≡ true → place < length goals → goal ≡ get_or goals place goal → p (goal_data goal) ≡ true
goal_there p [] place goal e below is = absurd (omega arith)
goal_there p (a ∷ more) zero goal e below is = ap (λ (a : Goal). p (goal_data a)) is ∙ (and_parts (p (goal_data a)) _ e).0
goal_there p (a ∷ more) (suc place) goal e below is = goal_there p more place goal (and_parts (p (goal_data a)) _ e).1 (omega arith) is

module _ (g : GameData) where
  abbrev set_of : GoalData → StateSet
  set_of goal = holding g goal.holds

  pub set_there : (goals : List Goal) (place : ℕ) (goal : Goal) → place < length goals → goal ≡ get_or goals place goal → get_or (or_all_states g (map set_of (map goal_data goals))) place no_states ≡ holding g (formula goal.holds)
  set_there [] place goal below is = absurd (omega arith)
  set_there (a ∷ more) place goal below is = at (a ∷ more) place below is
    where
      at : (goals : List Goal) (place : ℕ) → place < length goals → goal ≡ get_or goals place goal → get_or (map set_of (map goal_data goals)) place no_states ≡ holding g (formula goal.holds)
      at [] place below is = absurd (omega arith)
      at (a ∷ more) zero below is = ap (λ (a : Goal). holding g (formula a.holds)) (sym is)
      at (a ∷ more) (suc place) below is = at more place (omega arith) is

-- ---- nodes by their numbers

module _ {X : Type 0} where
  pub drop_here : (xs : List X) (i : ℕ) (x : X) → i < length xs → x ≡ get_or xs i x → drop i xs ≡ x ∷ drop (i + 1) xs
  drop_here xs i x below is = let e : i + 1 ≡ suc i = omega arith in drop-cons xs i x below ∙ (ap (λ y. y ∷ drop (suc i) xs) (sym is) ∙ ap (λ n. x ∷ drop n xs) (sym e))

  pub drop_at : (xs : List X) (i : ℕ) (d : X) → i < length xs → drop i xs ≡ get_or xs i d ∷ drop (i + 1) xs
  drop_at xs i d below = let e : i + 1 ≡ suc i = omega arith in drop-cons xs i d below ∙ ap (λ n. get_or xs i d ∷ drop n xs) (sym e)

pub node_there : (nodes : List Node) (i : ℕ) (d : Node) → i < length nodes → slice_get (map node_data nodes) i ≡ Some (node_data (get_or nodes i d))
node_there [] i d below = absurd (omega arith)
node_there (w ∷ nodes) zero d below = refl
node_there (w ∷ nodes) (suc i) d below = node_there nodes i d (omega arith)

pub node_past : (nodes : List Node) (i : ℕ) → length nodes ≤ i → slice_get (map node_data nodes) i ≡ None
node_past [] i past = refl
node_past (w ∷ nodes) zero past = absurd (omega arith)
node_past (w ∷ nodes) (suc i) past = node_past nodes i (omega arith)

pub held_there : (f : NodeData → Held) (nodes : List Node) (held : List Held) → held ≡ map f (map node_data nodes) → (i : ℕ) (d : Node) (h : Held) → i < length nodes → get_or held i h ≡ f (node_data (get_or nodes i d))
held_there f nodes held e i d h below = ap (λ (hs : List Held). get_or hs i h) e ∙ at nodes i below
  where
    at : (nodes : List Node) (i : ℕ) → i < length nodes → get_or (map f (map node_data nodes)) i h ≡ f (node_data (get_or nodes i d))
    at [] i below = absurd (omega arith)
    at (w ∷ nodes) zero below = refl
    at (w ∷ nodes) (suc i) below = at nodes i (omega arith)
