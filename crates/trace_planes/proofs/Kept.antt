-- Lines that hold at a move, one after the other.
use Rattle.std.proofs.Common.{◌≡◌, ℕ, zero, suc, ◌<◌, Bool, false, ◌&&◌, List, [], ◌∷◌, length, map, drop, get_or, Some, refl, sym, ap, arith}
use Rattle.std.specs.List.{list_all}
use Rattle.spec_model.specs.declared.expr.Expr.{Expr}
use Rattle.spec_model.specs.Syntax.{Formula}
use Rattle.spec_model.specs.Views.{formula}
use Rattle.spec_model.specs.Games.{GameData, State}
use Rattle.spec_model.specs.Steps.{line_holds}
use Rattle.trace_planes.specs.Moves.{are_kept}

module _ (g : GameData) (r s : State) where
  abbrev data_of : ℕ × Expr → ℕ × Formula
  data_of l = (l.0, formula l.1)

  kept-drop : (late : List Bool) (lines : List (ℕ × Expr)) (k : ℕ) (l : ℕ × Expr) → length late ≡ length lines → k < length lines → l ≡ get_or lines k l →
      are_kept g r s (drop k late) (map data_of (drop k lines)) ≡ (line_holds g (get_or late k false) (Some r) s (formula l.1) && are_kept g r s (drop (suc k) late) (map data_of (drop (suc k) lines)))
  kept-drop late [] k l same below is = absurd (omega arith)
  kept-drop [] (d ∷ lines) k l same below is = absurd (omega arith)
  kept-drop (b ∷ late) (d ∷ lines) zero l same below is = ap (λ (x : ℕ × Expr). line_holds g b (Some r) s (formula x.1) && are_kept g r s late (map data_of lines)) (sym is)
  kept-drop (b ∷ late) (d ∷ lines) (suc k) l same below is = kept-drop late lines k l (omega arith) (omega arith) is

  pub kept_from : (late : List Bool) (lines : List (ℕ × Expr)) (k j : ℕ) (l : ℕ × Expr) → length late ≡ length lines → k < length lines → suc k ≡ j → l ≡ get_or lines k l →
      are_kept g r s (drop k late) (map data_of (drop k lines)) ≡ (line_holds g (get_or late k false) (Some r) s (formula l.1) && are_kept g r s (drop j late) (map data_of (drop j lines)))
  kept_from late lines k j l same below next is = rw (← next) (kept-drop late lines k l same below is)

  -- lines that are late by a test of them
  pub kept_by : (late : Formula → Bool) (ls : List (ℕ × Formula)) → are_kept g r s (map (λ (l : ℕ × Formula). late l.1) ls) ls ≡ list_all (λ (l : ℕ × Formula). line_holds g (late l.1) (Some r) s l.1) ls
  kept_by late [] = refl
  kept_by late (l ∷ ls) = ap (λ b. line_holds g (late l.1) (Some r) s l.1 && b) (kept_by late ls)
