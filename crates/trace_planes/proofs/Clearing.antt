-- What an audit knows of its judge, for the game that the judge has.
use Rattle.std.proofs.Common.{◌≡◌, ℕ, List, length, sym, subst}
use Rattle.spec_model.specs.declared.value.Value.{Value}
use Rattle.spec_model.specs.Rules.{Run}
use Rattle.spec_model.specs.Games.{GameData}
use Rattle.spec_model.specs.GameRules.{last_state}
use Rattle.trace_planes.specs.declared.judge.Judge.{Judge}
use Rattle.trace_planes.specs.Audits.{JudgesAfter}
use Rattle.trace_planes.specs.Rows.{AreRows, AreClear}

module _ (g g' : GameData) (same : g' ≡ g) (j : Judge) (h ps : Run) (width count : ℕ) (rows : List Value) (judges : JudgesAfter j g (last_state g h)) (are : AreRows g width ps rows) (many : length ps ≡ count) where
  pub rows_there : (h : Run) × (ps : Run) × JudgesAfter j g' (last_state g' h) × AreRows g' width ps rows × (length ps ≡ count)
  rows_there = subst (λ (k : GameData). (h : Run) × (ps : Run) × JudgesAfter j k (last_state k h) × AreRows k width ps rows × (length ps ≡ count)) (sym same) (h, ps, judges, are, many)

  pub clear_there : (n : ℕ) → ((h ps : Run) → JudgesAfter j g' (last_state g' h) → AreRows g' width ps rows → length ps ≡ count → AreClear g' h ps n) → AreClear g h ps n
  clear_there n clear = subst (λ (k : GameData). (h ps : Run) → JudgesAfter j k (last_state k h) → AreRows k width ps rows → length ps ≡ count → AreClear k h ps n) same clear h ps judges are many
