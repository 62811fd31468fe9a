use Rattle.std.proofs.Common.{◌≡◌, ◌*◌, min, length}
use Rattle.spec_model.specs.Views.{formula}
use Rattle.spec_model.specs.Syntax.{Comparison}
use Rattle.game_values.specs.Times.{time_of}
use Rattle.column_planes.specs.Columns.{AreTruthsOf, column_data}
use Rattle.column_planes.proofs.compared.compare_all.Given as goal

abbrev pub invariant-loop-k : goal.invariant-loop-k
invariant-loop-k l =
    record {
      sized : length l.codes ≡ length l.fn.codes;
      truths : AreTruthsOf (column_data l.c) (time_of l.at) (min (64 * l.k) (length l.fn.codes)) (Comparison l.how (formula l.a) (formula l.b)) l.codes;
    }
