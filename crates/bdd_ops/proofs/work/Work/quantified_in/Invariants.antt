use Rattle.std.proofs.Common.{◌≡◌, ◌+◌, ◌++◌}
use Rattle.bdd_ops.specs.Steps.{Works, level_at}
use Rattle.bdd_ops.specs.Frames.{answers_of, turns_next, turns_of_frames}
use Rattle.bdd_ops.specs.Questions.{IsUnderWay, quantifying}
use Rattle.bdd_ops.proofs.work.Work.quantified_in.Given as goal

abbrev pub invariant-loop-turn : goal.invariant-loop-turn
invariant-loop-turn l =
    record {
      works : Works l.fn.self l.self l.fn.self.state.stack;
      stack : l.self.state.stack ≡ l.fn.self.state.stack ++ answers_of l.frames.items;
      under_way : IsUnderWay (quantifying l.fn.all l.fn.list l.self) l.fn.whole l.frames.items l.turn;
    }

-- the turns that are left at most
abbrev pub decreases-loop-turn : goal.decreases-loop-turn
decreases-loop-turn l = turns_next l.self.state.table.levels (λ a. level_at l.self a.0) l.turn + turns_of_frames l.self.state.table.levels l.frames.items
