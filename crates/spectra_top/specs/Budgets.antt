-- What laws say of a budget of nodes that is as large as the need.
use Rattle.std.specs.Prelude.{◌≤◌, ℕ}
use Rattle.spec_model.specs.Syntax.{Specification}
use Rattle.spec_model.specs.Needs.{need_of}
use Rattle.command_words.specs.declared.words.Command.{Command}
use Rattle.spectra_talks.specs.declared.status.Status.TheVariants.{Budget}
use Rattle.spectra_talks.specs.Streams.{Moment}
use Rattle.spectra_top.specs.Top.{solved_for, AreFilled, Decides}

-- with as many nodes as the specification that is solved needs, they aren't filled
abbrev pub NeverFilled : Command → (nodes : ℕ) → Specification → Type 0
NeverFilled command nodes s = need_of (solved_for command s) ≤ nodes → ¬ AreFilled command nodes s

module _ (command : Command) (nodes : ℕ) where
  module _ (s : Specification) (before after : Moment) where
    -- with as many nodes as the specification that is solved needs, they don't run out
    abbrev pub NeverRunsOut : Type 0
    NeverRunsOut = need_of (solved_for command s) ≤ nodes → ¬ Decides command nodes s before after Budget
