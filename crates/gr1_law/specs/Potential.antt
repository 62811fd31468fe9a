-- What falls while a goal isn't met, and while an assumption isn't: the ranks that the play has before it.
use Rattle.std.specs.Prelude.{ℕ, suc, ◌+◌, ◌-◌, nat_le, if◌then◌else◌, List, take, sum}
use Rattle.gr1_law.specs.Choice.{Memory}
use Rattle.gr1_law.specs.Counter.{CounterMemory}

-- The greatest ranks of the goals that come after the one aimed at, up to another goal. Where the other one comes before,
-- they are those up to the last, and those from the first on.
abbrev pub ranks_ahead : List ℕ → (other aim : ℕ) → ℕ
ranks_ahead ranks other aim =
    if nat_le aim other then sum (take (suc other) ranks) - sum (take (suc aim) ranks)
    else (sum ranks - sum (take (suc aim) ranks)) + sum (take (suc other) ranks)

-- the rank for the goal aimed at, and the ranks ahead of it
abbrev pub potential : List ℕ → (other : ℕ) → Memory → ℕ
potential ranks other m = m.rank + ranks_ahead ranks other m.goal

-- on the environment's side, the state's rank for the assumption aimed at when its position came, and the ranks ahead of it:
-- the greatest ranks of the hold for the assumptions after it, up to another
abbrev pub denial_potential : List ℕ → (other rank : ℕ) → CounterMemory → ℕ
denial_potential ranks other rank k = rank + ranks_ahead ranks other k.before
