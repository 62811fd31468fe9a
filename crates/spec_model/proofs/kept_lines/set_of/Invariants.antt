use Rattle.std.proofs.Common.{◌≡◌, ℕ, nat_eq, take}
use Rattle.std.specs.HashSet.{contains}
use Rattle.spec_model.specs.Cores.{is_in}
use Rattle.spec_model.proofs.kept_lines.set_of.Given as goal

-- the set has those so far
abbrev pub invariant-loop-n : goal.invariant-loop-n
invariant-loop-n l = (n : ℕ) → contains nat_eq l.set n ≡ is_in (take l.n-index l.numbers) n
