use Rattle.std.proofs.Common.{◌≡◌, ℕ, ◌<◌, ◌≤◌, ◌^◌, true, take}
use Rattle.bdd_ops.specs.Functions.{is_among}
use Rattle.bdd_ops.proofs.level_list.end_of.Given as goal

abbrev pub invariant-loop-level : goal.invariant-loop-level
invariant-loop-level l =
    record {
      within : l.end ≤ 2 ^ 32;
      above : (m : ℕ) → is_among m (take l.level-index l.levels) ≡ true → m < l.end;
    }
