use Rattle.std.proofs.Common.{◌≡◌, ℕ, false, take, get_or, vec_len}
use Rattle.bdd_ops.specs.Functions.{is_among}
use Rattle.bdd_ops.proofs.level_list.flags_of.Given as goal

abbrev pub invariant-loop-level : goal.invariant-loop-level
invariant-loop-level l =
    record {
      size : vec_len l.flags ≡ l.end;
      agree : (m : ℕ) → get_or l.flags.items m false ≡ is_among m (take l.level-index l.levels);
    }
