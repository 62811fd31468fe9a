use Rattle.std.proofs.Common.{◌≡◌, ◌≤◌, length, take, filter, vec_len, vec_capacity}
use Rattle.core_min.specs.Known.{is_picked}
use Rattle.core_min.proofs.losing.pick.Given as goal

-- those of the numbers so far are written, and there is room for the others
abbrev pub invariant-loop-number : goal.invariant-loop-number
invariant-loop-number l =
    record {
      items : l.picked.items ≡ filter (is_picked l.guess) (take l.number-index l.set);
      count : vec_len l.picked ≤ l.number-index;
      room : length l.set ≤ vec_capacity l.picked;
      capacity : vec_capacity l.fn.picked ≤ vec_capacity l.picked;
    }
