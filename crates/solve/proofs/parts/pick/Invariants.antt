use Rattle.std.proofs.Common.{◌≡◌, ◌≤◌, length, take, vec_len, vec_capacity}
use Rattle.solve.specs.Places.{at_places}
use Rattle.solve.proofs.parts.pick.Given as goal

-- the numbers at the places so far are written, and there is room for the others
abbrev pub invariant-loop-place : goal.invariant-loop-place
invariant-loop-place l =
    record {
      items : l.picked.items ≡ at_places l.numbers (take l.place-index l.places);
      count : vec_len l.picked ≡ l.place-index;
      room : length l.places ≤ vec_capacity l.picked;
      capacity : vec_capacity l.fn.picked ≤ vec_capacity l.picked;
    }
