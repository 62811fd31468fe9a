-- What is open in the operands of an operator by its place among several.
use Rattle.std.specs.Prelude.{ℕ, ◌||◌, nat_lt, if◌then◌else◌, Option, Some, None}
use Rattle.spectra_resolved.specs.declared.spot.Spot.{Spot}
use Rattle.spectra_judge.specs.declared.chains.Opened.{Opened}
use Rattle.spectra_judge.specs.Around.{Around}

-- the outer one where there is one, and else the inner one
abbrev pub outer_or : Option Spot → Option Spot → Option Spot
outer_or (Some outer) inner = Some outer
outer_or None inner = inner

abbrev pub opened_at : Opened → Around → ℕ → Around
opened_at w around place =
    record {
      next = around.next;
      past = around.past || nat_lt place w.past;
      brought = outer_or around.brought (if nat_lt place w.bringing.until then w.bringing.first else None);
      bound = around.bound;
    }
