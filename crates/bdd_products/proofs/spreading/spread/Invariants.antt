use Rattle.std.proofs.Common.{◌≡◌, ◌≤◌, ◌+◌, [], drop, length, reverse, vec_len, vec_capacity}
use Rattle.bdd_store.specs.State.{SameRoots}
use Rattle.bdd_bits.specs.Calls.{KeepsRoots}
use Rattle.bdd_sets.specs.Members.{functions_at}
use Rattle.bdd_products.specs.Products.{IsSpread, levels_of}
use Rattle.bdd_products.proofs.spreading.spread.Given as goal

-- the levels that are left go to the lines before this place
abbrev pub invariant-loop-place : goal.invariant-loop-place
invariant-loop-place l =
    record {
      within : l.place ≤ length l.lines;
      room : vec_len l.outs + l.place ≤ vec_capacity l.outs;
      spread : IsSpread l.out l.left.items (functions_at l.fn.diagrams (drop l.place l.lines)) (levels_of (reverse l.outs.items));
      last : l.place ≡ 0 → l.left.items ≡ [];
      roots : SameRoots l.fn.diagrams.state l.diagrams.state;
      keeps : KeepsRoots l.fn.diagrams l.diagrams;
    }

abbrev pub decreases-loop-place : goal.decreases-loop-place
decreases-loop-place l = l.place
