use Rattle.std.proofs.Common.{◌≡◌, length, map}
use Rattle.std.specs.Vec.Iter.{into_iter_items, into_iter_len}
use Rattle.spectra_resolved.specs.Views.{resolved_data}
use Rattle.spectra_copies.specs.Texts.{each_in_turn, tree_out}
use Rattle.spectra_copies.proofs.Turns.{with_rest}
use Rattle.spectra_copies.proofs.texts.Writer.trees.Given as goal

-- those so far, and what those that are left become
abbrev pub invariant-loop-t : goal.invariant-loop-t
invariant-loop-t l =
    record {
      kept : l.self.numbers.now ≡ l.fn.self.numbers.now;
      out : with_rest resolved_data (tree_out l.fn.self.numbers.now) l.all.items l.self.room (into_iter_items l.t-iterator) ≡ each_in_turn (tree_out l.fn.self.numbers.now) l.fn.self.room (map resolved_data l.fn.ts.items);
      counted : into_iter_len l.t-iterator ≡ length (into_iter_items l.t-iterator);
    }
