use Rattle.std.proofs.Common.{◌≡◌, length, map}
use Rattle.std.specs.Vec.Iter.{into_iter_items, into_iter_len}
use Rattle.spectra_resolved.specs.TextViews.{definition_data}
use Rattle.spectra_copies.specs.Texts.{each_in_turn, definition_out}
use Rattle.spectra_copies.proofs.Turns.{with_rest}
use Rattle.spectra_copies.proofs.texts.Writer.definitions.Given as goal

-- those so far, and what those that are left become
abbrev pub invariant-loop-d : goal.invariant-loop-d
invariant-loop-d l =
    record {
      kept : l.self.numbers.now ≡ l.fn.self.numbers.now;
      out : with_rest definition_data (definition_out l.fn.self.numbers.now) l.all.items l.self.room (into_iter_items l.d-iterator) ≡ each_in_turn (definition_out l.fn.self.numbers.now) l.fn.self.room (map definition_data l.fn.ds.items);
      counted : into_iter_len l.d-iterator ≡ length (into_iter_items l.d-iterator);
    }
