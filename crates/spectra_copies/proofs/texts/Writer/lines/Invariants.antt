use Rattle.std.proofs.Common.{◌≡◌, length, map}
use Rattle.std.specs.Vec.Iter.{into_iter_items, into_iter_len}
use Rattle.spectra_resolved.specs.TextViews.{line_data}
use Rattle.spectra_copies.specs.Texts.{each_in_turn, line_out}
use Rattle.spectra_copies.proofs.Turns.{with_rest}
use Rattle.spectra_copies.proofs.texts.Writer.lines.Given as goal

-- those so far, and what those that are left become
abbrev pub invariant-loop-l : goal.invariant-loop-l
invariant-loop-l l =
    record {
      kept : l.self.numbers.now ≡ l.fn.self.numbers.now;
      out : with_rest line_data (line_out l.fn.self.numbers.now) l.all.items l.self.room (into_iter_items l.l-iterator) ≡ each_in_turn (line_out l.fn.self.numbers.now) l.fn.self.room (map line_data l.fn.ls.items);
      counted : into_iter_len l.l-iterator ≡ length (into_iter_items l.l-iterator);
    }
