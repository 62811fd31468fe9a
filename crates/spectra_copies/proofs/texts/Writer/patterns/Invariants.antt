use Rattle.std.proofs.Common.{◌≡◌, length, map}
use Rattle.std.specs.Vec.Iter.{into_iter_items, into_iter_len}
use Rattle.spectra_resolved.specs.TextViews.{pattern_data}
use Rattle.spectra_copies.specs.Texts.{each_in_turn, pattern_out}
use Rattle.spectra_copies.proofs.Turns.{with_rest}
use Rattle.spectra_copies.proofs.texts.Writer.patterns.Given as goal

-- those so far, and what those that are left become
abbrev pub invariant-loop-p : goal.invariant-loop-p
invariant-loop-p l =
    record {
      kept : l.self.numbers.now ≡ l.fn.self.numbers.now;
      out : with_rest pattern_data (pattern_out l.fn.self.numbers.now) l.all.items l.self.room (into_iter_items l.p-iterator) ≡ each_in_turn (pattern_out l.fn.self.numbers.now) l.fn.self.room (map pattern_data l.fn.ps.items);
      counted : into_iter_len l.p-iterator ≡ length (into_iter_items l.p-iterator);
    }
