use Rattle.std.proofs.Common.{◌≡◌, length, map}
use Rattle.std.specs.Vec.Iter.{into_iter_items, into_iter_len}
use Rattle.spectra_resolved.specs.TextViews.{pattern_line_data}
use Rattle.spectra_copies.specs.Texts.{each_in_turn, pattern_line_out}
use Rattle.spectra_copies.proofs.Turns.{with_rest}
use Rattle.spectra_copies.proofs.texts.Writer.pattern_lines.Given as goal

-- those so far, and what those that are left become
abbrev pub invariant-loop-line : goal.invariant-loop-line
invariant-loop-line l =
    record {
      kept : l.self.numbers.now ≡ l.fn.self.numbers.now;
      out : with_rest pattern_line_data (pattern_line_out l.fn.self.numbers.now) l.all.items l.self.room (into_iter_items l.line-iterator) ≡ each_in_turn (pattern_line_out l.fn.self.numbers.now) l.fn.self.room (map pattern_line_data l.fn.lines.items);
      counted : into_iter_len l.line-iterator ≡ length (into_iter_items l.line-iterator);
    }
