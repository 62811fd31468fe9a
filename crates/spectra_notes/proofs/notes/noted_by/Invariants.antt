use Rattle.std.proofs.Common.{true, map}
use Rattle.spectra_resolved.specs.TextViews.{text_data}
use Rattle.spectra_judge.specs.Kinds.{Anything}
use Rattle.spectra_judge.specs.KindViews.{kind_data}
use Rattle.spectra_bounds.proofs.Made.{HasMade}
use Rattle.spectra_notes.specs.Notes.{noted}
use Rattle.spectra_notes.proofs.notes.noted_by.Given as goal

-- what stood in the order so far has its note
abbrev pub invariant-loop-k : goal.invariant-loop-k
invariant-loop-k l =
    record {
      defines : HasMade Anything (noted (text_data l.text)).defines l.fn.order.numbers.items l.k-index (map kind_data l.defines.items);
      holes : HasMade true (noted (text_data l.text)).holes l.fn.order.numbers.items l.k-index l.holes.items;
    }
