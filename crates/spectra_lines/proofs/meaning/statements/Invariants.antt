use Rattle.std.proofs.Common.{◌≡◌, suc, ◌++◌, length, map, drop}
use Rattle.spec_model.specs.Views.{line_data as model_line, trigger_data}
use Rattle.spectra_resolved.specs.TextViews.{line_data}
use Rattle.spectra_judge.specs.KindViews.{known_data}
use Rattle.spectra_lines.specs.Meanings.{statements_from, statements, triggers}
use Rattle.spectra_lines.proofs.meaning.statements.Given as goal

-- those so far and those of what is left are all
abbrev pub invariant-loop-line : goal.invariant-loop-line
invariant-loop-line l =
    record {
      lines : map model_line l.stated.lines.items ++ statements_from (known_data l.known) (suc (length l.stated.lines.items)) (length l.stated.triggers.items) (map line_data (drop l.line-index l.lines)) ≡ statements (known_data l.known) (map line_data l.lines);
      triggers : map trigger_data l.stated.triggers.items ++ triggers (known_data l.known) (map line_data (drop l.line-index l.lines)) ≡ triggers (known_data l.known) (map line_data l.lines);
    }
