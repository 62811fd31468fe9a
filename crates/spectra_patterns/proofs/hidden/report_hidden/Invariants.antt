use Rattle.std.proofs.Common.{◌≡◌, [], map, take, drop}
use Rattle.spec_model.specs.Views.{line_data as model_line, trigger_data}
use Rattle.spectra_resolved.specs.Reports.{found_in}
use Rattle.spectra_patterns.specs.Hidden.{hidden_faults}
use Rattle.spectra_patterns.specs.Gathering.{IsCount}
use Rattle.spectra_patterns.proofs.hidden.report_hidden.Given as goal

-- nothing is found so far, and the tables of the lines so far are counted
abbrev pub invariant-loop-k : goal.invariant-loop-k
invariant-loop-k l =
    record {
      same : found_in l.findings ≡ found_in l.fn.findings;
      count : IsCount (map trigger_data l.triggers) (map model_line (take l.k l.lines)) l.tables;
      left : hidden_faults (map trigger_data l.triggers) [] l.places (map model_line l.lines)
          ≡ hidden_faults (map trigger_data l.triggers) (map model_line (take l.k l.lines)) (drop l.k l.places) (map model_line (drop l.k l.lines));
    }
