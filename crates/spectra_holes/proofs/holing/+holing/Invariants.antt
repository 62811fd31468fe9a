use Rattle.std.proofs.Common.{◌≡◌, ◌++◌, Some, length, map, drop}
use Rattle.spectra_resolved.specs.Resolved.{listed}
use Rattle.spectra_resolved.specs.Chained.{trees}
use Rattle.spectra_resolved.specs.Views.{resolved_data, link_data}
use Rattle.spectra_judge.specs.Known.{wanted}
use Rattle.spectra_judge.specs.KindViews.{setting_data}
use Rattle.spectra_holes.specs.Holed.{each_holed, arguments_holed}
use Rattle.spectra_holes.specs.HoleViews.{links_holed}
use Rattle.spectra_holes.proofs.holing.+holing.Given as goal

-- those so far and those of what is left are all
abbrev pub invariant-hole_links-loop-link : goal.invariant-hole_links-loop-link
invariant-hole_links-loop-link l =
    record {
      place : length l.made.items ≡ l.link-index;
      same : map link_data l.made.items ++ links_holed (setting_data l.holing.setting) l.around (map link_data (drop l.link-index l.links)) ≡ links_holed (setting_data l.holing.setting) l.around (map link_data l.links);
    }

abbrev pub invariant-hole_each-loop-t : goal.invariant-hole_each-loop-t
invariant-hole_each-loop-t l =
    map resolved_data l.made.items ++ listed (each_holed (setting_data l.holing.setting) l.around (trees (map resolved_data (drop l.t-index l.ts)))) ≡ listed (each_holed (setting_data l.holing.setting) l.around (trees (map resolved_data l.ts)))

abbrev pub invariant-hole_arguments-loop-t : goal.invariant-hole_arguments-loop-t
invariant-hole_arguments-loop-t l =
    record {
      place : length l.made.items ≡ l.t-index;
      same : map resolved_data l.made.items ++ listed (arguments_holed (setting_data l.holing.setting) l.around (drop l.t-index (wanted (setting_data l.holing.setting).known (Some l.predicate))) (trees (map resolved_data (drop l.t-index l.ts))))
          ≡ listed (arguments_holed (setting_data l.holing.setting) l.around (wanted (setting_data l.holing.setting).known (Some l.predicate)) (trees (map resolved_data l.ts)));
    }
