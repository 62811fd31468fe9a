use Rattle.std.proofs.Common.{◌≡◌, map, drop}
use Rattle.std.specs.List.{list_all}
use Rattle.spectra_judge.specs.PutIn.{has_room}
use Rattle.spectra_judge.specs.KindViews.{kind_data}
use Rattle.spectra_types.proofs.patterns.all_have_room.Given as goal

-- what is left is the answer
abbrev pub invariant-loop-kind : goal.invariant-loop-kind
invariant-loop-kind l = list_all has_room (map kind_data (drop l.kind-index l.kinds)) ≡ list_all has_room (map kind_data l.kinds)
