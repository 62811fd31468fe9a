use Rattle.std.proofs.Common.{◌≡◌, drop}
use Rattle.std.specs.List.{list_all}
use Rattle.spectra_judge.specs.Around.{comes_before}
use Rattle.spectra_bodies.proofs.places.all_behind.Given as goal

-- those that are left decide
abbrev pub invariant-loop-place : goal.invariant-loop-place
invariant-loop-place l = list_all (comes_before l.at) (drop l.place-index l.places) ≡ list_all (comes_before l.at) l.places
