use Rattle.std.proofs.Common.{◌≡◌, map, take}
use Rattle.spec_model.specs.Views.{domain_data}
use Rattle.spectra_judge.specs.KindViews.{kind_data}
use Rattle.spectra_patterns.specs.Patterns.{domain_of}
use Rattle.spectra_patterns.proofs.patterns.domains.Given as goal

abbrev pub invariant-loop-kind : goal.invariant-loop-kind
invariant-loop-kind l = map domain_data l.made.items ≡ map domain_of (map kind_data (take l.kind-index l.own))
