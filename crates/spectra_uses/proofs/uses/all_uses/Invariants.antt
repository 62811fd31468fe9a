use Rattle.std.proofs.Common.{◌≡◌, map, take}
use Rattle.spectra_resolved.specs.TextViews.{definition_data}
use Rattle.spectra_uses.specs.Uses.{all_uses}
use Rattle.spectra_uses.proofs.uses.all_uses.Given as goal

abbrev pub invariant-loop-definition : goal.invariant-loop-definition
invariant-loop-definition l = map (λ uses. uses.items) l.all.items ≡ all_uses (map definition_data (take l.definition-index l.definitions))
