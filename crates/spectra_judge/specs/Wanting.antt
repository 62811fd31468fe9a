-- Which standings want a truth value.
use Rattle.std.specs.Prelude.{Bool, true, false}
use Rattle.spectra_resolved.specs.declared.stand.Stand.{Stand}
use Rattle.spectra_resolved.specs.declared.stand.Stand.TheVariants as stand

-- where an expression is to be a truth value
abbrev pub wants_truth : Stand → Bool
wants_truth stand.Bound = false
wants_truth stand.Define = false
wants_truth _ = true
