use Rattle.std.proofs.Common.{◌≡◌, drop, map}
use Rattle.spectra_trees.specs.Views.{name_data, expr_data}
use Rattle.spectra_resolved.specs.SpaceViews.{with_entries}
use Rattle.spectra_resolved.specs.Tables.{told}
use Rattle.spectra_declared.specs.Declarations.{define_entries}
use Rattle.spectra_declared.proofs.declaring.declare_defines.Given as goal

-- what is left is the answer
abbrev pub invariant-loop-body : goal.invariant-loop-body
invariant-loop-body l =
    with_entries (told l.table l.findings) (define_entries l.file l.number (map (λ b. (name_data b.0, expr_data b.1)) (drop l.body-index l.bodies)))
    ≡ with_entries (told l.fn.table l.fn.findings) (define_entries l.file l.before (map (λ b. (name_data b.0, expr_data b.1)) l.bodies))
