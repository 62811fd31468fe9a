use Rattle.std.proofs.Common.{map}
use Rattle.spectra_resolved.specs.Resolved.{tree}
use Rattle.spectra_resolved.specs.Chained.{trees}
use Rattle.spectra_resolved.specs.Views.{resolved_data, form_data}
use Rattle.spectra_copies.specs.declared.refusal.Refusal.TheVariants.{Memory}
use Rattle.spectra_copies.specs.Operands.{over_each}
use Rattle.spectra_copies.proofs.Made.{no_room, stop}
use Rattle.spectra_copies.proofs.nodes.each_above.Goals as goal

pub returns-in_err-between-in-And-clause-made : goal.returns-in_err-between-in-And-clause-made
returns-in_err-between-in-And-clause-made c =
    stop c.args.room (tree c.args.first c.args.at (over_each c.args.brought.now (form_data c.args.shape.now) (trees (map resolved_data c.args.operands.items)))) Memory c.from_residual.result c.from_residual.ensures.1 no_room

pub returns-in_err-between-in-Or-clause-made : goal.returns-in_err-between-in-Or-clause-made
returns-in_err-between-in-Or-clause-made c =
    stop c.args.room (tree c.args.first c.args.at (over_each c.args.brought.now (form_data c.args.shape.now) (trees (map resolved_data c.args.operands.items)))) Memory c.from_residual-in_err-between-in-Or.result c.from_residual-in_err-between-in-Or.ensures.1 no_room
