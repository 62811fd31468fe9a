use Rattle.std.proofs.Common.{◌≤◌, map, length, string_bytes, arith}
use Rattle.std.proofs.lemmas.List.{length-map}
use Rattle.spectra_top.specs.Top as top
use Rattle.spectra_talks.proofs.Exchanges.{nothing_done}
use Rattle.spectra_top.proofs.Decided.{trees_mistyped}
use Rattle.spectra_top.proofs.serving.serve_trees.Goals as goal

pub returns-in-Ok : goal.returns-in-Ok
returns-in-Ok g c = top.means _ c.in-Ok.ensures.means c.serve_specification.ensures

pub returns-in-Err-Refused : goal.returns-in-Err-Refused
returns-in-Err-Refused g c =
    let h = rw c.in-Err-Refused.field-0-is at c.in-Err-Refused.ensures in
    let few : length (map string_bytes c.args.names.now) ≤ 1_048_576 = omega (arith, length-map c.args.names.now string_bytes, c.requires.few) in
    trees_mistyped _ _ _ _ _ _ (map string_bytes c.args.names.now) _ h.fault.0 _ _ _ _ few h.fault.1 h.fault.2 (rw c.name_of-file.ensures at (c.say_fault.ensures (g.I.Source.left c.args.input.now) (g.I.Source.reads c.args.input.now) (g.I.Source.faults c.args.input.now)))

pub returns-in-Err-Memory : goal.returns-in-Err-Memory
returns-in-Err-Memory g c = top.no_memory (nothing_done _)
