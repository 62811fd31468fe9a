use Rattle.spectra_top.specs.Top as top
use Rattle.spectra_top.proofs.Decided.{served_as, is_audited}
use Rattle.spectra_top.proofs.deciding.serve_specification.Goals as goal

pub returns-in-Synth : goal.returns-in-Synth
returns-in-Synth g c = served_as _ _ c.in-Synth.is _ _ _ _ _ (c.serve_synth.ensures _ _ _)

pub returns-in-Run : goal.returns-in-Run
returns-in-Run g c = served_as _ _ c.in-Run.is _ _ _ _ _ c.serve_run.ensures

pub returns-in-Order : goal.returns-in-Order
returns-in-Order g c = served_as _ _ c.in-Order.is _ _ _ _ _ (c.serve_order.ensures _ _ _)

pub returns-in-Core : goal.returns-in-Core
returns-in-Core g c = served_as _ _ c.in-Core.is _ _ _ _ _ (c.serve_core.ensures _ _ _)

pub returns-in-Separate : goal.returns-in-Separate
returns-in-Separate g c = served_as _ _ c.in-Separate.is _ _ _ _ _ (c.serve_separate.ensures _ _ _)

pub returns-in-Audit : goal.returns-in-Audit
returns-in-Audit g c = is_audited _ _ _ _ _ _ c.in-Audit.is c.audit.ensures

pub returns-in-Counter : goal.returns-in-Counter
returns-in-Counter g c = served_as _ _ c.in-Counter.is _ _ _ _ _ c.serve_counter.ensures

pub returns-in-Verify : goal.returns-in-Verify
returns-in-Verify g c = top.verifies c.in-Verify.is c.verify.ensures

pub returns-in-Export : goal.returns-in-Export
returns-in-Export g c = served_as _ _ c.in-Export.is _ _ _ _ _ (c.serve_export.ensures _ _ _)
