use Rattle.std.proofs.Common.{refl}
use Rattle.bdd_products.proofs.EarlyLemmas.{early_fits_made, early_lines_made}
use Rattle.bdd_products.proofs.early.Early.make.Goals as goal

pub returns-in-Ok-make-clause-fits : goal.returns-in-Ok-make-clause-fits
returns-in-Ok-make-clause-fits c =
    early_fits_made c.args.diagrams.now c.make-made.new.diagrams c.make.new.diagrams c.args.members.now c.args.levels.now c.in-Ok.replies c.in-Ok-make.inputs c.args.grouped _ _ _ _ _ _ c.deref.ensures.value c.deref-2.ensures.value c.deref-3.ensures.value c.deref-4.ensures.value refl c.deref-5.ensures.value c.requires c.in-Ok.ensures.product c.in-Ok-make.ensures.product

pub returns-in-Ok-make-clause-lines : goal.returns-in-Ok-make-clause-lines
returns-in-Ok-make-clause-lines c = λ plain.
    early_lines_made c.args.diagrams.now c.make-made.new.diagrams c.make.new.diagrams c.args.members.now c.in-Ok.replies c.in-Ok-make.inputs c.args.grouped _ _ _ _ _ _ c.deref.ensures.value c.deref-2.ensures.value c.deref-4.ensures.value refl c.requires c.in-Ok.ensures.product (c.in-Ok.ensures.members plain) c.in-Ok-make.ensures.product (c.in-Ok-make.ensures.members plain)
