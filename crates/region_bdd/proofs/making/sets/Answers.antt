use Rattle.std.proofs.Common.{Ok, Err, false, length, inr, refl}
use Rattle.spec_model.specs.Diagrams.{Bits}
use Rattle.game_values.specs.declared.seen.At.TheVariants.{Now}
use Rattle.bit_compile.specs.Proper.{proper}
use Rattle.bit_compile.specs.Named.{IsOfProper}
use Rattle.bit_compile.proofs.Causes.{cause_ok, cause_never}
use Rattle.bdd_sets.specs.Lists.{one_at}
use Rattle.region_bdd.specs.Making.{FitNothing, FitProper, times_in_sets, FitSets}
use Rattle.region_bdd.proofs.MakingLaws.{root_part, root_stays, both_made, part_refused, handed_part, root_named}
use Rattle.region_bdd.proofs.making.sets.Goals as goal

pub returns-in_err-all : goal.returns-in_err-all
returns-in_err-all c =
    let old = c.args.diagrams.now in
    let ds = c.args.codes.now in
    handed_part times_in_sets (FitSets ds) one_at (FitProper ds) (IsOfProper ds Now) old c.proper.new.diagrams c.from_residual.result c.in_err-all.field-0.0 c.from_residual.ensures.1
    (root_part old c.proper.new.diagrams (Err c.in_err-all.field-0.0) (proper ds Now) (IsOfProper ds Now) c.in_err-all.ensures.made c.in_err-all.ensures.cause)

pub returns-in-Ok : goal.returns-in-Ok
returns-in-Ok c =
    let old = c.args.diagrams.now in
    let mid = c.proper.new.diagrams in
    let new = c.constant.new.diagrams in
    let ds = c.args.codes.now in
    both_made one_at (FitProper ds) (IsOfProper ds Now) old mid c.in_ok-all.all (root_part old mid (Ok c.in_ok-all.all) (proper ds Now) (IsOfProper ds Now) c.in_ok-all.ensures.made c.in_ok-all.ensures.cause)
    one_at FitNothing new c.in-Ok.nothing (root_part mid new (Ok c.in-Ok.nothing) (λ (b : Bits). false) (IsOfProper ds Now) c.in-Ok.ensures.made (cause_ok mid new c.in-Ok.nothing (IsOfProper ds Now))) (root_stays (proper ds Now))

pub returns-in-Err : goal.returns-in-Err
returns-in-Err c =
    let old = c.args.diagrams.now in
    let mid = c.proper.new.diagrams in
    let whole = c.constant.new.diagrams in
    let ds = c.args.codes.now in
    part_refused one_at (FitProper ds) (IsOfProper ds Now) old mid c.in_ok-all.all (root_part old mid (Ok c.in_ok-all.all) (proper ds Now) (IsOfProper ds Now) c.in_ok-all.ensures.made c.in_ok-all.ensures.cause)
    one_at FitNothing times_in_sets (FitSets ds) whole c.release.new.self c.in-Err.halt
    (root_part mid whole (Err c.in-Err.halt) (λ (b : Bits). false) (IsOfProper ds Now) c.in-Err.ensures.made (cause_never mid whole (Err c.in-Err.halt) (IsOfProper ds Now) c.in-Err.ensures.never))
    (root_named mid c.in_ok-all.all (proper ds Now) (IsOfProper ds Now) c.in_ok-all.ensures.made.meaning (inr (length ds, refl))) c.release.ensures.released c.release.ensures.nodes
