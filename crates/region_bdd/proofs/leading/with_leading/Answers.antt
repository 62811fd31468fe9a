use Rattle.spec_model.specs.Diagrams.{Function, shifted}
use Rattle.bdd_bits.specs.Contents.{function_at}
use Rattle.bit_compile.proofs.MakingLemmas.{is_root, root_added}
use Rattle.bit_compile.proofs.Causes.{cause_never}
use Rattle.bdd_sets.specs.Members.{move_functions, lists_at}
use Rattle.bdd_sets.specs.NamedGame.{IsOfRest}
use Rattle.bdd_sets.proofs.CauseLemmas.{cause_by}
use Rattle.region_bdd.specs.Leading.{leading_in}
use Rattle.region_bdd.proofs.LeadingLaws.{refused_two}
use Rattle.region_bdd.proofs.leading.with_leading.Goals as goal

pub returns-in_err-leads-clause-made : goal.returns-in_err-leads-clause-made
returns-in_err-leads-clause-made c = refused_two c.args.diagrams.now c.leading.new.diagrams c.from_residual.result c.in_err-leads.field-0.0 _ (leading_in (move_functions c.args.diagrams.now c.args.members.now) c.args.levels.now (function_at c.args.diagrams.now c.args.t.now)) _ c.from_residual.ensures.1 c.in_err-leads.ensures.made

pub returns-in_err-leads-clause-cause : goal.returns-in_err-leads-clause-cause
returns-in_err-leads-clause-cause c =
    let old = c.args.diagrams.now in
    let N : Function → Type 0 = IsOfRest (lists_at old c.args.members.now) c.args.levels.now (shifted c.args.levels.now.to.items (function_at old c.args.t.now)) in
    cause_by old c.leading.new.diagrams c.from_residual.result c.in_err-leads.field-0.0 N c.from_residual.ensures.1 c.in_err-leads.ensures.cause

pub beside_made-requires-clause-t : goal.beside_made-requires-clause-t
beside_made-requires-clause-t c = root_added c.args.diagrams.now c.leading.new.diagrams c.in_ok-leads.leads _ c.in_ok-leads.ensures.made c.args.t.now c.requires.t

pub beside_made-requires-clause-made : goal.beside_made-requires-clause-made
beside_made-requires-clause-made c = is_root c.args.diagrams.now c.leading.new.diagrams c.in_ok-leads.leads _ c.in_ok-leads.ensures.made

pub returns-clause-made : goal.returns-clause-made
returns-clause-made c = c.beside_made.ensures.made c.args.diagrams.now (leading_in (move_functions c.args.diagrams.now c.args.members.now) c.args.levels.now (function_at c.args.diagrams.now c.args.t.now)) c.in_ok-leads.ensures.made c.requires.t

pub returns-clause-cause : goal.returns-clause-cause
returns-clause-cause c =
    let old = c.args.diagrams.now in
    let N : Function → Type 0 = IsOfRest (lists_at old c.args.members.now) c.args.levels.now (shifted c.args.levels.now.to.items (function_at old c.args.t.now)) in
    cause_never old c.beside_made.new.diagrams c.beside_made.result N c.beside_made.ensures.never
