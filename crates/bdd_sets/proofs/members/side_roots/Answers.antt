use Rattle.std.proofs.Common.{List, subst}
use Rattle.spec_model.specs.Values.{DomainData}
use Rattle.game_values.specs.declared.seen.At.TheVariants.{Next}
use Rattle.bit_compile.specs.Domains.{state_domains}
use Rattle.bit_compile.specs.Making.{Makes}
use Rattle.bit_compile.specs.Proper.{proper}
use Rattle.bdd_sets.specs.Lines.{functions_judged}
use Rattle.bdd_sets.specs.LineScenes.{game_seen}
use Rattle.bit_compile.specs.Crowding.{HasCause}
use Rattle.bit_compile.specs.Named.{IsOfProper}
use Rattle.bdd_sets.specs.NamedGame.{IsOfGame, values}
use Rattle.bdd_sets.proofs.CauseLemmas.{cause_by, list_cause}
use Rattle.bdd_sets.proofs.NamedLemmas.{judged_named}
use Rattle.bdd_sets.proofs.members.side_roots.Goals as goal

pub returns-clause-made : goal.returns-clause-made
returns-clause-made c =
    let g = game_seen c.args.scene.now in
    let mid = c.line_roots.new.diagrams in
    let next = subst (λ (ds : List DomainData). Makes mid c.proper-next.new.diagrams c.proper-next.result (proper ds Next)) c.requires.scene.codes c.proper-next.ensures.made in
    c.push_made.ensures.made c.args.diagrams.now mid (functions_judged g c.args.scene.now.to.now c.args.side c.args.when) (proper (state_domains g) Next) c.in_ok-lines.ensures.made next

pub returns-in_err-lines-clause-cause : goal.returns-in_err-lines-clause-cause
returns-in_err-lines-clause-cause c = cause_by c.args.diagrams.now c.line_roots.new.diagrams c.from_residual.result c.in_err-lines.field-0.0 (IsOfGame (game_seen c.args.scene.now)) c.from_residual.ensures.1 c.in_err-lines.ensures.cause

pub returns-clause-cause : goal.returns-clause-cause
returns-clause-cause c =
    let g = game_seen c.args.scene.now in
    let mid = c.line_roots.new.diagrams in
    let of_next = IsOfProper (state_domains g) Next in
    let cause = subst (λ (ds : List DomainData). HasCause mid c.proper-next.new.diagrams c.proper-next.result (IsOfProper ds Next)) c.requires.scene.codes c.proper-next.ensures.cause in
    list_cause of_next (IsOfGame g) (λ f is. values Next is) c.args.diagrams.now mid c.in_ok-lines.lines (functions_judged g c.args.scene.now.to.now c.args.side c.args.when) c.in_ok-lines.ensures.made
    (judged_named g c.args.scene.now.to.now c.args.when c.requires.scene.to c.args.side)
    c.proper-next.new.diagrams c.push_made.new.diagrams c.proper-next.result c.push_made.result c.push_made.ensures.handed cause
