use Rattle.std.proofs.Common.{◌<◌, [], map, length, ap, subst, ◌∙◌, arith}
use Rattle.std.proofs.lemmas.Result.{err_from_is_err_and}
use Rattle.spec_model.specs.Sizes.{atoms_of}
use Rattle.spec_model.specs.Views.{formula, regular}
use Rattle.trigger_dfa.specs.Atoms.{with_atoms}
use Rattle.trigger_dfa.proofs.Collected.{both_sides, with_atoms_longer}
use Rattle.trigger_dfa.proofs.atoms.trigger_atoms.Goals as goal

pub returns-in_err-collect-clause-wide : goal.returns-in_err-collect-clause-wide
returns-in_err-collect-clause-wide c e =
    let p = err_from_is_err_and c.from_residual.result c.from_residual.ensures.1 in
    let xs = atoms_of (regular c.args.trigger.now.cause) in
    let ys = atoms_of (regular c.args.trigger.now.effect) in
    let more = subst (λ l. 8 < length (with_atoms (map formula l) xs)) c.new-atoms.ensures.items (c.in_err-collect.ensures.wide (cc (e, p.1, p.2))) in
    omega (arith, more, with_atoms_longer (with_atoms [] xs) ys, ap length (both_sides xs ys))

pub returns-in_err-collect-2-clause-wide : goal.returns-in_err-collect-2-clause-wide
returns-in_err-collect-2-clause-wide c e =
    let p = err_from_is_err_and c.from_residual-in_err-collect-2.result c.from_residual-in_err-collect-2.ensures.1 in
    let xs = atoms_of (regular c.args.trigger.now.cause) in
    let ys = atoms_of (regular c.args.trigger.now.effect) in
    let first = c.in_ok-collect.ensures.added ∙ ap (λ l. with_atoms (map formula l) xs) c.new-atoms.ensures.items in
    let more = subst (λ l. 8 < length (with_atoms l ys)) first (c.in_err-collect-2.ensures.wide (cc (e, p.1, p.2))) in
    omega (arith, more, ap length (both_sides xs ys))

pub returns-clause-atoms : goal.returns-clause-atoms
returns-clause-atoms c =
    let xs = atoms_of (regular c.args.trigger.now.cause) in
    let ys = atoms_of (regular c.args.trigger.now.effect) in
    let first = c.in_ok-collect.ensures.added ∙ ap (λ l. with_atoms (map formula l) xs) c.new-atoms.ensures.items in
    c.in_ok-collect-2.ensures.added ∙ ap (λ l. with_atoms l ys) first ∙ both_sides xs ys
