use Rattle.std.proofs.Common.{◌≡◌, ◌≤◌, ◌<◌, [], ◌∷◌, OnOk, map, length, vec_len, sym, ap, subst, ◌∙◌, arith}
use Rattle.std.proofs.lemmas.Result.{err_from_is_err_and}
use Rattle.spec_model.specs.Syntax.{regulars}
use Rattle.spec_model.specs.Views.{formula, regular}
use Rattle.spec_model.specs.Sizes.{atoms_of, atoms_of_all}
use Rattle.trigger_dfa.specs.Atoms.{with_atoms}
use Rattle.spec_model.proofs.Regexes.{data_atom, data_cat, data_alt}
use Rattle.trigger_dfa.proofs.Collected.{more_atoms, wide_atoms}
use Rattle.trigger_dfa.proofs.atoms.+collecting.Goals as goal

pub collect_each-returns-in_err-collect-clause-wide : goal.collect_each-returns-in_err-collect-clause-wide
collect_each-returns-in_err-collect-clause-wide t c e =
    let p = err_from_is_err_and c.from_residual.result c.from_residual.ensures.1 in
    let more = c.in_err-collect.ensures.wide (cc (e, p.1, p.2)) in
    omega (arith, wide_atoms c.args.rs.now c.loop-r.r-index c.r-item.result (omega arith) c.r-item.is (map formula c.loop-r.atoms.items) 8 more, ap length c.loop-r.invariant.0)

pub collect_each-loop-r-preserved : goal.collect_each-loop-r-preserved
collect_each-loop-r-preserved t c = (
  more_atoms c.args.rs.now c.loop-r.r-index c.r-item.result (omega arith) c.r-item.is (map formula c.loop-r.atoms.items) (map formula c.collect.new.atoms.items) c.in_ok-collect.ensures.added ∙ c.loop-r.invariant.0,
  λ few. c.in_ok-collect.ensures.within (c.loop-r.invariant.1 few),
)

pub collect-returns-in-Atom-clause-added : goal.collect-returns-in-Atom-clause-added
collect-returns-in-Atom-clause-added t c =
    let all = ap atoms_of (sym (data_atom c.in-Atom.e)) ∙ ap (λ p. atoms_of (regular p)) (sym c.in-Atom.is) ∙ c.repeats.invariant.same in
    subst (λ es. OnOk c.add.result (map formula c.add.new.atoms.items ≡ with_atoms (map formula c.args.atoms.now.items) es)) all
    (subst (λ v. OnOk c.add.result (map formula c.add.new.atoms.items ≡ with_atoms (map formula v.items) (formula c.in-Atom.e ∷ []))) c.repeats.invariant.unchanged c.add.ensures.added)

pub collect-returns-in-Atom-clause-within : goal.collect-returns-in-Atom-clause-within
collect-returns-in-Atom-clause-within t c = subst (λ v. OnOk c.add.result (vec_len v ≤ 8 → vec_len c.add.new.atoms ≤ 8)) c.repeats.invariant.unchanged c.add.ensures.within

pub collect-returns-in-Atom-clause-wide : goal.collect-returns-in-Atom-clause-wide
collect-returns-in-Atom-clause-wide t c = λ is.
    let all = ap atoms_of (sym (data_atom c.in-Atom.e)) ∙ ap (λ p. atoms_of (regular p)) (sym c.in-Atom.is) ∙ c.repeats.invariant.same in
    subst (λ es. 8 < length (with_atoms (map formula c.args.atoms.now.items) es)) all
    (subst (λ v. 8 < length (with_atoms (map formula v.items) (formula c.in-Atom.e ∷ []))) c.repeats.invariant.unchanged (c.add.ensures.wide is))

pub collect-returns-in-Cat-clause-added : goal.collect-returns-in-Cat-clause-added
collect-returns-in-Cat-clause-added t c =
    let all = ap (λ xs. atoms_of_all (regulars (map regular xs))) c.deref.ensures.value ∙ ap atoms_of (sym (data_cat c.in-Cat.rs)) ∙ ap (λ p. atoms_of (regular p)) (sym c.in-Cat.is) ∙ c.repeats.invariant.same in
    subst (λ es. OnOk c.collect_each.result (map formula c.collect_each.new.atoms.items ≡ with_atoms (map formula c.args.atoms.now.items) es)) all
    (subst (λ v. OnOk c.collect_each.result (map formula c.collect_each.new.atoms.items ≡ with_atoms (map formula v.items) (atoms_of_all (regulars (map regular c.deref.result.now))))) c.repeats.invariant.unchanged c.collect_each.ensures.added)

pub collect-returns-in-Cat-clause-within : goal.collect-returns-in-Cat-clause-within
collect-returns-in-Cat-clause-within t c = subst (λ v. OnOk c.collect_each.result (vec_len v ≤ 8 → vec_len c.collect_each.new.atoms ≤ 8)) c.repeats.invariant.unchanged c.collect_each.ensures.within

pub collect-returns-in-Cat-clause-wide : goal.collect-returns-in-Cat-clause-wide
collect-returns-in-Cat-clause-wide t c = λ is.
    let all = ap (λ xs. atoms_of_all (regulars (map regular xs))) c.deref.ensures.value ∙ ap atoms_of (sym (data_cat c.in-Cat.rs)) ∙ ap (λ p. atoms_of (regular p)) (sym c.in-Cat.is) ∙ c.repeats.invariant.same in
    subst (λ es. 8 < length (with_atoms (map formula c.args.atoms.now.items) es)) all
    (subst (λ v. 8 < length (with_atoms (map formula v.items) (atoms_of_all (regulars (map regular c.deref.result.now))))) c.repeats.invariant.unchanged (c.collect_each.ensures.wide is))

pub collect-returns-in-Alt-clause-added : goal.collect-returns-in-Alt-clause-added
collect-returns-in-Alt-clause-added t c =
    let all = ap (λ xs. atoms_of_all (regulars (map regular xs))) c.deref-in-Alt.ensures.value ∙ ap atoms_of (sym (data_alt c.in-Alt.rs)) ∙ ap (λ p. atoms_of (regular p)) (sym c.in-Alt.is) ∙ c.repeats.invariant.same in
    subst (λ es. OnOk c.collect_each-in-Alt.result (map formula c.collect_each-in-Alt.new.atoms.items ≡ with_atoms (map formula c.args.atoms.now.items) es)) all
    (subst (λ v. OnOk c.collect_each-in-Alt.result (map formula c.collect_each-in-Alt.new.atoms.items ≡ with_atoms (map formula v.items) (atoms_of_all (regulars (map regular c.deref-in-Alt.result.now))))) c.repeats.invariant.unchanged c.collect_each-in-Alt.ensures.added)

pub collect-returns-in-Alt-clause-within : goal.collect-returns-in-Alt-clause-within
collect-returns-in-Alt-clause-within t c = subst (λ v. OnOk c.collect_each-in-Alt.result (vec_len v ≤ 8 → vec_len c.collect_each-in-Alt.new.atoms ≤ 8)) c.repeats.invariant.unchanged c.collect_each-in-Alt.ensures.within

pub collect-returns-in-Alt-clause-wide : goal.collect-returns-in-Alt-clause-wide
collect-returns-in-Alt-clause-wide t c = λ is.
    let all = ap (λ xs. atoms_of_all (regulars (map regular xs))) c.deref-in-Alt.ensures.value ∙ ap atoms_of (sym (data_alt c.in-Alt.rs)) ∙ ap (λ p. atoms_of (regular p)) (sym c.in-Alt.is) ∙ c.repeats.invariant.same in
    subst (λ es. 8 < length (with_atoms (map formula c.args.atoms.now.items) es)) all
    (subst (λ v. 8 < length (with_atoms (map formula v.items) (atoms_of_all (regulars (map regular c.deref-in-Alt.result.now))))) c.repeats.invariant.unchanged (c.collect_each-in-Alt.ensures.wide is))
