use Rattle.std.proofs.Common.{◌≡◌, ◌+◌, ◌<◌, OnOk, length, map, flat_map, drop, append-nil, sym, ap, subst, ◌∙◌, rules, arith}
use Rattle.std.proofs.lemmas.Grind.{common_steps}
use Rattle.spec_model.specs.Syntax.{regulars}
use Rattle.spec_model.specs.Views.{formula, regular}
use Rattle.spec_model.specs.Sizes.{past_trees, atoms_of, atoms_of_all}
use Rattle.spec_model.proofs.Regexes.{data_atom, data_cat, data_alt}
use Rattle.past_bits.specs.Entries.{added}
use Rattle.past_bits.specs.Bits.{tree_of}
use Rattle.spectra_patterns.proofs.Gathered.{many_more, regexes_more}
use Rattle.spectra_patterns.proofs.gathering.+regexes.Goals as goal

pub gather_regexes-returns-in_err-gather_regex-clause-many : goal.gather_regexes-returns-in_err-gather_regex-clause-many
gather_regexes-returns-in_err-gather_regex-clause-many t c = λ is.
    let rs = c.args.rs.now in
    let k = c.loop-r.r-index in
    let r = c.r-item.result in
    let ops = map tree_of c.loop-r.ops in
    let few : c.args.most < length (added ops (flat_map past_trees (atoms_of (regular r)))) = first_of (search rules, grind (arith, common_steps)) in
    subst (λ fs. c.args.most < length fs)
    (regexes_more ops rs k r c.loop-r-test.true c.r-item.is ∙ c.loop-r.invariant)
    (many_more c.args.most ops (flat_map past_trees (atoms_of (regular r))) (flat_map past_trees (atoms_of_all (regulars (map regular (drop (k + 1) rs))))) few)

pub gather_regex-returns-in-Atom-clause-added : goal.gather_regex-returns-in-Atom-clause-added
gather_regex-returns-in-Atom-clause-added t c =
    let all = sym (append-nil (past_trees (formula c.in-Atom.e))) ∙ ap (flat_map past_trees) (ap atoms_of (sym (data_atom c.in-Atom.e)) ∙ ap (λ p. atoms_of (regular p)) (sym c.in-Atom.is) ∙ c.repeats.invariant.same) in
    subst (λ es. OnOk c.gather.result (map tree_of c.gather.new.ops ≡ added (map tree_of c.args.ops.now) es)) all
    (subst (λ s. OnOk c.gather.result (map tree_of c.gather.new.ops ≡ added (map tree_of s) (past_trees (formula c.in-Atom.e)))) c.repeats.invariant.unchanged c.gather.ensures.added)

pub gather_regex-returns-in-Atom-clause-many : goal.gather_regex-returns-in-Atom-clause-many
gather_regex-returns-in-Atom-clause-many t c = λ is.
    let all = sym (append-nil (past_trees (formula c.in-Atom.e))) ∙ ap (flat_map past_trees) (ap atoms_of (sym (data_atom c.in-Atom.e)) ∙ ap (λ p. atoms_of (regular p)) (sym c.in-Atom.is) ∙ c.repeats.invariant.same) in
    subst (λ es. c.args.most < length (added (map tree_of c.args.ops.now) es)) all
    (subst (λ s. c.args.most < length (added (map tree_of s) (past_trees (formula c.in-Atom.e)))) c.repeats.invariant.unchanged (c.gather.ensures.many is))

pub gather_regex-returns-in-Cat-clause-added : goal.gather_regex-returns-in-Cat-clause-added
gather_regex-returns-in-Cat-clause-added t c =
    let all = ap (flat_map past_trees) (ap (λ xs. atoms_of_all (regulars (map regular xs))) c.deref.ensures.value ∙ ap atoms_of (sym (data_cat c.in-Cat.rs)) ∙ ap (λ p. atoms_of (regular p)) (sym c.in-Cat.is) ∙ c.repeats.invariant.same) in
    subst (λ es. OnOk c.gather_regexes.result (map tree_of c.gather_regexes.new.ops ≡ added (map tree_of c.args.ops.now) es)) all
    (subst (λ s. OnOk c.gather_regexes.result (map tree_of c.gather_regexes.new.ops ≡ added (map tree_of s) (flat_map past_trees (atoms_of_all (regulars (map regular c.deref.result.now)))))) c.repeats.invariant.unchanged c.gather_regexes.ensures.added)

pub gather_regex-returns-in-Cat-clause-many : goal.gather_regex-returns-in-Cat-clause-many
gather_regex-returns-in-Cat-clause-many t c = λ is.
    let all = ap (flat_map past_trees) (ap (λ xs. atoms_of_all (regulars (map regular xs))) c.deref.ensures.value ∙ ap atoms_of (sym (data_cat c.in-Cat.rs)) ∙ ap (λ p. atoms_of (regular p)) (sym c.in-Cat.is) ∙ c.repeats.invariant.same) in
    subst (λ es. c.args.most < length (added (map tree_of c.args.ops.now) es)) all
    (subst (λ s. c.args.most < length (added (map tree_of s) (flat_map past_trees (atoms_of_all (regulars (map regular c.deref.result.now)))))) c.repeats.invariant.unchanged (c.gather_regexes.ensures.many is))

pub gather_regex-returns-in-Alt-clause-added : goal.gather_regex-returns-in-Alt-clause-added
gather_regex-returns-in-Alt-clause-added t c =
    let all = ap (flat_map past_trees) (ap (λ xs. atoms_of_all (regulars (map regular xs))) c.deref-in-Alt.ensures.value ∙ ap atoms_of (sym (data_alt c.in-Alt.rs)) ∙ ap (λ p. atoms_of (regular p)) (sym c.in-Alt.is) ∙ c.repeats.invariant.same) in
    subst (λ es. OnOk c.gather_regexes-in-Alt.result (map tree_of c.gather_regexes-in-Alt.new.ops ≡ added (map tree_of c.args.ops.now) es)) all
    (subst (λ s. OnOk c.gather_regexes-in-Alt.result (map tree_of c.gather_regexes-in-Alt.new.ops ≡ added (map tree_of s) (flat_map past_trees (atoms_of_all (regulars (map regular c.deref-in-Alt.result.now)))))) c.repeats.invariant.unchanged c.gather_regexes-in-Alt.ensures.added)

pub gather_regex-returns-in-Alt-clause-many : goal.gather_regex-returns-in-Alt-clause-many
gather_regex-returns-in-Alt-clause-many t c = λ is.
    let all = ap (flat_map past_trees) (ap (λ xs. atoms_of_all (regulars (map regular xs))) c.deref-in-Alt.ensures.value ∙ ap atoms_of (sym (data_alt c.in-Alt.rs)) ∙ ap (λ p. atoms_of (regular p)) (sym c.in-Alt.is) ∙ c.repeats.invariant.same) in
    subst (λ es. c.args.most < length (added (map tree_of c.args.ops.now) es)) all
    (subst (λ s. c.args.most < length (added (map tree_of s) (flat_map past_trees (atoms_of_all (regulars (map regular c.deref-in-Alt.result.now)))))) c.repeats.invariant.unchanged (c.gather_regexes-in-Alt.ensures.many is))
