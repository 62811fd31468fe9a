use Rattle.std.proofs.Common.{◌≡◌, OnOk, map, flat_map, append-nil, sym, ap, subst, ◌∙◌}
use Rattle.spec_model.specs.Syntax.{regulars}
use Rattle.spec_model.specs.Views.{formula, regular}
use Rattle.spec_model.specs.Sizes.{past_trees, atoms_of, atoms_of_all}
use Rattle.spec_model.proofs.Regexes.{data_atom, data_cat, data_alt}
use Rattle.past_bits.specs.Entries.{added}
use Rattle.past_bits.specs.Bits.{tree_of}
use Rattle.past_bits.proofs.operators.Operators.+regexes.Goals as goal

pub collect_regex-returns-in-Atom : goal.collect_regex-returns-in-Atom
collect_regex-returns-in-Atom t c =
    let all = sym (append-nil (past_trees (formula c.in-Atom.e))) ∙ ap (flat_map past_trees) (ap atoms_of (sym (data_atom c.in-Atom.e)) ∙ ap (λ p. atoms_of (regular p)) (sym c.in-Atom.is) ∙ c.repeats.invariant.same) in
    subst (λ es. OnOk c.collect.result (map tree_of c.collect.new.self ≡ added (map tree_of c.args.self.now) es)) all
    (subst (λ s. OnOk c.collect.result (map tree_of c.collect.new.self ≡ added (map tree_of s) (past_trees (formula c.in-Atom.e)))) c.repeats.invariant.unchanged c.collect.ensures)

pub collect_regex-returns-in-Cat : goal.collect_regex-returns-in-Cat
collect_regex-returns-in-Cat t c =
    let all = ap (flat_map past_trees) (ap (λ xs. atoms_of_all (regulars (map regular xs))) c.deref.ensures.value ∙ ap atoms_of (sym (data_cat c.in-Cat.rs)) ∙ ap (λ p. atoms_of (regular p)) (sym c.in-Cat.is) ∙ c.repeats.invariant.same) in
    subst (λ es. OnOk c.collect_regexes.result (map tree_of c.collect_regexes.new.self ≡ added (map tree_of c.args.self.now) es)) all
    (subst (λ s. OnOk c.collect_regexes.result (map tree_of c.collect_regexes.new.self ≡ added (map tree_of s) (flat_map past_trees (atoms_of_all (regulars (map regular c.deref.result.now)))))) c.repeats.invariant.unchanged c.collect_regexes.ensures)

pub collect_regex-returns-in-Alt : goal.collect_regex-returns-in-Alt
collect_regex-returns-in-Alt t c =
    let all = ap (flat_map past_trees) (ap (λ xs. atoms_of_all (regulars (map regular xs))) c.deref-in-Alt.ensures.value ∙ ap atoms_of (sym (data_alt c.in-Alt.rs)) ∙ ap (λ p. atoms_of (regular p)) (sym c.in-Alt.is) ∙ c.repeats.invariant.same) in
    subst (λ es. OnOk c.collect_regexes-in-Alt.result (map tree_of c.collect_regexes-in-Alt.new.self ≡ added (map tree_of c.args.self.now) es)) all
    (subst (λ s. OnOk c.collect_regexes-in-Alt.result (map tree_of c.collect_regexes-in-Alt.new.self ≡ added (map tree_of s) (flat_map past_trees (atoms_of_all (regulars (map regular c.deref-in-Alt.result.now)))))) c.repeats.invariant.unchanged c.collect_regexes-in-Alt.ensures)
