use Rattle.std.proofs.Common.{map, sym, ap, ◌∙◌}
use Rattle.spec_model.specs.Syntax.{Conjunction, Disjunction, PastOf, Entry}
use Rattle.spec_model.specs.Views.{formula}
use Rattle.game_values.specs.Safety.{formulas_in}
use Rattle.past_bits.specs.Entries.{place_of, with_entries, each_with_entries}
use Rattle.past_bits.specs.Bits.{tree_of}
use Rattle.past_bits.proofs.Folded.{and_folded, or_folded, past_folded, table_folded}
use Rattle.past_bits.proofs.Collected.{each_folded}
use Rattle.past_bits.proofs.operators.Operators.+entering.Goals as goal

pub with_entries-returns-in-Past : goal.with_entries-returns-in-Past
with_entries-returns-in-Past t c =
    table_folded c.number.result 0
    ∙ (ap (λ k. Entry k 0) c.number.ensures
    ∙ (ap (λ es. Entry (place_of (map tree_of c.args.self.now) (PastOf c.in-Past.op (formulas_in es))) 0) c.deref-in-Past.ensures.value
    ∙ (sym (ap (with_entries (map tree_of c.args.self.now)) (past_folded c.in-Past.op c.in-Past.es))
    ∙ ap (λ e. with_entries (map tree_of c.args.self.now) (formula e)) (sym c.in-Past.is))))

pub with_entries-returns-in_ok-each-in-And : goal.with_entries-returns-in_ok-each-in-And
with_entries-returns-in_ok-each-in-And t c =
    and_folded c.in_ok-each-in-And.field-0
    ∙ (ap Conjunction (each_folded (map tree_of c.args.self.now) c.in_ok-each-in-And.field-0.items c.deref-in-And.result.now c.in_ok-each-in-And.ensures)
    ∙ (ap (λ es. Conjunction (each_with_entries (map tree_of c.args.self.now) (formulas_in es))) c.deref-in-And.ensures.value
    ∙ (sym (ap (with_entries (map tree_of c.args.self.now)) (and_folded c.in-And.es))
    ∙ ap (λ e. with_entries (map tree_of c.args.self.now) (formula e)) (sym c.in-And.is))))

pub with_entries-returns-in_ok-each-in-Or : goal.with_entries-returns-in_ok-each-in-Or
with_entries-returns-in_ok-each-in-Or t c =
    or_folded c.in_ok-each-in-Or.field-0
    ∙ (ap Disjunction (each_folded (map tree_of c.args.self.now) c.in_ok-each-in-Or.field-0.items c.deref-in-Or.result.now c.in_ok-each-in-Or.ensures)
    ∙ (ap (λ es. Disjunction (each_with_entries (map tree_of c.args.self.now) (formulas_in es))) c.deref-in-Or.ensures.value
    ∙ (sym (ap (with_entries (map tree_of c.args.self.now)) (or_folded c.in-Or.es))
    ∙ ap (λ e. with_entries (map tree_of c.args.self.now) (formula e)) (sym c.in-Or.is))))
