use Rattle.std.proofs.Common.{◌≡◌, ◌∙◌, ℕ, List, map, ap, sym, subst}
use Rattle.spec_model.specs.declared.value.Var.{Var}
use Rattle.spec_model.specs.Views.{variable_data, spec_data}
use Rattle.spectra_talks.specs.Endings.{Ending, better_order}
use Rattle.spectra_talks.specs.Orders.{names_by}
use Rattle.spectra_talks.specs.Offered.{IsSaid}
use Rattle.spectra_top.specs.Top.{order_ending}
use Rattle.spectra_top.proofs.ordering.say_report.Goals as goal

pub returns-in-Some : goal.returns-in-Some
returns-in-Some g c =
    let s = spec_data c.args.spec.now in
    let n = c.args.report.now.nodes in
    let better = c.in-Some.better in
    let said = c.say_better_order in
    let order = c.deref-in-Some.result.now in
    let names : names_by (map variable_data c.deref.result.now) order ≡ names_by s.variables better.order.items =
    ap (λ (vs : List Var). names_by (map variable_data vs) order) c.deref.ensures.value ∙ ap (names_by s.variables) c.deref-in-Some.ensures.value in
    let due = ap (order_ending s n) c.in-Some.is ∙ ap (λ (ns : List (List ℕ)). better_order n ns better.nodes) (sym names) in
    subst (λ (e : Ending). IsSaid g.O.Sink.written g.O.Sink.faults e c.args.output.now said.new.output said.result) (sym due) said.ensures
