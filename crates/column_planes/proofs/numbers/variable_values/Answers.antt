use Rattle.std.proofs.Common.{◌≡◌, ◌+◌, ◌-◌, ◌*◌, length, get_or, subst, arith}
use Rattle.std.proofs.lemmas.List.{length-map}
use Rattle.spec_model.specs.Syntax.{Variable}
use Rattle.spec_model.specs.Views.{domain_data, variable_data}
use Rattle.column_planes.specs.Columns.{AreValuesOf, column_data}
use Rattle.column_planes.proofs.Coded.{domain_of-variable}
use Rattle.column_planes.proofs.Blocks.{variable_values}
use Rattle.column_planes.proofs.numbers.variable_values.Goals as goal

pub returns-clause-values : goal.returns-clause-values
returns-clause-values c = λ read.
    let cs = column_data c.args.c in
    let at = c.first_place.result in
    let k = c.args.k in
    let first = 4096 * k + c.args.from + at in
    let many = length c.args.out.now in
    let sized = c.write_values.ensures.lengths in
    let n : first + many - first ≡ length c.write_values.new.out = omega (arith, sized) in
    let long = length-map c.args.c.vars.now variable_data in
    let v = c.index-c-k.result in
    subst (λ m. AreValuesOf cs m c.args.from (Variable k) c.write_values.new.out) c.first_place.ensures.value
    (variable_values cs at c.args.from c.write_values.new.out k (first + many - first) (domain_data (get_or c.args.c.vars.now k v).domain) (omega (arith, long, c.if-c-k.false))
    (domain_of-variable c.args.c.vars.now k v (omega (arith, c.if-c-k.false))) n
    (λ i below. c.write_values.ensures.values read i (omega (arith, below, sized))))
