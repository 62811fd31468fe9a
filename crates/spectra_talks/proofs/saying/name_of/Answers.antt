use Rattle.std.proofs.Common.{◌≡◌, ◌<◌, ◌∙◌, ℕ, List, [], length, get_or, map, string_bytes, ap, sym, arith}
use Rattle.std.proofs.lemmas.List.{length-map, get_or-map}
use Rattle.spec_model.specs.declared.value.Var.{Var}
use Rattle.spec_model.specs.Syntax.{VariableData}
use Rattle.spec_model.specs.Views.{variable_data}
use Rattle.spectra_talks.specs.Orders.{name_at}
use Rattle.spectra_talks.proofs.saying.name_of.Goals as goal

name_found : (vars : List Var) (number : ℕ) (var : Var) → number < length vars → var ≡ get_or vars number var → name_at (map variable_data vars) number ≡ string_bytes var.name
name_found vars number var below is =
    let name : VariableData → List ℕ = λ v. v.name in
    let long = length-map vars variable_data in
    get_or-map name (map variable_data vars) number (variable_data var) [] (omega (arith, below, long))
    ∙ (ap name (get_or-map variable_data vars number var (variable_data var) below) ∙ ap (λ v. name (variable_data v)) (sym is))

pub returns-in-Some : goal.returns-in-Some
returns-in-Some c = let found = c.in-Some.ensures.lookup in c.deref.ensures ∙ sym (name_found c.args.vars.now c.args.number c.in-Some.var.now found.3.0 found.1)
