use Rattle.std.proofs.Common.{map, length, ap, subst, ◌∙◌, arith}
use Rattle.std.proofs.lemmas.List.{length-map}
use Rattle.spec_model.specs.TriggerStates.{written, trigger_atoms}
use Rattle.spec_model.specs.Views.{formula, trigger_data}
use Rattle.trigger_dfa.specs.Pairs.{AreSides, table_in}
use Rattle.trigger_dfa.proofs.WholeTable.{table_is}
use Rattle.trigger_dfa.proofs.table.build.Goals as goal

pub returns-clause-table : goal.returns-clause-table
returns-clause-table c =
    let tr = trigger_data c.args.trigger.now in
    let atoms = ap (map formula) c.deref.ensures.value ∙ c.in_ok-atoms.ensures.atoms in
    let are = subst (λ l. AreSides l (written tr.cause) (written tr.effect) c.in_ok-sides.sides) atoms c.in_ok-sides.ensures.sides in
    let told = c.in_ok-values.ensures.values (trigger_atoms tr) (written tr.cause) (written tr.effect) are in
    c.in_ok-table.ensures ∙ ap (λ l. table_in l c.in_ok-sides.sides c.in_ok-values.values) c.in_ok-atoms.ensures.atoms ∙ table_is tr c.in_ok-sides.sides c.in_ok-values.values are told

pub returns-clause-narrow : goal.returns-clause-narrow
returns-clause-narrow c =
    let tr = trigger_data c.args.trigger.now in
    let atoms = ap (map formula) c.deref.ensures.value ∙ c.in_ok-atoms.ensures.atoms in
    let are = subst (λ l. AreSides l (written tr.cause) (written tr.effect) c.in_ok-sides.sides) atoms c.in_ok-sides.ensures.sides in
    let told = c.in_ok-values.ensures.values (trigger_atoms tr) (written tr.cause) (written tr.effect) are in
    record {
      atoms = omega (arith, ap length c.in_ok-atoms.ensures.atoms, length-map c.in_ok-atoms.atoms.items formula, c.in_ok-atoms.ensures.within, c.in_ok-atoms.atoms.ok.0);
      cause = c.in_ok-sides.ensures.cause;
      effect = c.in_ok-sides.ensures.effect;
      states = omega (arith, told.few);
    }
