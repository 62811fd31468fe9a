use Rattle.std.proofs.Common.{◌++◌, ◌∷◌, [], refl, sym, ap, ◌∙◌, subst, map, length, get_or}
use Rattle.std.proofs.lemmas.Bool.{and_parts}
use Rattle.spec_model.specs.Views.{variable_data, formula}
use Rattle.spec_model.specs.GameViews.{hidden_data}
use Rattle.spec_model.specs.Rules.{Position}
use Rattle.spec_model.specs.Typing.{Scope}
use Rattle.spec_model.specs.WellMade.{is_table, are_tables}
use Rattle.game_values.specs.Safety.{AreSafe, formulas_in}
use Rattle.game_values.specs.Moments.{moment_data, reading_of, reading_in}
use Rattle.game_values.specs.Readouts.{readout_data}
use Rattle.game_values.proofs.Lists.{map_drop}
use Rattle.game_values.proofs.Typed.{same_reading, typed_moments, states_safe}
use Rattle.game_values.proofs.TableSteps.{table_atoms, read_more, cell_is, value_below}
use Rattle.game_values.proofs.WholeTables.{table_whole}
use Rattle.game_values.proofs.read.read.Goals as goal

pub cell-at-requires : goal.cell-at-requires
cell-at-requires c =
    let vs = map variable_data c.args.vars.now in
    let p : Position = record { input = c.args.input.now; output = c.args.output.now } in
    let sc : Scope = record { domains = map (λ v. v.domain) vs; tables = c.loop-k.invariant.tables.0 } in
    let list = map_drop hidden_data c.args.hidden.now c.loop-k.k c.index-hidden-k.result c.loop-k-test.true c.index-hidden-k.is in
    let tables = ap (λ hs. are_tables sc hs) (sym list) ∙ c.loop-k.invariant.tables.1 in
    let here = and_parts (is_table sc (hidden_data c.index-hidden-k.result)) _ tables in
    let m = moment_data c.loop-k.out.moment in
    let typed = typed_moments vs p p m m c.loop-k.invariant.tables.0 c.loop-k.invariant.values c.loop-k.invariant.values c.requires.input c.requires.output c.requires.input c.requires.output in
    record {
      below = (value_below c.args.hidden.now c.args.numbers.now c.loop-k.k c.loop-k-test.true c.index-hidden-k.result c.index-hidden-k.is c.loop-k.invariant.numbers).1;
      whole = table_whole sc c.index-hidden-k.result here.0;
      safe = subst (λ r. AreSafe r (formulas_in c.index-hidden-k.result.atoms.items) 0) (sym c.moment_alone.ensures)
          (states_safe sc (reading_of m m) typed (map formula c.index-hidden-k.result.atoms.items) (table_atoms sc (hidden_data c.index-hidden-k.result) here.0));
    }

pub loop-k-preserved : goal.loop-k-preserved
loop-k-preserved c =
    let vs = map variable_data c.args.vars.now in
    let p : Position = record { input = c.args.input.now; output = c.args.output.now } in
    let sc : Scope = record { domains = map (λ v. v.domain) vs; tables = c.loop-k.invariant.tables.0 } in
    let h = c.index-hidden-k.result in
    let list = map_drop hidden_data c.args.hidden.now c.loop-k.k h c.loop-k-test.true c.index-hidden-k.is in
    let tables = ap (λ hs. are_tables sc hs) (sym list) ∙ c.loop-k.invariant.tables.1 in
    let here = and_parts (is_table sc (hidden_data h)) _ tables in
    let m = moment_data c.loop-k.out.moment in
    let v = get_or c.args.numbers.now c.loop-k.k 0 in
    let cell = cell_is vs p (reading_in c.moment_alone.result) m.entries h v v c.cell-at.result (c.moment_alone.ensures ∙ same_reading vs p m c.loop-k.invariant.values) refl c.cell-at.ensures.value in
    let more = read_more vs p (readout_data c.loop-k.out) (readout_data c.add_table.new.out) _ h c.cell-at.result c.args.hidden.now c.args.numbers.now c.loop-k.k c.loop-k-test.true c.index-hidden-k.is c.loop-k.invariant.numbers c.in_ok-add_table.ensures.read cell c.loop-k.invariant.same in
    record {
      tables = (c.loop-k.invariant.tables.0 ++ length (hidden_data h).tables ∷ [], here.1);
      numbers = more.0;
      values = ap (λ v. v.items) c.in_ok-add_table.ensures.values ∙ c.loop-k.invariant.values;
      same = more.1;
    }
