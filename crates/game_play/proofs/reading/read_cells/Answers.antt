use Rattle.std.proofs.Common.{◌≡◌, ◌∙◌, ◌+◌, ◌++◌, ◌∷◌, [], ℕ, map, take, length, get_or, slice_set, false, sym, ap, subst, arith, ◌<◌}
use Rattle.std.proofs.lemmas.Bool.{and_parts}
use Rattle.std.proofs.lemmas.List.{get_or-map, length-map, length-set}
use Rattle.spec_model.specs.declared.value.Value.TheVariants as value
use Rattle.spec_model.specs.Views.{variable_data}
use Rattle.spec_model.specs.GameViews.{hidden_data}
use Rattle.spec_model.specs.Rules.{Position}
use Rattle.spec_model.specs.Typing.{Scope}
use Rattle.spec_model.specs.Games.{read_tables, read_table}
use Rattle.spec_model.specs.WellMade.{is_table, are_tables}
use Rattle.game_values.proofs.Lists.{map_drop}
use Rattle.game_values.proofs.TableSteps.{read_more, value_below, cell_is}
use Rattle.game_values.specs.Safety.{AreSafe, formulas_in}
use Rattle.game_play.specs.Sights.{cell_in, read_so_far, entries_at, seen_reading}
use Rattle.game_values.proofs.WholeTables.{table_whole}
use Rattle.game_play.proofs.Sights.{nothing_so_far, seen_once, more_read}
use Rattle.game_play.proofs.Tables.{present_safe}
use Rattle.game_play.proofs.reading.read_cells.Goals as goal

pub loop-k-init : goal.loop-k-init
loop-k-init c =
    let vs = map variable_data c.args.vars.now in
    let p : Position = record { input = c.args.input.now; output = c.args.output.now } in
    record {
      room = c.requires.room;
      tables = ([], c.requires.tables);
      numbers = c.requires.numbers;
      same = ap (λ r. read_tables vs p r (map hidden_data c.args.hidden.now) (map cell_in c.args.numbers.now)) (nothing_so_far (map hidden_data c.args.hidden.now));
    }

pub number_of-requires : goal.number_of-requires
number_of-requires c =
    let hs = c.args.hidden.now in
    let ns = map cell_in c.args.numbers.now in
    let k = c.loop-k.k in
    let h = c.index-hidden-k.result in
    let fits = value_below hs ns k c.loop-k-test.true h c.index-hidden-k.is c.loop-k.invariant.numbers in
    let same = get_or-map cell_in c.args.numbers.now k (value.Bool false) 0 (omega (arith, fits.0, length-map c.args.numbers.now cell_in)) in
    subst (λ (n : ℕ). n < h.values) same fits.1

pub cell-at-requires : goal.cell-at-requires
cell-at-requires c =
    let vs = map variable_data c.args.vars.now in
    let p : Position = record { input = c.args.input.now; output = c.args.output.now } in
    let sc : Scope = record { domains = map (λ v. v.domain) vs; tables = c.loop-k.invariant.tables.0 } in
    let h = c.index-hidden-k.result in
    let list = map_drop hidden_data c.args.hidden.now c.loop-k.k h c.loop-k-test.true c.index-hidden-k.is in
    let tables = ap (λ hs. are_tables sc hs) (sym list) ∙ c.loop-k.invariant.tables.1 in
    let here = and_parts (is_table sc (hidden_data h)) _ tables in
    let entries = entries_at (map hidden_data c.args.hidden.now) (take c.loop-k.k c.loop-k.out) in
    record {
      below = c.number_of.ensures.below;
      whole = table_whole sc h here.0;
      safe = subst (λ r. AreSafe r (formulas_in h.atoms.items) 0) (sym (seen_once vs p entries)) (present_safe vs p entries c.loop-k.invariant.tables.0 c.requires.input c.requires.output h here.0);
    }

pub loop-k-preserved : goal.loop-k-preserved
loop-k-preserved c =
    let vs = map variable_data c.args.vars.now in
    let p : Position = record { input = c.args.input.now; output = c.args.output.now } in
    let inv = c.loop-k.invariant in
    let sc : Scope = record { domains = map (λ v. v.domain) vs; tables = inv.tables.0 } in
    let hs = c.args.hidden.now in
    let ns = map cell_in c.args.numbers.now in
    let k = c.loop-k.k in
    let out = c.loop-k.out in
    let v = c.as_value.result in
    let h = c.index-hidden-k.result in
    let below = c.loop-k-test.true in
    let list = map_drop hidden_data hs k h below c.index-hidden-k.is in
    let tables = ap (λ ts. are_tables sc ts) (sym list) ∙ inv.tables.1 in
    let here = and_parts (is_table sc (hidden_data h)) _ tables in
    let fits = value_below hs ns k below h c.index-hidden-k.is inv.numbers in
    let number : c.number_of.result ≡ get_or ns k 0 = c.number_of.ensures.value ∙ sym (get_or-map cell_in c.args.numbers.now k (value.Bool false) 0 (omega (arith, fits.0, length-map c.args.numbers.now cell_in))) in
    let entries = entries_at (map hidden_data hs) (take k out) in
    let cell = cell_is vs p (seen_reading vs p p entries) entries h c.number_of.result (get_or ns k 0) c.cell-at.result (seen_once vs p entries) number c.cell-at.ensures.value in
    let read = more_read hs out k v below (omega (arith, inv.room, below)) h c.index-hidden-k.is ∙ ap (λ (n : ℕ). read_table (read_so_far (map hidden_data hs) (take k out)) (hidden_data h) n) (ap cell_in c.as_value.ensures) in
    let more = read_more vs p (read_so_far (map hidden_data hs) (take k out)) (read_so_far (map hidden_data hs) (take (k + 1) (slice_set out k v))) _ h c.cell-at.result hs ns k below c.index-hidden-k.is inv.numbers read cell inv.same in
    record {
      room = length-set out k v ∙ inv.room;
      tables = (inv.tables.0 ++ length (hidden_data h).tables ∷ [], here.1);
      numbers = more.0;
      same = more.1;
    }
