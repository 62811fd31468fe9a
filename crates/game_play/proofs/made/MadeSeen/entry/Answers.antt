use Rattle.std.proofs.Common.{◌≡◌, ◌∙◌, ◌<◌, ℕ, List, [], false, map, take, length, get_or, refl, sym, ap, subst, true, arith}
use Rattle.std.proofs.lemmas.List.{get_or-map, length-map, take-map, length-take-le}
use Rattle.spec_model.specs.declared.value.Value.TheVariants as value
use Rattle.spec_model.specs.declared.game.Hidden.{Hidden}
use Rattle.spec_model.specs.Views.{variable_data}
use Rattle.spec_model.specs.GameViews.{hidden_data}
use Rattle.spec_model.specs.Rules.{Position}
use Rattle.spec_model.specs.Typing.{Scope}
use Rattle.spec_model.specs.Games.{entries_in, present_reading, read_tables, nothing_read}
use Rattle.spec_model.specs.Steps.{are_hidden_values}
use Rattle.game_values.specs.Found.{cell_at}
use Rattle.game_values.proofs.TableSteps.{cell_is}
use Rattle.game_values.proofs.WholeTables.{table_whole}
use Rattle.game_play.specs.Sights.{cell_in, reading_at}
use Rattle.game_play.proofs.Tables.{entries_there, none_there, present_safe, tables_before, table_there, values_before, value_there, same_there, fewer_nodes}
use Rattle.game_play.proofs.made.MadeSeen.entry.Goals as goal

pub returns-then-table-self : goal.returns-then-table-self
returns-then-table-self c =
    let self = c.args.self.now in
    let p : Position = record { input = self.input.now; output = self.output.now } in
    let past = c.if-table-self.true in
    sym (ap (λ es. get_or es c.args._part false) (none_there (map variable_data self.vars.now) p nothing_read self.hidden.now (map cell_in self.numbers.now) c.args.table (omega (arith, past))))

pub slice_bounds-before-end-2 : goal.slice_bounds-before-end-2
slice_bounds-before-end-2 c =
    let self = c.args.self.now in
    let there = value_there self.hidden.now (map cell_in self.numbers.now) c.args.table self.valued c.if-table-self.false c.index-self-table.result c.index-self-table.is in
    sym (length-take-le c.args.table self.numbers.now (omega (arith, there.0, length-map self.numbers.now cell_in)))

pub bounds-self-table-2 : goal.bounds-self-table-2
bounds-self-table-2 c =
    let self = c.args.self.now in
    let there = value_there self.hidden.now (map cell_in self.numbers.now) c.args.table self.valued c.if-table-self.false c.index-self-table.result c.index-self-table.is in
    omega (arith, there.0, length-map self.numbers.now cell_in)

pub number_of-requires : goal.number_of-requires
number_of-requires c =
    let self = c.args.self.now in
    let h = c.index-self-table.result in
    let there = value_there self.hidden.now (map cell_in self.numbers.now) c.args.table self.valued c.if-table-self.false h c.index-self-table.is in
    let same = get_or-map cell_in self.numbers.now c.args.table (value.Bool false) 0 (omega (arith, there.0, length-map self.numbers.now cell_in)) in
    subst (λ (d : Hidden). cell_in (get_or self.numbers.now c.args.table (value.Bool false)) < d.values) c.index-self-table.is (subst (λ (n : ℕ). n < h.values) same there.1)

pub invariant_of-before : goal.invariant_of-before
invariant_of-before c =
    let self = c.args.self.now in
    let k = c.args.table in
    record {
      tables = tables_before (record { domains = map (λ v. v.domain) (map variable_data self.vars.now); tables = [] }) self.hidden.now k self.tables;
      valued = subst (λ (ns : List ℕ). are_hidden_values (map hidden_data (take k self.hidden.now)) ns ≡ true) (take-map cell_in k self.numbers.now) (values_before self.hidden.now (map cell_in self.numbers.now) k self.valued);
      moved = self.moved;
      answered = self.answered;
    }

pub returns : goal.returns
returns c =
    let self = c.args.self.now in
    let vs = map variable_data self.vars.now in
    let p : Position = record { input = self.input.now; output = self.output.now } in
    let sc : Scope = record { domains = map (λ v. v.domain) vs; tables = [] } in
    let k = c.args.table in
    let hs = self.hidden.now in
    let ns = map cell_in self.numbers.now in
    let below = c.if-table-self.false in
    let h = get_or hs k c.index-self-table.result in
    let is : h ≡ get_or hs k h = same_there hs k below c.index-self-table.result h in
    let there = value_there hs ns k self.valued below h is in
    let valued : k < length self.numbers.now = omega (arith, there.0, length-map self.numbers.now cell_in) in
    let table = table_there sc hs k self.tables below h is in
    let entries = (read_tables vs p nothing_read (map hidden_data (take k hs)) (take k ns)).entries in
    let r = reading_at vs (map hidden_data (take k hs)) (take k self.numbers.now) p in
    let present : r ≡ present_reading vs p entries = ap (λ (ms : List ℕ). present_reading vs p (read_tables vs p nothing_read (map hidden_data (take k hs)) ms).entries) (sym (take-map cell_in k self.numbers.now)) in
    let number = c.number_of.ensures.value ∙ sym (get_or-map cell_in self.numbers.now k (value.Bool false) 0 valued) in
    let cell = cell_is vs p r entries h c.number_of.result (get_or ns k 0) (cell_at r h c.number_of.result) present number refl in
    record {
      can =
          record {
            below = c.number_of.ensures.below;
            whole = table_whole (record { domains = map (λ v. v.domain) vs; tables = table.0 }) h table.1;
            safe = present_safe vs p (read_tables vs p nothing_read (map hidden_data (take k hs)) (map cell_in (take k self.numbers.now))).entries table.0 self.moved self.answered h table.1;
          };
      entry = ap (λ es. get_or es c.args._part false) (entries_there vs p nothing_read hs ns k k below there.0 h is (omega arith) ∙ ap (λ (n : ℕ). entries_in (hidden_data h) n) (sym cell));
      less = fewer_nodes hs k below h is;
    }
