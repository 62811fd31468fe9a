use Rattle.std.proofs.Common.{map, Some, None, sym, ap, ◌∙◌, arith}
use Rattle.std.proofs.lemmas.List.{length-map}
use Rattle.std.proofs.lemmas.Option.{slice_get_past}
use Rattle.spec_model.specs.Views.{formula, pattern_data, spec_data}
use Rattle.hidden_game.proofs.Limits.{element, pattern_has_table}
use Rattle.hidden_game.proofs.Making.{own_kept, kept_more, table-use}
use Rattle.hidden_game.proofs.source.Source.use_table.Goals as goal

pub bounds-kept-p : goal.bounds-kept-p
bounds-kept-p c =
    let many = length-map c.args.self.now.spec.now.patterns.items pattern_data in
    omega (arith, c.if-p-len.false, c.len.ensures, c.requires.kept.room, many)

pub table_of_use-requires-clause-table : goal.table_of_use-requires-clause-table
table_of_use-requires-clause-table c =
    pattern_has_table (spec_data c.args.self.now.spec.now) c.requires.typed c.args.p (pattern_data c.index-pattern.result.now)
    (element pattern_data c.args.self.now.spec.now.patterns.items c.args.p c.index-pattern.result.now (omega (arith, c.if-p-len.false, c.len.ensures)) c.index-pattern.ensures)

pub table_of_use-requires-clause-kept : goal.table_of_use-requires-clause-kept
table_of_use-requires-clause-kept c =
    let many = length-map c.args.self.now.spec.now.patterns.items pattern_data in
    own_kept (spec_data c.args.self.now.spec.now).patterns c.args.kept.now c.args.p (pattern_data c.index-pattern.result.now) c.index-kept-p.result c.requires.kept
    (omega (arith, c.if-p-len.false, c.len.ensures, c.requires.kept.room, many))
    (element pattern_data c.args.self.now.spec.now.patterns.items c.args.p c.index-pattern.result.now (omega (arith, c.if-p-len.false, c.len.ensures)) c.index-pattern.ensures)

pub returns-then-p-len-clause-table : goal.returns-then-p-len-clause-table
returns-then-p-len-clause-table c =
    let s = spec_data c.args.self.now.spec.now in
    let many = length-map c.args.self.now.spec.now.patterns.items pattern_data in
    sym (table-use s c.args.p (map formula c.args.arguments.now) None (slice_get_past s.patterns c.args.p (omega (arith, c.if-p-len.true, c.len.ensures, many))))

pub returns-clause-table : goal.returns-clause-table
returns-clause-table c =
    let s = spec_data c.args.self.now.spec.now in
    let there = element pattern_data c.args.self.now.spec.now.patterns.items c.args.p c.index-pattern.result.now (omega (arith, c.if-p-len.false, c.len.ensures)) c.index-pattern.ensures in
    ap Some c.in_ok-table.ensures.table ∙ sym (table-use s c.args.p (map formula c.args.arguments.now) (Some (pattern_data c.index-pattern.result.now)) there)

pub returns-clause-kept : goal.returns-clause-kept
returns-clause-kept c =
    let s = spec_data c.args.self.now.spec.now in
    let many = length-map c.args.self.now.spec.now.patterns.items pattern_data in
    kept_more s.patterns c.args.kept.now c.args.p (pattern_data c.index-pattern.result.now) c.table_of_use.new.kept c.requires.kept
    (omega (arith, c.if-p-len.false, c.len.ensures, c.requires.kept.room, many))
    (element pattern_data c.args.self.now.spec.now.patterns.items c.args.p c.index-pattern.result.now (omega (arith, c.if-p-len.false, c.len.ensures)) c.index-pattern.ensures)
    c.in_ok-table.ensures.kept
