use Rattle.std.proofs.Common.{◌++◌, List, map, sym, ap, subst, ◌∙◌}
use Rattle.spec_model.specs.declared.spec.Pattern.{Pattern}
use Rattle.spec_model.specs.Views.{pattern_data, spec_data}
use Rattle.past_bits.specs.Bits.{tables_of}
use Rattle.hidden_game.specs.GameOf.{tables_for}
use Rattle.hidden_game.specs.Sources.{AreKept}
use Rattle.hidden_game.proofs.source.Source.tables.Goals as goal

pub add_line_tables-requires-clause-kept : goal.add_line_tables-requires-clause-kept
add_line_tables-requires-clause-kept c =
    subst (AreKept (spec_data c.args.self.now.spec.now).patterns) (sym c.deref_mut.ensures.value)
    (subst (λ (ps : List Pattern). AreKept (map pattern_data ps) c.in_ok-kept.kept.items) c.deref.ensures.value c.in_ok-kept.ensures.kept)

pub returns : goal.returns
returns c =
    let s = spec_data c.args.self.now.spec.now in
    c.in_ok-add_line_tables.ensures.added ∙ ap (λ hs. hs ++ tables_for s s.lines) (c.in_ok-hidden.ensures ∙ ap tables_of c.requires.source)
