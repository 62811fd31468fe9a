use Rattle.std.proofs.Common.{◌≡◌, ◌≤◌, ◌+◌, length, count_by, sym, ap, ◌∙◌, arith}
use Rattle.std.proofs.lemmas.List.{length-map}
use Rattle.spec_model.specs.Views.{spec_data}
use Rattle.spec_model.specs.Sizes.{past_operators}
use Rattle.spec_model.specs.WellTyped.{is_hidden}
use Rattle.past_bits.specs.Bits.{tree_of}
use Rattle.hidden_game.proofs.source.Source.first_table.Goals as goal

pub overflow_cast-result : goal.overflow_cast-result
overflow_cast-result c =
    let s = spec_data c.args.self.now.spec.now in
    let counted : length c.operators-count.result.now ≡ length (past_operators s) = ap length c.operators-count.ensures ∙ (sym (length-map c.args.self.now.operators tree_of) ∙ ap length c.requires.source) in
    let few : length (past_operators s) + count_by (λ l. is_hidden l.content) s.lines ≤ 1024 = c.requires.typed.few_hidden in
    omega (arith, counted, few)

pub returns : goal.returns
returns c = ap length c.operators-count.ensures ∙ (sym (length-map c.args.self.now.operators tree_of) ∙ ap length c.requires.source)
