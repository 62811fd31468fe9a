use Rattle.std.proofs.Common.{ℕ, List, string_bytes, ap, sym, ◌∙◌}
use Rattle.session_lines.specs.Reading.{words, after_name}
use Rattle.session_lines.proofs.InOrder.{first_of}
use Rattle.session_lines.proofs.word.first_item.Goals as goal

pub returns-in-Some : goal.returns-in-Some
returns-in-Some c =
    c.cut.ensures.words
    ∙ first_of (string_bytes c.args.var.now.name) c.cut.result.0.now c.in-Some.text.now (words c.cut.result.1.now)
    (sym (c.in-Some.ensures ∙ ap (λ (n : List ℕ). after_name n c.cut.result.0.now) c.deref.ensures))
