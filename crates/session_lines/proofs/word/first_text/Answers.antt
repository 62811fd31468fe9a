use Rattle.std.proofs.Common.{ℕ, List, string_bytes, ap, ◌∙◌, filter_map}
use Rattle.session_lines.specs.Reading.{words, after_name}
use Rattle.session_lines.proofs.Words.{given_some}
use Rattle.session_lines.proofs.word.first_text.Goals as goal

pub returns-in-Some-clause-some : goal.returns-in-Some-clause-some
returns-in-Some-clause-some c =
    let name = string_bytes c.args.var.now.name in
    c.loop-rest.invariant
    ∙ ap (filter_map (after_name name)) c.cut.ensures.words
    ∙ given_some name c.cut.result.0.now c.in-Some.text.now (words c.cut.result.1.now)
    (c.in-Some.ensures ∙ ap (λ (n : List ℕ). after_name n c.cut.result.0.now) c.deref.ensures)
