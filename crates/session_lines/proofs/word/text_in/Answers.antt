use Rattle.std.proofs.Common.{ℕ, List, ap, sym, ◌∙◌}
use Rattle.session_lines.specs.Reading.{after_sign, after_name}
use Rattle.session_lines.proofs.Words.{named, unnamed}
use Rattle.session_lines.proofs.word.text_in.Goals as goal

pub returns-in-Some : goal.returns-in-Some
returns-in-Some c =
    c.text_after_sign.ensures
    ∙ ap after_sign c.in-Some.ensures.cases.1
    ∙ sym (named c.as_bytes.result.now c.args.word.now c.in-Some.ensures.cases.0)
    ∙ ap (λ (n : List ℕ). after_name n c.args.word.now) c.as_bytes.ensures.value

pub returns-in-None : goal.returns-in-None
returns-in-None c =
    sym (unnamed c.as_bytes.result.now c.args.word.now c.in-None.ensures.cases)
    ∙ ap (λ (n : List ℕ). after_name n c.args.word.now) c.as_bytes.ensures.value
