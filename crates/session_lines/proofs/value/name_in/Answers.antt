use Rattle.std.proofs.Common.{sym, ◌∙◌, map, string_bytes}
use Rattle.std.proofs.lemmas.Slice.Eq.{bytes_eq-Decides}
use Rattle.session_lines.proofs.Values.{named_at, named_later}
use Rattle.session_lines.proofs.value.name_in.Goals as goal

pub returns-then-eq-clause-some : goal.returns-then-eq-clause-some
returns-then-eq-clause-some c =
    named_at (map string_bytes c.args.names.now) c.args.domain.now c.args.text.now c.loop-n.n-index c.loop-n-test.true
    (sym ((bytes_eq-Decides c.name_text.result.now c.args.text.now).0 (sym c.if-eq.ensures)) ∙ c.name_text.ensures)

pub loop-n-preserved : goal.loop-n-preserved
loop-n-preserved c = λ x is.
    named_later (map string_bytes c.args.names.now) c.args.domain.now c.args.text.now c.loop-n.n-index x c.loop-n-test.true
    (λ same. let e = (bytes_eq-Decides c.name_text.result.now c.args.text.now).1 (c.name_text.ensures ∙ sym same) in let f = c.if-eq.ensures in cc)
    (c.loop-n.invariant x is)
