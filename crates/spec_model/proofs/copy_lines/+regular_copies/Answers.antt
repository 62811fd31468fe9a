use Rattle.std.proofs.Common.{sym, ◌∙◌, ap, arith}
use Rattle.spec_model.specs.Syntax.{Repetition}
use Rattle.spec_model.specs.declared.expr.Regex.{size-Regex}
use Rattle.spec_model.specs.Around.{around}
use Rattle.spec_model.specs.Views.{regular}
use Rattle.spec_model.proofs.Regexes.{data_repeat, piece_smaller}
use Rattle.spec_model.proofs.Repeats.{around-append}
use Rattle.spec_model.proofs.copy_lines.+regular_copies.Goals as goal

pub copy_regex-repeats-preserved : goal.copy_regex-repeats-preserved
copy_regex-repeats-preserved t c =
    let inner = ap (λ d. Repetition (regular d) c.in-Repeat.low c.in-Repeat.high) c.deref-part.ensures ∙ (sym (data_repeat c.in-Repeat.inner c.in-Repeat.low c.in-Repeat.high) ∙ ap (λ p. regular p) (sym c.in-Repeat.is)) in
    record {
      same = ap (λ ts. around ts (regular c.deref-part.result.now)) c.in_ok-push-in-Repeat.ensures.items
          ∙ (around-append c.repeats.repeats.items (record { low = c.in-Repeat.low; high = c.in-Repeat.high }) (regular c.deref-part.result.now)
          ∙ (ap (around c.repeats.repeats.items) inner
          ∙ c.repeats.invariant.same));
      no_larger = omega (arith, piece_smaller c.in-Repeat.inner c.in-Repeat.low c.in-Repeat.high, ap (λ p. size-Regex p) c.deref-part.ensures, ap (λ p. size-Regex p) c.in-Repeat.is, c.repeats.invariant.no_larger);
    }
