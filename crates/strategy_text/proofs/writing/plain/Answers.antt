use Rattle.std.proofs.Common.{subst}
use Rattle.strategy_text.specs.Laws.{AreSmall}
use Rattle.strategy_text.proofs.writing.plain.Goals as goal

pub returns-clause-small : goal.returns-clause-small
returns-clause-small c = record { asm = c.small_number.ensures.small; goal = c.small_number-2.ensures.small; next = subst AreSmall c.deref-3.ensures.value c.in_ok-next.ensures.small }
