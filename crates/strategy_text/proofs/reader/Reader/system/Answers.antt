use Rattle.std.proofs.Common.{sym, ◌∙◌}
use Rattle.std.proofs.lemmas.Result.{err_from_is_err_and}
use Rattle.strategy_text.proofs.Answers.{gives, fails, refuses}
use Rattle.strategy_text.proofs.reader.Reader.system.Goals as goal

pub returns-then-not-has_members : goal.returns-then-not-has_members
returns-then-not-has_members c = refuses (rw (sym c.has_members.ensures ∙ c.if-not-has_members.true))

pub returns-in_err-first : goal.returns-in_err-first
returns-in_err-first c = let p = err_from_is_err_and c.from_residual.result c.from_residual.ensures.1 in rw (p.1, p.2) (fails c.in_err-first.ensures (λ none. rw (sym c.has_members.ensures ∙ c.if-not-has_members.false, none)))

pub returns-in_err-k : goal.returns-in_err-k
returns-in_err-k c = let p = err_from_is_err_and c.from_residual-in_err-k.result c.from_residual-in_err-k.ensures.1 in rw (p.1, p.2) (fails c.in_err-k.ensures (λ none. rw (sym c.has_members.ensures ∙ c.if-not-has_members.false, c.in_ok-first.ensures.ok, none)))

pub returns-in_err-nodes : goal.returns-in_err-nodes
returns-in_err-nodes c = let p = err_from_is_err_and c.from_residual-in_err-nodes.result c.from_residual-in_err-nodes.ensures.1 in rw (p.1, p.2) (fails c.in_err-nodes.ensures (λ none. rw (sym c.has_members.ensures ∙ c.if-not-has_members.false, c.in_ok-first.ensures.ok, c.in_ok-k.ensures.ok, none)))

pub returns : goal.returns
returns c = gives (rw (sym c.has_members.ensures ∙ c.if-not-has_members.false, c.in_ok-first.ensures.ok, c.in_ok-k.ensures.ok, c.in_ok-nodes.ensures.ok))
