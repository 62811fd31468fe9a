use Rattle.std.proofs.Common.{sym, ◌∙◌}
use Rattle.std.proofs.lemmas.Result.{err_from_is_err_and}
use Rattle.strategy_text.proofs.Answers.{gives, fails, refuses}
use Rattle.strategy_text.proofs.reader.Reader.replying_node.Goals as goal

pub returns-then-not-has_members : goal.returns-then-not-has_members
returns-then-not-has_members c = refuses (rw (sym c.has_members.ensures ∙ c.if-not-has_members.true))

pub returns-in_err-node : goal.returns-in_err-node
returns-in_err-node c = let p = err_from_is_err_and c.from_residual.result c.from_residual.ensures.1 in rw (p.1, p.2) (fails c.in_err-node.ensures (λ none. rw (sym c.has_members.ensures ∙ c.if-not-has_members.false, none)))

pub returns-in_err-layer : goal.returns-in_err-layer
returns-in_err-layer c = let p = err_from_is_err_and c.from_residual-in_err-layer.result c.from_residual-in_err-layer.ensures.1 in rw (p.1, p.2) (fails c.in_err-layer.ensures (λ none. rw (sym c.has_members.ensures ∙ c.if-not-has_members.false, c.in_ok-node.ensures.ok, none)))

pub returns-in_err-reply : goal.returns-in_err-reply
returns-in_err-reply c = let p = err_from_is_err_and c.from_residual-in_err-reply.result c.from_residual-in_err-reply.ensures.1 in rw (p.1, p.2) (fails c.in_err-reply.ensures (λ none. rw (sym c.has_members.ensures ∙ c.if-not-has_members.false, c.in_ok-node.ensures.ok, c.in_ok-layer.ensures.ok, none)))

pub returns : goal.returns
returns c = gives (rw (sym c.has_members.ensures ∙ c.if-not-has_members.false, c.in_ok-node.ensures.ok, c.in_ok-layer.ensures.ok, c.in_ok-reply.ensures.ok))
