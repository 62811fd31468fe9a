use Rattle.std.proofs.lemmas.Result.{err_from_is_err_and}
use Rattle.strategy_text.proofs.Answers.{gives, fails}
use Rattle.strategy_text.proofs.reader.Reader.plain_node.Goals as goal

pub returns-in_err-asm : goal.returns-in_err-asm
returns-in_err-asm c = let p = err_from_is_err_and c.from_residual.result c.from_residual.ensures.1 in rw (p.1, p.2) (fails c.in_err-asm.ensures (λ none. rw none))

pub returns-in_err-goal : goal.returns-in_err-goal
returns-in_err-goal c = let p = err_from_is_err_and c.from_residual-in_err-goal.result c.from_residual-in_err-goal.ensures.1 in rw (p.1, p.2) (fails c.in_err-goal.ensures (λ none. rw (c.in_ok-asm.ensures.ok, none)))

pub returns-in_err-hidden : goal.returns-in_err-hidden
returns-in_err-hidden c = let p = err_from_is_err_and c.from_residual-in_err-hidden.result c.from_residual-in_err-hidden.ensures.1 in rw (p.1, p.2) (fails c.in_err-hidden.ensures (λ none. rw (c.in_ok-asm.ensures.ok, c.in_ok-goal.ensures.ok, none)))

pub returns-in_err-input : goal.returns-in_err-input
returns-in_err-input c = let p = err_from_is_err_and c.from_residual-in_err-input.result c.from_residual-in_err-input.ensures.1 in rw (p.1, p.2) (fails c.in_err-input.ensures (λ none. rw (c.in_ok-asm.ensures.ok, c.in_ok-goal.ensures.ok, c.in_ok-hidden.ensures.ok, none)))

pub returns-in_err-next : goal.returns-in_err-next
returns-in_err-next c = let p = err_from_is_err_and c.from_residual-in_err-next.result c.from_residual-in_err-next.ensures.1 in rw (p.1, p.2) (fails c.in_err-next.ensures (λ none. rw (c.in_ok-asm.ensures.ok, c.in_ok-goal.ensures.ok, c.in_ok-hidden.ensures.ok, c.in_ok-input.ensures.ok, none)))

pub returns-in_err-output : goal.returns-in_err-output
returns-in_err-output c = let p = err_from_is_err_and c.from_residual-in_err-output.result c.from_residual-in_err-output.ensures.1 in rw (p.1, p.2) (fails c.in_err-output.ensures (λ none. rw (c.in_ok-asm.ensures.ok, c.in_ok-goal.ensures.ok, c.in_ok-hidden.ensures.ok, c.in_ok-input.ensures.ok, c.in_ok-next.ensures.ok, none)))

pub returns-in_err-rank : goal.returns-in_err-rank
returns-in_err-rank c = let p = err_from_is_err_and c.from_residual-in_err-rank.result c.from_residual-in_err-rank.ensures.1 in rw (p.1, p.2) (fails c.in_err-rank.ensures (λ none. rw (c.in_ok-asm.ensures.ok, c.in_ok-goal.ensures.ok, c.in_ok-hidden.ensures.ok, c.in_ok-input.ensures.ok, c.in_ok-next.ensures.ok, c.in_ok-output.ensures.ok, none)))

pub returns : goal.returns
returns c = gives (rw (c.in_ok-asm.ensures.ok, c.in_ok-goal.ensures.ok, c.in_ok-hidden.ensures.ok, c.in_ok-input.ensures.ok, c.in_ok-next.ensures.ok, c.in_ok-output.ensures.ok, c.in_ok-rank.ensures.ok, c.new-reply.ensures.items))
