use Rattle.std.proofs.Common.{ℕ, ◌&&◌, List, map, ap, ◌∙◌, arith}
use Rattle.spec_model.specs.declared.expr.Expr.{Expr}
use Rattle.spec_model.specs.Views.{formula}
use Rattle.column_planes.specs.Planes.{bit_in}
use Rattle.trace_planes.specs.Moves.{are_kept}
use Rattle.trace_planes.proofs.clear.all_lines.Goals as goal

pub returns-then-narrow-clause-plane : goal.returns-then-narrow-clause-plane
returns-then-narrow-clause-plane c = λ read j below g r s move.
    let waits = c.args.waits.now in
    let nexts = c.args.nexts.now in
    let asm = are_kept g r s waits (map (λ l. (l.0, formula l.1)) c.args.game.now.safe_asm.items) in
    c.narrow-then-narrow.ensures.plane read j below g r s move
    ∙ (ap (λ (ls : List (ℕ × Expr)). bit_in c.narrow.new.out j && are_kept g r s nexts (map (λ l. (l.0, formula l.1)) ls)) c.deref-then-narrow.ensures.value
    ∙ ap (λ x. x && are_kept g r s nexts (map (λ l. (l.0, formula l.1)) c.args.game.now.safe_gar.items))
    (c.narrow.ensures.plane c.if-narrow.true j below g r s move
    ∙ (ap (λ (ls : List (ℕ × Expr)). bit_in c.write_all.new.out j && are_kept g r s waits (map (λ l. (l.0, formula l.1)) ls)) c.deref.ensures.value
    ∙ ap (λ x. x && asm) (c.write_all.ensures.bits j (omega (arith, below, c.requires.words.enough))))))
