use Rattle.std.proofs.Common.{◌≡◌, ◌∙◌, ap, arith, ◌-◌, ◌++◌, ◌∷◌, [], length, slice_set}
use Rattle.bdd_ops.proofs.FrameLemmas.{top_changed}
use Rattle.bdd_ops.proofs.frames.await_high.Goals as goal

pub returns : goal.returns
returns g c = λ rest is_top.
    let last : c.len-last.result - 1 ≡ length c.args.frames.now.items - 1 = omega (arith, c.args.frames.now.ok.0, c.len-last.ensures) in
    ap (λ n. slice_set c.args.frames.now.items n c.waiting_high.result) last ∙ (top_changed c.args.frames.now.items rest c.args.frame c.waiting_high.result is_top ∙ ap (λ f. rest ++ f ∷ []) c.waiting_high.ensures)
