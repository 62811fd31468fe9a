use Rattle.std.proofs.Common.{◌<◌, inl, inr, ◌∙◌, subst, arith, length, List}
use Rattle.std.proofs.lemmas.List.{length-map}
use Rattle.bdd_cache.specs.declared.answer.Answer.{Answer}
use Rattle.bdd_cache.specs.declared.cell.Cell.{Cell}
use Rattle.bdd_cache.specs.Cells.{answer_in}
use Rattle.bdd_cache.specs.Kept.{IsKept}
use Rattle.bdd_cache.proofs.KeptLemmas.{written_kept, written_or_kept}
use Rattle.bdd_cache.proofs.answers.Answers.put_in.Goals as goal
use Rattle.bdd_cache.proofs.answers.Answers.put_in.Goals.{then-self-eq0, else-self-eq0}

pub returns-clause-added : goal.returns-clause-added
returns-clause-added c = λ op.
    let cells : List Cell = c.self-2.inside.cells.items in
    let below : c.place-place.result < length cells = omega (arith, c.place-place.ensures, length-map cells answer_in) in
    written_kept c.self-2.inside.wide cells _ c.args.cell below op

pub returns-clause-others : goal.returns-clause-others
returns-clause-others c = λ answer kept.
    let cells : List Cell = c.self-2.inside.cells.items in
    let below : c.place-place.result < length cells = omega (arith, c.place-place.ensures, length-map cells answer_in) in
    let P : List Answer → Type 0 = λ answers. IsKept answers answer in
    elim (written_or_kept c.self-2.inside.wide cells _ c.args.cell answer below kept) [
      | inl written ↦ inl written
      | inr stayed ↦ elim c.if-self-eq0.branch [
        | then-self-eq0 w ↦ inr (w.fit.ensures answer (subst P (c.self-2.view_is ∙ w.self-is) stayed))
        | else-self-eq0 w ↦ inr (subst P (c.self-2.view_is ∙ w.self-is) stayed)
      ]
    ]
