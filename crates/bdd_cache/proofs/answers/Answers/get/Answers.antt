use Rattle.std.proofs.Common.{◌≡◌, ◌<◌, ◌+◌, ℕ, suc, sym, ◌∙◌, ap, ap₂, subst, arith, length, List}
use Rattle.std.proofs.lemmas.List.{length-map}
use Rattle.bdd_cache.specs.declared.answer.Answer.{Answer}
use Rattle.bdd_cache.specs.declared.cell.Cell.{Cell}
use Rattle.bdd_cache.specs.Cells.{answer_in}
use Rattle.bdd_cache.specs.Kept.{IsKept}
use Rattle.bdd_cache.proofs.KeptLemmas.{cell_kept}
use Rattle.bdd_cache.proofs.answers.Answers.get.Goals as goal

pub returns-then-op-ne0 : goal.returns-then-op-ne0
returns-then-op-ne0 c =
    let cells : List Cell = c.self.inside.cells.items in
    let cell : Cell = c.index-cell.result.now in
    let asked : Answer = record { op = c.args.op; a = c.args.a; b = c.args.b; c = c.args.c; r = cell.r } in
    let inside : c.place.result + 1 < length c.args.self.now = c.place.ensures in
    let count : length c.args.self.now ≡ suc (length cells) = ap length (sym c.self.view_is) ∙ ap suc (length-map cells answer_in) in
    let below : c.place.result < length cells = omega (arith, inside, count) in
    let is : answer_in cell ≡ asked = ap answer_in c.if-is_of.ensures ∙ ap₂ (λ (op third : ℕ). record { op = op; a = c.args.a; b = c.args.b; c = third; r = cell.r }) c.in-Some.ensures.0 c.in-Some.ensures.1 in
    record { kept = subst (λ (xs : List Answer). IsKept xs asked) c.self.view_is (cell_kept c.self.inside.wide cells _ cell asked below (ap answer_in (sym c.index-cell.ensures) ∙ is) (omega (arith, c.if-op-ne0.true))) }
