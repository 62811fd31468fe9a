use Rattle.std.proofs.Common.{◌≡◌, length, ap, sym, subst, ◌∙◌, arith}
use Rattle.std.proofs.lemmas.List.{length-map}
use Rattle.spectra_uses.specs.Searching.{HasNoMark}
use Rattle.spectra_uses.proofs.Marked.{no_mark, length-none}
use Rattle.spectra_uses.proofs.Placed.{fresh_placing, nothing_followed}
use Rattle.spectra_uses.proofs.placing.Placer.new.Goals as goal

pub returns-clause-placing : goal.returns-clause-placing
returns-clause-placing c =
    let n = length c.args.uses.now in
    let marks = c.in_ok-no_marks.ensures in
    let size = length-map c.args.uses.now (λ us. us.items) in
    let room : length c.resize.new.self.items ≡ n = let e = c.in_ok-resize.ensures.len in omega arith in
    fresh_placing _
    (ap length marks ∙ length-none n ∙ sym size)
    (room ∙ sym size)
    c.new.ensures.items
    c.new-2.ensures.items
    (subst HasNoMark (sym marks) (no_mark n))
    (nothing_followed _ _ c.new-followed.result.items _ _ _ c.in_ok-resize.ensures.items c.new-followed.ensures.items)
