use Rattle.std.proofs.Common.{◌≡◌, ◌-◌, length, reverse, refl, arith}
use Rattle.spectra_elaboration.specs.Rows.{pieces_at}
use Rattle.spectra_elaboration.proofs.Unwound.{none_pushed, links_pushed, within_pushed, pushed_some}
use Rattle.spectra_elaboration.proofs.rows.add_pieces.Goals as goal

pub loop-left-init : goal.loop-left-init
loop-left-init c =
    record {
      added = λ b fs. none_pushed b fs c.args.frame c.args.links.now (length c.args.links.now) c.args.pieces.now.items (omega arith);
      within = λ count here all. all;
      some = λ below. absurd (omega (arith, below));
      few = omega arith;
    }

pub loop-left-preserved : goal.loop-left-preserved
loop-left-preserved c =
    let before = c.loop-left.invariant in
    let links = c.args.links.now in
    let n = c.loop-left.left in
    let some = c.loop-left-test.true in
    let few = before.few in
    let l = c.index-links-left.result in
    let new = c.in_ok-push.ensures.items in
    record {
      added = λ b fs. links_pushed b fs c.args.frame links (n - 1) n l (omega (arith, some, few)) c.index-links-left.is (omega (arith, some)) c.loop-left.pieces.items _ _ new refl refl (reverse (pieces_at b fs c.args.pieces.now.items)) (before.added b fs);
      within = λ count here all. within_pushed count c.loop-left.pieces.items _ _ new here (before.within count here all);
      some = λ below. pushed_some c.loop-left.pieces.items _ _ new;
      few = omega (arith, few);
    }
