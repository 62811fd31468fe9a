use Rattle.std.proofs.Common.{◌≡◌, ◌<◌, ◌-◌, ◌+◌, ◌||◌, ℕ, List, ap, sym, subst, ◌∙◌, arith, length, drop, reverse, Vec}
use Rattle.std.specs.declared.alloc.Global.{Global}
use Rattle.bdd_ops.specs.Functions.{is_among}
use Rattle.bit_compile.proofs.MakingLemmas.{keeps_then}
use Rattle.bdd_sets.specs.Members.{functions_at}
use Rattle.bdd_products.specs.Products.{IsSpread, levels_of}
use Rattle.bdd_products.proofs.SpreadLemmas.{one_spread}
use Rattle.bdd_products.proofs.spreading.spread.Goals as goal

pub loop-place-preserved : goal.loop-place-preserved
loop-place-preserved c =
    let first = c.args.diagrams.now in
    let l = c.loop-place.diagrams in
    let inv = c.loop-place.invariant in
    let lines = c.args.lines.now in
    let place = c.loop-place.place in
    let i = place - 1 in
    let left = c.loop-place.left.items in
    let own = c.in_ok-own.own in
    let next = c.in_ok-own.next.items in
    let x = c.index-lines-place.result in
    let leaves = c.in_ok-own.ensures.leaves in
    let below : i < length lines = omega (arith, c.loop-place-test.true, inv.within) in
    let after : i + 1 ≡ place = omega (arith, c.loop-place-test.true) in
    let parted : (m : ℕ) → (is_among m own.items || is_among m next) ≡ is_among m left = λ m. c.in_ok-own.ensures.parted m ∙ ap (is_among m) c.deref.ensures.value in
    let more = one_spread first l c.args.out.now left next lines i place x c.loop-place.outs.items own inv.keeps c.requires.kept below after c.index-lines-place.is inv.spread c.in_ok-own.ensures.ignored parted in
    record {
      within = omega (arith, inv.within);
      room = omega (arith, inv.room, c.loop-place-test.true);
      spread = subst (λ (os : List (Vec ℕ Global)). IsSpread c.args.out.now next (functions_at first (drop i lines)) (levels_of (reverse os))) (sym c.push_reserved.ensures.items) more;
      last = λ zero. c.in_ok-own.ensures.none (omega (arith, zero, c.min.ensures));
      roots = λ n. leaves.roots n ∙ inv.roots n;
      keeps = keeps_then first l c.parted.new.diagrams inv.keeps inv.roots leaves.keeps;
    }
