use Rattle.std.proofs.Common.{◌≡◌, true, false, Bool, Ok, sym, ◌∙◌, refl, subst, ap, take, ℕ, if◌then◌else◌, ◌+◌}
use Rattle.spec_model.specs.Diagrams.{Bits, Function}
use Rattle.bdd_store.specs.State.{IsRoot}
use Rattle.bdd_bits.specs.Contents.{function_at}
use Rattle.bdd_ops.specs.Functions.{joined, join_of}
use Rattle.bit_compile.specs.Making.{Makes}
use Rattle.bdd_sets.specs.Members.{all_true, functions_at}
use Rattle.bdd_sets.proofs.SpentLemmas.{function_kept, item_is, all_true-next}
use Rattle.bdd_products.proofs.KeepingLemmas.{err_by}
use Rattle.bdd_products.proofs.front.front_of.Goals as goal

pub loop-member-init : goal.loop-member-init
loop-member-init c =
    record {
      made = c.in_ok-lines.ensures.made;
      counted = refl;
    }

pub returns-in_err-next-clause-refused : goal.returns-in_err-next-clause-refused
returns-in_err-next-clause-refused c =
    let so_far = all_true (functions_at c.args.diagrams.now (take c.loop-member.count c.args.members.now)) in
    err_by c.args.diagrams.now c.longer.new.diagrams c.from_residual-in_err-next.result c.in_err-next.field-0.0 so_far (λ (s : Bits). true) c.from_residual-in_err-next.ensures.1 (c.in_err-next.ensures.refused c.args.diagrams.now so_far c.loop-member.invariant.made)

pub returns-then-not-is_in-clause-made : goal.returns-then-not-is_in-clause-made
returns-then-not-is_in-clause-made c =
    let first = c.args.diagrams.now in
    let so_far = all_true (functions_at first (take c.loop-member.count c.args.members.now)) in
    let longer = joined (join_of true) so_far (function_at c.loop-member.diagrams c.member-item.result) in
    let is : c.in_ok-next.is_in ≡ false = c.if-not-is_in.true in
    subst (λ (b : Bool). Makes first c.longer.new.diagrams (Ok c.in_ok-next.next) (if b then longer else so_far)) is (c.in_ok-next.ensures.made first so_far c.loop-member.invariant.made)

pub loop-member-preserved : goal.loop-member-preserved
loop-member-preserved c =
    let first = c.args.diagrams.now in
    let l = c.loop-member.diagrams in
    let inv = c.loop-member.invariant in
    let ms = c.args.members.now in
    let i = c.loop-member.member-index in
    let m = c.member-item.result in
    let so_far = all_true (functions_at first (take c.loop-member.count ms)) in
    let longer = joined (join_of true) so_far (function_at l m) in
    let is : c.in_ok-next.is_in ≡ true = c.if-not-is_in.false in
    let made = subst (λ (b : Bool). Makes first c.longer.new.diagrams (Ok c.in_ok-next.next) (if b then longer else so_far)) is (c.in_ok-next.ensures.made first so_far inv.made) in
    let root : IsRoot first.state m = subst (λ (n : ℕ). IsRoot first.state n) (item_is ms i m c.loop-member-test.true c.member-item.is) (c.requires i c.loop-member-test.true) in
    let kept = function_kept first l inv.made.keeps m root in
    let whole = ap (λ (k : Function). joined (join_of true) (all_true (functions_at first (take i ms))) k) kept ∙ all_true-next (function_at first) ms i m c.loop-member-test.true c.member-item.is in
    let made' = subst (λ (j : ℕ). Makes first c.longer.new.diagrams (Ok c.in_ok-next.next) (joined (join_of true) (all_true (functions_at first (take j ms))) (function_at l m))) inv.counted made in
    record {
      made = subst (λ (j : ℕ). Makes first c.longer.new.diagrams (Ok c.in_ok-next.next) (all_true (functions_at first (take (j + 1) ms)))) (sym inv.counted) (subst (λ (k : Function). Makes first c.longer.new.diagrams (Ok c.in_ok-next.next) k) whole made');
      counted = ap (λ (n : ℕ). n + 1) inv.counted;
    }
