use Rattle.std.proofs.Common.{◌<◌, ◌≤◌, ℕ, List, Vec, Ok, ap, sym, subst, ◌∙◌, length, take, arith}
use Rattle.std.proofs.lemmas.List.{take_all}
use Rattle.std.specs.declared.alloc.Global.{Global}
use Rattle.spec_model.specs.Diagrams.{Function, and_exists_over}
use Rattle.bdd_store.specs.State.{IsRoot}
use Rattle.bdd_bits.specs.Contents.{function_at}
use Rattle.bit_compile.specs.Making.{Makes}
use Rattle.bit_compile.proofs.MakingLemmas.{is_root, root_added}
use Rattle.bdd_sets.proofs.SpentLemmas.{function_kept, refused_by, item_is}
use Rattle.bdd_products.proofs.ProductLemmas.{joined_out, joined_out-next, product-taken, as_long}
use Rattle.bdd_products.proofs.product.taken_out.Goals as goal

pub index-requires-in-loop-k : goal.index-requires-in-loop-k
index-requires-in-loop-k c =
    let r = c.requires in
    let long = as_long r.0 r.2 r.3 c.args.product.now r.6 in
    omega (arith, long, c.loop-k-test.true, c.len-k-end.ensures)

pub and_exists_spent-requires-clause-a_kept : goal.and_exists_spent-requires-clause-a_kept
and_exists_spent-requires-clause-a_kept c = let r = c.requires in is_root r.0 c.loop-k.diagrams c.loop-k.made _ (c.loop-k.invariant r.0 r.1 r.4 r.5)

pub and_exists_spent-requires-clause-line_kept : goal.and_exists_spent-requires-clause-line_kept
and_exists_spent-requires-clause-line_kept c =
    let r = c.requires in
    let lines = c.args.product.now.lines.items in
    let below : c.loop-k.k < length lines = omega (arith, c.loop-k-test.true, c.len-k-end.ensures) in
    let root : IsRoot r.0.state c.index.result.now = subst (λ (n : ℕ). IsRoot r.0.state n) (item_is lines c.loop-k.k c.index.result.now below c.index.ensures) (r.5 c.loop-k.k below) in
    root_added r.0 c.loop-k.diagrams c.loop-k.made _ (c.loop-k.invariant r.0 r.1 r.4 r.5) c.index.result.now root

pub returns-in_err-made : goal.returns-in_err-made
returns-in_err-made c = λ base f whole out first are is.
    refused_by base c.and_exists_spent.new.diagrams c.from_residual.result c.in_err-made.field-0.0 _ _ c.from_residual.ensures.1 (c.in_err-made.ensures base (joined_out (function_at base) f (take c.loop-k.k c.args.product.now.lines.items) (take c.loop-k.k c.args.product.now.outs.items)) (c.loop-k.invariant base f first are))

pub loop-k-preserved : goal.loop-k-preserved
loop-k-preserved c = λ base f first are.
    let r = c.requires in
    let lines = c.args.product.now.lines.items in
    let outs = c.args.product.now.outs.items in
    let i = c.loop-k.k in
    let line = c.index.result.now in
    let out = c.index-in-loop-k.result.now in
    let l = c.loop-k.diagrams in
    let long = as_long r.0 r.2 r.3 c.args.product.now r.6 in
    let below : i < length lines = omega (arith, c.loop-k-test.true, c.len-k-end.ensures) in
    let under : i < length outs = omega (arith, long, c.loop-k-test.true, c.len-k-end.ensures) in
    let so_far = joined_out (function_at base) f (take i lines) (take i outs) in
    let before = c.loop-k.invariant base f first are in
    let made = c.in_ok-made.ensures base so_far before in
    let root : IsRoot base.state line = subst (λ (n : ℕ). IsRoot base.state n) (item_is lines i line below c.index.ensures) (are i below) in
    let kept = function_kept base l before.keeps line root in
    let step = ap (λ (levels : List ℕ). and_exists_over levels so_far (function_at l line)) c.deref.ensures.value ∙ (ap (λ (g : Function). and_exists_over out.items so_far g) kept ∙ sym (joined_out-next (function_at base) f lines outs i line out below under c.index.ensures c.index-in-loop-k.ensures)) in
    subst (λ (k : Function). Makes base c.and_exists_spent.new.diagrams (Ok c.in_ok-made.made) k) step made

pub returns : goal.returns
returns c = λ base f whole out first are is.
    let lines = c.args.product.now.lines.items in
    let outs = c.args.product.now.outs.items in
    let long = as_long base whole out c.args.product.now is in
    let past : length lines ≤ c.loop-k.k = omega (arith, c.loop-k-test.false, c.len-k-end.ensures) in
    let past' : length outs ≤ c.loop-k.k = omega (arith, long, past) in
    subst (λ (k : Function). Makes base c.loop-k.diagrams (Ok c.loop-k.made) k)
    (ap (λ (xs : List ℕ). joined_out (function_at base) f xs (take c.loop-k.k outs)) (take_all c.loop-k.k lines past)
    ∙ (ap (λ (os : List (Vec ℕ Global)). joined_out (function_at base) f lines os) (take_all c.loop-k.k outs past') ∙ product-taken base f whole out c.args.product.now is))
    (c.loop-k.invariant base f first are)
