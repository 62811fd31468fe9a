use Rattle.std.proofs.Common.{true, subst}
use Rattle.spec_model.specs.Diagrams.{Function, and_exists_over}
use Rattle.bdd_ops.specs.Functions.{joined, join_of}
use Rattle.bdd_bits.specs.Contents.{function_at}
use Rattle.bdd_ops.specs.Calls.{negated}
use Rattle.bit_compile.specs.Making.{Makes}
use Rattle.bit_compile.proofs.MakingLemmas.{is_root}
use Rattle.bdd_sets.proofs.SpentLemmas.{refused_by}
use Rattle.bdd_products.proofs.EarlyLemmas.{replies_at_once}
use Rattle.bdd_products.proofs.early.avoided_early.Goals as goal

pub returns-in_err-begun : goal.returns-in_err-begun
returns-in_err-begun c = λ m levels is.
    let old = c.args.diagrams.now in
    refused_by old c.keep.new.diagrams c.from_residual.result c.in_err-begun.field-0.0 (function_at old c.args.target.now) _ c.from_residual.ensures.1 c.in_err-begun.ensures.made

pub taken_out-requires : goal.taken_out-requires
taken_out-requires c =
    let old = c.args.diagrams.now in
    let r = c.requires.fits in
    (old, function_at old c.args.target.now, joined (join_of true) r.0.outputs r.0.update, r.1.reply.items, c.in_ok-begun.ensures.made, c.requires.kept.replies, r.2.replies)

pub returns-in_err-reached : goal.returns-in_err-reached
returns-in_err-reached c = λ m levels is.
    let old = c.args.diagrams.now in
    let f = function_at old c.args.target.now in
    let legal = joined (join_of true) m.outputs m.update in
    refused_by old c.taken_out.new.diagrams c.from_residual-in_err-reached.result c.in_err-reached.field-0.0 (and_exists_over levels.reply.items f legal) _ c.from_residual-in_err-reached.ensures.1 (c.in_err-reached.ensures old f legal levels.reply.items c.in_ok-begun.ensures.made c.requires.kept.replies is.replies)

pub not_spent-requires : goal.not_spent-requires
not_spent-requires c =
    let old = c.args.diagrams.now in
    let r = c.requires.fits in
    is_root old c.taken_out.new.diagrams c.in_ok-reached.reached _ (c.in_ok-reached.ensures old (function_at old c.args.target.now) (joined (join_of true) r.0.outputs r.0.update) r.1.reply.items c.in_ok-begun.ensures.made c.requires.kept.replies r.2.replies)

pub returns-in_err-out : goal.returns-in_err-out
returns-in_err-out c = λ m levels is.
    let old = c.args.diagrams.now in
    let f = function_at old c.args.target.now in
    let legal = joined (join_of true) m.outputs m.update in
    let leads = and_exists_over levels.reply.items f legal in
    refused_by old c.not_spent.new.diagrams c.from_residual-in_err-out.result c.in_err-out.field-0.0 (negated leads) _ c.from_residual-in_err-out.ensures.1 (c.in_err-out.ensures.made old leads (c.in_ok-reached.ensures old f legal levels.reply.items c.in_ok-begun.ensures.made c.requires.kept.replies is.replies))

pub taken_out-requires-2 : goal.taken_out-requires-2
taken_out-requires-2 c =
    let old = c.args.diagrams.now in
    let r = c.requires.fits in
    let f = function_at old c.args.target.now in
    let legal = joined (join_of true) r.0.outputs r.0.update in
    let leads = and_exists_over r.1.reply.items f legal in
    (old, negated leads, r.0.inputs, r.1.all.items, c.in_ok-out.ensures.made old leads (c.in_ok-reached.ensures old f legal r.1.reply.items c.in_ok-begun.ensures.made c.requires.kept.replies r.2.replies), c.requires.kept.inputs, r.2.inputs)

pub returns : goal.returns
returns c = λ m levels is.
    let old = c.args.diagrams.now in
    let f = function_at old c.args.target.now in
    let legal = joined (join_of true) m.outputs m.update in
    let leads = and_exists_over levels.reply.items f legal in
    let reached = c.in_ok-reached.ensures old f legal levels.reply.items c.in_ok-begun.ensures.made c.requires.kept.replies is.replies in
    let all = c.taken_out-2.ensures old (negated leads) m.inputs levels.all.items (c.in_ok-out.ensures.made old leads reached) c.requires.kept.inputs is.inputs in
    subst (λ (k : Function). Makes old c.taken_out-2.new.diagrams c.taken_out-2.result (and_exists_over levels.all.items (negated k) m.inputs)) (replies_at_once m levels.reply.items f) all
