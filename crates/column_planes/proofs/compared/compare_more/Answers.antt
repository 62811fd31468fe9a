use Rattle.std.proofs.Common.{◌≡◌, ◌+◌, min, length, subst, ◌∙◌, arith}
use Rattle.spec_model.specs.Syntax.{Comparison}
use Rattle.spec_model.specs.Views.{formula}
use Rattle.game_values.specs.Times.{time_of}
use Rattle.column_planes.specs.Columns.{AreTruthsOf, column_data}
use Rattle.column_planes.proofs.Blocks.{more_truths, reached}
use Rattle.column_planes.proofs.compared.compare_more.Goals as goal

pub returns-clause-more : goal.returns-clause-more
returns-clause-more c = λ read.
    let cs = column_data c.args.c in
    let at = time_of c.args.at in
    let from = c.args.from in
    let a = c.values.new.out in
    let b = c.values-else-not-values.new.out in
    let many_a = c.values.ensures.lengths in
    let front_a = c.split_at_mut-first.ensures.front_len in
    let many_b = c.values-else-not-values.ensures.lengths in
    let front_b = c.split_at_mut-second.ensures.front_len in
    let n : length a ≡ c.min-n.result = omega (arith, many_a, front_a) in
    let same : length b ≡ length a = omega (arith, n, many_b, front_b) in
    let all : from + length a ≡ min (from + 64) (length c.args.codes.now) = reached from (length c.args.codes.now) (length a) c.requires.within.0 (n ∙ c.min-n.ensures) in
    subst (λ m. AreTruthsOf cs at m (Comparison c.args.how (formula c.args.a.now) (formula c.args.b.now)) c.write_compared.new.codes) all
    (more_truths cs at c.args.how (formula c.args.a.now) (formula c.args.b.now) from a b c.args.codes.now c.write_compared.new.codes c.requires.before
    (c.values.ensures.values c.if-not-values.false) (c.values-else-not-values.ensures.values c.if-not-values-2.false) same c.write_compared.ensures.before c.write_compared.ensures.there)
