use Rattle.std.proofs.Common.{◌<◌, length, length-set, ◌∙◌, sym, arith}
use Rattle.spec_model.specs.DiagramReads.{bits_of}
use Rattle.bdd_search.proofs.ReadLemmas.{shows_one, values_more, same_values}
use Rattle.bdd_search.proofs.reading.read.Goals as goal

pub loop-k-preserved : goal.loop-k-preserved
loop-k-preserved c =
    let k = c.loop-k.k in
    let long = c.loop-k.invariant.long in
    let here : k < length c.loop-k.values = omega (arith, long, c.requires.part, c.loop-k-test.true) in
    record {
      long = length-set c.loop-k.values k c.read_value.result ∙ long;
      so_far = λ vs count are have. values_more c.loop-k.values vs k c.read_value.result here
          (c.read_value.ensures _ (shows_one c.args.codes.now c.args.at c.args.from vs (bits_of c.args.bits.now) are have k (omega (arith, count, c.requires.part, c.loop-k-test.true))))
          (c.loop-k.invariant.so_far vs count are have);
    }

pub returns : goal.returns
returns c = λ vs count are have.
    let long = c.loop-k.invariant.long in
    same_values c.loop-k.values vs (long ∙ sym count) (λ j below. c.loop-k.invariant.so_far vs count are have j (omega (arith, long, below, c.requires.part, c.loop-k-test.false)))
