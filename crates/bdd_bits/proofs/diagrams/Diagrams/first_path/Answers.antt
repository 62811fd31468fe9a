use Rattle.std.proofs.Common.{◌≡◌, ◌∙◌, ℕ, refl, sym, ap, subst, arith}
use Rattle.std.specs.List.{length_refill}
use Rattle.spec_model.specs.Diagrams.{Function}
use Rattle.spec_model.specs.DiagramReads.{bits_of}
use Rattle.bdd_ops.specs.Paths.{IsFirst}
use Rattle.bdd_ops.specs.Together.{Together}
use Rattle.bdd_bits.specs.Paths.{all_of}
use Rattle.bdd_bits.specs.Settling.{IsSettledAt}
use Rattle.bdd_bits.proofs.FirstLemmas.{none_settled, settled_more, all_settled}
use Rattle.bdd_bits.proofs.diagrams.Diagrams.first_path.Goals as goal

pub loop-bit-init : goal.loop-bit-init
loop-bit-init c =
    let all : Function = all_of c.args.self.now c.args.room.now.over_levels.roots in
    let same = c.some_path-found.ensures.asked in
    record {
      settled = none_settled all c.args.fixed.now c.copy_from_slice.new.self.items (bits_of c.some_path-found.new.out) c.copy_from_slice.ensures.items (c.if-not-found.ensures.some refl);
      asked = same;
      room = record {
        levels = ap (λ (t : Together). t.levels) same ∙ c.requires.room.levels;
        placed = sym (length_refill _ _ c.some_path-found.new.placed c.args.room.now.placed.ok.0) ∙ (c.args.room.now.placed.ok.0 ∙ c.requires.room.placed);
        by_level = sym (length_refill _ _ c.some_path-found.new.by_level c.args.room.now.by_level.ok.0) ∙ (c.args.room.now.by_level.ok.0 ∙ c.requires.room.by_level);
        settled = (let a = c.copy_from_slice.ensures.len in let r = c.requires.room.settled in omega (arith, a, r));
        other = c.requires.room.other;
      };
    }

pub loop-bit-preserved : goal.loop-bit-preserved
loop-bit-preserved c =
    let all : Function = all_of c.args.self.now c.args.room.now.over_levels.roots in
    let settled = c.loop-bit.room.settled.items in
    let new = c.settle.new.room.settled.items in
    let bits = bits_of c.settle.new.out in
    let here = subst (λ (t : Together). IsSettledAt (all_of c.args.self.now t.roots) c.loop-bit.bit settled new bits) c.loop-bit.invariant.asked c.settle.ensures.settled in
    record {
      settled = settled_more all c.args.fixed.now settled new c.loop-bit.bit (bits_of c.loop-bit.out) bits c.loop-bit.invariant.settled here;
      asked = c.settle.ensures.asked ∙ c.loop-bit.invariant.asked;
      room = c.settle.ensures.room;
    }

pub returns-clause-first : goal.returns-clause-first
returns-clause-first c = λ yes.
    let all : Function = all_of c.args.self.now c.args.room.now.over_levels.roots in
    let each = c.requires.each.0 in
    let whole : c.loop-bit.bit ≡ c.args.self.now.state.table.levels = omega (arith, each) in
    subst (λ (n : ℕ). IsFirst c.args.fixed.now all 0 n (bits_of c.loop-bit.out)) whole (all_settled all c.args.fixed.now c.loop-bit.room.settled.items c.loop-bit.bit (bits_of c.loop-bit.out) c.loop-bit.invariant.settled)
