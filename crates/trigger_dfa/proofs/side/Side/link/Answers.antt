use Rattle.std.proofs.Common.{◌≡◌, arith, cond, ℕ, nat_lt, slice_index, bit_or, subst}
use Rattle.trigger_dfa.specs.Words.{in_word}
use Rattle.trigger_dfa.proofs.Parts.{linked}
use Rattle.trigger_dfa.proofs.side.Side.link.Goals as goal

pub returns : goal.returns
returns c =
    let end : c.loop-q.q ≡ 64 = omega arith in
    let each = subst (λ n. (k : ℕ) → slice_index c.loop-q.self.follow.items k ≡ cond (nat_lt k n) (bit_or (slice_index c.args.self.now.follow.items k) (cond (in_word c.args.from k) c.args.to 0)) (slice_index c.args.self.now.follow.items k)) end c.loop-q.invariant.0 in
    record {
      follow = linked c.args.from c.args.to c.args.self.now.follow.items c.loop-q.self.follow.items (omega arith) each;
      meant = c.loop-q.invariant.1;
      positions = c.loop-q.invariant.2;
    }
