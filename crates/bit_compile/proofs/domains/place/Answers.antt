use Rattle.std.proofs.Common.{◌==◌, rules, sym, arith, length}
use Rattle.std.proofs.lemmas.List.Sums.{position_or_len_is}
use Rattle.std.proofs.lemmas.Bool.Decides.{nat_tests}
use Rattle.bit_compile.proofs.DomainLemmas.{place_at}
use Rattle.bit_compile.proofs.domains.place.Goals as goal

pub returns-then-m-n : goal.returns-then-m-n
returns-then-m-n c = sym (position_or_len_is (λ m. c.args.n == m) c.args.names.now c.loop-i.i 0 (search rules) c.loop-i.invariant (λ h. grind (arith, nat_tests)))

pub returns : goal.returns
returns c = sym (position_or_len_is (λ m. c.args.n == m) c.args.names.now (length c.args.names.now) 0 (omega arith) (λ k h. c.loop-i.invariant k (search rules)) (λ h. absurd (omega (arith, h))))

pub returns-then-names-near : goal.returns-then-names-near
returns-then-names-near c = sym (place_at c.args.names.now c.args.near c.args.n c.requires (search rules) (search rules))
