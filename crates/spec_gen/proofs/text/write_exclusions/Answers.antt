use Rattle.std.proofs.Common.{string_bytes, rules, ℕ}
use Rattle.std.specs.List.{flat_map}
use Rattle.spec_gen.specs.Arbiter.{clients_after, exclusion_line}
use Rattle.spec_gen.proofs.Lines.{one_more}
use Rattle.spec_gen.proofs.text.write_exclusions.Goals as goal

pub loop-i-preserved : goal.loop-i-preserved
loop-i-preserved c =
    one_more (λ (i : ℕ). flat_map (exclusion_line i) (clients_after i c.args.n)) (string_bytes c.args.text.now) (string_bytes c.loop-i.text) (string_bytes c.write_exclusions_of.new.text) c.loop-i.i c.loop-i.invariant (search rules)
