use Rattle.std.proofs.Common.{◌≤◌, ℕ, subst, sym}
use Rattle.bit_compile.specs.Domains.{level_count}
use Rattle.bit_compile.specs.Named.{IsOfProper}
use Rattle.bit_compile.proofs.BlockLemmas.{after_refusal}
use Rattle.bit_compile.proofs.Causes.{cause_after, cause_ok}
use Rattle.bit_compile.proofs.proper.proper.Goals as goal

pub proper_forth-requires : goal.proper_forth-requires
proper_forth-requires c = subst (λ (n : ℕ). level_count c.args.codes.now ≤ n) (sym c.in-Err.ensures.keeps.levels) c.requires

pub returns-in-Ok-clause-made : goal.returns-in-Ok-clause-made
returns-in-Ok-clause-made c = c.in-Ok.ensures

pub returns-in-Ok-clause-cause : goal.returns-in-Ok-clause-cause
returns-in-Ok-clause-cause c = cause_ok c.args.diagrams.now c.proper_back.new.diagrams c.in-Ok.root _

pub returns-in-Err-clause-made : goal.returns-in-Err-clause-made
returns-in-Err-clause-made c = after_refusal c.args.diagrams.now c.proper_back.new.diagrams c.proper_forth.new.diagrams _ c.proper_forth.result _ _ c.in-Err.ensures c.proper_forth.ensures.made

pub returns-in-Err-clause-cause : goal.returns-in-Err-clause-cause
returns-in-Err-clause-cause c =
    cause_after c.args.diagrams.now c.proper_back.new.diagrams c.proper_forth.new.diagrams c.proper_forth.result (IsOfProper c.args.codes.now c.args.at) c.in-Err.ensures.refused c.in-Err.ensures.keeps c.proper_forth.ensures.cause
