use Rattle.std.proofs.Common.{ℕ, Ok, ◌∙◌, subst}
use Rattle.spec_model.specs.Diagrams.{Function}
use Rattle.bdd_store.specs.State.{IsRoot}
use Rattle.bdd_bits.specs.Contents.{function_at}
use Rattle.bit_compile.specs.Making.{Makes}
use Rattle.bit_compile.proofs.MakingLemmas.{given_back}
use Rattle.bdd_sets.proofs.SpentLemmas.{function_kept, item_is, all_true-next}
use Rattle.bdd_products.proofs.grouping.group_of.Goals as goal

pub returns-clause-made : goal.returns-clause-made
returns-clause-made c =
    let old = c.args.diagrams.now in
    let mid = c.front_of.new.diagrams in
    let ms = c.args.members.now in
    let m = c.index-members-0.result in
    let front = c.in_ok-front.ensures.made in
    let root : IsRoot old.state m = subst (λ (n : ℕ). IsRoot old.state n) (item_is ms 0 m c.requires.some c.index-members-0.is) (c.requires.members 0 c.requires.some) in
    let alone = given_back old mid c.keep-alone.new.diagrams c.release.new.self c.in_ok-front.front.lines _ (function_at mid m) front c.release.ensures.released c.release.ensures.nodes (Ok c.in_ok-lines.lines) c.in_ok-lines.ensures.made in
    subst (λ (f : Function). Makes old c.release.new.self (Ok c.in_ok-lines.lines) f) (function_kept old mid front.keeps m root ∙ all_true-next (function_at old) ms 0 m c.requires.some c.index-members-0.is) alone
