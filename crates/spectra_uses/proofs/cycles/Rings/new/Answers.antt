use Rattle.std.proofs.Common.{length, map, replicate, false, ap, subst, sym, ◌∙◌}
use Rattle.std.proofs.lemmas.List.{length-map}
use Rattle.spectra_uses.specs.Searching.{IsKnown}
use Rattle.spectra_uses.specs.Users.{AreUsers}
use Rattle.spectra_uses.proofs.Marked.{all_marked, length-all}
use Rattle.spectra_uses.proofs.Settled.{nothing_settled}
use Rattle.spectra_uses.proofs.cycles.Rings.new.Goals as goal

pub returns-clause-settling : goal.returns-clause-settling
returns-clause-settling c =
    let uses = map (λ us. us.items) c.args.uses.now in
    let size = length-map c.args.uses.now (λ us. us.items) in
    record {
      users = subst (AreUsers uses _) (sym size) c.in_ok-users_of.ensures;
      settled = nothing_settled uses _ _ (c.in_ok-no_marks.ensures ∙ ap (λ n. replicate n false) (sym size)) (c.in_ok-no_marks-2.ensures ∙ ap (λ n. replicate n false) (sym size));
      room = ap length c.in_ok-all_marks.ensures ∙ length-all (length c.args.uses.now) ∙ sym size;
      apart = λ v. subst (λ ms. IsKnown ms v) (sym c.in_ok-all_marks.ensures) (all_marked (length c.args.uses.now) v);
    }
