use Rattle.std.proofs.Common.{◌≡◌, ◌+◌, ◌++◌, [], ◌∷◌, map, drop, sym, ap, ◌∙◌, add-one, drop-cons, append-nil}
use Rattle.std.proofs.lemmas.List.{drop_all}
use Rattle.spectra_trees.specs.Data as written
use Rattle.spectra_trees.specs.Views.{regex_data as tree_regex}
use Rattle.spectra_resolved.specs.Findings.{with_faults}
use Rattle.spectra_resolved.specs.Reports.{found_in}
use Rattle.spectra_resolved.specs.Chained.{regexes}
use Rattle.spectra_resolved.specs.Views.{regex_data}
use Rattle.spectra_resolved.specs.ResolverViews.{regexes_by}
use Rattle.spectra_resolved.proofs.RegexSteps.{regexes-listed, parts_by, misuses_by, regex_step, regex_found}
use Rattle.spectra_resolved.proofs.regexes.+regexes.Goals as goal

pub regexes-loop-r-preserved : goal.regexes-loop-r-preserved
regexes-loop-r-preserved t c =
    let by = c.args.resolver.now in
    let rs = c.args.rs.now in
    let i = c.loop-r.r-index in
    let r = c.r-item.result in
    let rest : drop i rs ≡ r ∷ drop (i + 1) rs = drop-cons rs i r c.loop-r-test.true ∙ (λ j. sym c.r-item.is j ∷ drop (sym (add-one i) j) rs) in
    record {
      same = regex_step by rs i r rest c.loop-r.made.items c.push.new.self.items c.in_ok-regex.field-0 _ c.in_ok-push.ensures.items c.in_ok-regex.ensures.regex c.loop-r.invariant.same;
      found = ap (λ f. with_faults f (misuses_by by (drop (i + 1) rs))) c.in_ok-regex.ensures.found ∙ regex_found by rs i r rest (found_in c.loop-r.findings) _ c.loop-r.invariant.found;
    }

pub regexes-returns-clause-regexes : goal.regexes-returns-clause-regexes
regexes-returns-clause-regexes t c =
    let by = c.args.resolver.now in
    let left : drop c.loop-r.r-index c.args.rs.now ≡ [] = drop_all _ _ c.loop-r-test.false in
    let all = ap (λ rs. map regex_data c.loop-r.made.items ++ parts_by by rs) (sym left) ∙ c.loop-r.invariant.same in
    ap regexes (sym (append-nil (map regex_data c.loop-r.made.items)) ∙ all) ∙ regexes-listed (regexes_by by (written.regexes (map tree_regex c.args.rs.now)))
