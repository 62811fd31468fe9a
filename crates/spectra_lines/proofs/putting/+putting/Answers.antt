use Rattle.std.proofs.Common.{◌≡◌, ◌+◌, ◌++◌, [], map, drop, sym, ap, append-nil, ◌∙◌}
use Rattle.std.proofs.lemmas.List.{drop_all}
use Rattle.spectra_resolved.specs.Chained.{regexes, repeated}
use Rattle.spectra_resolved.specs.Views.{regex_data}
use Rattle.spectra_resolved.proofs.Mapped.{map_push}
use Rattle.spectra_resolved.proofs.Trees.{repeat_data}
use Rattle.spectra_lines.specs.Contents.{brackets_in, brackets_of_each, regex_put, each_regex_put}
use Rattle.spectra_lines.specs.Limits.{all_fit}
use Rattle.spectra_lines.specs.Views.{facts_data}
use Rattle.spectra_lines.proofs.Bracketed.{put_repeated, put_brackets_repeated, regex_list, regexes_listed, put_more, regex_fits_too}
use Rattle.spectra_lines.proofs.Puts.{stop_puts}
use Rattle.spectra_lines.proofs.putting.+putting.Goals as goal

pub put_regex-returns-in_ok-whole-in-Repeat : goal.put_regex-returns-in_ok-whole-in-Repeat
put_regex-returns-in_ok-whole-in-Repeat t c =
    let f = facts_data c.args.facts.now in
    let part = c.in-Repeat.part in
    let times = c.in-Repeat.times in
    let is = ap regex_data c.in-Repeat.is ∙ repeat_data part times in (
      c.in_ok-whole-in-Repeat.ensures
          ∙ (λ i. repeated (c.in_ok-made-in-Repeat.ensures.0 i) (c.deref-in-Repeat-2.ensures.value i))
          ∙ ap (λ p. repeated (regex_put f (regex_data p)) times.items) c.deref-in-Repeat.ensures
          ∙ sym (put_repeated f (regex_data part.value) times.items)
          ∙ ap (regex_put f) (sym is),
      ap (λ r. all_fit (brackets_in (regex_put f r))) is
          ∙ ap all_fit (put_brackets_repeated f (regex_data part.value) times.items)
          ∙ ap (λ p. all_fit (brackets_in (regex_put f (regex_data p)))) (sym c.deref-in-Repeat.ensures)
          ∙ c.in_ok-made-in-Repeat.ensures.1,
    )

pub put_regex-returns-in_err-made-in-Repeat : goal.put_regex-returns-in_err-made-in-Repeat
put_regex-returns-in_err-made-in-Repeat t c =
    let f = facts_data c.args.facts.now in
    let part = c.in-Repeat.part in
    let times = c.in-Repeat.times in
    let is = ap regex_data c.in-Repeat.is ∙ repeat_data part times in
    stop_puts (λ made. regex_data made ≡ regex_put f (regex_data c.args.r.now)) (all_fit (brackets_in (regex_put f (regex_data c.args.r.now))))
    c.in_err-made-in-Repeat.field-0.0 c.from_residual-in_err-made-in-Repeat.result c.from_residual-in_err-made-in-Repeat.ensures.1
    (λ differs.
    ap (λ r. all_fit (brackets_in (regex_put f r))) is
    ∙ ap all_fit (put_brackets_repeated f (regex_data part.value) times.items)
    ∙ ap (λ p. all_fit (brackets_in (regex_put f (regex_data p)))) (sym c.deref-in-Repeat.ensures)
    ∙ c.in_err-made-in-Repeat.ensures differs)

pub put_regexes-loop-r-preserved : goal.put_regexes-loop-r-preserved
put_regexes-loop-r-preserved t c =
    let f = facts_data c.args.facts.now in
    let rs = c.args.rs.now in
    let k = c.loop-r.r-index in
    let r = c.r-item.result in
    let x = c.in_ok-put_regex.field-0 in
    let rest = regex_list (each_regex_put f (regexes (map regex_data (drop (k + 1) rs)))) in
    let before = c.loop-r.invariant in
    let now = c.in_ok-put_regex.ensures in
    record {
      made =
          ap (λ xs. map regex_data xs ++ rest) c.in_ok-push.ensures.items
          ∙ ap (λ ys. ys ++ rest) (map_push regex_data c.loop-r.made.items x)
          ∙ put_more f (map regex_data c.loop-r.made.items) rs k r (regex_data x) c.loop-r-test.true c.r-item.is now.0
          ∙ before.made;
      fit = regex_fits_too f rs k r c.loop-r-test.true c.r-item.is now.1 ∙ before.fit;
    }

pub put_regexes-returns : goal.put_regexes-returns
put_regexes-returns t c =
    let f = facts_data c.args.facts.now in
    let left : drop c.loop-r.r-index c.args.rs.now ≡ [] = drop_all _ _ c.loop-r-test.false in
    let before = c.loop-r.invariant in
    let all = ap (λ rs. map regex_data c.loop-r.made.items ++ regex_list (each_regex_put f (regexes (map regex_data rs)))) (sym left) ∙ before.made in (
      ap regexes (sym (append-nil (map regex_data c.loop-r.made.items)) ∙ all) ∙ regexes_listed (each_regex_put f (regexes (map regex_data c.args.rs.now))),
      sym before.fit ∙ ap (λ rs. all_fit (brackets_of_each (each_regex_put f (regexes (map regex_data rs))))) left,
    )
