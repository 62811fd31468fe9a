-- The expressions of lines: what is left of them in loops, and whether they fit with everything put in.
use Rattle.std.proofs.Common.{◌≡◌, ℕ, ◌+◌, ◌<◌, Bool, true, ◌&&◌, List, [], ◌∷◌, ◌++◌, length, map, drop, get_or, refl, sym, ap, ◌∙◌, append_assoc}
use Rattle.std.specs.Borrow.{Bor}
use Rattle.std.proofs.lemmas.List.Folds.{list_all-append}
use Rattle.spectra_resolved.specs.declared.tree.Resolved.{Resolved}
use Rattle.spectra_resolved.specs.declared.tree.Regex.{Regex}
use Rattle.spectra_resolved.specs.declared.tree.Times.{Times}
use Rattle.spectra_resolved.specs.Resolved.{ResolvedTree, ResolvedRegex, Repetition, ResolvedRegexes}
use Rattle.spectra_resolved.specs.Chained.{regexes, repeated}
use Rattle.spectra_resolved.specs.Views.{resolved_data, regex_data}
use Rattle.spectra_judge.proofs.Lists.{mapped_left}
use Rattle.spectra_lines.specs.Contents.{brackets_in, brackets_of_each, Facts, regex_put, each_regex_put}
use Rattle.spectra_lines.specs.Limits.{fits, all_fit}
use Rattle.spectra_lines.specs.Views.{trees_data}

-- ---- regular expressions

-- repeats have no brackets of their own
pub brackets_repeated : (r : ResolvedRegex) (ts : List Times) → brackets_in (repeated r ts) ≡ brackets_in r
brackets_repeated r [] = refl
brackets_repeated r (t ∷ ts) = brackets_repeated (Repetition r t) ts

pub put_repeated : (f : Facts) (r : ResolvedRegex) (ts : List Times) → regex_put f (repeated r ts) ≡ repeated (regex_put f r) ts
put_repeated f r [] = refl
put_repeated f r (t ∷ ts) = put_repeated f (Repetition r t) ts

pub brackets_left : (old : List ResolvedTree) (rs : List Regex) (k : ℕ) (r : Regex) → k < length rs → r ≡ get_or rs k r
    → (old ++ brackets_in (regex_data r)) ++ brackets_of_each (regexes (map regex_data (drop (k + 1) rs))) ≡ old ++ brackets_of_each (regexes (map regex_data (drop k rs)))
brackets_left old rs k r below is =
    append_assoc old (brackets_in (regex_data r)) (brackets_of_each (regexes (map regex_data (drop (k + 1) rs))))
    ∙ sym (ap (λ xs. old ++ brackets_of_each (regexes xs)) (mapped_left regex_data rs k r below is))

-- ---- lists

-- several regular expressions as a list
abbrev pub regex_list : ResolvedRegexes → List ResolvedRegex
regex_list ResolvedRegexes.none = []
regex_list (ResolvedRegexes.one_more r rs) = r ∷ regex_list rs

pub regexes_listed : (rs : ResolvedRegexes) → regexes (regex_list rs) ≡ rs
regexes_listed ResolvedRegexes.none = refl
regexes_listed (ResolvedRegexes.one_more r rs) = ap (ResolvedRegexes.one_more r) (regexes_listed rs)

pub put_brackets_repeated : (f : Facts) (r : ResolvedRegex) (ts : List Times) → brackets_in (regex_put f (repeated r ts)) ≡ brackets_in (regex_put f r)
put_brackets_repeated f r ts = ap brackets_in (put_repeated f r ts) ∙ brackets_repeated (regex_put f r) ts

-- what is left of several expressions
pub trees_left : (ts : List (Bor Resolved)) (k : ℕ) (t : Bor Resolved) → k < length ts → t ≡ get_or ts k t → trees_data (drop k ts) ≡ resolved_data t.now ∷ trees_data (drop (k + 1) ts)
trees_left ts k t below is = mapped_left (λ (t : Bor Resolved). resolved_data t.now) ts k t below is

-- ---- everything put in

-- one more regular expression is put in
pub put_more : (f : Facts) (old : List ResolvedRegex) (rs : List Regex) (k : ℕ) (r : Regex) (made : ResolvedRegex) → k < length rs → r ≡ get_or rs k r → made ≡ regex_put f (regex_data r) →
    (old ++ made ∷ []) ++ regex_list (each_regex_put f (regexes (map regex_data (drop (k + 1) rs)))) ≡ old ++ regex_list (each_regex_put f (regexes (map regex_data (drop k rs))))
put_more f old rs k r made below is put =
    (λ i. (old ++ put i ∷ []) ++ regex_list (each_regex_put f (regexes (map regex_data (drop (k + 1) rs)))))
    ∙ append_assoc old (regex_put f (regex_data r) ∷ []) (regex_list (each_regex_put f (regexes (map regex_data (drop (k + 1) rs)))))
    ∙ ap (λ xs. old ++ regex_list (each_regex_put f (regexes xs))) (sym (mapped_left regex_data rs k r below is))

-- ---- what is put in fits

and_first : (a b : Bool) → a ≡ true → b ≡ (a && b)
and_first a b e = λ i. sym e i && b

-- what is left fits where the next one does, and what is left behind it
regexes_fit : (f : Facts) (rs : List Regex) (k : ℕ) (r : Regex) → k < length rs → r ≡ get_or rs k r →
    all_fit (brackets_of_each (each_regex_put f (regexes (map regex_data (drop k rs)))))
    ≡ (all_fit (brackets_in (regex_put f (regex_data r))) && all_fit (brackets_of_each (each_regex_put f (regexes (map regex_data (drop (k + 1) rs))))))
regexes_fit f rs k r below is =
    ap (λ xs. all_fit (brackets_of_each (each_regex_put f (regexes xs)))) (mapped_left regex_data rs k r below is)
    ∙ list_all-append fits (brackets_in (regex_put f (regex_data r))) (brackets_of_each (each_regex_put f (regexes (map regex_data (drop (k + 1) rs)))))

pub regex_fits_too : (f : Facts) (rs : List Regex) (k : ℕ) (r : Regex) → k < length rs → r ≡ get_or rs k r → all_fit (brackets_in (regex_put f (regex_data r))) ≡ true →
    all_fit (brackets_of_each (each_regex_put f (regexes (map regex_data (drop (k + 1) rs))))) ≡ all_fit (brackets_of_each (each_regex_put f (regexes (map regex_data (drop k rs)))))
regex_fits_too f rs k r below is fit =
    and_first (all_fit (brackets_in (regex_put f (regex_data r)))) (all_fit (brackets_of_each (each_regex_put f (regexes (map regex_data (drop (k + 1) rs)))))) fit
    ∙ sym (regexes_fit f rs k r below is)
