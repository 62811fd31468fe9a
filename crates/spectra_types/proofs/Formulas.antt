-- The formulas of lines, their sizes, and their hidden tables.
use Rattle.std.proofs.Common.{◌≡◌, ℕ, suc, ◌+◌, nat_le, Bool, true, List, [], ◌∷◌, ◌++◌, Some, option_map, length, map, flat_map, unwrap_or, slice_get, append_assoc, length-append, refl, sym, ap, ◌∙◌, arith}
use Rattle.std.specs.Prelude.{count_by}
use Rattle.std.specs.List.{list_all, sum_by}
use Rattle.std.proofs.lemmas.Bool.{and_parts, and_from}
use Rattle.std.proofs.lemmas.List.{map-append}
use Rattle.std.proofs.lemmas.List.Sums.{sum_by-cons}
use Rattle.spec_model.specs.Syntax as model
use Rattle.spec_model.specs.Syntax.{Formula, Content, Statement, TriggerData, Specification}
use Rattle.spec_model.specs.Sizes.{atoms_of, atoms_of_all, past_trees, formulas_of, distinct}
use Rattle.spec_model.specs.FormulaSizes.{nodes_in, levels_in}
use Rattle.spec_model.specs.WellTyped.{is_hidden, all_hidden}
use Rattle.spectra_resolved.specs.Resolved.{ResolvedTree, ResolvedRegex, ResolvedRegexes}
use Rattle.spectra_resolved.specs.Texts.{ResolvedBody, Initial, Safety, Recurring, Trigger, Pattern, ResolvedLine}
use Rattle.spectra_judge.specs.Known.{Known}
use Rattle.spectra_cases.specs.Formulas.{formula_of}
use Rattle.spectra_patterns.specs.Triggers.{regular_of, regulars_of, trigger_of}
use Rattle.spectra_lines.specs.Contents.{brackets_in, brackets_of_each, trees_in}
use Rattle.spectra_lines.specs.Limits.{fits, is_flat, nodes_of, are_flat}
use Rattle.spectra_lines.specs.Meanings.{triggers_in, content_of, statement_of, statements_from}
use Rattle.spectra_patterns.specs.Hidden.{alone}

-- ---- brackets

abbrev pub formulas : Known → List ResolvedTree → List Formula
formulas known ts = map (formula_of known 0) ts

module _ (known : Known) where
  mutual
    atoms_are : (r : ResolvedRegex) → atoms_of (regular_of known r) ≡ formulas known (brackets_in r)
    atoms_are (ResolvedRegex.Atom t) = refl
    atoms_are (ResolvedRegex.Sequence rs) = all_atoms rs
    atoms_are (ResolvedRegex.Choice rs) = all_atoms rs
    atoms_are (ResolvedRegex.Repetition r times) = atoms_are r

    all_atoms : (rs : ResolvedRegexes) → atoms_of_all (regulars_of known rs) ≡ formulas known (brackets_of_each rs)
    all_atoms ResolvedRegexes.none = refl
    all_atoms (ResolvedRegexes.one_more r rs) = (λ i. atoms_are r i ++ all_atoms rs i) ∙ sym (map-append (formula_of known 0) (brackets_in r) (brackets_of_each rs))

-- ---- lines among all lines

pub trigger_at : (before : List TriggerData) (t : TriggerData) (rest : List TriggerData) → slice_get (before ++ t ∷ rest) (length before) ≡ Some t
trigger_at [] t rest = refl
trigger_at (b ∷ before) t rest = trigger_at before t rest

module _ (known : Known) (s : Specification) where
  -- so many triggers stand before these lines
  abbrev pub AreBefore : List TriggerData → ℕ → List ResolvedLine → Type 0
  AreBefore before n ls = (s.triggers ≡ before ++ flat_map (λ (l : ResolvedLine). triggers_in known l.body) ls) × (n ≡ length before)

  pub next_before : (before : List TriggerData) (n : ℕ) (l : ResolvedLine) (ls : List ResolvedLine) → AreBefore before n (l ∷ ls) → AreBefore (before ++ triggers_in known l.body) (n + length (triggers_in known l.body)) ls
  next_before before n l ls at =
      (at.0 ∙ sym (append_assoc before (triggers_in known l.body) _), (let long = length-append before (triggers_in known l.body) in let is = at.1 in omega (arith, long, is)))

  pub line_formulas : (before : List TriggerData) (n : ℕ) (body : ResolvedBody) (rest : List TriggerData) → s.triggers ≡ before ++ (triggers_in known body ++ rest) → n ≡ length before →
      formulas_of s (content_of known n body) ≡ formulas known (trees_in body)
  line_formulas before n (Initial t) rest all is = refl
  line_formulas before n (Safety t) rest all is = refl
  line_formulas before n (Recurring t) rest all is = refl
  line_formulas before n (Pattern at used arguments) rest all is = refl
  line_formulas before n (Trigger at cause effect) rest all is =
      let there : slice_get s.triggers n ≡ Some (trigger_of known cause effect) = (λ i. slice_get (all i) (is i)) ∙ trigger_at before (trigger_of known cause effect) rest in
      (λ i. unwrap_or (option_map (λ (t : TriggerData). atoms_of t.cause ++ atoms_of t.effect) (there i)) [])
      ∙ (λ i. atoms_are known cause i ++ atoms_are known effect i)
      ∙ sym (map-append (formula_of known 0) (brackets_in cause) (brackets_in effect))

  -- what holds of each line's formulas holds of all statements
  pub each_line : (test : List Formula → Bool) (number n : ℕ) (before : List TriggerData) (ls : List ResolvedLine) → AreBefore before n ls → list_all (λ (l : ResolvedLine). test (formulas known (trees_in l.body))) ls ≡ true →
      list_all (λ (l : Statement). test (formulas_of s l.content)) (statements_from known number n ls) ≡ true
  each_line test number n before [] at all = refl
  each_line test number n before (l ∷ ls) at all =
      let parts = and_parts (test (formulas known (trees_in l.body))) _ all in
      and_from _ _ (ap test (line_formulas before n l.body _ at.0 at.1) ∙ parts.0)
      (each_line test (suc number) (n + length (triggers_in known l.body)) (before ++ triggers_in known l.body) ls (next_before before n l ls at) parts.1)

  abbrev nodes_together : List Formula → ℕ
  nodes_together fs = sum_by nodes_in fs

  pub all_line_nodes : (number n : ℕ) (before : List TriggerData) (ls : List ResolvedLine) → AreBefore before n ls →
      sum_by (λ (l : Statement). nodes_together (formulas_of s l.content)) (statements_from known number n ls) ≡ sum_by (λ (l : ResolvedLine). nodes_together (formulas known (trees_in l.body))) ls
  all_line_nodes number n before [] at = refl
  all_line_nodes number n before (l ∷ ls) at =
      let here = ap nodes_together (line_formulas before n l.body _ at.0 at.1) in
      let rest = all_line_nodes (suc number) (n + length (triggers_in known l.body)) (before ++ triggers_in known l.body) ls (next_before before n l ls at) in
      let a = sum_by-cons (λ (l : Statement). nodes_together (formulas_of s l.content)) (statement_of known number n l) (statements_from known (suc number) (n + length (triggers_in known l.body)) ls) in
      let b = sum_by-cons (λ (l : ResolvedLine). nodes_together (formulas known (trees_in l.body))) l ls in omega (arith, here, rest, a, b)

-- ---- sizes

pub nodes_are : (known : Known) (params : ℕ) (ts : List ResolvedTree) → sum_by nodes_in (map (formula_of known params) ts) ≡ nodes_of known params ts
nodes_are known params [] = refl
nodes_are known params (t ∷ ts) =
    let rest = nodes_are known params ts in let a = sum_by-cons nodes_in (formula_of known params t) (map (formula_of known params) ts) in omega (arith, rest, a)

pub levels_are : (known : Known) (params : ℕ) (ts : List ResolvedTree) → are_flat known params ts ≡ true → list_all (λ e. nat_le (levels_in e) 512) (map (formula_of known params) ts) ≡ true
levels_are known params [] flat = refl
levels_are known params (t ∷ ts) flat =
    let parts = and_parts (is_flat known params t) (are_flat known params ts) flat in
    let one = and_parts (fits t) (nat_le (levels_in (formula_of known params t)) 512) parts.0 in and_from _ _ one.1 (levels_are known params ts parts.1)

-- ---- hidden tables

module _ (s : Specification) where
  alone_formulas : (c : Content) → formulas_of s c ≡ formulas_of (alone s.triggers s.lines) c
  alone_formulas (model.Initial e) = refl
  alone_formulas (model.Safety e) = refl
  alone_formulas (model.Recurring e) = refl
  alone_formulas (model.PatternUse p args) = refl
  alone_formulas (model.TriggerUse t) = refl

  alone_past : (ls : List Statement) → flat_map (λ (l : Statement). flat_map past_trees (formulas_of s l.content)) ls ≡ flat_map (λ (l : Statement). flat_map past_trees (formulas_of (alone s.triggers s.lines) l.content)) ls
  alone_past [] = refl
  alone_past (l ∷ ls) = λ i. flat_map past_trees (alone_formulas l.content i) ++ alone_past ls i

  pub hidden_alone : all_hidden s ≡ all_hidden (alone s.triggers s.lines)
  hidden_alone = λ i. length (distinct (alone_past s.lines i)) + count_by (λ (l : Statement). is_hidden l.content) s.lines
