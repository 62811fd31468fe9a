-- Statements of lines: one more, and how many there are.
use Rattle.std.proofs.Common.{◌≡◌, ℕ, suc, ◌+◌, List, [], ◌∷◌, ◌++◌, length, refl, sym, ap, ◌∙◌, append_assoc}
use Rattle.spec_model.specs.Syntax.{Statement, TriggerData}
use Rattle.spectra_resolved.specs.Texts.{ResolvedLine}
use Rattle.spectra_judge.specs.Known.{Known}
use Rattle.spectra_lines.specs.Meanings.{triggers_in, statement_of, statements_from, triggers}

module _ (known : Known) where
  pub length_statements : (number n : ℕ) (ls : List ResolvedLine) → length (statements_from known number n ls) ≡ length ls
  length_statements number n [] = refl
  length_statements number n (l ∷ ls) = ap suc (length_statements (suc number) (n + length (triggers_in known l.body)) ls)

  -- so many statements and triggers are there with one more line
  pub statement_more : (l : ResolvedLine) (left rest : List ResolvedLine) (old new all : List Statement) (n m k j : ℕ) → left ≡ l ∷ rest → new ≡ old ++ statement_of known (suc n) m l ∷ [] →
      k ≡ suc n → j ≡ m + length (triggers_in known l.body) → old ++ statements_from known (suc n) m left ≡ all → new ++ statements_from known (suc k) j rest ≡ all
  statement_more l left rest old new all n m k j is put next more before =
      (λ i. put i ++ statements_from known (suc (next i)) (more i) rest)
      ∙ append_assoc old (statement_of known (suc n) m l ∷ []) (statements_from known (suc (suc n)) (m + length (triggers_in known l.body)) rest)
      ∙ ap (λ ls. old ++ statements_from known (suc n) m ls) (sym is)
      ∙ before

  pub triggers_more : (l : ResolvedLine) (left rest : List ResolvedLine) (old new all : List TriggerData) → left ≡ l ∷ rest → new ≡ old ++ triggers_in known l.body → old ++ triggers known left ≡ all
      → new ++ triggers known rest ≡ all
  triggers_more l left rest old new all is put before =
      ap (λ ts. ts ++ triggers known rest) put ∙ append_assoc old (triggers_in known l.body) (triggers known rest) ∙ ap (λ ls. old ++ triggers known ls) (sym is) ∙ before
