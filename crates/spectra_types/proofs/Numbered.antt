-- Lines are numbered in text order: their numbers rise, within the limit.
use Rattle.std.proofs.Common.{◌≡◌, ℕ, suc, ◌+◌, ◌≤◌, nat_le, true, List, [], ◌∷◌, length, refl, arith}
use Rattle.std.specs.List.{list_all}
use Rattle.std.proofs.lemmas.Bool.{and_from, le-leb}
use Rattle.spec_model.specs.Syntax.{Statement}
use Rattle.spec_model.specs.WellTyped.{are_rising}
use Rattle.spectra_resolved.specs.Texts.{ResolvedLine}
use Rattle.spectra_judge.specs.Known.{Known}
use Rattle.spectra_lines.specs.Meanings.{triggers_in, statements_from}

pub rising : (known : Known) (least number n : ℕ) (ls : List ResolvedLine) → least ≤ number → number + length ls ≤ 4097 → are_rising least (statements_from known number n ls) ≡ true
rising known least number n [] from few = refl
rising known least number n (l ∷ ls) from few =
    and_from _ _ (le-leb least number from) (and_from _ _ (le-leb number 4097 (omega (arith, few))) (rising known (suc number) (suc number) (n + length (triggers_in known l.body)) ls (omega arith) (omega (arith, few))))

-- without the one that a forced guarantee has room for
pub numbers_within : (known : Known) (number n : ℕ) (ls : List ResolvedLine) → number + length ls ≤ 4097 → list_all (λ (s : Statement). nat_le s.number 4096) (statements_from known number n ls) ≡ true
numbers_within known number n [] few = refl
numbers_within known number n (l ∷ ls) few = and_from _ _ (le-leb number 4096 (omega (arith, few))) (numbers_within known (suc number) (n + length (triggers_in known l.body)) ls (omega (arith, few)))

pub as_many : (known : Known) (number n : ℕ) (ls : List ResolvedLine) → length (statements_from known number n ls) ≡ length ls
as_many known number n [] = refl
as_many known number n (l ∷ ls) = let rest = as_many known (suc number) (n + length (triggers_in known l.body)) ls in omega (arith, rest)
