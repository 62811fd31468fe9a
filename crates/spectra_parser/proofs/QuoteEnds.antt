-- A text without a quote at one of its ends.
use Rattle.std.proofs.Common.{◌≡◌, ℕ, Bool, true, false, cond, nat_eq, List, [], ◌∷◌, ◌++◌, reverse, refl, sym, ap, ◌∙◌, arith}
use Rattle.std.proofs.lemmas.Bool.Decides.{nat_tests}
use Rattle.std.proofs.lemmas.List.{reverse-append, reverse-reverse}
use Rattle.spectra_parser.specs.Items.{without_quote}

-- a quote at the front
pub first_quote : (text rest : List ℕ) → text ≡ 34 ∷ rest → rest ≡ without_quote text
unfolding without_quote
first_quote text rest e = rw e refl

-- no quote at the front
other_first : (b : Bool) (c : ℕ) (cs : List ℕ) → nat_eq c 34 ≡ b → ((rest : List ℕ) → c ∷ cs ≡ 34 ∷ rest → ⊥) → c ∷ cs ≡ cond b cs (c ∷ cs)
other_first true c cs is none = absurd (none cs (ap (λ (x : ℕ). x ∷ cs) (grind (arith, nat_tests))))
other_first false c cs is none = refl

pub no_first_quote : (text : List ℕ) → ((rest : List ℕ) → text ≡ 34 ∷ rest → ⊥) → text ≡ without_quote text
unfolding without_quote
no_first_quote [] none = refl
no_first_quote (c ∷ cs) none = other_first (nat_eq c 34) c cs refl none

-- a quote at the end
turned : (text rest : List ℕ) → text ≡ rest ++ 34 ∷ [] → reverse text ≡ 34 ∷ reverse rest
turned text rest e = ap reverse e ∙ reverse-append rest (34 ∷ [])

pub last_quote : (text rest : List ℕ) → text ≡ rest ++ 34 ∷ [] → rest ≡ reverse (without_quote (reverse text))
last_quote text rest e = sym (reverse-reverse rest) ∙ ap reverse (first_quote (reverse text) (reverse rest) (turned text rest e))

-- no quote at the end
turned_back : (text rest : List ℕ) → reverse text ≡ 34 ∷ rest → text ≡ reverse rest ++ 34 ∷ []
turned_back text rest e = sym (reverse-reverse text) ∙ ap reverse e ∙ reverse-append (34 ∷ []) rest

pub no_last_quote : (text : List ℕ) → ((front : List ℕ) → text ≡ front ++ 34 ∷ [] → ⊥) → text ≡ reverse (without_quote (reverse text))
no_last_quote text none = sym (reverse-reverse text) ∙ ap reverse (no_first_quote (reverse text) (λ rest e. none (reverse rest) (turned_back text rest e)))
