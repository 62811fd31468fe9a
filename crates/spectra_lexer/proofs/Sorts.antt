-- What the first characters open, read back.
use Rattle.std.proofs.Common.{◌≡◌, ℕ, ◌==◌, Bool, true, false, cond, eqb, List, [], ◌∷◌, ◌++◌, drop, refl, sym, ap, subst, ◌∙◌}
use Rattle.std.specs.Prelude.{codes}
use Rattle.std.proofs.lemmas.Bool.{and_parts, eqb-true}
use Rattle.spectra_lexer.specs.declared.opening.Opening.{Opening}
use Rattle.spectra_lexer.specs.declared.opening.Opening.TheVariants as opens
use Rattle.spectra_lexer.specs.Characters.{is_blank, is_digit, begins_name}
use Rattle.spectra_lexer.specs.Pieces.{begins_with, opens_line, opens_block, opening_of}

abbrev sort : Bool → Bool → Bool → Bool → Bool → Bool → Opening
sort blank name digit quote line block =
    cond blank opens.Blank (cond name opens.Name (cond digit opens.Number (cond quote opens.Quoted (cond line opens.LineComment (cond block opens.BlockComment opens.Sign)))))

-- what is known of the tests where a sort is answered
abbrev Asked : Opening → Bool → Bool → Bool → Bool → Type 0
Asked opens.Nothing name digit quote block = ⊥
Asked opens.Blank name digit quote block = Unit {0}
Asked opens.LineComment name digit quote block = Unit {0}
Asked opens.BlockComment name digit quote block = block ≡ true
Asked opens.Name name digit quote block = name ≡ true
Asked opens.Number name digit quote block = digit ≡ true
Asked opens.Quoted name digit quote block = quote ≡ true
Asked opens.Sign name digit quote block = Unit {0}

asked : (blank name digit quote line block : Bool) → Asked (sort blank name digit quote line block) name digit quote block
asked true name digit quote line block = tt
asked false true digit quote line block = refl
asked false false true quote line block = refl
asked false false false true line block = refl
asked false false false false true block = tt
asked false false false false false true = refl
asked false false false false false false = tt

asked_of : (c : ℕ) (cs : List ℕ) → Asked (opening_of (c ∷ cs)) (begins_name c) (is_digit c) (c == 34) (opens_block c cs)
asked_of c cs = asked (is_blank c) (begins_name c) (is_digit c) (c == 34) (opens_line c cs) (opens_block c cs)

module _ (c : ℕ) (cs : List ℕ) where
  told : (o : Opening) → opening_of (c ∷ cs) ≡ o → Asked o (begins_name c) (is_digit c) (c == 34) (opens_block c cs)
  told o e = subst (λ (x : Opening). Asked x (begins_name c) (is_digit c) (c == 34) (opens_block c cs)) e (asked_of c cs)

  pub opens_name : opening_of (c ∷ cs) ≡ opens.Name → begins_name c ≡ true
  opens_name e = told opens.Name e

  pub opens_number : opening_of (c ∷ cs) ≡ opens.Number → is_digit c ≡ true
  opens_number e = told opens.Number e

  pub opens_quoted : opening_of (c ∷ cs) ≡ opens.Quoted → c ≡ 34
  opens_quoted e = eqb-true c 34 (told opens.Quoted e)

  pub opens_something : opening_of (c ∷ cs) ≡ opens.Nothing → ⊥
  opens_something e = told opens.Nothing e

begins_is : (c : ℕ) (cs : List ℕ) → begins_with c cs ≡ true → cs ≡ c ∷ drop 1 cs
begins_is c [] h = absurd cc
begins_is c (d ∷ cs) h = ap (λ (x : ℕ). x ∷ cs) (eqb-true d c h)

pub block_begins : (text : List ℕ) → opening_of text ≡ opens.BlockComment → (inner : List ℕ) × (text ≡ codes "/*" ++ inner)
block_begins [] e = absurd cc
block_begins (c ∷ cs) e =
    let p = and_parts (eqb c 47) (begins_with 42 cs) (told c cs opens.BlockComment e) in
    let head : c ≡ 47 = eqb-true c 47 p.0 in
    (drop 1 cs, ap (λ (x : ℕ). x ∷ cs) head ∙ ap (λ (x : List ℕ). 47 ∷ x) (begins_is 42 cs p.1))

-- where a piece is opened, there are characters
pub some_of : (text : List ℕ) (o : Opening) → opening_of text ≡ o → (o ≡ opens.Nothing → ⊥) → text ≡ [] → ⊥
some_of text o e other empty = other (sym e ∙ ap opening_of empty)
