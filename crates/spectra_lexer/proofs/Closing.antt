-- A walk to the next */.
use Rattle.std.proofs.Common.{◌≡◌, ℕ, ◌+◌, ◌≤◌, ◌==◌, ◌&&◌, Bool, true, false, inl, inr, List, [], ◌∷◌, ◌++◌, length, refl, sym, ap, subst, ◌∙◌, append_assoc, arith, length-append}
use Rattle.std.specs.Prelude.{codes}
use Rattle.std.proofs.lemmas.Bool.{and_from, and_parts, both_ways, cases_eq, eq-eqb, eqb-true}
use Rattle.std.proofs.lemmas.List.{append-nil}
use Rattle.spectra_lexer.specs.declared.spot.Spot.{Spot}
use Rattle.spectra_lexer.specs.Pieces.{begins_with}
use Rattle.spectra_lexer.specs.Tokens.{past, behind}
use Rattle.spectra_lexer.specs.Progress.{Closes}
use Rattle.spectra_lexer.proofs.Signs.{same_front}
use Rattle.spectra_lexer.proofs.Walks.{past-append}

-- from a spot to another, with no */ that begins between
pub record IsOpen (at : Spot) (text : List ℕ) (here : Spot) (rest : List ℕ) : Type 0 where
  pub front : List ℕ
  pub parts : text ≡ front ++ rest
  pub none : (other more : List ℕ) → text ≡ other ++ (codes "*/" ++ more) → length front ≤ length other
  pub spot : here ≡ past front at

pub opened : (at : Spot) (text : List ℕ) → IsOpen at text at text
opened at text = record { front = []; parts = refl; none = λ other more e. omega arith; spot = refl }

-- whether */ stands at the front
abbrev closes : ℕ → List ℕ → Bool
closes c after = c == 42 && begins_with 47 after

stands_at_front : (c : ℕ) (after more : List ℕ) → c ∷ after ≡ codes "*/" ++ more → closes c after ≡ true
stands_at_front c after more e =
    let head : c ≡ 42 = cc in
    let tail : after ≡ 47 ∷ more = cc in
    and_from (c == 42) (begins_with 47 after) (eq-eqb c 42 head) (rw tail refl)

pub goes_on_open : (at : Spot) (text : List ℕ) (here : Spot) (rest : List ℕ) (c : ℕ) (after : List ℕ) → IsOpen at text here rest → rest ≡ c ∷ after → closes c after ≡ false → IsOpen at text (behind c here) after
goes_on_open at text here rest c after o e apart =
    record {
      front = o.front ++ c ∷ [];
      parts = o.parts ∙ (ap (λ (x : List ℕ). o.front ++ x) e ∙ sym (append_assoc o.front (c ∷ []) after));
      none = λ other more f.
          let sofar : length o.front ≤ length other = o.none other more f in
          elim (cases_eq (length o.front) (length other)) [
            | inl same ↦
                let fronts = same_front o.front other rest (codes "*/" ++ more) same (sym o.parts ∙ f) in
                absurd (both_ways (closes c after) apart (stands_at_front c after more (sym e ∙ fronts.1)))
            | inr differ ↦ grind (arith, length-append o.front (c ∷ []), sofar, differ)
          ];
      spot = ap (behind c) o.spot ∙ sym (past-append o.front (c ∷ []) at);
    }

pub closed_here : (at : Spot) (text : List ℕ) (here : Spot) (rest : List ℕ) (c d : ℕ) (after more : List ℕ) → IsOpen at text here rest → rest ≡ c ∷ after → closes c after ≡ true
    → after ≡ d ∷ more → Closes at text (behind d (behind c here)) more
closed_here at text here rest c d after more o e close f =
    let both = and_parts (c == 42) (begins_with 47 after) close in
    let star : c ≡ 42 = eqb-true c 42 both.0 in
    let slash : d ≡ 47 = eqb-true d 47 (subst (λ (x : List ℕ). begins_with 47 x ≡ true) f both.1) in
    let stars : rest ≡ codes "*/" ++ more = e ∙ (ap (λ (x : List ℕ). c ∷ x) (f ∙ ap (λ (x : ℕ). x ∷ more) slash) ∙ ap (λ (x : ℕ). x ∷ 47 ∷ more) star) in
    record {
      inside = o.front;
      text_is = o.parts ∙ ap (λ (x : List ℕ). o.front ++ x) stars;
      next_is = o.none;
      spot =
          let spots : behind d (behind c here) ≡ behind 47 (behind 42 here) = ap (λ (x : ℕ). behind x (behind c here)) slash ∙ ap (λ (x : ℕ). behind 47 (behind x here)) star in
          spots ∙ (ap (λ (x : Spot). behind 47 (behind 42 x)) o.spot ∙ sym (past-append o.front (codes "*/") at));
    }

pub never_closed : (at : Spot) (text : List ℕ) (here : Spot) (rest : List ℕ) → IsOpen at text here rest → rest ≡ [] → (other more : List ℕ) → text ≡ other ++ (codes "*/" ++ more) → ⊥
never_closed at text here rest o e other more f =
    let whole : text ≡ o.front = o.parts ∙ (ap (λ (x : List ℕ). o.front ++ x) e ∙ append-nil o.front) in
    let short : length o.front ≤ length other = o.none other more f in
    let size : length (other ++ (codes "*/" ++ more)) ≡ length other + (2 + length more) = omega (arith, length-append other (codes "*/" ++ more)) in
    omega (arith, ap length whole, ap length f)
