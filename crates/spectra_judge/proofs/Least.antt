-- The fault that comes first is the least of all.
use Rattle.std.proofs.Common.{◌≡◌, ℕ, zero, suc, ◌<◌, Bool, true, false, if◌then◌else◌, List, [], ◌∷◌, length, get_or, Some, refl, sym, subst, ◌∙◌, arith}
use Rattle.std.proofs.lemmas.Bool.{false≢true}
use Rattle.std.proofs.lemmas.Bool.Decides.{nat_tests}
use Rattle.std.specs.List.{All, Contains}
use Rattle.std.proofs.lemmas.List.Elements.{All-nil, All-cons}
use Rattle.spectra_resolved.specs.declared.findings.Finding.{Finding}
use Rattle.spectra_resolved.specs.Findings.{precedes, with_faults}
use Rattle.spectra_resolved.proofs.First.{lex, precedes-trans}
use Rattle.spectra_judge.specs.Laws.{IsFirst, FirstIsLeast}

lex-not : (x y z : ℕ) (p q r : Bool) → (p ≡ false → q ≡ false → r ≡ false) → lex x y p ≡ false → lex y z q ≡ false → lex x z r ≡ false
lex-not x y z p q r inner a b = grind (arith, nat_tests)

lex-self : (x : ℕ) (p : Bool) → p ≡ false → lex x x p ≡ false
lex-self x p is = grind (arith, nat_tests)

not-precedes : (f g h : Finding) → precedes f g ≡ false → precedes g h ≡ false → precedes f h ≡ false
not-precedes f g h =
    lex-not f.at.file g.at.file h.at.file _ _ _
    (lex-not f.at.line g.at.line h.at.line _ _ _
    (lex-not f.at.column g.at.column h.at.column _ _ _ (λ a b. grind (arith, nat_tests))))

not-itself : (f : Finding) → precedes f f ≡ false
not-itself f = lex-self f.at.file _ (lex-self f.at.line _ (lex-self f.at.column _ (grind (arith, nat_tests))))

-- the first of one fault and several more
record IsLeast (g : Finding) (fs : List Finding) (h : Finding) : Type 0 where
  pub is : with_faults (Some g) fs ≡ Some h
  pub among : Contains (g ∷ fs) h
  pub first : precedes g h ≡ false
  pub least : All (λ f. precedes f h ≡ false) fs

here : (f : Finding) (fs : List Finding) → Contains (f ∷ fs) f
here f fs = (0, omega arith, refl)

later : (f h : Finding) (fs : List Finding) → Contains fs h → Contains (f ∷ fs) h
later f h fs in' = let below = in'.1 in (suc in'.0, omega arith, in'.2)

-- a fault behind the first two stays where one of the two is left out
spread : (g f h : Finding) (fs : List Finding) (b : Bool) → Contains ((if b then f else g) ∷ fs) h → Contains (g ∷ f ∷ fs) h
spread g f h fs true in' = later g h (f ∷ fs) in'
spread g f h fs false in' = by in'.0 in'.1 in'.2
  where
    by : (k : ℕ) → k < length (g ∷ fs) → get_or (g ∷ fs) k h ≡ h → Contains (g ∷ f ∷ fs) h
    by zero below is = (0, omega arith, is)
    by (suc k) below is = (suc (suc k), omega arith, is)

least : (g : Finding) (fs : List Finding) → (h : Finding) × IsLeast g fs h
least g [] = (g, record { is = refl; among = here g []; first = not-itself g; least = All-nil (λ f. precedes f g ≡ false) })
least g (f ∷ fs) = by (precedes f g) refl (least (if precedes f g then f else g) fs)
  where
    by : (b : Bool) → precedes f g ≡ b → (h : Finding) × IsLeast (if precedes f g then f else g) fs h → (h : Finding) × IsLeast g (f ∷ fs) h
    by b is found =
        let h = found.0 in
        let all = found.1 in
        let ends = both b is h (subst (λ c. precedes (if c then f else g) h ≡ false) is all.first) in (
          h,
          record {
            is = all.is;
            among = spread g f h fs (precedes f g) all.among;
            first = ends.0;
            least = All-cons (λ e. precedes e h ≡ false) f fs ends.1 all.least;
          },
        )
      where
        both : (b : Bool) → precedes f g ≡ b → (h : Finding) → precedes (if b then f else g) h ≡ false → (precedes g h ≡ false) × (precedes f h ≡ false)
        both true is h first = (not-second is h first (precedes g h) refl, first)
          where
            not-second : precedes f g ≡ true → (h : Finding) → precedes f h ≡ false → (c : Bool) → precedes g h ≡ c → precedes g h ≡ false
            not-second is h first true e = absurd (false≢true (sym first ∙ precedes-trans f g h is e))
            not-second is h first false e = e
        both false is h first = (first, not-precedes f g h is first)

pub first_is_least : FirstIsLeast
first_is_least [] = refl
first_is_least (g ∷ fs) =
    let found = least g fs in
    let all = found.1 in
    subst (IsFirst (g ∷ fs)) (sym all.is) (all.among, All-cons (λ e. precedes e found.0 ≡ false) g fs all.first all.least)
