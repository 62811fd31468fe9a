use Rattle.std.proofs.Common.{◌≡◌, Bool, true, false, ◌&&◌, ◌||◌, refl, ap, inl, inr}
use Rattle.std.proofs.lemmas.Bool.{and_parts, and_from, or_cases, false≢true}
use Rattle.spec_model.specs.Sets.{all_states}
use Rattle.regions.proofs.laws.regions_form_a_lattice.Goals as goal

and_inside : (b c : Bool) → (b ≡ true → c ≡ true) → (b && c) ≡ b
and_inside true c inside = inside refl
and_inside false c inside = refl

or_left : (b c : Bool) → b ≡ true → (b || c) ≡ true
or_left b c e = ap (λ d. d || c) e

or_right : (b c : Bool) → c ≡ true → (b || c) ≡ true
or_right true c e = refl
or_right false c e = e

pub returns : goal.returns
returns c = λ g.
    record {
      none_least = λ a s e. absurd (false≢true e);
      all_greatest = λ a inside i s. and_inside (a s) (all_states g s) (inside s) i;
      common = λ a b c. (
        λ part. (λ s e. (and_parts (a s) (b s) (part s e)).0, λ s e. (and_parts (a s) (b s) (part s e)).1),
        λ parts s e. and_from (a s) (b s) (parts.0 s e) (parts.1 s e),
      );
      joined = λ a b c. (
        λ part. (λ s e. part s (or_left (a s) (b s) e), λ s e. part s (or_right (a s) (b s) e)),
        λ parts s e. elim (or_cases (a s) (b s) e) [ inl l ↦ parts.0 s l | inr r ↦ parts.1 s r ],
      );
    }
