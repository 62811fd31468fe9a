-- Names in the bodies of quantifiers.
use Rattle.std.proofs.Common.{Bor, ◌≡◌, ℕ, if◌then◌else◌, List, [], ◌∷◌, ◌++◌, map, Option, refl, ◌∙◌, bytes_eq}
use Rattle.spectra_resolved.specs.declared.table.Named.{Named}
use Rattle.spectra_resolved.specs.declared.table.Table.{Table}
use Rattle.spectra_resolved.specs.declared.spot.Mention.{Mention}
use Rattle.spectra_resolved.specs.declared.look.Look.{Look}
use Rattle.spectra_resolved.specs.Spots.{MentionData}
use Rattle.spectra_resolved.specs.MentionViews.{mention_data}
use Rattle.spectra_resolved.specs.Looks.{Looking, looked_up, bound_at, bound_in, through_quantifiers}
use Rattle.spectra_resolved.specs.LookViews.{scope_data, around_data, look_data}

-- one more quantifier around, the innermost one
pub through_more : (qs : List MentionData) (q : MentionData) (text : List ℕ) (named : Option Named)
    → through_quantifiers (qs ++ q ∷ []) text named ≡ (if bytes_eq text q.text then bound_at q.at else through_quantifiers qs text named)
through_more [] q text named = refl
through_more (p ∷ qs) q text named = through_more qs q text (if bytes_eq text p.text then bound_at p.at else named)

-- what names stand for in its body
pub look_inside : (qs : List MentionData) (q : MentionData) (look : Looking)
    → ◌≡◌ {A = Looking} (λ text. through_quantifiers (qs ++ q ∷ []) text (look text)) (bound_in (λ text. through_quantifiers qs text (look text)) q.text q.at)
look_inside qs q look = λ i text. through_more qs q text (look text) i

-- by a look-up of the program that has its variable besides those of another one
pub look_within : (look : Look) (around : Option (Bor Table)) (quantified : Bor (List Mention)) (q : MentionData)
    → around_data around ≡ around_data look.around → map mention_data quantified.now ≡ map mention_data look.quantified.now ++ q ∷ []
    → ◌≡◌ {A = Looking} (λ text. through_quantifiers (map mention_data quantified.now) text (looked_up look.sight (scope_data look.scope.now) (around_data around) text))
    (bound_in (look_data look) q.text q.at)
look_within look around quantified q same more =
    (λ i text. through_quantifiers (more i) text (looked_up look.sight (scope_data look.scope.now) (same i) text))
    ∙ look_inside (map mention_data look.quantified.now) q (looked_up look.sight (scope_data look.scope.now) (around_data look.around))
