-- In a text without faults everything is put in in the expressions of lines.
use Rattle.std.proofs.Common.{◌≡◌, ℕ, zero, suc, Bool, true, false, not, List, [], ◌∷◌, Some, length, map, get_or, slice_get, refl, sym, ap, subst, ◌∙◌, arith}
use Rattle.std.proofs.lemmas.List.{length-map}
use Rattle.std.specs.List.{list_all}
use Rattle.std.proofs.lemmas.Bool.{false≢true, and_parts}
use Rattle.std.proofs.lemmas.Option.{same_Some}
use Rattle.spectra_resolved.specs.declared.stand.Stand.{Stand}
use Rattle.spectra_resolved.specs.Resolved.{ResolvedTree}
use Rattle.spectra_resolved.specs.Texts.{ResolvedDefinition, ResolvedText}
use Rattle.spectra_judge.specs.Judged.{faults_of}
use Rattle.spectra_judge.specs.PutIn.{is_put_in}
use Rattle.spectra_holes.specs.Holed.{holed}
use Rattle.spectra_uses.specs.Uses.{uses_in, all_uses}
use Rattle.spectra_uses.specs.Orders.{IsOrderOf}
use Rattle.spectra_ranks.specs.Laws.{NoneGoesRound}
use Rattle.spectra_ranks.proofs.Ordered.{ordered}
use Rattle.spectra_elaboration.specs.Putting.{put_in}
use Rattle.spectra_elaboration.specs.Written.{AreWritten}
use Rattle.spectra_elaboration.specs.Laws.{HasMeantParameters}
use Rattle.spectra_notes.specs.TypeKinds.{kind_in}
use Rattle.spectra_notes.specs.Notes.{noted, known_in_line}
use Rattle.spectra_bodies.specs.PutIn.{bodies}
use Rattle.spectra_bodies.specs.Faults.{declared_faults}
use Rattle.spectra_bodies.specs.Laws.{NoneIsDoubled}
use Rattle.spectra_bodies.proofs.Meaning.{none_goes_round}
use Rattle.spectra_bodies.proofs.ParametersMeant.{kinds_of, counts_of}
use Rattle.spectra_bodies.proofs.AsWritten.{lines_are_put_in}
use Rattle.spectra_patterns.specs.SoundPatterns.{is_type_kind}
use Rattle.spectra_sound.specs.Sound.{sizes_of, is_type, is_part, is_sound_tree, is_sound_definition, IsSound}
use Rattle.spectra_types.proofs.Domains.{not_anything, params_meant}

-- ---- elements of lists

all_at : {X : Type 0} (p : X → Bool) (xs : List X) (k : ℕ) (x : X) → list_all p xs ≡ true → slice_get xs k ≡ Some x → p x ≡ true
all_at p [] k x all at = absurd (cc)
all_at p (y ∷ xs) zero x all at = ap p (sym (same_Some y x at)) ∙ (and_parts (p y) (list_all p xs) all).0
all_at p (y ∷ xs) (suc k) x all at = all_at p xs k x (and_parts (p y) (list_all p xs) all).1 at

pub body_at : (ds : List ResolvedDefinition) (k : ℕ) (body : ResolvedTree) → slice_get (map (λ (d : ResolvedDefinition). d.body) ds) k ≡ Some body → (d : ResolvedDefinition) × (slice_get ds k ≡ Some d) × (d.body ≡ body)
body_at [] k body at = absurd (cc)
body_at (d ∷ ds) zero body at = (d, refl, same_Some d.body body at)
body_at (d ∷ ds) (suc k) body at = body_at ds k body at

arity_at : (ds : List ResolvedDefinition) (k : ℕ) (d : ResolvedDefinition) → slice_get ds k ≡ Some d → get_or (map (λ (d : ResolvedDefinition). length d.params) ds) k 0 ≡ length d.params
arity_at [] k d at = absurd (cc)
arity_at (e ∷ ds) zero d at = ap (λ (d : ResolvedDefinition). length d.params) (same_Some e d at)
arity_at (e ∷ ds) (suc k) d at = arity_at ds k d at

-- ---- bodies

module _ (text : ResolvedText) (sound : IsSound text) (none : declared_faults text ≡ []) where
  abbrev defs : List ResolvedDefinition
  defs = text.definitions

  abbrev arities : List ℕ
  arities = (sizes_of text).arities

  count : length (all_uses defs) ≡ length defs
  count = length-map defs (λ (d : ResolvedDefinition). uses_in d.body)

  pub free : NoneGoesRound (all_uses defs)
  free k below = none_goes_round text none k (let same = count in omega (arith, same, below))

  pub order : (order : List ℕ) × IsOrderOf (all_uses defs) (length (all_uses defs)) order
  order = ordered (all_uses defs) free

  pub order_is : IsOrderOf (all_uses defs) (length defs) order.0
  order_is = subst (λ n. IsOrderOf (all_uses defs) n order.0) count order.1

  pub single : NoneIsDoubled text
  single k d at = by d.doubled (and_parts (not d.doubled) _ (all_at (is_sound_definition (sizes_of text)) defs k d sound.definitions at)).0
    where
      by : (b : Bool) → not b ≡ true → b ≡ false
      by false e = refl
      by true e = absurd (false≢true e)

  pub meant : HasMeantParameters arities (known_in_line (noted text))
  meant =
      record {
        counts = counts_of text defs;
        kinds = kinds_of text defs (λ k d there i t there'.
            let all = all_at (λ (d : ResolvedDefinition). list_all (λ t. is_type_kind (length text.names) (kind_in text t)) d.params) defs k d (params_meant text sound none) there in
            not_anything (length text.names) (kind_in text t) (all_at (λ t. is_type_kind (length text.names) (kind_in text t)) d.params i t all there'));
      }

  written_at : (k : ℕ) (d : ResolvedDefinition) → slice_get defs k ≡ Some d → is_sound_tree (sizes_of text) (length d.params) d.body ≡ true
  written_at k d at =
      let own = and_parts (not d.doubled) _ (all_at (is_sound_definition (sizes_of text)) defs k d sound.definitions at) in
      (and_parts (list_all (is_type (sizes_of text)) d.params) (is_sound_tree (sizes_of text) (length d.params) d.body) own.1).1

  pub all_written : AreWritten arities (is_part (sizes_of text)) (map (λ (d : ResolvedDefinition). d.body) defs)
  all_written =
      record {
        size = length-map defs (λ (d : ResolvedDefinition). length d.params) ∙ sym (length-map defs (λ (d : ResolvedDefinition). d.body));
        each = λ k body at.
            let found = body_at defs k body at in
            subst (λ t. is_sound_tree (sizes_of text) (get_or arities k 0) t ≡ true) found.2
            (ap (λ n. is_sound_tree (sizes_of text) n found.0.body) (arity_at defs k found.0 found.1) ∙ written_at k found.0 found.1);
      }

  pub everything_put : (stand : Stand) (t : ResolvedTree) → is_sound_tree (sizes_of text) 0 t ≡ true → faults_of (known_in_line (noted text)) stand t ≡ [] →
      is_put_in (is_part (sizes_of text)) (put_in (bodies text) (holed (known_in_line (noted text)) stand t)) ≡ true
  everything_put stand t written faultless = lines_are_put_in text arities (is_part (sizes_of text)) order.0 (λ n. refl) order_is single meant all_written none stand t written faultless
