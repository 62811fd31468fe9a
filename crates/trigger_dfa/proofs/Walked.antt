-- The side of an expression, from the positions that were laid.
use Rattle.std.proofs.Common.{◌≡◌, ℕ, zero, suc, ◌+◌, ◌-◌, ◌<◌, ◌≤◌, bit_and, List, length, map, get_or, replicate, vec_len, Vec, refl, sym, ◌∙◌, ap, subst, arith}
use Rattle.std.proofs.lemmas.List.{length-replicate}
use Rattle.spec_model.specs.Syntax.{Formula}
use Rattle.spec_model.specs.Games.{letter_of}
use Rattle.spec_model.specs.TriggerStates.{Written, brackets, followers, has}
use Rattle.trigger_dfa.specs.declared.side.Side.{Side}
use Rattle.trigger_dfa.specs.declared.side.Part.{Part}
use Rattle.trigger_dfa.specs.declared.walk.Walk.{Walk}
use Rattle.trigger_dfa.specs.Words.{in_word, tells, masks_of}
use Rattle.trigger_dfa.specs.Sides.{is_atom, IsPart, AddsPart, Lays}
use Rattle.trigger_dfa.specs.Walks.{Walks}
use Rattle.trigger_dfa.proofs.WordLemmas.{zero_word}
use Rattle.trigger_dfa.proofs.Parts.{or_both}
use Rattle.trigger_dfa.proofs.MaskWords.{joined_members, last_word, words_from}

zeros_at : (n i : ℕ) → get_or {A = ℕ} (replicate n 0) i 0 ≡ 0
zeros_at zero i = refl
zeros_at (suc n) zero = refl
zeros_at (suc n) (suc i) = zeros_at n i

module _ (atoms : List Formula) (w : Written) (end : ℕ) (old new : Side) (part : Part) (walk : Walk)
    (few : end ≤ 64) (sized : end ≡ length (brackets w)) (no_follow : old.follow.items ≡ replicate 64 0) (no_meant : old.meant.items ≡ replicate (length atoms) 0)
    (lays : Lays atoms w end old new part)
    (is_follow : walk.follow ≡ new.follow) (is_masks : walk.masks.items ≡ masks_of new.meant.items) (is_firsts : walk.firsts ≡ part.firsts) (is_lasts : walk.lasts ≡ part.lasts) where
  at_zero : end - length (brackets w) ≡ 0
  at_zero = omega (arith, sized)

  is_part : IsPart w 0 part
  is_part = subst (λ (n : ℕ). IsPart w n part) at_zero lays.part

  is_side : AddsPart atoms w 0 old new
  is_side = subst (λ (n : ℕ). AddsPart atoms w n old new) at_zero lays.side

  follow_at : (i p : ℕ) → in_word (get_or new.follow.items i 0) p ≡ has (followers 0 w i) p
  follow_at i p =
      is_side.follow i p
      ∙ or_both {b = has (followers 0 w i) p} (ap (λ (l : List ℕ). in_word (get_or l i 0) p) no_follow ∙ ap (λ (n : ℕ). in_word n p) (zeros_at 64 i) ∙ zero_word p) refl

  long : vec_len new.follow ≡ 64
  long = is_side.same_positions ∙ old.follow.ok.0 ∙ ap length no_follow ∙ length-replicate {A = ℕ} 64 0

  meant_long : length new.meant.items ≡ length atoms
  meant_long = sym new.meant.ok.0 ∙ is_side.same_atoms ∙ old.meant.ok.0 ∙ ap length no_meant ∙ length-replicate {A = ℕ} (length atoms) 0

  meant_at : (k p : ℕ) → k < length atoms → in_word (get_or new.meant.items k 0) p ≡ tells (is_atom atoms k) 0 (brackets w) p
  meant_at k p below =
      is_side.meant k p (omega (arith, below, meant_long, new.meant.ok.0, is_side.same_atoms))
      ∙ or_both {b = tells (is_atom atoms k) 0 (brackets w) p} (ap (λ (l : List ℕ). in_word (get_or l k 0) p) no_meant ∙ ap (λ (n : ℕ). in_word n p) (zeros_at (length atoms) k) ∙ zero_word p) refl

  pub walks_from : Walks atoms w walk
  walks_from =
      record {
        firsts = λ p. ap (λ (n : ℕ). in_word n p) is_firsts ∙ is_part.firsts p;
        lasts = λ set. last_word w set walk.lasts (λ p. ap (λ (n : ℕ). in_word n p) is_lasts ∙ is_part.lasts p);
        follow = λ set size p. joined_members (followers 0 w) 0 walk.follow.items set (letter_of set) p
            (λ i. ap (in_word (letter_of set)) (let z : 0 + i ≡ i = omega arith in z))
            (λ i below. ap (λ (v : Vec ℕ _). in_word (get_or v.items i 0) p) is_follow ∙ follow_at i p ∙ ap (λ (m : ℕ). has (followers 0 w m) p) (let z : i ≡ 0 + i = omega arith in z))
            (let l = ap (λ (v : Vec ℕ _). vec_len v) is_follow ∙ long in omega (arith, size, sized, few, l, walk.follow.ok.0));
        masks = λ ps word is. ap (map (bit_and word)) is_masks ∙ words_from atoms w new.meant.items meant_long meant_at ps word is;
        few = let l = ap (λ (v : Vec ℕ _). vec_len v) is_follow ∙ long in omega (arith, l);
      }
