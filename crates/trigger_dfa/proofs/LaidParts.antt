-- A side with one expression more, where expressions are joined.
use Rattle.std.proofs.Common.{◌≡◌, ℕ, zero, suc, ◌+◌, ◌-◌, ◌*◌, ◌^◌, ◌<◌, ◌≤◌, ◌==◌, ◌⊎◌, inl, inr, Bool, true, false, cond, ◌&&◌, ◌||◌, List, [], ◌++◌, Some, None, Option, length, vec_len, slice_index, refl, sym, ◌∙◌, ap, subst, arith, length-append, suc-mul, zero-mul}
use Rattle.std.proofs.lemmas.Bool.{false_from_ne_true, ne_eqb}
use Rattle.spec_model.specs.Syntax.{Formula}
use Rattle.spec_model.specs.Sizes.{same_formula}
use Rattle.spec_model.specs.TriggerStates.{Written, Bracket, Empty, Then, Either, Star, copies, repeated, brackets, is_skipped, firsts, lasts, followers, has}
use Rattle.trigger_dfa.specs.declared.side.Side.{Side}
use Rattle.trigger_dfa.specs.declared.side.Part.{Part}
use Rattle.trigger_dfa.specs.Words.{in_word, tells}
use Rattle.trigger_dfa.specs.Standings.{first_place}
use Rattle.trigger_dfa.specs.Sides.{is_atom, IsPart, AddsPart, Lays, Links, Means, tail_of}
use Rattle.trigger_dfa.proofs.Sets.{tells_range, tells_left, tells_right, tells_cases, firsts_range, lasts_range, followers_range}
use Rattle.trigger_dfa.proofs.WordLemmas.{zero_word, single_word, has-append, has-cond}
use Rattle.trigger_dfa.proofs.Parts.{or_both, and_both, or_false}

-- ---- tests

pub same_truth : (a b : Bool) → (a ≡ true → b ≡ true) → (b ≡ true → a ≡ true) → a ≡ b
same_truth true true f g = refl
same_truth true false f g = sym (f refl)
same_truth false true f g = g refl
same_truth false false f g = refl

either_true : (a b : Bool) → (a ≡ true) ⊎ (b ≡ true) → (a || b) ≡ true
either_true true b h = refl
either_true false true h = refl
either_true false false h = elim h [ inl x ↦ x | inr x ↦ x ]

true_either : (a b : Bool) → (a || b) ≡ true → (a ≡ true) ⊎ (b ≡ true)
true_either true b h = inl refl
true_either false b h = inr h

tells-append : (test : Formula → Bool) (n : ℕ) (xs ys : List Formula) (p : ℕ) → tells test n (xs ++ ys) p ≡ (tells test n xs p || tells test (n + length xs) ys p)
tells-append test n xs ys p =
    same_truth (tells test n (xs ++ ys) p) (tells test n xs p || tells test (n + length xs) ys p)
    (λ e. either_true (tells test n xs p) (tells test (n + length xs) ys p) (tells_cases test n xs ys p e))
    (λ e. elim (true_either (tells test n xs p) (tells test (n + length xs) ys p) e) [
      | inl x ↦ tells_left test n xs ys p x
      | inr x ↦ tells_right test n xs ys p x
    ])

turned : (o fy fx link : Bool) → (((o || fy) || fx) || link) ≡ (o || (fx || (fy || link)))
turned true fy fx link = refl
turned false true true link = refl
turned false true false link = refl
turned false false fx link = refl

turned_two : (o fy fx : Bool) → ((o || fy) || fx) ≡ (o || (fx || fy))
turned_two true fy fx = refl
turned_two false true true = refl
turned_two false true false = refl
turned_two false false true = refl
turned_two false false false = refl

pub associated : (a b c : Bool) → ((a || b) || c) ≡ (a || (b || c))
associated true b c = refl
associated false b c = refl

-- ---- one after the other, and one or the other

module _ (atoms : List Formula) (x y : Written) (end : ℕ) (room : length (brackets x) + length (brackets y) ≤ end) where
  base : ℕ
  base = end - (length (brackets x) + length (brackets y))

  module _ (s0 s1 s2 : Side) (a b : Part) (lays_b : Lays atoms y end s0 s1 b) (lays_a : Lays atoms x (end - b.size) s1 s2 a) where
    left_part : IsPart x base a
    unfolding base
    left_part = let e : (end - b.size) - length (brackets x) ≡ end - (length (brackets x) + length (brackets y)) = omega (arith, lays_b.part.size) in subst (λ (n : ℕ). IsPart x n a) e lays_a.part

    left_side : AddsPart atoms x base s1 s2
    unfolding base
    left_side = let e : (end - b.size) - length (brackets x) ≡ end - (length (brackets x) + length (brackets y)) = omega (arith, lays_b.part.size) in subst (λ (n : ℕ). AddsPart atoms x n s1 s2) e lays_a.side

    right_part : IsPart y (base + length (brackets x)) b
    unfolding base
    right_part = let e : end - length (brackets y) ≡ end - (length (brackets x) + length (brackets y)) + length (brackets x) = omega (arith, room) in subst (λ (n : ℕ). IsPart y n b) e lays_b.part

    right_side : AddsPart atoms y (base + length (brackets x)) s0 s1
    unfolding base
    right_side = let e : end - length (brackets y) ≡ end - (length (brackets x) + length (brackets y)) + length (brackets x) = omega (arith, room) in subst (λ (n : ℕ). AddsPart atoms y n s0 s1) e lays_b.side

    both_meant : (k p : ℕ) → k < vec_len s0.meant →
        in_word (slice_index s2.meant.items k) p ≡ (in_word (slice_index s0.meant.items k) p || tells (is_atom atoms k) base (brackets x ++ brackets y) p)
    both_meant k p below =
        left_side.meant k p (omega (arith, right_side.same_atoms))
        ∙ or_both {b = tells (is_atom atoms k) base (brackets x) p} (right_side.meant k p below) refl
        ∙ turned_two (in_word (slice_index s0.meant.items k) p) (tells (is_atom atoms k) (base + length (brackets x)) (brackets y) p) (tells (is_atom atoms k) base (brackets x) p)
        ∙ or_both {a = in_word (slice_index s0.meant.items k) p} refl (sym (tells-append (is_atom atoms k) base (brackets x) (brackets y) p))

    in_place : length (brackets x ++ brackets y) ≡ length (brackets x) + length (brackets y)
    in_place = length-append (brackets x) (brackets y)

    pub laid_then : (s3 : Side) (p : Part) → Links a.lasts b.firsts s2 s3 →
        ((v w : Written) (n : ℕ) → IsPart v n a → IsPart w (n + length (brackets v)) b → IsPart (Then v w) n p) →
        Lays atoms (Then x y) end s0 s3 p
    unfolding base
    laid_then s3 p links joins =
        let e : base ≡ end - length (brackets x ++ brackets y) = ap (λ (n : ℕ). end - n) (sym in_place) in
        record {
          part = subst (λ (n : ℕ). IsPart (Then x y) n p) e (joins x y base left_part right_part);
          side = subst (λ (n : ℕ). AddsPart atoms (Then x y) n s0 s3) e (record {
            follow = λ q r.
                let m = base + length (brackets x) in
                links.follow q r
                ∙ or_both (left_side.follow q r ∙ or_both {b = has (followers base x q) r} (right_side.follow q r) refl) (and_both (left_part.lasts q) (right_part.firsts r))
                ∙ turned (in_word (slice_index s0.follow.items q) r) (has (followers m y q) r) (has (followers base x q) r) (has (lasts base x) q && has (firsts m y) r)
                ∙ or_both {a = in_word (slice_index s0.follow.items q) r} refl
                (or_both {a = has (followers base x q) r} refl (or_both {a = has (followers m y q) r} refl (sym (has-cond (has (lasts base x) q) (firsts m y) r)) ∙ sym (has-append (followers m y q) (cond (has (lasts base x) q) (firsts m y) []) r))
                ∙ sym (has-append (followers base x q) (followers m y q ++ cond (has (lasts base x) q) (firsts m y) []) r));
            meant = λ k r below. ap (λ (v : List ℕ). in_word (slice_index v k) r) (ap (λ (v : _). v.items) links.meant) ∙ both_meant k r below;
            same_positions = omega (arith, links.positions, left_side.same_positions, right_side.same_positions);
            same_atoms = ap (λ (v : _). vec_len v) links.meant ∙ left_side.same_atoms ∙ right_side.same_atoms;
          });
        }

    pub laid_either : (p : Part) →
        ((v w : Written) (n : ℕ) → IsPart v n a → IsPart w (n + length (brackets v)) b → IsPart (Either v w) n p) →
        Lays atoms (Either x y) end s0 s2 p
    unfolding base
    laid_either p joins =
        let e : base ≡ end - length (brackets x ++ brackets y) = ap (λ (n : ℕ). end - n) (sym in_place) in
        record {
          part = subst (λ (n : ℕ). IsPart (Either x y) n p) e (joins x y base left_part right_part);
          side = subst (λ (n : ℕ). AddsPart atoms (Either x y) n s0 s2) e (record {
            follow = λ q r.
                let m = base + length (brackets x) in
                left_side.follow q r ∙ or_both {b = has (followers base x q) r} (right_side.follow q r) refl
                ∙ turned_two (in_word (slice_index s0.follow.items q) r) (has (followers m y q) r) (has (followers base x q) r)
                ∙ or_both {a = in_word (slice_index s0.follow.items q) r} refl (sym (has-append (followers base x q) (followers m y q) r));
            meant = both_meant;
            same_positions = left_side.same_positions ∙ right_side.same_positions;
            same_atoms = left_side.same_atoms ∙ right_side.same_atoms;
          });
        }

-- ---- what may be skipped

pub laid_star : (atoms : List Formula) (x : Written) (end : ℕ) (s0 s1 s2 : Side) (a : Part) → Lays atoms x end s0 s1 a → Links a.lasts a.firsts s1 s2 →
    Lays atoms (Star x) end s0 s2 (record a { skipped = true })
laid_star atoms x end s0 s1 s2 a lays links =
    let n = end - length (brackets x) in
    record {
      part = record { size = lays.part.size; skipped = refl; firsts = lays.part.firsts; lasts = lays.part.lasts };
      side = record {
        follow = λ q r.
            links.follow q r ∙ or_both (lays.side.follow q r) (and_both (lays.part.lasts q) (lays.part.firsts r))
            ∙ associated (in_word (slice_index s0.follow.items q) r) (has (followers n x q) r) (has (lasts n x) q && has (firsts n x) r)
            ∙ or_both {a = in_word (slice_index s0.follow.items q) r} refl
            (or_both {a = has (followers n x q) r} refl (sym (has-cond (has (lasts n x) q) (firsts n x) r)) ∙ sym (has-append (followers n x q) (cond (has (lasts n x) q) (firsts n x) []) r));
        meant = λ k r below. ap (λ (v : List ℕ). in_word (slice_index v k) r) (ap (λ (v : _). v.items) links.meant) ∙ lays.side.meant k r below;
        same_positions = links.positions ∙ lays.side.same_positions;
        same_atoms = ap (λ (v : _). vec_len v) links.meant ∙ lays.side.same_atoms;
      };
    }

pub nothing_more : (xs : List Formula) → length (xs ++ []) ≡ length xs
nothing_more xs = let e = length-append xs [] in omega arith

pub laid_optional : (atoms : List Formula) (x : Written) (end : ℕ) (s0 s1 : Side) (a : Part) → Lays atoms x end s0 s1 a → Lays atoms (Either x Empty) end s0 s1 (record a { skipped = true })
laid_optional atoms x end s0 s1 a lays =
    let n = end - length (brackets x) in
    let e : n ≡ end - length (brackets x ++ []) = ap (λ (m : ℕ). end - m) (sym (nothing_more (brackets x))) in
    record {
      part = subst (λ (m : ℕ). IsPart (Either x Empty) m (record a { skipped = true })) e (record {
        size = lays.part.size ∙ sym (nothing_more (brackets x));
        skipped = or_true (is_skipped x);
        firsts = λ q. lays.part.firsts q ∙ or_false (has (firsts n x) q) ∙ sym (has-append (firsts n x) [] q);
        lasts = λ q. lays.part.lasts q ∙ or_false (has (lasts n x) q) ∙ sym (has-append (lasts n x) [] q);
      });
      side = subst (λ (m : ℕ). AddsPart atoms (Either x Empty) m s0 s1) e (record {
        follow = λ q r. lays.side.follow q r ∙ or_both {a = in_word (slice_index s0.follow.items q) r} refl (or_false (has (followers n x q) r) ∙ sym (has-append (followers n x q) [] r));
        meant = λ k r below. lays.side.meant k r below ∙ or_both {a = in_word (slice_index s0.meant.items k) r} refl
            (or_false (tells (is_atom atoms k) n (brackets x) r) ∙ sym (tells-append (is_atom atoms k) n (brackets x) [] r));
        same_positions = lays.side.same_positions;
        same_atoms = lays.side.same_atoms;
      });
    }
  where
    or_true : (b : Bool) → true ≡ (b || true)
    or_true true = refl
    or_true false = refl

-- ---- what has no position

pub laid_nothing : (atoms : List Formula) (end : ℕ) (s : Side) → Lays atoms Empty end s s (record { size = 0; skipped = true; firsts = 0; lasts = 0 })
laid_nothing atoms end s =
    record {
      part = record { size = refl; skipped = refl; firsts = zero_word; lasts = zero_word };
      side = record {
        follow = λ q r. or_false (in_word (slice_index s.follow.items q) r);
        meant = λ k r below. or_false (in_word (slice_index s.meant.items k) r);
        same_positions = refl;
        same_atoms = refl;
      };
    }

module _ (w : Written) (n : ℕ) (none : length (brackets w) ≡ 0) where
  no_firsts : (q : ℕ) → has (firsts n w) q ≡ false
  no_firsts q = false_from_ne_true (has (firsts n w) q) (λ e. let i = firsts_range n w q e in omega (arith, i.0, i.1))

  no_lasts : (q : ℕ) → has (lasts n w) q ≡ false
  no_lasts q = false_from_ne_true (has (lasts n w) q) (λ e. let i = lasts_range n w q e in omega (arith, i.0, i.1))

  no_followers : (q r : ℕ) → has (followers n w q) r ≡ false
  no_followers q r = false_from_ne_true (has (followers n w q) r) (λ e. let i = followers_range n w q r e in omega (arith, i.0.0, i.0.1))

  none_told : (test : Formula → Bool) (r : ℕ) → tells test n (brackets w) r ≡ false
  none_told test r = false_from_ne_true (tells test n (brackets w) r) (λ e. let i = tells_range test n (brackets w) r e in omega (arith, i.0, i.1))

pub laid_empty : (atoms : List Formula) (w v : Written) (end : ℕ) (s0 s1 : Side) (a : Part) (skipped : Bool) → length (brackets w) ≡ 0 → length (brackets v) ≡ 0 → Lays atoms w end s0 s1 a → skipped ≡ is_skipped v →
    Lays atoms v end s0 s1 (record { size = 0; skipped = skipped; firsts = 0; lasts = 0 })
laid_empty atoms w v end s0 s1 a skipped no_w no_v lays is =
    let n = end - length (brackets w) in
    let m = end - length (brackets v) in
    record {
      part = record { size = sym no_v; skipped = is; firsts = λ q. zero_word q ∙ sym (no_firsts v m no_v q); lasts = λ q. zero_word q ∙ sym (no_lasts v m no_v q) };
      side = record {
        follow = λ q r. lays.side.follow q r ∙ or_both {a = in_word (slice_index s0.follow.items q) r} refl (no_followers w n no_w q r ∙ sym (no_followers v m no_v q r));
        meant = λ k r below. lays.side.meant k r below ∙ or_both {a = in_word (slice_index s0.meant.items k) r} refl (none_told w n no_w (is_atom atoms k) r ∙ sym (none_told v m no_v (is_atom atoms k) r));
        same_positions = lays.side.same_positions;
        same_atoms = lays.side.same_atoms;
      };
    }

-- ---- a bracket

swapped : (a b : Bool) → (a && b) ≡ ((b && a) || false)
swapped true true = refl
swapped true false = refl
swapped false true = refl
swapped false false = refl

pub laid_bracket : (atoms : List Formula) (e : Formula) (end atom : ℕ) (s0 s1 : Side) (word word2 : ℕ) → 1 ≤ end → word ≡ 2 ^ (end - 1) → word2 ≡ 2 ^ (end - 1) →
    atom ≡ first_place (λ a. same_formula a e) atoms → Means atom (end - 1) s0 s1 →
    Lays atoms (Bracket e) end s0 s1 (record { size = 1; skipped = false; firsts = word; lasts = word2 })
laid_bracket atoms e end atom s0 s1 word word2 some is is2 number means =
    let n = end - 1 in
    record {
      part = record {
        size = refl;
        skipped = refl;
        firsts = λ q. ap (λ (m : ℕ). in_word m q) is ∙ single_word n q ∙ or_false (n == q);
        lasts = λ q. ap (λ (m : ℕ). in_word m q) is2 ∙ single_word n q ∙ or_false (n == q);
      };
      side = record {
        follow = λ q r. ap (λ (v : List ℕ). in_word (slice_index v q) r) (ap (λ (v : _). v.items) means.follow) ∙ or_false (in_word (slice_index s0.follow.items q) r);
        meant = λ k r below. means.meant k r below ∙ or_both {a = in_word (slice_index s0.meant.items k) r} refl
            (ap (λ (m : ℕ). (m == k) && (n == r)) number ∙ swapped (is_atom atoms k e) (n == r));
        same_positions = ap (λ (v : _). vec_len v) means.follow;
        same_atoms = means.atoms;
      };
    }

-- ---- copies

pub length-copies : (n : ℕ) (a rest : Written) → length (brackets (copies n a rest)) ≡ n * length (brackets a) + length (brackets rest)
length-copies zero a rest = let e = zero-mul (length (brackets a)) in omega arith
length-copies (suc n) a rest =
    let e = length-append (brackets a) (brackets (copies n a rest)) in let more = length-copies n a rest in let m = suc-mul n (length (brackets a)) in omega arith

skipped_copies : (n : ℕ) (a rest : Written) → is_skipped rest ≡ true → is_skipped (copies n a rest) ≡ (is_skipped a || (n == 0))
skipped_copies zero a rest s = s ∙ or_true (is_skipped a)
  where
    or_true : (b : Bool) → true ≡ (b || true)
    or_true true = refl
    or_true false = refl
skipped_copies (suc n) a rest s = ap (λ (b : Bool). is_skipped a && b) (skipped_copies n a rest s) ∙ absorbed (is_skipped a) (n == 0) ∙ ap (λ (b : Bool). is_skipped a || b) (sym (ne_eqb (suc n) 0 (λ e. omega arith)))
  where
    absorbed : (a b : Bool) → (a && (a || b)) ≡ (a || false)
    absorbed true b = refl
    absorbed false b = refl

all_optional : (n : ℕ) (a : Written) → is_skipped (copies n (Either a Empty) Empty) ≡ true
all_optional zero a = refl
all_optional (suc n) a = ap (λ (b : Bool). (is_skipped a || true) && b) (all_optional n a) ∙ at (is_skipped a)
  where
    at : (b : Bool) → ((b || true) && true) ≡ true
    at true = refl
    at false = refl

pub skipped_repeated : (a : Written) (low : ℕ) (high : Option ℕ) → is_skipped (repeated a low high) ≡ (is_skipped a || (low == 0))
skipped_repeated a low None = skipped_copies low a (Star a) refl
skipped_repeated a low (Some high) = skipped_copies low a (copies (high - low) (Either a Empty) Empty) (all_optional (high - low) a)

pub repeated-tail : (a : Written) (low : ℕ) (high : Option ℕ) → repeated a low high ≡ copies low a (tail_of a low high)
repeated-tail a low None = refl
repeated-tail a low (Some high) = refl

pub length-optional : (n : ℕ) (a : Written) → length (brackets (copies n (Either a Empty) Empty)) ≡ n * length (brackets a)
length-optional n a =
    let e = length-copies n (Either a Empty) Empty in let f = nothing_more (brackets a) in
    e ∙ (let g : n * length (brackets a ++ []) + 0 ≡ n * length (brackets a) = ap (λ (m : ℕ). n * m + 0) f ∙ (let z : n * length (brackets a) + 0 ≡ n * length (brackets a) = omega arith in z) in g)
