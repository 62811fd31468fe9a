-- Repeats that write what they repeat once, and what has no position.
use Rattle.std.proofs.Common.{◌≡◌, ℕ, zero, suc, ◌-◌, ◌==◌, ◌⊎◌, inl, inr, Bool, true, false, not, cond, ◌&&◌, ◌||◌, List, [], Some, None, Option, is_some, is_none, length, vec_len, slice_index, refl, sym, ◌∙◌, ap, subst, arith, append-nil}
use Rattle.spec_model.specs.Syntax.{Formula}
use Rattle.spec_model.specs.TriggerStates.{Written, Empty, Then, Either, Star, copies, repeated, brackets, is_skipped, firsts, lasts, followers, has}
use Rattle.trigger_dfa.specs.declared.side.Side.{Side}
use Rattle.trigger_dfa.specs.declared.side.Part.{Part}
use Rattle.trigger_dfa.specs.Words.{in_word, tells}
use Rattle.trigger_dfa.specs.Sides.{is_atom, IsPart, AddsPart, Lays, Links, copies_in}
use Rattle.trigger_dfa.specs.Wraps.{Wraps}
use Rattle.trigger_dfa.proofs.WordLemmas.{zero_word, when_word, has-append, has-cond}
use Rattle.trigger_dfa.proofs.Parts.{or_both, and_both, or_false}
use Rattle.trigger_dfa.proofs.LaidParts.{laid_nothing, laid_empty}

-- ---- truth values

both_optional : (a x y : Bool) → ((a || x) || y) ≡ (a || (y || x))
both_optional true x y = refl
both_optional false true true = refl
both_optional false true false = refl
both_optional false false true = refl
both_optional false false false = refl

both_starred : (f m x y : Bool) → ((f || (x && m)) || (y && m)) ≡ (f || ((y || x) && m))
both_starred true m x y = refl
both_starred false true true true = refl
both_starred false true true false = refl
both_starred false true false true = refl
both_starred false true false false = refl
both_starred false false true true = refl
both_starred false false true false = refl
both_starred false false false true = refl
both_starred false false false false = refl

pub or_true : (b : Bool) → true ≡ (b || true)
or_true true = refl
or_true false = refl

and_true : (b : Bool) → (b && true) ≡ (b || false)
and_true true = refl
and_true false = refl

or_never : (a b : Bool) → (a || (b && false)) ≡ a
or_never true b = refl
or_never false true = refl
or_never false false = refl

linked_once : (old f s l m : Bool) → ((old || f) || ((s && l) && m)) ≡ (old || (f || (s && (l && m))))
linked_once true f s l m = refl
linked_once false true s l m = refl
linked_once false false true l m = refl
linked_once false false false l m = refl

pub none_is : (h : Option ℕ) (b : Bool) → is_some h ≡ not b → b ≡ is_none h
none_is None true e = refl
none_is None false e = e
none_is (Some n) true e = e
none_is (Some n) false e = refl

-- ---- one repeat, and one around another

pub wraps_itself : (a : Written) → Wraps false false a a
wraps_itself a = record {
  same_brackets = refl;
  skipped = or_false (is_skipped a);
  same_firsts = λ n q. refl;
  same_lasts = λ n q. refl;
  followed = λ n q p. or_false (has (followers n a q) p);
}

pub wraps_both : (s o t u : Bool) (a b w : Written) → Wraps s o a b → Wraps t u b w → Wraps (t || s) (u || o) a w
wraps_both s o t u a b w inner outer = record {
  same_brackets = outer.same_brackets ∙ inner.same_brackets;
  skipped = outer.skipped ∙ ap (λ (c : Bool). c || u) inner.skipped ∙ both_optional (is_skipped a) o u;
  same_firsts = λ n q. outer.same_firsts n q ∙ inner.same_firsts n q;
  same_lasts = λ n q. outer.same_lasts n q ∙ inner.same_lasts n q;
  followed = λ n q p.
      outer.followed n q p
      ∙ or_both (inner.followed n q p) (and_both {a = t} refl (and_both (inner.same_lasts n q) (inner.same_firsts n p)))
      ∙ both_starred (has (followers n a q) p) (has (lasts n a) q && has (firsts n a) p) s t;
}

wraps_star : (a : Written) → Wraps true true a (Star a)
wraps_star a = record {
  same_brackets = refl;
  skipped = or_true (is_skipped a);
  same_firsts = λ n q. refl;
  same_lasts = λ n q. refl;
  followed = λ n q p.
      has-append (followers n a q) (cond (has (lasts n a) q) (firsts n a) []) p
      ∙ or_both {a = has (followers n a q) p} refl (has-cond (has (lasts n a) q) (firsts n a) p);
}

wraps_optional : (a : Written) → Wraps false true a (Either a Empty)
wraps_optional a = record {
  same_brackets = append-nil (brackets a);
  skipped = refl;
  same_firsts = λ n q. ap (λ (l : List ℕ). has l q) (append-nil (firsts n a));
  same_lasts = λ n q. ap (λ (l : List ℕ). has l q) (append-nil (lasts n a));
  followed = λ n q p. ap (λ (l : List ℕ). has l p) (append-nil (followers n a q)) ∙ or_false (has (followers n a q) p);
}

wraps_alone : (a : Written) → Wraps false false a (Then a Empty)
wraps_alone a = record {
  same_brackets = append-nil (brackets a);
  skipped = and_true (is_skipped a);
  same_firsts = λ n q.
      has-append (firsts n a) (cond (is_skipped a) [] []) q
      ∙ or_both {a = has (firsts n a) q} refl (has-cond (is_skipped a) [] q) ∙ or_never (has (firsts n a) q) (is_skipped a);
  same_lasts = λ n q. ap (λ (l : List ℕ). has l q) (append-nil (lasts n a));
  followed = λ n q p.
      has-append (followers n a q) (cond (has (lasts n a) q) [] []) p
      ∙ or_both {a = has (followers n a q) p} refl (has-cond (has (lasts n a) q) [] p)
      ∙ or_never (has (followers n a q) p) (has (lasts n a) q) ∙ or_false (has (followers n a q) p);
}

pub wraps_once : (a : Written) (low : ℕ) (high : Option ℕ) → copies_in low high ≡ 1 → Wraps (is_none high) (low == 0) a (repeated a low high)
wraps_once a low None one = subst (λ (n : ℕ). Wraps true (n == 0) a (copies n a (Star a))) (let e : 0 ≡ low = omega arith in e) (wraps_star a)
wraps_once a zero (Some zero) one = absurd (grind arith)
wraps_once a zero (Some (suc zero)) one = wraps_both false true false false a (Either a Empty) (Then (Either a Empty) Empty) (wraps_optional a) (wraps_alone (Either a Empty))
wraps_once a zero (Some (suc (suc h))) one = absurd (grind arith)
wraps_once a (suc zero) (Some zero) one = wraps_alone a
wraps_once a (suc zero) (Some (suc zero)) one = wraps_alone a
wraps_once a (suc zero) (Some (suc (suc h))) one = absurd (grind arith)
wraps_once a (suc (suc n)) (Some h) one = absurd (grind arith)

-- ---- what is laid

pub laid_wrapped : (atoms : List Formula) (s o : Bool) (a w : Written) (end : ℕ) (s0 s1 s2 : Side) (p q : Part) → Wraps s o a w → Lays atoms a end s0 s1 p →
    Links (cond s p.lasts 0) p.firsts s1 s2 → q ≡ record p { skipped = p.skipped || o } → Lays atoms w end s0 s2 q
laid_wrapped atoms s o a w end s0 s1 s2 p q wraps lays links made =
    let n = end - length (brackets a) in
    let e : n ≡ end - length (brackets w) = ap (λ (l : List Formula). end - length l) (sym wraps.same_brackets) in
    subst (λ (r : Part). Lays atoms w end s0 s2 r) (sym made) (record {
      part = subst (λ (m : ℕ). IsPart w m (record p { skipped = p.skipped || o })) e (record {
        size = lays.part.size ∙ ap (λ (l : List Formula). length l) (sym wraps.same_brackets);
        skipped = ap (λ (b : Bool). b || o) lays.part.skipped ∙ sym wraps.skipped;
        firsts = λ r. lays.part.firsts r ∙ sym (wraps.same_firsts n r);
        lasts = λ r. lays.part.lasts r ∙ sym (wraps.same_lasts n r);
      });
      side = subst (λ (m : ℕ). AddsPart atoms w m s0 s2) e (record {
        follow = λ r t.
            links.follow r t
            ∙ or_both (lays.side.follow r t) (and_both (when_word s p.lasts r ∙ and_both {a = s} refl (lays.part.lasts r)) (lays.part.firsts t))
            ∙ linked_once (in_word (slice_index s0.follow.items r) t) (has (followers n a r) t) s (has (lasts n a) r) (has (firsts n a) t)
            ∙ or_both {a = in_word (slice_index s0.follow.items r) t} refl (sym (wraps.followed n r t));
        meant = λ k r below. ap (λ (v : List ℕ). in_word (slice_index v k) r) (ap (λ (v : _). v.items) links.meant) ∙ lays.side.meant k r below
            ∙ or_both {a = in_word (slice_index s0.meant.items k) r} refl (ap (λ (l : List Formula). tells (is_atom atoms k) n l r) (sym wraps.same_brackets));
        same_positions = links.positions ∙ lays.side.same_positions;
        same_atoms = ap (λ (v : _). vec_len v) links.meant ∙ lays.side.same_atoms;
      });
    })

-- an expression without a position
pub laid_none : (atoms : List Formula) (w : Written) (end : ℕ) (side : Side) (skipped : Bool) → length (brackets w) ≡ 0 → skipped ≡ is_skipped w →
    Lays atoms w end side side (record { size = 0; skipped = skipped; firsts = 0; lasts = 0 })
laid_none atoms w end side skipped none is = laid_empty atoms Empty w end side side (record { size = 0; skipped = true; firsts = 0; lasts = 0 }) skipped refl none (laid_nothing atoms end side) is

-- where one of the sets is empty, there is no link
pub links_nothing : (from to : ℕ) (side : Side) → (from ≡ 0) ⊎ (to ≡ 0) → Links from to side side
links_nothing from to side none = record {
  follow = λ q p. or_false (in_word (slice_index side.follow.items q) p) ∙ or_both {a = in_word (slice_index side.follow.items q) p} refl (sym (never q p));
  meant = refl;
  positions = refl;
}
  where
    and_false : (b : Bool) → (b && false) ≡ false
    and_false true = refl
    and_false false = refl

    never : (q p : ℕ) → (in_word from q && in_word to p) ≡ false
    never q p = elim none [
      | inl x ↦ and_both {b = in_word to p} (ap (λ (m : ℕ). in_word m q) x ∙ zero_word q) refl
      | inr x ↦ and_both {a = in_word from q} refl (ap (λ (m : ℕ). in_word m p) x ∙ zero_word p) ∙ and_false (in_word from q)
    ]
