-- The copy of a diagram while it is made, one turn after the other.
use Rattle.std.proofs.Common.{◌≡◌, ℕ, ◌+◌, ◌<◌, ◌≤◌, inl, inr, sym, ◌∙◌, ap, subst, refl, arith, Bool, true, false, Option, Some, None, MatchOption, Result, Ok, Err, IfOk, OnErr, List, [], ◌∷◌, ◌++◌, slice_index_or}
use Rattle.std.specs.List.{AllByRecursion}
use Rattle.std.proofs.lemmas.Bool.{false≢true, cases_lt}
use Rattle.std.proofs.lemmas.List.{append_assoc, append-nil}
use Rattle.spec_model.specs.Diagrams.{Diagram, branch, Function, value, shifted, IsPartOf, IsReduced}
use Rattle.node_table.specs.Table.{Table, diagram_at}
use Rattle.bdd_store.specs.declared.fault.StoreFault.{StoreFault}
use Rattle.bdd_store.specs.declared.fault.StoreFault.TheVariants as fault
use Rattle.bdd_store.specs.State.{IsRoot, roots_at, AddsRoot}
use Rattle.bdd_ops.specs.Contents.{Contents, function_at}
use Rattle.bdd_ops.specs.Calls.{KeepsRoots}
use Rattle.bdd_ops.proofs.DiagramLemmas.{part_of_itself}
use Rattle.bdd_reorder.specs.declared.memo.Copied.{Copied}
use Rattle.bdd_reorder.specs.declared.frames.Frame.{Frame}
use Rattle.bdd_reorder.specs.declared.frames.Turn.{Turn}
use Rattle.bdd_reorder.specs.declared.frames.Turn.TheVariants.{Asks, Answer}
use Rattle.bdd_reorder.specs.Keeping.{one_at, made_at, KeepsBesides}
use Rattle.bdd_reorder.specs.Crowding.{IsCrowdedSince}
use Rattle.bdd_reorder.specs.Rearranged.{NoFunction, IsPartRearranged, IsBit, IsOfPart}
use Rattle.bdd_reorder.specs.Making.{branched}
use Rattle.bdd_reorder.specs.Copying.{copies_at, IsRight, IsCopy, CanCopy}
use Rattle.bdd_reorder.specs.Frames.{both_at, low_at, lows_at, waited_of, awaited, AreChained, IsSplitInto, IsFrame}
use Rattle.bdd_reorder.specs.Turns.{Origin, answer_at, IsCopying, IsTurn, Opens, Gives, Replies, Joins}
use Rattle.bdd_reorder.proofs.ElementLemmas.{all_append}
use Rattle.bdd_reorder.proofs.KeepingLemmas.{one_itself, made_named, nothing_besides, keeps_then, besides_then, besides_wider, besides_less, table_keeps}
use Rattle.bdd_reorder.proofs.CrowdingLemmas.{crowded_back}
use Rattle.bdd_reorder.proofs.StepLemmas.{made_besides}
use Rattle.bdd_reorder.proofs.CopyLemmas.{copies-append, are_copies, copies_stay, rights_stay}
use Rattle.bdd_reorder.proofs.ReadyLemmas.{ready_after}
use Rattle.bdd_reorder.proofs.PartLemmas.{ok_as}
use Rattle.bdd_reorder.proofs.FrameLemmas.{splits-push, lows-push, all-pop, awaited-push, chained-push, chained-pop, awaited_part, whole_reduced, frames_stay}

abbrev is_full : Option (Result ℕ StoreFault) → Bool
is_full None = false
is_full (Some (Ok root)) = false
is_full (Some (Err fault.Full)) = true
is_full (Some (Err fault.Memory)) = false

-- no answer, or another one, is no refusal for want of room
not_full : {E : Type 0} (answer : Option (Result ℕ StoreFault)) → is_full answer ≡ false → answer ≡ Some (Err fault.Full) → E
not_full answer not is = absurd (false≢true (sym not ∙ ap is_full is))

abbrev pub refusal : StoreFault → Result ℕ StoreFault
refusal h = Err h

abbrev given : Option (Result ℕ StoreFault) → Result ℕ StoreFault
given None = Err fault.Memory
given (Some r) = r

-- what an answer is
full_is : (r : Result ℕ StoreFault) → Some r ≡ Some (Err fault.Full) → r ≡ Err fault.Full
full_is r is = ap given is

module _ (o : Origin) where
  abbrev t : Table
  t = o.from.state.table

  abbrev N : Function → Type 0
  N = IsPartRearranged o.levels o.whole

  -- nothing is copied yet
  pub begun : IsCopying o o.from o.to o.copies [] None
  begun = record {
    table = refl;
    splits = λ n. omega arith;
    more = [];
    copies_are = sym (append-nil o.copies);
    right = tt;
    frames_right = tt;
    chained = tt;
    besides = besides_wider o.to o.to N N (λ n. 0) (λ n. 0) (λ f is. is) (λ n. refl) (nothing_besides o.to N);
    meaning = tt;
    full = λ is. not_full None refl is;
  }

  module _ (from to : Contents) (copies : List Copied) (frames : List Frame) (answer : Option (Result ℕ StoreFault)) (c : IsCopying o from to copies frames answer) where
    abbrev besides_now : ℕ → ℕ
    besides_now n = (copies_at n c.more + lows_at n frames) + answer_at n answer

    copies_kept : (n : ℕ) → 0 < copies_at n c.more → IsRoot to.state n
    copies_kept n some = let more = c.besides.added n in omega (arith, more, some)

    lows_kept : (n : ℕ) → 0 < lows_at n frames → IsRoot to.state n
    lows_kept n some = let more = c.besides.added n in omega (arith, more, some)

    -- copying can go on
    pub can_copy : (truth : ℕ) → CanCopy o.from o.to o.levels truth o.copies → CanCopy from to o.levels truth copies
    can_copy truth can =
        ready_after o.from from o.to to o.levels truth o.copies copies c.table (λ n root. (let more = c.splits n in omega (arith, more, root))) c.besides.keeps.levels
        (subst (λ (xs : List Copied). AllByRecursion (IsCopy t to o.levels) xs) (sym c.copies_are)
        (all_append (IsCopy t to o.levels) o.copies c.more (copies_stay t o.to to o.levels o.copies (λ n root. (let more = c.besides.added n in omega (arith, more, root))) c.besides.keeps can.copies) (are_copies t to o.levels c.more copies_kept c.right)))
        can

  module _ (from to : Contents) (copies : List Copied) (fs : List Frame) (f : Frame) (answer : Option (Result ℕ StoreFault)) (c : IsCopying o from to copies (fs ++ f ∷ []) answer) where
    -- what the last frame and the answer keep
    pub last_parts : (n : ℕ) → both_at n f.split ≤ roots_at from.state n
    last_parts n = let more = c.splits n in let push = splits-push fs f n in omega (arith, more, push)

    pub last_copies : (n : ℕ) → low_at n f.low_copy + answer_at n answer ≤ roots_at to.state n
    last_copies n = let more = c.besides.added n in let push = lows-push fs f n in omega (arith, more, push)

    pub last_frame : IsFrame t to o.levels o.whole f
    last_frame = (all-pop (IsFrame t to o.levels o.whole) fs f c.frames_right).1

    -- the last frame is given back
    pub refused : (from' to' : Contents) (h : StoreFault) → (refusal h ≡ Err fault.Full → answer ≡ Some (Err fault.Full)) → ((n : ℕ) → answer_at n answer ≡ 0) → from'.state.table ≡ from.state.table → ((n : ℕ) → roots_at from.state n ≡ roots_at from'.state n + both_at n f.split) → to'.state.table ≡ to.state.table →
        ((n : ℕ) → roots_at to.state n ≡ roots_at to'.state n + low_at n f.low_copy) → IsCopying o from' to' copies fs (Some (Err h))
    refused from' to' h why none from_table from_back to_table to_back =
        let keeps = table_keeps to to' to_table in
        record {
          table = from_table ∙ c.table;
          splits = λ n. (let more = c.splits n in let push = splits-push fs f n in let back = from_back n in omega (arith, more, push, back));
          more = c.more;
          copies_are = c.copies_are;
          right = rights_stay t to to' o.levels c.more (copies_kept from to copies (fs ++ f ∷ []) answer c) keeps c.right;
          frames_right = frames_stay t o.levels o.whole to to' fs (λ n some. lows_kept from to copies (fs ++ f ∷ []) answer c n (let push = lows-push fs f n in omega (arith, push, some))) keeps (all-pop (IsFrame t to o.levels o.whole) fs f c.frames_right).0;
          chained = (chained-pop t o.whole fs f c.chained).0;
          besides = besides_less o.to to to' N (besides_now from to copies (fs ++ f ∷ []) answer c) (λ n. (copies_at n c.more + lows_at n fs) + answer_at n (Some (Err h))) (λ n. low_at n f.low_copy) keeps to_back (λ n. (let push = lows-push fs f n in let zero = none n in omega (arith, push, zero))) c.besides;
          meaning = tt;
          full = λ is.
              let crowded = c.full (why (full_is (Err h) is)) in
              (crowded.0, (crowded.1.0, subst (λ (x : Table). IsCrowdedSince o.to.state x (IsOfPart o.levels o.whole crowded.1.0)) (sym to_table) crowded.1.1));
        }

  module _ (from to : Contents) (copies : List Copied) (fs : List Frame) (f g : Frame) (root : ℕ) (c : IsCopying o from to copies (fs ++ f ∷ []) (Some (Ok root))) where
    abbrev low : Diagram
    low = diagram_at t f.split.low

    low_right : f.low_copy ≡ None → function_at to root ≡ shifted o.levels (value low)
    low_right none =
        let is : awaited t o.whole (fs ++ f ∷ []) ≡ low = awaited-push t o.whole fs f ∙ ap (λ (k : Option ℕ). diagram_at t (waited_of f.split k)) none in
        c.meaning ∙ ap (λ (d : Diagram). shifted o.levels (value d)) is

    -- the last frame gets the copy of its low part
    pub low_made : f.low_copy ≡ None → g ≡ record { number = f.number; split = f.split; low_copy = Some root } → IsCopying o from to copies (fs ++ g ∷ []) None
    low_made none is = subst (λ (k : Frame). IsCopying o from to copies (fs ++ k ∷ []) None) (sym is) made where
      h : Frame
      h = record { number = f.number; split = f.split; low_copy = Some root }

      frame : IsFrame t to o.levels o.whole f
      frame = last_frame from to copies fs f (Some (Ok root)) c

      chain : AreChained t o.whole fs × (diagram_at t f.number ≡ awaited t o.whole fs)
      chain = chained-pop t o.whole fs f c.chained

      counted : (n : ℕ) → (copies_at n c.more + lows_at n (fs ++ h ∷ [])) + 0 ≡ (copies_at n c.more + lows_at n (fs ++ f ∷ [])) + one_at n root
      counted n = let one = lows-push fs f n in let two = lows-push fs h n in let zero = ap (low_at n) none in omega (arith, one, two, zero)

      made : IsCopying o from to copies (fs ++ h ∷ []) None
      made = record {
        table = c.table;
        splits = λ n. (let more = c.splits n in let one = splits-push fs f n in let two = splits-push fs h n in omega (arith, more, one, two));
        more = c.more;
        copies_are = c.copies_are;
        right = c.right;
        frames_right = all_append (IsFrame t to o.levels o.whole) fs (h ∷ []) (all-pop (IsFrame t to o.levels o.whole) fs f c.frames_right).0 (record { split = frame.split; part = frame.part; copied = low_right none }, tt);
        chained = chained-push t o.whole fs h chain.0 chain.1;
        besides = besides_wider o.to to N N (besides_now from to copies (fs ++ f ∷ []) (Some (Ok root)) c) (λ n. (copies_at n c.more + lows_at n (fs ++ h ∷ [])) + 0) (λ f is. is) counted c.besides;
        meaning = tt;
        full = λ is. not_full None refl is;
      }

  ok_named : (to' : Contents) (r : Result ℕ StoreFault) (d : Diagram) → IsPartOf d o.whole → IfOk r (λ root. function_at to' root ≡ shifted o.levels (value d)) → IfOk r (λ root. N (function_at to' root))
  ok_named to' (Ok root) d part is = (d, part, is)
  ok_named to' (Err h) d part is = tt

  -- both copies of the last frame are made, and a third is made of them
  module _ (from to to' : Contents) (copies : List Copied) (fs : List Frame) (f : Frame) (low high l : ℕ) (r : Result ℕ StoreFault) (c : IsCopying o from to copies (fs ++ f ∷ []) (Some (Ok high))) (low_is : f.low_copy ≡ Some low)
      (is_level : l ≡ slice_index_or o.levels f.split.level f.split.level) (joins : Joins to to' l low high r) where
    abbrev own : Diagram
    own = diagram_at t f.number

    abbrev before : ℕ → ℕ
    before = besides_now from to copies (fs ++ f ∷ []) (Some (Ok high)) c

    abbrev after : ℕ → ℕ
    after n = (copies_at n c.more + lows_at n fs) + made_at n r

    its_frame : IsFrame t to o.levels o.whole f
    its_frame = last_frame from to copies fs f (Some (Ok high)) c

    its_chain : AreChained t o.whole fs × (own ≡ awaited t o.whole fs)
    its_chain = chained-pop t o.whole fs f c.chained

    its_low : (n : ℕ) → lows_at n (fs ++ f ∷ []) ≡ lows_at n fs + one_at n low
    its_low n = lows-push fs f n ∙ ap (λ (k : Option ℕ). lows_at n fs + low_at n k) low_is

    low_copied : function_at to low ≡ shifted o.levels (value (diagram_at t f.split.low))
    low_copied = subst (λ (k : Option ℕ). MatchOption k (Unit {0}) (λ root. function_at to root ≡ shifted o.levels (value (diagram_at t f.split.low)))) low_is its_frame.copied

    high_copied : function_at to high ≡ shifted o.levels (value (diagram_at t f.split.high))
    high_copied = c.meaning ∙ ap (λ (d : Diagram). shifted o.levels (value d)) (awaited-push t o.whole fs f ∙ ap (λ (k : Option ℕ). diagram_at t (waited_of f.split k)) low_is)

    -- the third is the copy of the frame's part
    is_copy : branched l (function_at to low) (function_at to high) ≡ shifted o.levels (value (awaited t o.whole fs))
    is_copy =
        let a = shifted o.levels (value (diagram_at t f.split.low)) in
        let b = shifted o.levels (value (diagram_at t f.split.high)) in
        let of_parts : branched l (function_at to low) (function_at to high) ≡ branched l a b = ap (λ (g : Function). branched l g (function_at to high)) low_copied ∙ ap (λ (g : Function). branched l a g) high_copied in
        let of_branch : branched l a b ≡ shifted o.levels (value (branch f.split.level (diagram_at t f.split.low) (diagram_at t f.split.high))) = ap (λ (k : ℕ). branched k a b) is_level in
        of_parts ∙ (of_branch ∙ ap (λ (d : Diagram). shifted o.levels (value d)) (sym its_frame.split.diagram ∙ its_chain.1))

    own_named : IfOk r (λ root. function_at to' root ≡ branched l (function_at to low) (function_at to high)) → IfOk r (λ root. N (function_at to' root))
    own_named meaning = ok_named to' r (awaited t o.whole fs) (subst (λ (d : Diagram). IsPartOf d o.whole) its_chain.1 its_frame.part) (ok_as to' r (branched l (function_at to low) (function_at to high)) (shifted o.levels (value (awaited t o.whole fs))) is_copy meaning)

    joined_besides : KeepsBesides o.to to' N after
    joined_besides = record {
      keeps = keeps_then o.to to to' N before (λ n. 0) c.besides joins.keeps;
      added = λ n. (let more = c.besides.added n in let counted = joins.counted n in let is = its_low n in omega (arith, more, counted, is));
      named = λ n some. elim (cases_lt 0 (made_at n r)) [
        | inl made ↦ made_named to' N r (own_named joins.meaning) n made
        | inr none ↦
            let is = its_low n in
            let kept : 0 < before n = omega (arith, some, none, is) in
            let more = c.besides.added n in
            subst N (sym (ap value (joins.keeps.meaning n (omega (arith, more, kept))))) (c.besides.named n kept)
      ];
    }

    joined_full : r ≡ Err fault.Full → IsReduced o.whole × ((level : ℕ) × IsCrowdedSince o.to.state to'.state.table (IsOfPart o.levels o.whole level))
    joined_full is =
        let P = IsOfPart o.levels o.whole l in
        let wider = besides_wider o.to to N P before before (λ g part. inl part) (λ n. refl) c.besides in
        (whole_reduced t o.levels o.whole to fs f c.frames_right c.chained, (l, crowded_back o.to to (IsBit l) P before (λ g bit. inr bit) wider to'.state.table (joins.full is)))

    pub joined : (from' : Contents) → from'.state.table ≡ from.state.table → ((n : ℕ) → roots_at from.state n ≡ roots_at from'.state n + both_at n f.split) → IsCopying o from' to' copies fs (Some r)
    joined from' from_table from_back = record {
      table = from_table ∙ c.table;
      splits = λ n. (let more = c.splits n in let push = splits-push fs f n in let back = from_back n in omega (arith, more, push, back));
      more = c.more;
      copies_are = c.copies_are;
      right = rights_stay t to to' o.levels c.more (copies_kept from to copies (fs ++ f ∷ []) (Some (Ok high)) c) joins.keeps c.right;
      frames_right = frames_stay t o.levels o.whole to to' fs (λ n some. lows_kept from to copies (fs ++ f ∷ []) (Some (Ok high)) c n (let is = its_low n in omega (arith, is, some))) joins.keeps (all-pop (IsFrame t to o.levels o.whole) fs f c.frames_right).0;
      chained = its_chain.0;
      besides = joined_besides;
      meaning = ok_as to' r (branched l (function_at to low) (function_at to high)) (shifted o.levels (value (awaited t o.whole fs))) is_copy joins.meaning;
      full = λ is. joined_full (full_is r is);
    }

  -- the copy is remembered, or it is given back since there is no memory for that
  module _ (from to to' : Contents) (copies copies' : List Copied) (fs : List Frame) (made : Result ℕ StoreFault) (c : IsCopying o from to copies fs (Some made)) (keeps : KeepsRoots to to') where
    abbrev held : ℕ → ℕ
    held = besides_now from to copies fs (Some made) c

    frames_now : AllByRecursion (IsFrame t to' o.levels o.whole) fs
    frames_now = frames_stay t o.levels o.whole to to' fs (lows_kept from to copies fs (Some made) c) keeps c.frames_right

    right_now : AllByRecursion (IsRight t to' o.levels) c.more
    right_now = rights_stay t to to' o.levels c.more (copies_kept from to copies fs (Some made) c) keeps c.right

    abbrev MeansAwaited : Contents → ℕ → Type 0
    MeansAwaited s root = function_at s root ≡ shifted o.levels (value (awaited t o.whole fs))

    ok_made : (root : ℕ) → made ≡ Ok root → MeansAwaited to root
    ok_made root is = subst (λ (m : Result ℕ StoreFault). IfOk m (λ k. MeansAwaited to k)) is c.meaning

    made_is : (root : ℕ) → made ≡ Ok root → (n : ℕ) → made_at n made ≡ one_at n root
    made_is root is n = ap (made_at n) is

    root_kept : (root : ℕ) → made ≡ Ok root → IsRoot to.state root
    root_kept root is = let more = c.besides.added root in let one = one_itself root in let same = made_is root is root in omega (arith, more, one, same)

    noted : (number root : ℕ) → diagram_at t number ≡ awaited t o.whole fs → made ≡ Ok root → copies' ≡ copies ++ record { number = number; root = root } ∷ [] → AddsRoot to.state to'.state root → IsCopying o from to' copies' fs (Some (Ok root))
    noted number root is_part is noted_are added =
        let x : Copied = record { number = number; root = root } in
        let meaning : MeansAwaited to' root = ap value (keeps.meaning root (root_kept root is)) ∙ ok_made root is in
        let right : IsRight t to' o.levels x = meaning ∙ ap (λ (d : Diagram). shifted o.levels (value d)) (sym is_part) in
        let part : IsPartOf (awaited t o.whole fs) o.whole = awaited_part t o.levels o.whole to o.whole fs (part_of_itself o.whole) c.frames_right in
        let next : KeepsBesides to to' N (λ n. one_at n root) = record { keeps = keeps; added = added; named = λ n some. made_named to' N (Ok root) (awaited t o.whole fs, part, meaning) n some } in
        let all = besides_then o.to to to' N held (λ n. one_at n root) c.besides next in
        record {
          table = c.table;
          splits = c.splits;
          more = c.more ++ x ∷ [];
          copies_are = noted_are ∙ (ap (λ (xs : List Copied). xs ++ x ∷ []) c.copies_are ∙ append_assoc o.copies c.more (x ∷ []));
          right = all_append (IsRight t to' o.levels) c.more (x ∷ []) right_now (right, tt);
          frames_right = frames_now;
          chained = c.chained;
          besides = besides_wider o.to to' N N (λ n. held n + one_at n root) (λ n. (copies_at n (c.more ++ x ∷ []) + lows_at n fs) + one_at n root) (λ f is. is) (λ n. (let two = copies-append c.more (x ∷ []) n in let same = made_is root is n in omega (arith, two, same))) all;
          meaning = meaning;
          full = λ e. not_full (Some (Ok root)) refl e;
        }

    not_noted : (h : StoreFault) → copies' ≡ copies → ((n : ℕ) → roots_at to.state n ≡ roots_at to'.state n + made_at n made) → (refusal h ≡ Err fault.Full → (made ≡ Err fault.Full) × (to'.state.table ≡ to.state.table)) → IsCopying o from to' copies' fs (Some (Err h))
    not_noted h same back why = record {
      table = c.table;
      splits = c.splits;
      more = c.more;
      copies_are = same ∙ c.copies_are;
      right = right_now;
      frames_right = frames_now;
      chained = c.chained;
      besides = besides_less o.to to to' N held (λ n. (copies_at n c.more + lows_at n fs) + 0) (λ n. made_at n made) keeps back (λ n. omega arith) c.besides;
      meaning = tt;
      full = λ e.
          let was = why (full_is (Err h) e) in
          let crowded = c.full (ap (λ (m : Result ℕ StoreFault). Some m) was.0) in
          (crowded.0, (crowded.1.0, subst (λ (x : Table). IsCrowdedSince o.to.state x (IsOfPart o.levels o.whole crowded.1.0)) (sym was.1) crowded.1.1));
    }

    pub remembered : (number : ℕ) (r : Result ℕ StoreFault) → diagram_at t number ≡ awaited t o.whole fs → IfOk r (λ root. made ≡ Ok root) → IfOk r (λ root. copies' ≡ copies ++ record { number = number; root = root } ∷ []) → IfOk r (λ root. AddsRoot to.state to'.state root) →
        OnErr r ((copies' ≡ copies) × ((n : ℕ) → roots_at to.state n ≡ roots_at to'.state n + made_at n made)) → (r ≡ Err fault.Full → (made ≡ Err fault.Full) × (to'.state.table ≡ to.state.table)) → IsCopying o from to' copies' fs (Some r)
    remembered number (Ok root) is_part is noted_are added refused_is why = noted number root is_part is noted_are added
    remembered number (Err h) is_part is noted_are added refused_is why = not_noted h refused_is.0 refused_is.1 why

  -- ---- what was asked for is opened or given

  module _ (from from' to to' : Contents) (copies : List Copied) (frames : List Frame) (a : ℕ) (c : IsCopying o from to copies frames None) (asks : diagram_at from.state.table a ≡ awaited t o.whole frames) (table' : from'.state.table ≡ from.state.table) where
    asked_part : IsPartOf (awaited t o.whole frames) o.whole
    asked_part = awaited_part t o.levels o.whole to o.whole frames (part_of_itself o.whole) c.frames_right

    opened : (f : Frame) → Opens from.state from'.state a f → IsCopying o from' to copies (frames ++ f ∷ []) None
    opened f opens =
        let split : IsSplitInto t a f.split = subst (λ (x : Table). IsSplitInto x a f.split) c.table opens.split in
        let own : IsSplitInto t f.number f.split = subst (λ (n : ℕ). IsSplitInto t n f.split) (sym opens.number) split in
        let is : diagram_at t f.number ≡ awaited t o.whole frames = ap (diagram_at t) opens.number ∙ (ap (λ (x : Table). diagram_at x a) (sym c.table) ∙ asks) in
        let frame : IsFrame t to o.levels o.whole f = record {
          split = own;
          part = subst (λ (d : Diagram). IsPartOf d o.whole) (sym is) asked_part;
          copied = subst (λ (k : Option ℕ). MatchOption k (Unit {0}) (λ root. function_at to root ≡ shifted o.levels (value (diagram_at t f.split.low)))) (sym opens.fresh) tt;
        } in
        record {
          table = table' ∙ c.table;
          splits = λ n. (let more = c.splits n in let push = splits-push frames f n in let added = opens.added n in omega (arith, more, push, added));
          more = c.more;
          copies_are = c.copies_are;
          right = c.right;
          frames_right = all_append (IsFrame t to o.levels o.whole) frames (f ∷ []) c.frames_right (frame, tt);
          chained = chained-push t o.whole frames f c.chained is;
          besides = besides_wider o.to to N N (besides_now from to copies frames None c) (λ n. (copies_at n c.more + lows_at n (frames ++ f ∷ [])) + 0) (λ g is. is) (λ n. (let push = lows-push frames f n in let none = ap (low_at n) opens.fresh in omega (arith, push, none))) c.besides;
          meaning = tt;
          full = λ e. not_full None refl e;
        }

    given_now : (r : Result ℕ StoreFault) → Gives from from' to to' o.levels a r → IsCopying o from' to' copies frames (Some r)
    given_now r gives =
        let makes = gives.made in
        let same : shifted o.levels (value (diagram_at from.state.table a)) ≡ shifted o.levels (value (awaited t o.whole frames)) = ap (λ (d : Diagram). shifted o.levels (value d)) asks in
        let next = besides_wider to to' (λ (g : Function). g ≡ shifted o.levels (value (diagram_at from.state.table a))) N (λ n. made_at n r) (λ n. made_at n r) (λ g is. (awaited t o.whole frames, asked_part, is ∙ same)) (λ n. refl) (made_besides to to' r (shifted o.levels (value (diagram_at from.state.table a))) NoFunction makes) in
        let all = besides_then o.to to to' N (besides_now from to copies frames None c) (λ n. made_at n r) c.besides next in
        record {
          table = table' ∙ c.table;
          splits = λ n. (let more = c.splits n in let roots = gives.roots n in omega (arith, more, roots));
          more = c.more;
          copies_are = c.copies_are;
          right = rights_stay t to to' o.levels c.more (copies_kept from to copies frames None c) makes.keeps c.right;
          frames_right = frames_stay t o.levels o.whole to to' frames (lows_kept from to copies frames None c) makes.keeps c.frames_right;
          chained = c.chained;
          besides = besides_wider o.to to' N N (λ n. besides_now from to copies frames None c n + made_at n r) (λ n. (copies_at n c.more + lows_at n frames) + made_at n r) (λ g is. is) (λ n. omega arith) all;
          meaning = ok_as to' r (shifted o.levels (value (diagram_at from.state.table a))) (shifted o.levels (value (awaited t o.whole frames))) same makes.meaning;
          full = λ e. absurd (gives.memory (full_is r e));
        }

    pub replied : (turn : Turn) → Replies from from' to to' o.levels a turn → IsTurn o from' to' copies frames turn
    replied (Asks f) reply = subst (λ (s : Contents). IsCopying o from' s copies (frames ++ f ∷ []) None) (sym reply.0) (opened f reply.1)
    replied (Answer r) reply = given_now r reply
