-- Lists that grow by what is made.
use Rattle.std.proofs.Common.{◌≡◌, List, [], ◌∷◌, ◌++◌, length, Vec, None, refl, sym, ap, ◌∙◌, subst, arith}
use Rattle.std.proofs.lemmas.List.{append_assoc, append-nil, map-append}
use Rattle.std.specs.declared.alloc.Global.{Global}
use Rattle.spec_model.specs.declared.value.Owner.{Owner}
use Rattle.regions.specs.declared.types.When.{When}
use Rattle.regions.specs.Kept.{Kept, Item, Move, Meaning, HoldsBesides}
use Rattle.strategy_parts.specs.Owned.{HoldsAll, MakesAll, move_items}
use Rattle.strategy_parts.specs.Told.{leadings, moves_meant}
use Rattle.strategy_parts.proofs.Owning.{length_map, length_both, weight_as-append, weight_as-none}
use Rattle.strategy_parts.proofs.Telling.{makes_both, nothing_made}
use Rattle.counterstrategy.specs.Owned.{list_items, AreLike}
use Rattle.counterstrategy.specs.Made.{Adds, AddsSome, HoldsSome}

module _ {R M : Type 0} where
  pub holds_both : (first k new : Kept R M) (is js : List (Item R M)) (ms ns : List Meaning) → HoldsAll first k is ms → HoldsAll k new js ns → HoldsAll first new (is ++ js) (ms ++ ns)
  holds_both first k new is js ms ns held more =
      record {
        held = λ w. omega (arith, held.held w, more.held w, weight_as-append is js ms ns w held.counted);
        counted = (let a = held.counted in let b = more.counted in omega (arith, length_both is js, length_both ms ns));
      }

  pub nothing_held : (k new : Kept R M) → HoldsBesides k new [] → HoldsAll k new [] []
  nothing_held k new halted = record { held = λ w. omega (arith, halted w, weight_as-none {R = R} {M = M} w); counted = refl }

  pub made_held : (k new : Kept R M) (is : List (Item R M)) (ms : List Meaning) → MakesAll k new is ms → HoldsAll k new is ms
  made_held k new is ms made = record { held = made.held; counted = made.counted }

  pub list_items-append : (vs us : List (Vec M Global)) → list_items {R = R} (vs ++ us) ≡ list_items vs ++ list_items us
  list_items-append [] us = refl
  list_items-append (v ∷ vs) us = ap (λ is. move_items v.items ++ is) (list_items-append vs us) ∙ sym (append_assoc (move_items v.items) (list_items vs) (list_items us))

  pub list_items-push : (vs : List (Vec M Global)) (v : Vec M Global) → list_items {R = R} (vs ++ v ∷ []) ≡ list_items vs ++ move_items v.items
  list_items-push [] v = append-nil (move_items v.items)
  list_items-push (first ∷ vs) v = ap (λ is. move_items first.items ++ is) (list_items-push vs v) ∙ sym (append_assoc (move_items first.items) (list_items vs) (move_items v.items))

  pub move_items-append : (ms ns : List M) → move_items {R = R} (ms ++ ns) ≡ move_items ms ++ move_items ns
  move_items-append ms ns = map-append Move ms ns

  -- as many moves as regions
  pub as_many : (k new : Kept R M) (who : Owner) (when : When) (ms : List M) (rs : List R) → MakesAll k new (move_items ms) (leadings k who when rs) → length ms ≡ length rs
  as_many k new who when ms rs made =
      let e = made.counted in
      let moves : length (move_items {R = R} ms) ≡ length ms = length_map {X = M} {Y = Item R M} Move ms in
      let meant : length (leadings k who when rs) ≡ length rs = length_map {X = R} {Y = Meaning} (λ r. moves_meant who when (k.set r)) rs in
      omega (arith, e, moves, meant)

  pub like_both : (chains : List (Vec M Global)) (lists : List (Vec R Global)) (c : Vec M Global) (v : Vec R Global) → AreLike chains lists → length c.items ≡ length v.items → AreLike (chains ++ c ∷ []) (lists ++ v ∷ [])
  like_both [] [] c v like e = (e, tt)
  like_both [] (u ∷ lists) c v like e = absurd like
  like_both (d ∷ chains) [] c v like e = absurd like
  like_both (d ∷ chains) (u ∷ lists) c v like e = (like.0, like_both chains lists c v like.1 e)

module _ {X R M : Type 0} (items : List X → List (Item R M)) (empty : items [] ≡ []) (split : (xs ys : List X) → items (xs ++ ys) ≡ items xs ++ items ys) where
  pub adds_then : (first k new : Kept R M) (was mid is : List X) (ms ns : List Meaning) → Adds items first k was mid ms → Adds items k new mid is ns → Adds items first new was is (ms ++ ns)
  adds_then first k new was mid is ms ns a b =
      record {
        more = a.more ++ b.more;
        added = b.added ∙ (ap (λ xs. xs ++ b.more) a.added ∙ append_assoc was a.more b.more);
        made = subst (λ (list : List (Item R M)). MakesAll first new list (ms ++ ns)) (sym (split a.more b.more)) (makes_both first k new (items a.more) (items b.more) ms ns a.made b.made);
      }

  pub some_then : (first k new : Kept R M) (was mid is : List X) (ms : List Meaning) → Adds items first k was mid ms → AddsSome items k new mid is → AddsSome items first new was is
  some_then first k new was mid is ms a b =
      record {
        more = a.more ++ b.more;
        added = b.added ∙ (ap (λ xs. xs ++ b.more) a.added ∙ append_assoc was a.more b.more);
        meanings = ms ++ b.meanings;
        held = subst (λ (list : List (Item R M)). HoldsAll first new list (ms ++ b.meanings)) (sym (split a.more b.more)) (holds_both first k new (items a.more) (items b.more) ms b.meanings (made_held first k (items a.more) ms a.made) b.held);
      }

  pub nothing_added : (k : Kept R M) → k.jam ≡ None → (was : List X) → Adds items k k was was []
  nothing_added k free was =
      record { more = []; added = sym (append-nil was); made = subst (λ (list : List (Item R M)). MakesAll k k list []) (sym empty) (nothing_made k free) }

  pub none_of_some : (k new : Kept R M) → HoldsBesides k new [] → (was is : List X) → is ≡ was → AddsSome items k new was is
  none_of_some k new halted was is same =
      record { more = []; added = same ∙ sym (append-nil was); meanings = []; held = subst (λ (list : List (Item R M)). HoldsAll k new list []) (sym empty) (nothing_held k new halted) }

  pub one_added : (k new : Kept R M) (was : List X) (x : X) (is : List X) (ms : List Meaning) → is ≡ was ++ x ∷ [] → MakesAll k new (items (x ∷ [])) ms → Adds items k new was is ms
  one_added k new was x is ms added made = record { more = x ∷ []; added = added; made = made }

  -- what was added to nothing is all
  pub added_all : (first new : Kept R M) (was is : List X) (ms : List Meaning) → was ≡ [] → Adds items first new was is ms → MakesAll first new (items is) ms
  added_all first new was is ms bare a = subst (λ (xs : List X). MakesAll first new (items xs) ms) (sym (a.added ∙ ap (λ xs. xs ++ a.more) bare)) a.made

  pub some_held : (first new : Kept R M) (was is : List X) → was ≡ [] → AddsSome items first new was is → HoldsSome first new (items is)
  some_held first new was is bare a = (a.meanings, subst (λ (xs : List X). HoldsAll first new (items xs) a.meanings) (sym (a.added ∙ ap (λ xs. xs ++ a.more) bare)) a.held)
