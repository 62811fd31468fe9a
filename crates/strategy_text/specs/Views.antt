-- What reading answers, and what is read with.
use Rattle.std.specs.Prelude.{◌≡◌, ℕ, List, map, string_bytes, Option, Some, None, Result, IfOk, IfErr}
use Rattle.spec_model.specs.Games.{GameData}
use Rattle.spec_model.specs.GameViews.{game_data}
use Rattle.strategy_text.specs.declared.fault.ReadRefusal.{ReadRefusal}
use Rattle.strategy_text.specs.declared.fault.ReadRefusal.TheVariants.{Shape}
use Rattle.strategy_text.specs.declared.reader.Reader.{Reader}

-- Ok has what there is to be read, and `Shape` comes only where there is nothing.
pub record IsRead {T X : Type 0} (seen : T → X) (what : Option X) (r : Result T ReadRefusal) : Type 0 where
  pub ok : IfOk r (λ x. what ≡ Some (seen x))
  pub shape : IfErr r (λ e. e ≡ Shape → what ≡ None)

-- the enum names and the game that are read with
abbrev pub reader_names : Reader → List (List ℕ)
reader_names r = map string_bytes r.names.now

abbrev pub reader_game : Reader → GameData
reader_game r = game_data r.game.now
