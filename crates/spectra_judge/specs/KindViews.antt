-- The kinds that the program's kinds stand for.
use Rattle.spectra_judge.specs.declared.kind.Kind as code
use Rattle.spectra_judge.specs.declared.kind.Kind.TheVariants as variants
use Rattle.spectra_judge.specs.Kinds.{Kind, Truth, Whole, SomeWhole, NameOf, OneName, Anything}
use Rattle.std.specs.Prelude.{map}
use Rattle.spectra_judge.specs.declared.known.Known as code_known
use Rattle.spectra_judge.specs.declared.known.Setting as code_setting
use Rattle.spectra_judge.specs.Known.{Known, Setting}

abbrev pub kind_data : code.Kind → Kind
kind_data variants.Truth = Truth
kind_data (variants.Whole low high) = Whole low high
kind_data variants.SomeWhole = SomeWhole
kind_data (variants.NameOf names) = NameOf names.now
kind_data (variants.OneName name) = OneName name
kind_data variants.Anything = Anything

abbrev pub known_data : code_known.Known → Known
known_data k =
    record {
      variables = map kind_data k.variables.now;
      system = k.system.now;
      defines = map kind_data k.defines.now;
      predicates = map (λ ks. map kind_data ks.items) k.predicates.now;
      parameters = map kind_data k.parameters.now;
      own = map kind_data k.own.now;
    }

abbrev pub setting_data : code_setting.Setting → Setting
setting_data s = record { known = known_data s.known; bans = s.bans }
