pub mod RegexLevels
pub mod SoundRegexes
pub mod WholeRegexes
pub mod StoppingRegexes
pub mod OpeningRegexes
pub mod ComparingRegexes
pub mod CountingRegexes
