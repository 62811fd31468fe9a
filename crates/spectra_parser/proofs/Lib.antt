mod SoundItems
mod SoundDeclarations
mod SoundTexts
mod WholeItems
mod WholeDeclarations
mod WholeTexts
pub mod WholeText
mod TokenCount
mod QuoteEnds
mod StoppingItems
mod StoppingTexts
mod Places
mod OpeningItems
mod OpeningDeclarations
mod OpeningTexts
mod Beginnings
mod CountingItems
mod CountingTexts
pub mod OneFault
mod TokenEnds
pub mod ComparingItems
pub mod ComparingTexts
pub mod NoPhrase
pub mod NamedTokens
pub mod SpelledTokens
mod ShapedRegexes
pub mod ShapedTexts
mod Kept
mod KeptExpressions
mod KeptItems
mod RisingTokens
