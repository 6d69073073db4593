pub mod LegalTexts
