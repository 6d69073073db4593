pub mod CommandWords
pub mod ScriptTexts
