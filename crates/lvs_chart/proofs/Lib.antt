pub mod FaultTexts
