mod PartLemmas
mod AnswerLemmas
mod Makings
mod CapturedLemmas
mod FileBytes
