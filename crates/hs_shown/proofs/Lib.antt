mod AnswerLemmas
mod EffectLemmas
mod RowLemmas
mod ShownLemmas
