pub mod AlongLemmas
pub mod BytesLemmas
pub mod CodedBesideLemmas
pub mod CodedChangeLemmas
pub mod CodedCoreLemmas
pub mod CodedEntryLemmas
pub mod CodedGroupLemmas
pub mod CodedHistoryLemmas
pub mod CodedLemmas
pub mod CodedListLemmas
pub mod CodedOpLemmas
pub mod CodedOpeningLemmas
pub mod CodedPoolLemmas
pub mod CodedRightLemmas
pub mod CodedStepLemmas
pub mod CodedTableLemmas
mod CodedViewLemmas
pub mod CodedWalkLemmas
pub mod GivenLemmas
pub mod OpeningLemmas
pub mod RefusedLemmas
pub mod RightLemmas
pub mod SteadyLemmas
pub mod SweepLemmas
mod SweptLemmas
