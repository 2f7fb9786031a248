mod Fronts
mod BlockLemmas
mod RecordLemmas
