pub mod PickLaws
mod LinkLaws
pub mod SearchLaws
pub mod LeadLaws
