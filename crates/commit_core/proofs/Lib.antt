pub mod Logarithms
pub mod Disjoint
pub mod Periods
pub mod PeriodWeights
