pub mod OpeningChecks
pub mod BatchChecks
pub mod Laws
