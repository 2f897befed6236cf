pub mod Places
pub mod ProverData
pub mod Tables
pub mod Asked
pub mod Laws
