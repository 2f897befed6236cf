pub mod ProverData
