pub mod HonestProof
pub mod Laws
