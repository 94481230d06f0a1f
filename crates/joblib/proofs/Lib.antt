pub mod HexLemmas
pub mod StartLemmas
