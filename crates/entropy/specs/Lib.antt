pub mod Entropy
pub mod EntropyCases
