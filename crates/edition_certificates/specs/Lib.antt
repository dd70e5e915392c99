pub mod Cases
pub mod Certificates
pub mod Proposals
pub mod Theorems
