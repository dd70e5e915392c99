pub mod Structs
pub mod Compared
pub mod Told
pub mod CasesOfStructs
