pub mod OnPlacing
