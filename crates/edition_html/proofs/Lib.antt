mod Bytes
mod Harmless
