-- What the contracts of this program cite.
pub mod Bytes
pub mod Requests
pub mod Replies
