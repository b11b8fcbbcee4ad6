pub mod Said
pub mod Places
pub mod Members
pub mod Planning
