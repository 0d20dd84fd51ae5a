pub mod Sharing
pub mod Desk
pub mod Laws
pub mod Room
pub mod Answer
pub mod CacheKey
pub mod Cache
