pub mod Base32
pub mod Digests
pub mod Hmac
pub mod Mac
pub mod PutMacs
