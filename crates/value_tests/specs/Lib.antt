pub mod Protocols
