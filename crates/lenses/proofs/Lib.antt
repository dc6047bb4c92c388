pub mod Holding
pub mod Stores
pub mod Lookups
pub mod ChainWalks
