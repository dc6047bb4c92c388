pub mod LinkStores
pub mod LinkLookups
pub mod Spreads
