pub mod ElementProofs
pub mod StoreProofs
pub mod AlikeProofs
pub mod StoredProofs
