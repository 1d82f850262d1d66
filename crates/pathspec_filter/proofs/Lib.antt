pub mod ChunkProofs
pub mod PlaceProofs
pub mod PassProofs
pub mod EndProofs
