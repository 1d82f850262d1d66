pub mod BuildingProofs
pub mod RoomProofs
pub mod LineProofs
mod LineRows
pub mod MatchingProofs
pub mod BeginsProofs
pub mod PrefixProofs
pub mod ChosenProofs
pub mod HeadProofs
pub mod SelectedProofs
pub mod FoundProofs
pub mod SearchProofs
pub mod HeldProofs
pub mod PruningSafeProofs
pub mod NotChosenProofs
pub mod PruningNearProofs
pub mod SharpPruningProofs
pub mod SkipProofs
pub mod VisitProofs
pub mod SubtreeExcludeProofs
pub mod SkipTableProofs
pub mod SkipExactProofs
pub mod DirectoryProofs
mod Asking
mod MatchingRows
pub mod TextProofs
pub mod SpecListProofs
pub mod PruningCalls
pub mod SlashProofs
pub mod DirectoryCalls
mod SearchRows
mod PruningRows
mod SkipRows
mod DirectoryRows
mod DirectoryPremiseRows
pub mod EffortProofs
pub mod HeadSearchProofs
pub mod EndByteProofs
pub mod SetProofs
pub mod SetSourceProofs
pub mod PositionProofs
pub mod HeadSetProofs
pub mod HeadSumProofs
pub mod HeadCountsProofs
pub mod HeadGroupProofs
pub mod SourceSteps
pub mod HeadSetsProofs
pub mod BegunSetProofs
pub mod SetBuildingProofs
pub mod KeptSetsProofs
pub mod LargestGroupProofs
pub mod BeginProofs
pub mod CandidateProofs
pub mod SetCountsProofs
pub mod ExcludeSetProofs
pub mod ExcludeMemberProofs
pub mod ExcludeBesideProofs
pub mod ExcludeMadeProofs
mod SetRows
mod HeadSetRows
mod ExcludeSetRows
pub mod ReachProofs
