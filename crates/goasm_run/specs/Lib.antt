-- What words ask for, and what a shelf and a sink tell of a call.
pub mod Changes
pub mod Endings
pub mod Targets
pub mod Questions
pub mod Plan
pub mod Limits
pub mod Lines
-- The plan of each command.
pub mod Lookup
pub mod Bytes
pub mod Parts
pub mod Sources
pub mod Lists
pub mod Builds
pub mod Expand
pub mod Listing
pub mod Images
pub mod Unwind
pub mod Commands
pub mod Chains
-- What a status says.
pub mod Statuses
-- What only proofs need: the clauses of functions that `goasm_main` calls.
pub mod Stops
pub mod PartsRead
pub mod SourcesLexed
pub mod BuildsMade
pub mod UnitsSaid
pub mod ImagesJudged
pub mod ChainsJudged
pub mod TokensWritten
