mod Openings
mod Committing
mod RowOfOne
mod Lists
mod RoundClaims
mod Refusals
mod Evaluations
mod ClaimSteps
