mod ScriptShape
mod Fitting
mod Laid
mod Chains
mod Refusals
mod Decided
mod HandedOut
