mod Cases
mod Moved
mod Forms
mod Frames
mod Commuting
mod Carried
mod CarriedSteps
mod Elsewhere
mod Alike
mod Outside
pub mod Isolated
mod IsolatedEffects
pub mod Isolating
mod Shared
mod Agreeing
mod AgreeingEffects
mod AgreeingTickets
mod AgreeingTicks
mod AgreeingSteps
mod AgreeingPorts
mod AgreeingSpace
mod AgreeingEvents
mod Exchanging
