pub mod Budgets
pub mod Written
pub mod Progress
pub mod Silent
