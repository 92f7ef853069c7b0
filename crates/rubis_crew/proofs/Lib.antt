pub mod Giving
pub mod Handing
pub mod Paying
pub mod ManySteps
