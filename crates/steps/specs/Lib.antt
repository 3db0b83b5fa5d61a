-- What a walk answers, and its steps.
pub mod Steps
