-- What a sum by a row of weights needs.
pub mod Room
